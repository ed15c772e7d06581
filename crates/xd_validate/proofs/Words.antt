-- The words of a call.
use Rattle.std.proofs.Common.{◌≡◌, ℕ, ◌-◌, ◌≤◌, List, [], ◌∷◌, length, take, drop, map, get_or, ap, subst, ◌∙◌, arith}
use Rattle.std.proofs.lemmas.List.{take_all}
use Rattle.xd_validate.specs.Outcome.{IsOutcome, IsOutcomeOn, Outside, asked}

-- two words, and the others
pub outcome-of : {X : Type 0} (f : X → List ℕ) (w : Outside) (p q : Type 0) (words : List X) (a b : X) (file name : List ℕ) (code : ℕ) → 2 ≤ length words → a ≡ get_or words 0 a → b ≡ get_or words 1 b → file ≡ f a → name ≡ f b →
    IsOutcomeOn w p q file name (asked (map f (take (length words - 2) (drop 2 words)))) code → IsOutcome w p q (map f words) code
outcome-of f w p q [] a b file name code le e g h k o = absurd (omega (arith, le))
outcome-of f w p q (x ∷ []) a b file name code le e g h k o = absurd (omega (arith, le))
outcome-of {X} f w p q (x ∷ y ∷ ws) a b file name code le e g h k o =
    let all : take (length (x ∷ y ∷ ws) - 2) ws ≡ ws = take_all (length (x ∷ y ∷ ws) - 2) ws (omega arith) in
    let first : file ≡ f x = h ∙ ap f e in
    let second : name ≡ f y = k ∙ ap f g in
    subst (λ (n : List ℕ). IsOutcomeOn w p q n (f y) (asked (map f ws)) code) first
    (subst (λ (n : List ℕ). IsOutcomeOn w p q file n (asked (map f ws)) code) second
    (subst (λ (ds : List X). IsOutcomeOn w p q file name (asked (map f ds)) code) all o))
