-- Laws of the names that types use outside of labels.
use Rattle.std.proofs.Common.{◌≡◌, ℕ, zero, suc, ◌<◌, Bool, true, false, ◌&&◌, refl, sym, ap, ◌∙◌, subst, List, [], ◌∷◌, ◌++◌, length, get_or, set, arith}
use Rattle.xd_doc.proofs.Bools.{and_true, and_assoc}
use Rattle.xd_syntax.specs.Tree.{Tree, seq_of}
use Rattle.xd_syntax.specs.TreeForms.{alt_of}
use Rattle.xd_same_types.specs.Same.{tops_only, all_tops_only}

pub and_same : {a b c d : Bool} → a ≡ c → b ≡ d → (a && b) ≡ (c && d)
and_same {a} {b} {c} {d} e f = ap (λ x. x && b) e ∙ ap (λ y. c && y) f

pub and_itself : (a : Bool) → (a && a) ≡ a
and_itself true = refl
and_itself false = refl

pub and_swap : (a b : Bool) → (a && b) ≡ (b && a)
and_swap true b = sym (and_true b)
and_swap false true = refl
and_swap false false = refl

-- (a and b) and c, as (a and c) and b
pub and_swap_last : (a b c : Bool) → ((a && b) && c) ≡ ((a && c) && b)
and_swap_last a b c = and_assoc a b c ∙ ap (λ x. a && x) (and_swap b c) ∙ sym (and_assoc a c b)

pub both_true : {a b : Bool} → a ≡ true → b ≡ true → (a && b) ≡ true
both_true {a} {b} e f = ap (λ x. x && b) e ∙ f

pub tops_alt : (known : List (List ℕ)) (Ts : List Tree) → tops_only known (alt_of Ts) ≡ all_tops_only known Ts
tops_alt known [] = refl
tops_alt known (T ∷ []) = sym (and_true (tops_only known T))
tops_alt known (T ∷ (U ∷ Us)) = ap (λ x. tops_only known T && x) (tops_alt known (U ∷ Us))

pub tops_seq : (known : List (List ℕ)) (Ts : List Tree) → tops_only known (seq_of Ts) ≡ all_tops_only known Ts
tops_seq known [] = refl
tops_seq known (T ∷ []) = sym (and_true (tops_only known T))
tops_seq known (T ∷ (U ∷ Us)) = ap (λ x. tops_only known T && x) (tops_seq known (U ∷ Us))

pub tops_append : (known : List (List ℕ)) (Ts Us : List Tree) → all_tops_only known (Ts ++ Us) ≡ (all_tops_only known Ts && all_tops_only known Us)
tops_append known [] Us = refl
tops_append known (T ∷ Ts) Us =
    ap (λ x. tops_only known T && x) (tops_append known Ts Us) ∙ sym (and_assoc (tops_only known T) (all_tops_only known Ts) (all_tops_only known Us))

pub tops_push : (known : List (List ℕ)) (Ts : List Tree) (T : Tree) → all_tops_only known (Ts ++ T ∷ []) ≡ (all_tops_only known Ts && tops_only known T)
tops_push known Ts T = tops_append known Ts (T ∷ []) ∙ ap (λ x. all_tops_only known Ts && x) (and_true (tops_only known T))

pub tops_set : (known : List (List ℕ)) (Ts : List Tree) (k : ℕ) (o q T : Tree) → k < length Ts → o ≡ get_or Ts k o → tops_only known q ≡ (tops_only known o && tops_only known T) →
    all_tops_only known (set Ts k q) ≡ (all_tops_only known Ts && tops_only known T)
tops_set known [] k o q T l e h = absurd (omega arith)
tops_set known (U ∷ Us) zero o q T l e h =
    let g : tops_only known q ≡ (tops_only known U && tops_only known T) = subst (λ x. tops_only known q ≡ (tops_only known x && tops_only known T)) e h in
    ap (λ x. x && all_tops_only known Us) g ∙ and_swap_last (tops_only known U) (tops_only known T) (all_tops_only known Us)
tops_set known (U ∷ Us) (suc k) o q T l e h =
    let m : k < length Us = omega arith in
    ap (λ x. tops_only known U && x) (tops_set known Us k o q T m e h) ∙ sym (and_assoc (tops_only known U) (all_tops_only known Us) (tops_only known T))
