-- A word in front of a space.
use Rattle.std.proofs.Common.{◌≡◌, ◌≢◌, ℕ, List, ◌∷◌, ◌++◌, Bor, drop, ap, sym, subst, ◌∙◌, Option, Some, None}
use Rattle.std.specs.Prelude.{MatchOption}
use Rattle.std.proofs.lemmas.List.{append_cancel_left}
use Rattle.xd_proof.specs.Lines.{space, IsFreeOf, SpellsNumber}
use Rattle.xd_proof.specs.Parts.{Follows}
use Rattle.xd_proof.proofs.LineLemmas.{same_front, no_mark}

pub no_word : (line word : List ℕ) → IsFreeOf space line → (rest : List ℕ) → line ≡ word ++ space ∷ rest → ⊥
no_word line word f rest e = no_mark space word rest line f (sym e)

pub word_behind : (o : Option (Bor (List ℕ))) (line first word others : List ℕ) → line ≡ first ++ space ∷ others → IsFreeOf space first → IsFreeOf space word →
    MatchOption o (first ≢ word) (λ r. (first ≡ word) × (r.now ≡ others)) → MatchOption o ((rest : List ℕ) → line ≡ word ++ space ∷ rest → ⊥) (λ r. line ≡ word ++ space ∷ r.now)
word_behind None line first word others e f g h = λ rest k. h (same_front space first word others rest f g (sym e ∙ k)).0
word_behind (Some r) line first word others e f g h = e ∙ ap (λ x. x ++ space ∷ others) h.0 ∙ ap (λ x. word ++ space ∷ x) (sym h.1)

pub no_number : (line word : List ℕ) → ((rest : List ℕ) → line ≡ word ++ space ∷ rest → ⊥) → (n : ℕ) → Follows word SpellsNumber line n → ⊥
no_number line word never n f = never f.behind f.whole

pub number_behind : (o : Option ℕ) (line word behind : List ℕ) → line ≡ word ++ space ∷ behind → MatchOption o ((n : ℕ) → SpellsNumber behind n → ⊥) (λ n. SpellsNumber behind n) →
    MatchOption o ((n : ℕ) → Follows word SpellsNumber line n → ⊥) (λ n. Follows word SpellsNumber line n)
number_behind None line word behind e h = λ n f.
    let k : f.behind ≡ behind = ap (λ l. drop 1 l) (append_cancel_left word (space ∷ f.behind) (space ∷ behind) (sym f.whole ∙ e)) in
    h n (subst (λ b. SpellsNumber b n) k f.reads)
number_behind (Some n) line word behind e h = record { behind = behind; whole = e; reads = h }
