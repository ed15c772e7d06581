-- On what is appended.
use Rattle.std.proofs.Common.{◌≡◌, ℕ, Result, Ok, Err, List, [], ◌++◌, ap, ◌∙◌, append_assoc}
use Rattle.std.specs.Result.{OnOk}
use Rattle.std.proofs.lemmas.List.{append-nil}

-- a text that is appended on `Ok`, written otherwise
pub appended_same : {T E : Type 0} (r : Result T E) (old new text text' : List ℕ) → text ≡ text' → OnOk r (new ≡ old ++ text) → OnOk r (new ≡ old ++ text')
appended_same (Ok x) old new text text' e p = p ∙ ap (λ xs. old ++ xs) e
appended_same (Err x) old new text text' e p = p

-- six pieces, grouped to the right and to the left; two are given by equal ones
pub six_pieces : (a b c d e f digits digits' : List ℕ) → digits ≡ d → digits' ≡ f → a ++ (b ++ (c ++ (digits ++ (e ++ (digits' ++ []))))) ≡ a ++ b ++ c ++ d ++ e ++ f
six_pieces a b c d e f digits digits' p q = rw (p, q) (simp (append_assoc, append-nil))
