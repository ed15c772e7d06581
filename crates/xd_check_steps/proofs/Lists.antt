-- Lists of which each item meets a fact.
use Rattle.std.proofs.Common.{ℕ, suc, zero, ◌<◌, arith, List, [], ◌∷◌, length, get_or, drop, map}
use Rattle.std.specs.List.{AllByRecursion}
use Rattle.xd_meaning.specs.KeptFaults.{AllPaired}

pub all_drop : {A : Type 0} (P : A → Type 0) (xs : List A) (n : ℕ) → AllByRecursion P xs → AllByRecursion P (drop n xs)
all_drop P xs zero h = h
all_drop P [] (suc n) h = h
all_drop P (x ∷ xs) (suc n) h = all_drop P xs n h.1

pub all_map : {A B : Type 0} (P : B → Type 0) (f : A → B) (xs : List A) → AllByRecursion (λ x. P (f x)) xs → AllByRecursion P (map f xs)
all_map P f [] h = tt
all_map P f (x ∷ xs) h = (h.0, all_map P f xs h.1)

pub paired_at : {A B : Type 0} (R : A → B → Type 0) (xs : List A) (ys : List B) (n : ℕ) (d : A) (e : B) → AllPaired R xs ys → n < length xs → R (get_or xs n d) (get_or ys n e)
paired_at R [] ys n d e h l = absurd (omega arith)
paired_at R (x ∷ xs) [] n d e h l = absurd h
paired_at R (x ∷ xs) (y ∷ ys) zero d e h l = h.0
paired_at R (x ∷ xs) (y ∷ ys) (suc n) d e h l = paired_at R xs ys n d e h.1 (omega arith)
