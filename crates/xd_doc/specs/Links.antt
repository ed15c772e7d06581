-- A document of a store as one number.
use Rattle.std.specs.Prelude.{◌≡◌, ℕ, zero, suc, Option, None, Some}
use Rattle.std.proofs.Common.{refl}
use Rattle.xd_doc.specs.declared.store.Seq.{Seq}

-- 0 for the empty one, else one more than the number of its node
abbrev pub numbered : ℕ → Seq
numbered zero = record { node = None }
numbered (suc n) = record { node = Some n }

abbrev pub number_for : Option ℕ → ℕ
number_for None = zero
number_for (Some n) = suc n

pub number_for-numbered : (n : ℕ) → number_for (numbered n).node ≡ n
number_for-numbered zero = refl
number_for-numbered (suc n) = refl
