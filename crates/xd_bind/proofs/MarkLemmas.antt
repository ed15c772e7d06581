-- On states that are marked.
use Rattle.std.proofs.Common.{◌≡◌, ℕ, zero, suc, ◌+◌, ◌<◌, Bool, true, false, List, [], ◌∷◌, length, get_or, set, arith}
use Rattle.xd_bind.specs.Marks.{unmarked}

pub unmarked-set : (ms : List Bool) (n : ℕ) → n < length ms → get_or ms n false ≡ false → unmarked (set ms n true) + 1 ≡ unmarked ms
unmarked-set [] n l e = absurd (omega arith)
unmarked-set (true ∷ ms) zero l e = absurd (cc)
unmarked-set (false ∷ ms) zero l e = omega arith
unmarked-set (m ∷ ms) (suc n) l e = let h = unmarked-set ms n (omega arith) e in omega arith
