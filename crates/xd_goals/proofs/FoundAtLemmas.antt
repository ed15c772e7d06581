-- The map from keys to goals.
use Rattle.std.proofs.Common.{ℕ, ◌≡◌, nat_eq, List, ap}
use Rattle.std.specs.Cmp.Lexicographic.{pointwise}
use Rattle.std.specs.HashMap.{HashMap, IsUnchanged}
use Rattle.std.specs.Map.{lookup}
use Rattle.xd_auto.specs.Keys.{found_at}

-- a map that has not changed
pub found_same : {S : Type 0} (m n : HashMap (List ℕ) ℕ S) → IsUnchanged m n → (q : List ℕ) → found_at n q ≡ found_at m q
found_same m n e q = ap (λ (es : List (List ℕ × ℕ)). lookup (pointwise nat_eq q) es) e
