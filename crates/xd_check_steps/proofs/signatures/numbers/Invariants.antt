use Rattle.std.proofs.Common.{◌≡◌, ℕ, List, drop}
use Rattle.std.specs.Ordering.{nat_cmp}
use Rattle.std.specs.Cmp.Lexicographic.{slice_cmp}
use Rattle.std.specs.BTreeMap.{get}
use Rattle.xd_check_steps.specs.Signed.{number_from}
use Rattle.xd_check_steps.proofs.signatures.numbers.Given as goal

abbrev pub invariant-loop-number : goal.invariant-loop-number
invariant-loop-number l = (w : List ℕ) → get (slice_cmp nat_cmp) l.numbers w ≡ number_from l.number (drop l.number l.functions) w
