use Rattle.std.proofs.Common.{◌≡◌, ℕ, List, drop}
use Rattle.std.specs.BTreeMap.{get}
use Rattle.std.specs.Ordering.{nat_cmp}
use Rattle.std.specs.Cmp.Lexicographic.{slice_cmp}
use Rattle.xd_names.specs.Knows.{arity_of}
use Rattle.xd_names.proofs.arities.arities.Given as goal

abbrev pub invariant-loop-number : goal.invariant-loop-number
invariant-loop-number l = (w : List ℕ) → get (slice_cmp nat_cmp) l.arities w ≡ arity_of (drop l.number l.functions) w
