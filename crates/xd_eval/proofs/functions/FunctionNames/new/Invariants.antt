use Rattle.std.proofs.Common.{◌≡◌, ℕ, List, drop}
use Rattle.std.specs.Ordering.{nat_cmp}
use Rattle.std.specs.Cmp.Lexicographic.{slice_cmp}
use Rattle.std.specs.BTreeMap.{get}
use Rattle.xd_eval.specs.Functions.{numbered, row_of}
use Rattle.xd_eval.proofs.functions.FunctionNames.new.Given as goal

abbrev pub invariant-loop-number : goal.invariant-loop-number
invariant-loop-number l = (w : List ℕ) → numbered l.functions (get (slice_cmp nat_cmp) l.numbers w) ≡ row_of (drop l.number l.functions) w
