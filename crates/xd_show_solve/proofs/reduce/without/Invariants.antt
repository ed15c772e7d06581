use Rattle.std.proofs.Common.{◌≡◌, List, take}
use Rattle.xd_syntax.specs.Table.{Row}
use Rattle.xd_show_solve.specs.Equations.{IsShort, SumStands, products, side_in}
use Rattle.xd_show_solve.proofs.SideLaws.{a_side}
use Rattle.xd_show_solve.proofs.SumSteps.{constant_of}
use Rattle.xd_show_solve.proofs.reduce.without.Given as goal

abbrev pub invariant-loop-term : goal.invariant-loop-term
invariant-loop-term l = record {
  items : l.term-items ≡ l.sum.terms.items;
  short : (types : List Row) → SumStands types l.sum → IsShort (side_in types l.other) (a_side (products types (take l.term-index l.term-items)) (constant_of types l.sum.constant)) (side_in types l.made);
  stands : (types : List Row) → SumStands types l.sum → SumStands types l.made;
}
