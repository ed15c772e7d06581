use Rattle.std.proofs.Common.{◌≡◌, nat_eq, false, take}
use Rattle.std.specs.List.{AllByRecursion}
use Rattle.xd_show_solve.specs.declared.sums.Term.{Term}
use Rattle.xd_show_solve.proofs.solve.uses.Given as goal

abbrev pub invariant-loop-term : goal.invariant-loop-term
invariant-loop-term l = record {
  items : l.term-items ≡ l.sum.terms.items;
  lacks : AllByRecursion (λ (t : Term). nat_eq t.to l.of ≡ false) (take l.term-index l.term-items);
}
