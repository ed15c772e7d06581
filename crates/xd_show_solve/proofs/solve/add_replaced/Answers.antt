use Rattle.xd_same_types.proofs.Ids.{differs, on_map}
use Rattle.xd_show_solve.proofs.SolveLaws.{adds_own, adds_other}
use Rattle.xd_show_solve.proofs.solve.add_replaced.Goals as goal

pub returns-then-term-of-clause-adds : goal.returns-then-term-of-clause-adds
returns-then-term-of-clause-adds c = on_map c.add_multiple.result _ _ (λ a. adds_own _ _ _ _ _ c.if-term-of.true a) c.add_multiple.ensures.adds

pub returns-else-term-of-clause-adds : goal.returns-else-term-of-clause-adds
returns-else-term-of-clause-adds c = on_map c.add_term.result _ _ (λ a. adds_other _ _ _ _ _ (differs _ _ c.if-term-of.false) a) c.add_term.ensures.adds
