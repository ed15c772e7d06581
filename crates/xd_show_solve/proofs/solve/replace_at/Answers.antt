use Rattle.xd_show_solve.proofs.SystemLaws.{replaces_set, replaces_none, all_stand_set}
use Rattle.xd_show_solve.proofs.solve.replace_at.Goals as goal

pub returns-in_ok-made-clause-replaces : goal.returns-in_ok-made-clause-replaces
returns-in_ok-made-clause-replaces c = replaces_set _ _ c.replaced.ensures.keeps c.args.gone c.args.own.now c.requires.own c.args.sums.now.items c.args.number _ c.in_ok-made.made c.requires.number c.index-then-uses.ensures c.in_ok-made.ensures.replaced

pub returns-in_ok-made-clause-stand : goal.returns-in_ok-made-clause-stand
returns-in_ok-made-clause-stand c = all_stand_set _ _ c.replaced.ensures.keeps c.args.sums.now.items c.args.number c.in_ok-made.made c.requires.sums c.in_ok-made.ensures.stands

pub returns-else-uses-clause-replaces : goal.returns-else-uses-clause-replaces
returns-else-uses-clause-replaces c = replaces_none _ c.args.gone c.args.own.now c.args.sums.now.items c.args.number _ c.requires.number c.index.ensures (c.uses.ensures c.if-uses.false)
