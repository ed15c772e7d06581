use Rattle.std.proofs.Common.{true, sym, ◌∙◌}
use Rattle.xd_boole.proofs.ClassLemmas.{named_all, named_more, named_none}
use Rattle.xd_boole.proofs.classes.has_each.Goals as goal

pub loop-name-init : goal.loop-name-init
loop-name-init c = named_none c.args.class.now true c.args.names.now

pub loop-name-preserved : goal.loop-name-preserved
loop-name-preserved c =
    named_more c.args.class.now true c.args.names.now c.loop-name.name-index c.name-item.result c.loop-name-test.true c.name-item.is (sym c.has.ensures ∙ c.if-not-has.false) c.loop-name.invariant

pub returns : goal.returns
returns c = λ e. named_all c.args.class.now true c.args.names.now c.loop-name.name-index c.loop-name-test.false c.loop-name.invariant
