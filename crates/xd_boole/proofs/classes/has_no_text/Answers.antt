use Rattle.std.proofs.Common.{false, sym, ◌∙◌}
use Rattle.xd_boole.proofs.ClassLemmas.{named_all, named_more, named_none}
use Rattle.xd_boole.proofs.classes.has_no_text.Goals as goal

pub loop-text-init : goal.loop-text-init
loop-text-init c = named_none c.args.words.now false c.args.texts.now

pub loop-text-preserved : goal.loop-text-preserved
loop-text-preserved c =
    named_more c.args.words.now false c.args.texts.now c.loop-text.text-index c.text-item.result c.loop-text-test.true c.text-item.is (sym c.has.ensures ∙ c.if-has.false) c.loop-text.invariant

pub returns : goal.returns
returns c = λ e. named_all c.args.words.now false c.args.texts.now c.loop-text.text-index c.loop-text-test.false c.loop-text.invariant
