use Rattle.std.proofs.Common.{arith}
use Rattle.xd_boole.proofs.RefusalLemmas.{narrowed_all, narrowed_more, narrowed_none}
use Rattle.xd_boole.proofs.refusals.narrow.Goals as goal

pub loop-step-init : goal.loop-step-init
loop-step-init c = narrowed_none c.args.universal.now c.args.class.now c.args.moves.now (record { choices = c.args.choices; moves = c.new.result }) c.new.ensures.items

pub loop-step-preserved : goal.loop-step-preserved
loop-step-preserved c =
    narrowed_more c.args.universal.now c.args.class.now c.args.choices.items c.args.moves.now c.loop-step.step-index c.step-item.result c.loop-step.narrowed c.in_ok-narrowed.narrowed c.loop-step-test.true c.step-item.is
    c.in_ok-narrowed.ensures c.loop-step.invariant

pub returns : goal.returns
returns c =
    narrowed_all c.args.universal.now c.args.class.now c.args.choices.items c.args.moves.now c.loop-step.step-index c.loop-step.narrowed c.loop-step-test.false (omega arith) c.loop-step.invariant
