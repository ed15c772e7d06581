use Rattle.std.proofs.Common.{sym, subst}
use Rattle.xd_eval.specs.Machine.{IsStep}
use Rattle.xd_eval.specs.Values.{world}
use Rattle.xd_eval.specs.declared.frame.Control.{Control}
use Rattle.xd_eval.proofs.machine.advance.Goals as goal

pub returns-in_ok-step-in-Evaluate-clause-step : goal.returns-in_ok-step-in-Evaluate-clause-step
returns-in_ok-step-in-Evaluate-clause-step g c =
    subst (λ (x : Control). IsStep c.args.program.sound.now (world c.args.store.now c.args.machine.now.joins.items) c.args.machine.now.frames.items x c.args.machine.now.left (world c.enter.new.store c.enter.new.machine.joins.items) c.enter.new.machine.frames.items c.enter.new.machine.left c.in_ok-step-in-Evaluate.step)
    (sym c.in-Evaluate.is) c.in_ok-step-in-Evaluate.ensures.step
