use Rattle.std.proofs.Common.{◌^◌, ◌<◌, length, ap, subst, ◌∙◌, arith}
use Rattle.xd_least.specs.Least.{size_limit}
use Rattle.xd_command_steps.specs.Output.{Output}
use Rattle.xd_command_programs.proofs.SameFaults.{not_accepted}
use Rattle.xd_command_programs.proofs.SmallFaults.{written_lines}
use Rattle.xd_command_programs.proofs.Verdicts.{answers_refused}
use Rattle.xd_command_programs.proofs.command.check.refusal.Goals as goal

pub returns : goal.returns
returns c P is =
    let ds = c.args.store.now in
    let fs = c.args.faults.now in
    let ws = c.args.warnings.now in
    let t = c.in_ok-text.text.items in
    let fits : length t < 2 ^ 63 = subst (λ w. length w < 2 ^ 63) (c.text-text.ensures ∙ ap (λ (o : Output). o.text) c.refused-output.ensures) (omega (arith, c.text-text.type_inv)) in
    let lines = written_lines ds size_limit P is.lines fs ws t is.all is.faults c.in_ok-text.ensures fits in
    (not_accepted P is.lines lines is.some, answers_refused P ds is.lines lines ws is.warnings t _ fs is.some is.faults c.in_ok-text.ensures c.refused-output.ensures)
