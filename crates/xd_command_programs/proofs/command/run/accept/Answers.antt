use Rattle.std.proofs.Common.{subst, ◌∙◌}
use Rattle.xd_syntax.specs.CheckFaults.{IsAccepted}
use Rattle.xd_command_programs.proofs.command.run.accept.Goals as goal

pub returns : goal.returns
returns c =
    let same = c.in_ok-checked.ensures ∙ c.in_ok-test.ensures.same in
    (same, subst IsAccepted same c.sound-sound.ensures.accepted, c.in_ok-test.ensures.test)
