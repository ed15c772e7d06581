use Rattle.std.proofs.Common.{subst}
use Rattle.xd_syntax.specs.CheckFaults.{AreLines}
use Rattle.xd_command_sample.specs.Telephones.{telephone_program}
use Rattle.xd_command_sample.proofs.nothing_is_reported.Goals as goal

pub returns : goal.returns
returns c =
    let h = c.samples_have_lines.ensures.whole in
    record { none = subst (AreLines telephone_program) (h.only h.lines h.are_lines) h.are_lines; only = h.only }
