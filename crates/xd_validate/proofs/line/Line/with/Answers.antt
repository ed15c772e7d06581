use Rattle.std.proofs.Common.{ap}
use Rattle.xd_command_steps.specs.Output.{Output}
use Rattle.xd_validate.proofs.Tellings.{more-text, more-there}
use Rattle.xd_validate.proofs.line.Line.with.Goals as goal

pub returns : goal.returns
returns c = (
  ap (λ (o : Output). o.status) c.self.view_is,
  more-there c.self.inside.text.items c.args.self.text _ (ap (λ (o : Output). o.text) c.self.view_is)
      (more-text c.self.inside.text.items _ _ _ _ _ _ _ _ c.in_ok-extend_from_slice.ensures.items c.in_ok-extend_from_slice-2.ensures.items c.in_ok-extend_from_slice-3.ensures.items c.in_ok-extend_from_slice-4.ensures.items),
)
