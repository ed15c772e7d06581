use Rattle.std.proofs.Common.{inr, rules}
use Rattle.xd_command_steps.proofs.IsHeldLemmas.{long_told}
use Rattle.xd_command_steps.proofs.text.fetch.Goals as goal

pub returns-in_ok-too_long-in-Ok-clause-step : goal.returns-in_ok-too_long-in-Ok-clause-step
returns-in_ok-too_long-in-Ok-clause-step g c =
    let long = long_told (g.H.Shelf.holds c.args.shelf.now) c.args.name.now c.args.limit c.in-Ok.text.items c.in-Ok.ensures.front (search rules) in
    inr (long.0, long.1.0, long.1.1, c.in_ok-too_long-in-Ok.ensures)
