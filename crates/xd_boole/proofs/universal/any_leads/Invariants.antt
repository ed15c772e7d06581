use Rattle.std.proofs.Common.{◌≡◌, drop}
use Rattle.std.specs.List.{list_any}
use Rattle.xd_boole.proofs.universal.any_leads.Given as goal

abbrev pub invariant-loop-step : goal.invariant-loop-step
invariant-loop-step g l = list_any (g.M.Step.leads_on l.states) l.moves ≡ list_any (g.M.Step.leads_on l.states) (drop l.step-index l.moves)
