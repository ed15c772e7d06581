use Rattle.xd_auto.specs.Automaton.{state_number}
use Rattle.xd_apart.proofs.StepLemmas.{point_is}
use Rattle.xd_apart.proofs.over_approximation.OverApproximation.point.Goals as goal

pub returns : goal.returns
returns c = point_is c.args.self.now.points.items (state_number c.args.state) c.number-number.result c.index.result.now c.number-number.ensures c.requires c.index.ensures
