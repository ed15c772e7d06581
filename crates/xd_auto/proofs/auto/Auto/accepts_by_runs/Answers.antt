use Rattle.xd_auto.proofs.RunLaw.{runs_are_accepting, runs_law}
use Rattle.xd_auto.proofs.auto.Auto.accepts_by_runs.Goals as goal

pub returns-clause-accepts : goal.returns-clause-accepts
returns-clause-accepts c = runs_law c.args.self.now c.args.state

pub returns-clause-runs : goal.returns-clause-runs
returns-clause-runs c = runs_are_accepting c.args.self.now c.args.state
