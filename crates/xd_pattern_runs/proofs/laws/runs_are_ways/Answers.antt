use Rattle.xd_pattern_runs.proofs.TheLaws.{runs_are_ways, ways_are_runs, runs_decide}
use Rattle.xd_pattern_runs.proofs.laws.runs_are_ways.Goals as goal

pub returns : goal.returns
returns c = record { runs = runs_are_ways; ways = ways_are_runs; fits = runs_decide }
