use Rattle.xd_goals.proofs.FactsOnLemmas.{all_before}
use Rattle.xd_goals.specs.Verdicts.{IsGoalBelow}
use Rattle.std.proofs.Common.{length, sym, ◌∙◌}
use Rattle.xd_goals.proofs.inclusion.next_waiting.Goals as goal

pub standing-requires : goal.standing-requires
standing-requires c = (all_before (IsGoalBelow (length c.args.goals.now.rows.items)) c.pop.new.self.items c.loop-goal.agenda.items c.in-Some.goal c.in-Some.ensures.items c.loop-goal.invariant).1

pub returns-in-Waiting-clause-waits : goal.returns-in-Waiting-clause-waits
returns-in-Waiting-clause-waits c = record { there = (all_before (IsGoalBelow (length c.args.goals.now.rows.items)) c.pop.new.self.items c.loop-goal.agenda.items c.in-Some.goal c.in-Some.ensures.items c.loop-goal.invariant).1; waits = sym c.standing.ensures ∙ c.in-Waiting.is }

pub returns-in-Waiting-clause-agenda : goal.returns-in-Waiting-clause-agenda
returns-in-Waiting-clause-agenda c = (all_before (IsGoalBelow (length c.args.goals.now.rows.items)) c.pop.new.self.items c.loop-goal.agenda.items c.in-Some.goal c.in-Some.ensures.items c.loop-goal.invariant).0

pub loop-goal-preserved : goal.loop-goal-preserved
loop-goal-preserved c = (all_before (IsGoalBelow (length c.args.goals.now.rows.items)) c.pop.new.self.items c.loop-goal.agenda.items c.in-Some.goal c.in-Some.ensures.items c.loop-goal.invariant).0
