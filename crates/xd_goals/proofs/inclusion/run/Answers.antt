use Rattle.xd_rules.proofs.Results.{OnOk-from_err}
use Rattle.std.proofs.Common.{◌+◌, arith, length}
use Rattle.xd_goals.specs.Kept.{view_of}
use Rattle.xd_goals.specs.Measure.{possible}
use Rattle.xd_goals.proofs.PotentialLemmas.{lowers-then}
use Rattle.xd_goals.proofs.FactsOnLemmas.{bounded}
use Rattle.xd_goals.proofs.ProgressesLemmas.{progresses-then}
use Rattle.xd_goals.proofs.inclusion.run.Goals as goal

pub loop-goal-smaller : goal.loop-goal-smaller
loop-goal-smaller c =
    let now = progresses-then c.loop-goal.invariant.progresses c.step-in-Some.ensures.progresses in
    c.in_ok-step-2.ensures.settles.lowers (length c.args.goals.now.rows.items + length (possible (length c.args.auto.now)))
    (bounded c.args.auto.now (length c.args.goals.now.rows.items) (view_of c.step-in-Some.new.goals) now.stands.facts now.made now.kept.longer)

pub loop-goal-preserved : goal.loop-goal-preserved
loop-goal-preserved c = record {
  progresses = progresses-then c.loop-goal.invariant.progresses c.step-in-Some.ensures.progresses;
  settles = record {
    lowers = lowers-then c.args.goals.now.rows.items c.loop-goal.goals.rows.items c.step-in-Some.new.goals.rows.items c.step-in-Some.ensures.progresses.kept.longer c.loop-goal.invariant.settles.lowers c.in_ok-step-2.ensures.settles.lowers;
    right = c.in_ok-step-2.ensures.settles.right;
  };
  agenda = c.in_ok-step-2.ensures.agenda;
}

pub returns-in_err-step-2-clause-progresses : goal.returns-in_err-step-2-clause-progresses
returns-in_err-step-2-clause-progresses c = progresses-then c.loop-goal.invariant.progresses c.step-in-Some.ensures.progresses

pub standing-requires : goal.standing-requires
standing-requires c = omega (arith, c.loop-goal.invariant.progresses.kept.longer, c.requires.asked)

pub loop-goal-init : goal.loop-goal-init
loop-goal-init c = record { progresses = c.step.ensures.progresses; settles = c.in_ok-step.ensures.settles; agenda = c.in_ok-step.ensures.agenda }

pub step-requires-in-Some : goal.step-requires-in-Some
step-requires-in-Some c = record {
  can = record { whole = c.loop-goal.invariant.progresses.whole; stands = c.loop-goal.invariant.progresses.stands; right = c.loop-goal.invariant.settles.right };
  goal = c.in-Some.ensures.waits;
  agenda = c.next_waiting.ensures.agenda;
}

pub step-requires-clause-can : goal.step-requires-clause-can
step-requires-clause-can c = c.requires.can

pub step-requires-clause-goal : goal.step-requires-clause-goal
step-requires-clause-goal c = c.requires.goal

pub step-requires-clause-agenda : goal.step-requires-clause-agenda
step-requires-clause-agenda c = c.requires.agenda

pub returns-in-Refuted-clause-progresses : goal.returns-in-Refuted-clause-progresses
returns-in-Refuted-clause-progresses c = c.loop-goal.invariant.progresses

pub returns-in-Refuted-clause-settles : goal.returns-in-Refuted-clause-settles
returns-in-Refuted-clause-settles c = c.loop-goal.invariant.settles

pub returns-clause-progresses : goal.returns-clause-progresses
returns-clause-progresses c = c.loop-goal.invariant.progresses

pub returns-clause-settles : goal.returns-clause-settles
returns-clause-settles c = c.loop-goal.invariant.settles

pub returns-in_err-step-clause-progresses : goal.returns-in_err-step-clause-progresses
returns-in_err-step-clause-progresses c = c.step.ensures.progresses

pub returns-in_err-step-clause-settles : goal.returns-in_err-step-clause-settles
returns-in_err-step-clause-settles c = OnOk-from_err c.from_residual.result _ c.from_residual.ensures.0

pub next_waiting-requires : goal.next_waiting-requires
next_waiting-requires c = c.loop-goal.invariant.agenda
