use Rattle.std.proofs.lemmas.Result.{IfOk-from_err}
use Rattle.std.proofs.Common.{◌+◌, ◌∙◌, arith, length, sym, rules}
use Rattle.xd_doc.proofs.Lists.{none_of}
use Rattle.xd_goals.specs.Kept.{view_of}
use Rattle.xd_state_heads.specs.Moves.{claim_with}
use Rattle.xd_goals.specs.Measure.{possible}
use Rattle.xd_goals.specs.Reached.{IsWaitingIn}
use Rattle.xd_goals.proofs.PotentialLemmas.{potential-marked}
use Rattle.xd_goals.proofs.Trees.{read_open}
use Rattle.xd_goals.proofs.FactsOnLemmas.{after_marks, all_before, asked_included, asked_separated, bounded, claim_stays, trees_there, waiting_below}
use Rattle.xd_goals.proofs.ProgressesLemmas.{progresses-same, progresses-then}
use Rattle.xd_goals.proofs.inclusion.settle.Goals as goal

pub loop-document-init : goal.loop-document-init
loop-document-init c = record { progresses = progresses-same c.requires.can.whole c.requires.can.stands; right = c.requires.can.right }

pub standing-requires : goal.standing-requires
standing-requires c = omega (arith, c.loop-document.invariant.progresses.kept.longer, c.requires.asked)

pub returns-in-Refuted : goal.returns-in-Refuted
returns-in-Refuted c = record {
  verdict = λ left rights claim.
      asked_separated c.args.auto.now c.loop-document.store (view_of c.loop-document.goals) c.args.asked.number (claim_with left rights) c.in-Refuted.document c.loop-document.invariant.progresses.stands
      (claim_stays (view_of c.args.goals.now) (view_of c.loop-document.goals) c.loop-document.invariant.progresses.kept c.args.asked.number (claim_with left rights) claim) (sym c.standing.ensures ∙ c.in-Refuted.is);
  progresses = c.loop-document.invariant.progresses;
}

pub unsettled-requires : goal.unsettled-requires
unsettled-requires c =
    let facts = c.loop-document.invariant.progresses.stands.facts in
    record {
      start = omega (arith, c.loop-document.invariant.progresses.kept.longer, c.requires.asked);
      open_start = read_open c.loop-document.goals.rows.items c.args.asked.number c.standing.result c.standing.ensures c.in_default.not-Refuted;
      trees = trees_there c.args.auto.now (view_of c.loop-document.goals) facts;
      opens = λ i e. (facts.holds i e).opens;
      settled = facts.settled;
    }

pub returns-in_err-agenda : goal.returns-in_err-agenda
returns-in_err-agenda c = record {
  verdict = λ left rights claim. IfOk-from_err c.from_residual.result _ c.from_residual.ensures.0;
  progresses = after_marks c.args.auto.now c.args.store.now c.loop-document.store c.args.goals.now c.loop-document.goals c.unsettled.new.goals c.loop-document.invariant.progresses c.unsettled.ensures.marking c.unsettled.ensures.settled;
}

pub returns-in-None : goal.returns-in-None
returns-in-None c =
    let now = after_marks c.args.auto.now c.args.store.now c.loop-document.store c.args.goals.now c.loop-document.goals c.unsettled.new.goals c.loop-document.invariant.progresses c.unsettled.ensures.marking c.unsettled.ensures.settled in
    record {
      verdict = λ left rights claim.
          asked_included c.args.auto.now (view_of c.unsettled.new.goals) c.args.asked.number left rights now.stands.facts
          (claim_stays (view_of c.args.goals.now) (view_of c.unsettled.new.goals) now.kept c.args.asked.number (claim_with left rights) claim)
          (c.in_ok-agenda.ensures.none (none_of c.in_ok-agenda.agenda.items (search rules)));
      progresses = now;
    }

pub run-requires : goal.run-requires
run-requires c =
    let now = after_marks c.args.auto.now c.args.store.now c.loop-document.store c.args.goals.now c.loop-document.goals c.unsettled.new.goals c.loop-document.invariant.progresses c.unsettled.ensures.marking c.unsettled.ensures.settled in
    let parts = all_before (IsWaitingIn c.unsettled.new.goals.rows.items) c.pop.new.self.items c.in_ok-agenda.agenda.items c.in-Some.goal c.in-Some.ensures.items c.in_ok-agenda.ensures.waiting in
    record {
      can = record { whole = now.whole; stands = now.stands; right = c.loop-document.invariant.right };
      asked = omega (arith, now.kept.longer, c.requires.asked);
      goal = parts.1;
      agenda = waiting_below c.unsettled.new.goals.rows.items c.pop.new.self.items parts.0;
    }

pub loop-document-smaller : goal.loop-document-smaller
loop-document-smaller c =
    let marked = after_marks c.args.auto.now c.args.store.now c.loop-document.store c.args.goals.now c.loop-document.goals c.unsettled.new.goals c.loop-document.invariant.progresses c.unsettled.ensures.marking c.unsettled.ensures.settled in
    let now = progresses-then marked c.run.ensures.progresses in
    let most = length c.args.goals.now.rows.items + length (possible (length c.args.auto.now)) in
    let level = potential-marked c.loop-document.goals.rows.items c.unsettled.new.goals.rows.items c.unsettled.ensures.marking.rows most in
    let falls = c.in_ok-run-in-Some.ensures.settles.lowers most (bounded c.args.auto.now (length c.args.goals.now.rows.items) (view_of c.run.new.goals) now.stands.facts now.made now.kept.longer) in
    omega (arith, level, falls)

pub loop-document-preserved : goal.loop-document-preserved
loop-document-preserved c = record {
  progresses = progresses-then (after_marks c.args.auto.now c.args.store.now c.loop-document.store c.args.goals.now c.loop-document.goals c.unsettled.new.goals c.loop-document.invariant.progresses c.unsettled.ensures.marking c.unsettled.ensures.settled) c.run.ensures.progresses;
  right = c.in_ok-run-in-Some.ensures.settles.right;
}

pub returns-in_err-run-in-Some : goal.returns-in_err-run-in-Some
returns-in_err-run-in-Some c = record {
  verdict = λ left rights claim. IfOk-from_err c.from_residual-in_err-run-in-Some.result _ c.from_residual-in_err-run-in-Some.ensures.0;
  progresses = progresses-then (after_marks c.args.auto.now c.args.store.now c.loop-document.store c.args.goals.now c.loop-document.goals c.unsettled.new.goals c.loop-document.invariant.progresses c.unsettled.ensures.marking c.unsettled.ensures.settled) c.run.ensures.progresses;
}
