use Rattle.std.proofs.Common.{length}
use Rattle.std.proofs.lemmas.Option.{slice_get_within}
use Rattle.xd_doc.proofs.Lists.{all_push}
use Rattle.xd_goals.specs.Verdicts.{IsGoalBelow}
use Rattle.xd_goals.proofs.IsWokenRowLemmas.{next_smaller, next_below}
use Rattle.xd_goals.proofs.inclusion.list_woken.Goals as goal

pub loop-at-smaller : goal.loop-at-smaller
loop-at-smaller c = rw c.in-Some.is (next_smaller c.in-Some.number c.link_at-link.result.next (c.requires.whole.links.next c.in-Some.number c.link_at-link.result (rw c.deref.ensures.value at c.link_at-link.ensures)))

pub loop-at-preserved-in_ok-push : goal.loop-at-preserved-in_ok-push
loop-at-preserved-in_ok-push c =
    let found = rw c.deref.ensures.value at c.link_at-link.ensures in
    record {
      place = next_below (length c.args.goals.now.links.items) c.in-Some.number c.link_at-link.result.next
          (slice_get_within c.args.goals.now.links.items c.in-Some.number c.link_at-link.result found) (c.requires.whole.links.next c.in-Some.number c.link_at-link.result found);
      agenda = rw c.in_ok-push.ensures.items (all_push (IsGoalBelow (length c.args.goals.now.rows.items)) c.loop-at.agenda.items c.link_at-link.result.case.goal c.loop-at.invariant.agenda
          (c.requires.whole.links.goals c.in-Some.number c.link_at-link.result found));
    }

pub loop-at-preserved : goal.loop-at-preserved
loop-at-preserved c =
    let found = rw c.deref.ensures.value at c.link_at-link.ensures in
    record {
      place = next_below (length c.args.goals.now.links.items) c.in-Some.number c.link_at-link.result.next
          (slice_get_within c.args.goals.now.links.items c.in-Some.number c.link_at-link.result found) (c.requires.whole.links.next c.in-Some.number c.link_at-link.result found);
      agenda = c.loop-at.invariant.agenda;
    }
