use Rattle.std.proofs.Common.{◌≡◌, false, ◌&&◌, ap, sym, ◌∙◌}
use Rattle.xd_doc.proofs.Bools.{and_false}
use Rattle.xd_auto.specs.Automaton.{moves_at}
use Rattle.xd_boole.proofs.DisjointLemmas.{disjoint_states, no_text_shared, none_shared}
use Rattle.xd_boole.proofs.disjoint.+disjoint.Goals as goal
use Rattle.xd_boole.proofs.disjoint.+disjoint.Goals.{are_disjoint_within-else-is_last-via-then-is_last+else-is_last-2, are_disjoint_within-else-is_last-via-else-is_last}

pub are_disjoint_within-returns : goal.are_disjoint_within-returns
are_disjoint_within-returns t c =
    let a = c.args.one.now in
    let b = c.args.two.now in
    let one = moves_at a c.args.left in
    let two = moves_at b c.args.right in
    let last : (one.last && two.last) ≡ false = elim c.else-is_last.branch [
      | are_disjoint_within-else-is_last-via-then-is_last+else-is_last-2 w ↦ ap (λ l. one.last && l) (sym w.is_last-then-is_last.ensures ∙ w.if-is_last-2.false) ∙ and_false one.last
      | are_disjoint_within-else-is_last-via-else-is_last w ↦ ap (λ l. l && two.last) (sym c.is_last.ensures ∙ w.if-is_last.false)
    ] in
    λ e.
    disjoint_states a b c.args.left c.args.right last
    (none_shared a b c.label_moves-labels.result.now c.label_moves-others.result.now one.labels two.labels c.loop-step.step-index c.loop-step-test.false c.label_moves-labels.ensures.value c.label_moves-others.ensures.value c.loop-step.invariant.disjoint)
    (no_text_shared a b c.text_moves-step-items.result.now c.text_moves-other_texts.result.now one.texts two.texts c.loop-step-2.step-index c.loop-step-2-test.false c.text_moves-step-items.ensures.value c.text_moves-other_texts.ensures.value c.loop-step-2.invariant.disjoint)
