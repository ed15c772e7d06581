use Rattle.std.proofs.Common.{◌≡◌, ◌≢◌, ◌<◌, ◌≤◌, ◌∙◌, ⊎_elim, Bool, List, ap, sym, subst, arith}
use Rattle.std.proofs.lemmas.Bool.{cases_eq}
use Rattle.xd_auto.specs.declared.auto.State.{State}
use Rattle.xd_auto.proofs.Closed.{same_state}
use Rattle.xd_empty.specs.Parts.{is_marked}
use Rattle.xd_given.specs.Alike.{IsAlikeFor, marked_count}
use Rattle.xd_given.proofs.FreeLaw.{true_false}
use Rattle.xd_given.proofs.alike.unmark.Goals as goal
use Rattle.xd_given.proofs.alike.unmark.Goals.{then-unmark_state, else-unmark_state}

pub loop-done-preserved : goal.loop-done-preserved
loop-done-preserved g c =
    let a = c.args.auto.now in
    let owned = g.H.Holds.owned c.args.owner.now in
    let count = c.args.count in
    let state = c.state-state.result in
    let inv = c.loop-done.invariant in
    let told = c.unmark_state.ensures in
    let new = c.unmark_state.new.marks.items in
    elim c.if-unmark_state.branch [
      | then-unmark_state w ↦ record {
        sized = told.sized;
        kept = λ family is within. told.kept family is (inv.kept family is within);
        alike = λ e. true_false c.if-unmark_state.changed w.changed-is e;
        counted = let less = told.counted w.if-unmark_state.true in omega (arith, less, inv.counted);
        fewer = λ e. let less = told.counted w.if-unmark_state.true in omega (arith, less, inv.counted);
      }
      | else-unmark_state w ↦
          let same : new ≡ c.loop-done.marks.items = told.same w.if-unmark_state.false in
          record {
            sized = told.sized;
            kept = λ family is within. told.kept family is (inv.kept family is within);
            alike = λ e s le h. ⊎_elim
                (λ (at : s.number ≡ state.number).
                let here = same_state s state at in
                subst (λ (q : State). IsAlikeFor a owned count (is_marked new) q) (sym here) (told.alike w.if-unmark_state.false (ap (is_marked new) (sym here) ∙ h)))
                (λ (ne : s.number ≢ state.number).
                subst (λ (ms : List Bool). IsAlikeFor a owned count (is_marked ms) s) (sym same) (inv.alike (sym w.changed-is ∙ e) s (omega (arith, le, ne, c.state-state.ensures.number, c.len-states.ensures.value, c.loop-done-test.true)) (ap (λ (ms : List Bool). is_marked ms s) (sym same) ∙ h)))
                (cases_eq s.number state.number);
            counted = subst (λ (ms : List Bool). marked_count ms ≤ marked_count c.args.marks.now.items) (sym same) inv.counted;
            fewer = λ e. subst (λ (ms : List Bool). marked_count ms < marked_count c.args.marks.now.items) (sym same) (inv.fewer (sym w.changed-is ∙ e));
          }
    ]

pub returns-clause-alike : goal.returns-clause-alike
returns-clause-alike g c e s h = c.loop-done.invariant.alike e s (omega (arith, c.loop-done-test.false, c.len-states.ensures.value)) h
