use Rattle.std.proofs.Common.{◌≡◌, ◌≢◌, ◌<◌, ◌≤◌, ◌∙◌, ⊎_elim, Bool, true, List, ap, sym, subst, arith}
use Rattle.std.proofs.lemmas.Bool.{cases_eq}
use Rattle.xd_auto.specs.declared.auto.State.{State}
use Rattle.xd_auto.proofs.Closed.{same_state}
use Rattle.xd_bind.specs.Marks.{unmarked}
use Rattle.xd_empty.specs.Parts.{is_marked}
use Rattle.xd_given.specs.Free.{AreSound, GoesNowhere}
use Rattle.xd_given.proofs.FreeLaw.{true_false}
use Rattle.xd_given.proofs.FreeLemmas.{sound_more}
use Rattle.xd_given.proofs.free.mark_all.Goals as goal
use Rattle.xd_given.proofs.free.mark_all.Goals.{then-mark_state, else-mark_state}

pub loop-done-preserved : goal.loop-done-preserved
loop-done-preserved g c =
    let a = c.args.auto.now in
    let b = g.H.Holds.owned c.args.owner.now c.args.variable in
    let first = c.args.marks.now.items in
    let old = c.loop-done.marks.items in
    let new = c.mark_state.new.marks.items in
    let state = c.state-state.result in
    let inv = c.loop-done.invariant in
    let told = c.mark_state.ensures in
    let kept : (s : State) → is_marked first s ≡ true → is_marked new s ≡ true = λ s e. told.kept s (inv.kept s e) in
    let sound : (stops : State → Bool) → AreSound a b stops (is_marked first) → AreSound a b stops (is_marked new) = λ stops h. sound_more a b stops (is_marked old) (is_marked new) told.sound (inv.sound stops h) in
    elim c.if-mark_state.branch [
      | then-mark_state w ↦ record {
        sized = told.sized;
        kept = kept;
        sound = sound;
        settled = λ e. true_false c.if-mark_state.changed w.changed-is e;
        counted = let less = told.counted w.if-mark_state.true in omega (arith, less, inv.counted);
        fewer = λ e. let less = told.counted w.if-mark_state.true in omega (arith, less, inv.counted);
      }
      | else-mark_state w ↦
          let same : new ≡ old = told.same w.if-mark_state.false in
          record {
            sized = told.sized;
            kept = kept;
            sound = sound;
            settled = λ e s le not_yet lt. ⊎_elim
                (λ (at : s.number ≡ state.number).
                let here = same_state s state at in
                subst (λ (q : State). GoesNowhere a b (is_marked new) q) (sym here) (told.settled w.if-mark_state.false (ap (is_marked new) (sym here) ∙ not_yet)))
                (λ (ne : s.number ≢ state.number).
                subst (λ (ms : List Bool). GoesNowhere a b (is_marked ms) s) (sym same)
                (inv.settled (sym w.changed-is ∙ e) s (omega (arith, le, ne, c.state-state.ensures.number, c.len-count.ensures.value, c.loop-done-test.true)) (ap (λ (ms : List Bool). is_marked ms s) (sym same) ∙ not_yet) lt))
                (cases_eq s.number state.number);
            counted = subst (λ (ms : List Bool). unmarked ms ≤ unmarked first) (sym same) inv.counted;
            fewer = λ e. subst (λ (ms : List Bool). unmarked ms < unmarked first) (sym same) (inv.fewer (sym w.changed-is ∙ e));
          }
    ]

pub returns-clause-settled : goal.returns-clause-settled
returns-clause-settled g c e s here not_yet = c.loop-done.invariant.settled e s (omega (arith, here, c.loop-done-test.false, c.len-count.ensures.value)) not_yet here
