-- How states that can be completed without a variable are marked.
use Rattle.std.proofs.Common.{◌≡◌, ◌≢◌, ◌∙◌, ⊎_elim, inl, inr, ℕ, ◌+◌, ◌-◌, ◌<◌, Bool, true, false, not, ◌&&◌, List, [], ◌∷◌, ◌++◌, length, get_or, set, get_or-set_same, get_or-set_other, refl, sym, ap, subst, arith}
use Rattle.std.proofs.lemmas.Bool.{cases_eq, not-true}
use Rattle.std.proofs.lemmas.List.{get_or_append_left, get_or-append_right}
use Rattle.xd_doc.proofs.Bools.{and_left, and_right}
use Rattle.xd_auto.specs.declared.auto.State.{State}
use Rattle.xd_auto.specs.declared.auto.LabelMove.{LabelMove}
use Rattle.xd_auto.specs.declared.auto.TextMove.{TextMove}
use Rattle.xd_auto.specs.Automaton.{Automaton, IsState}
use Rattle.xd_auto.proofs.Closed.{same_state}
use Rattle.xd_auto.specs.Traces.{Owned}
use Rattle.xd_empty.specs.Parts.{is_marked}
use Rattle.xd_given.specs.Free.{AreSound, CanFinish, GoesOn, at_once, by_element, by_text}
use Rattle.xd_given.proofs.AlikeLaw.{marked_within}

module _ (a : Automaton) (b : Owned) (stops : State → Bool) where
  -- a state whose move leads to such as can be completed
  completed : (marks : State → Bool) (s : State) → AreSound a b stops marks → GoesOn a b marks s → CanFinish a b stops s
  completed marks s sound (inl on) =
      let m : LabelMove = on.move in
      let n = on.number in
      let behind = and_right (marks m.content) (marks m.rest && not (b.element s n)) on.goes in
      by_element s m n on.there (not-true (b.element s n) (and_right (marks m.rest) _ behind)) on.filled (sound m.content (and_left (marks m.content) (marks m.rest && not (b.element s n)) on.goes))
      (sound m.rest (and_left (marks m.rest) (not (b.element s n)) behind))
  completed marks s sound (inr on) =
      let m : TextMove = on.move in
      let n = on.number in
      by_text s m n on.there (not-true (b.text s n) (and_right (marks m.rest) _ on.goes)) on.filled (sound m.rest (and_left (marks m.rest) (not (b.text s n)) on.goes))

  -- marks that are found by moves
  pub sound_more : (old new : State → Bool) → ((s : State) → new s ≡ true → old s ≡ false → GoesOn a b old s) → AreSound a b stops old → AreSound a b stops new
  sound_more old new more sound s e = decide (old s) refl
    where
      decide : (v : Bool) → old s ≡ v → CanFinish a b stops s
      decide true h = sound s h
      decide false h = completed old s sound (more s e h)

  -- marks of those that can stop
  pub sound_stops : (marks : List Bool) → length marks ≡ length a → ((s : State) → IsState a s → is_marked marks s ≡ stops s) → AreSound a b stops (is_marked marks)
  sound_stops marks sized are s e = at_once s (sym (are s (subst (λ n. s.number < n) sized (marked_within marks s e))) ∙ e)

-- one more mark
pub marks_kept : (marks : List Bool) (n : ℕ) (s : State) → n < length marks → is_marked marks s ≡ true → is_marked (set marks n true) s ≡ true
marks_kept marks n s within e = ⊎_elim
    (λ (same : s.number ≡ n). ap (λ k. is_marked (set marks n true) (record { number = k })) same ∙ get_or-set_same marks n true false within)
    (λ (ne : s.number ≢ n). get_or-set_other marks n s.number true false ne ∙ e)
    (cases_eq s.number n)

-- it is that of the state
pub newly_marked : (a : Automaton) (b : Owned) (marks : List Bool) (state s : State) → GoesOn a b (is_marked marks) state → is_marked (set marks state.number true) s ≡ true → is_marked marks s ≡ false → GoesOn a b (is_marked marks) s
newly_marked a b marks state s goes e not_yet = ⊎_elim
    (λ (same : s.number ≡ state.number). subst (λ (q : State). GoesOn a b (is_marked marks) q) (same_state state s (sym same)) goes)
    (λ (ne : s.number ≢ state.number). absurd (let both : true ≡ false = sym e ∙ get_or-set_other marks state.number s.number true false ne ∙ not_yet in cc))
    (cases_eq s.number state.number)

-- the mark of one more state
pub mark_more : (told : State → Bool) (marks : List Bool) (n : ℕ) (at : State) (v : Bool) → length marks ≡ n → at.number ≡ n → v ≡ told at → ((s : State) → s.number < n → is_marked marks s ≡ told s)
    → (s : State) → s.number < n + 1 → is_marked (marks ++ v ∷ []) s ≡ told s
mark_more told marks n at v long here is below s lt = ⊎_elim
    (λ (same : s.number ≡ n).
    let none : s.number - n ≡ 0 = omega arith in
    get_or-append_right marks (v ∷ []) n s.number false long (omega arith) ∙ ap (λ i. get_or (v ∷ []) i false) none ∙ is ∙ ap told (same_state at s (here ∙ sym same)))
    (λ (ne : s.number ≢ n). get_or_append_left marks (v ∷ []) false s.number (omega arith) ∙ below s (omega arith))
    (cases_eq s.number n)
