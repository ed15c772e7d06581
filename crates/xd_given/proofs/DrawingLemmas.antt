-- How the moves of points are drawn.
use Rattle.std.proofs.Common.{ℕ, ◌+◌, ◌≡◌, ◌≢◌, ⊎_elim, true, false, length, sym, ap, ◌∙◌, arith}
use Rattle.std.proofs.lemmas.Bool.{cases_eq}
use Rattle.xd_auto.specs.declared.auto.State.{State}
use Rattle.xd_auto.specs.Automaton.{Automaton, ChangesOnly, moves_at, no_moves}
use Rattle.xd_auto.proofs.Closed.{same_state}
use Rattle.xd_points.specs.declared.patterns.PatternStates.{PatternStates}
use Rattle.xd_points.specs.declared.table.PointTable.{PointTable}
use Rattle.xd_points.specs.Tables.{is_left, points_of}
use Rattle.xd_given.specs.Outline.{IsDrawnTo}

-- no point is drawn yet
pub drawn_none : (p : PatternStates) (t : PointTable) (made : Automaton) → made ≡ points_of t → IsDrawnTo p t 0 made
drawn_none p t made e = record {
  sized = ap length e;
  left = λ s lt h. absurd (omega arith);
  other = λ s lt h. absurd (omega arith);
  waiting = λ s le. ap (λ (w : Automaton). moves_at w s) e;
}

module _ (p : PatternStates) (t : PointTable) (n : ℕ) (old : Automaton) (is : IsDrawnTo p t n old) (at : State) (here : at.number ≡ n) where
  -- it is one that has moves
  pub drawn_other : is_left p t at ≡ false → IsDrawnTo p t (n + 1) old
  drawn_other yet = record {
    sized = is.sized;
    left = λ s lt h. ⊎_elim
        (λ (e : s.number ≡ n). absurd (let same = same_state s at (e ∙ sym here) in let no : true ≡ false = sym h ∙ ap (is_left p t) same ∙ yet in cc))
        (λ (ne : s.number ≢ n). is.left s (omega arith) h)
        (cases_eq s.number n);
    other = λ s lt h. ⊎_elim
        (λ (e : s.number ≡ n). is.waiting s (omega arith))
        (λ (ne : s.number ≢ n). is.other s (omega arith) h)
        (cases_eq s.number n);
    waiting = λ s le. is.waiting s (omega arith);
  }

  -- it has none any more
  pub drawn_left : (new : Automaton) → is_left p t at ≡ true → moves_at new at ≡ no_moves false → ChangesOnly at old new → IsDrawnTo p t (n + 1) new
  drawn_left new left cut others = record {
    sized = others.states ∙ is.sized;
    left = λ s lt h. ⊎_elim
        (λ (e : s.number ≡ n). let same = same_state s at (e ∙ sym here) in ap (λ (q : State). moves_at new q) same ∙ cut)
        (λ (ne : s.number ≢ n). others.others s (omega arith) ∙ is.left s (omega arith) h)
        (cases_eq s.number n);
    other = λ s lt h. ⊎_elim
        (λ (e : s.number ≡ n). absurd (let same = same_state s at (e ∙ sym here) in let no : true ≡ false = sym left ∙ ap (is_left p t) (sym same) ∙ h in cc))
        (λ (ne : s.number ≢ n). others.others s (omega arith) ∙ is.other s (omega arith) h)
        (cases_eq s.number n);
    waiting = λ s le. others.others s (omega arith) ∙ is.waiting s (omega arith);
  }
