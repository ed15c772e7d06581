-- Runs of a pattern through points, by their traces.
use Rattle.std.specs.Prelude.{◌≡◌, ◌⊎◌, ℕ, Bool, true, false, List, slice_get, Some}
use Rattle.xd_doc.specs.Document.{Document, empty, text, element, is_proper}
use Rattle.xd_doc.specs.Classes.{class_has}
use Rattle.xd_doc.specs.Runs.{Run, Trace, at_end, at_text, at_element, held, IsFree}
use Rattle.xd_auto.specs.declared.auto.State.{State}
use Rattle.xd_auto.specs.declared.auto.LabelMove.{LabelMove}
use Rattle.xd_auto.specs.declared.auto.TextMove.{TextMove}
use Rattle.xd_auto.specs.Automaton.{Automaton, moves_at}
use Rattle.xd_auto.specs.Traces.{Owned, trace_of}
use Rattle.xd_bind.specs.declared.tracks.Given.{Given}
use Rattle.xd_points.specs.declared.patterns.PatternStates.{PatternStates}
use Rattle.xd_points.specs.declared.table.PointTable.{PointTable}
use Rattle.xd_points.specs.Following.{IsRunAt}
use Rattle.xd_points.specs.Tables.{is_left, pattern_of, point_means, points_of}
use Rattle.xd_given.specs.Given.{AcceptsJust, AreGivensFor, IsGivenFor}
use Rattle.xd_given.specs.Owning.{point_moves}

-- a step of an accepting run
pub record TextStep (a : Automaton) (b : Owned) (s : State) (own : Bool) (t : List ℕ) (Rest : State → Type 0) : Type 0 where
  pub number : ℕ
  pub step : TextMove
  pub there : slice_get (moves_at a s).texts number ≡ Some step
  pub has : class_has step.words t ≡ true
  pub owned : b.text s number ≡ own
  pub rest : Rest step.rest

pub record ElementStep (a : Automaton) (b : Owned) (s : State) (own : Bool) (l : List ℕ) (Content Rest : State → Type 0) : Type 0 where
  pub number : ℕ
  pub step : LabelMove
  pub there : slice_get (moves_at a s).labels number ≡ Some step
  pub has : class_has step.class l ≡ true
  pub owned : b.element s number ≡ own
  pub content : Content step.content
  pub rest : Rest step.rest

-- the point means the document, and a run of its pattern's state over it, of the kind that the table
-- is for, has the trace
pub record HasRunAt (a : Automaton) (p : PatternStates) (t : PointTable) (b : Owned) (d : Document) (s : State) (trace : Trace) : Type 0 where
  pub run : Run ℕ
  pub at : IsRunAt t.first a p t.points s.number d run
  pub is : trace_of p.auto b (pattern_of t s) run ≡ trace

-- a run, where the point means what its left accepts
pub record AtLeft (a : Automaton) (p : PatternStates) (t : PointTable) (b : Owned) (d : Document) (s : State) (trace : Trace) : Type 0 where
  pub left : is_left p t s ≡ true
  pub has : HasRunAt a p t b d s trace

-- the same, move by move of the points
abbrev pub Traced : Automaton → PatternStates → PointTable → Owned → Document → State → Trace → Type 0
Traced a p t b empty s at_end = point_means a p t s empty ≡ true
Traced a p t b empty s (at_text own r) = ⊥
Traced a p t b empty s (at_element own k r) = ⊥
Traced a p t b (text c d) s at_end = ⊥
Traced a p t b (text c d) s (at_text own r) =
    AtLeft a p t b (text c d) s (at_text own r) ⊎ ((is_left p t s ≡ false) × TextStep (points_of t) (point_moves t b) s own c (λ q. Traced a p t b d q r))
Traced a p t b (text c d) s (at_element own k r) = ⊥
Traced a p t b (element l c d) s at_end = ⊥
Traced a p t b (element l c d) s (at_text own r) = ⊥
Traced a p t b (element l c d) s (at_element own k r) =
    AtLeft a p t b (element l c d) s (at_element own k r)
    ⊎ ((is_left p t s ≡ false) × ElementStep (points_of t) (point_moves t b) s own l (λ q. Traced a p t b c q k) (λ q. Traced a p t b d q r))

-- a run from the point that gives the variable nothing
pub record FreeFrom (a : Automaton) (p : PatternStates) (t : PointTable) (b : Owned) (s : State) : Type 0 where
  pub document : Document
  pub trace : Trace
  pub proper : is_proper document ≡ true
  pub traced : Traced a p t b document s trace
  pub free : IsFree trace

-- a run from the point gives the variable this document, on a document that is proper where this
-- one is
pub record IsGivenAt (a : Automaton) (p : PatternStates) (t : PointTable) (b : Owned) (s : State) (e : Document) : Type 0 where
  pub document : Document
  pub trace : Trace
  pub proper : is_proper e ≡ true → is_proper document ≡ true
  pub has : HasRunAt a p t b document s trace
  pub gives : held document trace ≡ e

-- a state that accepts exactly these, and one for each variable, in their order
abbrev pub AcceptsGivenAt : Automaton → PatternStates → PointTable → Owned → State → Automaton → State → Type 0
AcceptsGivenAt a p t b s = AcceptsJust (IsGivenAt a p t b s)

abbrev pub IsGivenAtOf : Automaton → PatternStates → PointTable → (ℕ → Owned) → State → List (List ℕ) → Automaton → ℕ → Given → Type 0
IsGivenAtOf a p t owned start = IsGivenFor (λ b. IsGivenAt a p t b start) owned

abbrev pub AreGivensAt : Automaton → PatternStates → PointTable → (ℕ → Owned) → State → List (List ℕ) → Automaton → List Given → Type 0
AreGivensAt a p t owned start = AreGivensFor (λ b. IsGivenAt a p t b start) owned
