-- Runs of a pattern through points: by which moves of the points' states, and where they come to a
-- point that means what an old state accepts.
use Rattle.std.specs.Prelude.{◌≡◌, ℕ, ◌<◌, ◌⊎◌, ◌↔◌, Bool, true, false, List, Some, length, slice_get}
use Rattle.xd_doc.specs.Document.{Document, empty, text, element}
use Rattle.xd_doc.specs.Classes.{class_has}
use Rattle.xd_doc.specs.Runs.{Run, at_end, at_text, at_element}
use Rattle.xd_auto.specs.declared.auto.LabelMove.{LabelMove}
use Rattle.xd_auto.specs.declared.auto.TextMove.{TextMove}
use Rattle.xd_auto.specs.Automaton.{Automaton, moves_at}
use Rattle.xd_points.specs.FirstRuns.{IsRunBy}
use Rattle.xd_points.specs.declared.patterns.PatternStates.{PatternStates}
use Rattle.xd_points.specs.declared.points.Points.{Points}
use Rattle.xd_points.specs.Points.{AreExpanded, RowView, is_old, meaning, point_at, row_at, state_at}

-- the point means the document, and the run, a first one with `first`, leads its pattern's state
-- over it
abbrev pub IsRunAt : Bool → Automaton → PatternStates → Points → ℕ → Document → Run ℕ → Type 0
IsRunAt first a t p i d run = (meaning a t p i d ≡ true) × IsRunBy first t.auto d (point_at p.points.items i).pattern run

-- at each item the point's state has a move on its name that stands for the run's, up to points
-- that mean what old states accept
abbrev pub Follows : Bool → Automaton → PatternStates → Points → List RowView → Document → ℕ → Run ℕ → Type 0
Follows first a t p rows empty i run = IsRunAt first a t p i empty run
Follows first a t p rows (text c d) i at_end = ⊥
Follows first a t p rows (text c d) i (at_text n r) =
    ((is_old t p i ≡ true) × IsRunAt first a t p i (text c d) (at_text n r))
    ⊎ ((is_old t p i ≡ false) × (k : ℕ) × (m : TextMove) × (slice_get (moves_at p.made (state_at i)).texts k ≡ Some m) × (slice_get (row_at rows i).texts k ≡ Some n)
    × (class_has m.words c ≡ true) × Follows first a t p rows d m.rest.number r)
Follows first a t p rows (text c d) i (at_element n k r) = ⊥
Follows first a t p rows (element l c d) i at_end = ⊥
Follows first a t p rows (element l c d) i (at_text n r) = ⊥
Follows first a t p rows (element l c d) i (at_element n h r) =
    ((is_old t p i ≡ true) × IsRunAt first a t p i (element l c d) (at_element n h r))
    ⊎ ((is_old t p i ≡ false) × (k : ℕ) × (m : LabelMove) × (slice_get (moves_at p.made (state_at i)).labels k ≡ Some m) × (slice_get (row_at rows i).labels k ≡ Some n)
    × (class_has m.class l ≡ true) × Follows first a t p rows c m.content.number h × Follows first a t p rows d m.rest.number r)

-- these are just the runs of the pattern on documents that the point means: all of them, or with
-- `first` the first one of each document
abbrev pub FollowsAllRuns : Type 0
FollowsAllRuns = (first : Bool) (a : Automaton) (t : PatternStates) (p : Points) (rows : List RowView) → AreExpanded first a t p rows → length rows ≡ length p.points.items
    → (d : Document) (i : ℕ) (run : Run ℕ) → i < length p.points.items → Follows first a t p rows d i run ↔ IsRunAt first a t p i d run
