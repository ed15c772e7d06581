-- How the points of an automaton are made, and what their states and moves stand for.
use Rattle.std.specs.Prelude.{nat_eq, not, ◌≡◌, ℕ, ◌<◌, ◌≤◌, Bool, true, false, ◌&&◌, ◌||◌, List, [], ◌∷◌, map, take, length, Some, slice_get, slice_index_or}
use Rattle.std.specs.List.{AllByRecursion, AllZip, list_any}
use Rattle.xd_auto.specs.Keys.{found_at}
use Rattle.xd_doc.specs.Document.{Document, empty}
use Rattle.xd_doc.specs.Classes.{LabelClass, class_has}
use Rattle.xd_auto.specs.declared.auto.State.{State}
use Rattle.xd_auto.specs.declared.auto.LabelMove.{LabelMove}
use Rattle.xd_auto.specs.declared.auto.TextMove.{TextMove}
use Rattle.xd_auto.specs.Automaton.{Automaton, IsState, StateMoves, accepts, moves_at}
use Rattle.xd_boole.specs.declared.groups.MoveSide.{MoveSide}
use Rattle.xd_points.specs.declared.patterns.PatternStates.{PatternStates}
use Rattle.xd_boole.specs.Meaning.{ElementFirst, TextFirst, any_accepts, element_of, text_of, move_takes, text_takes}
use Rattle.xd_points.specs.Meaning.{IsPointOf, PointView, point, is_old_point, means}
use Rattle.xd_boole.specs.Groups.{is_side, passes_at, side_accepts}
use Rattle.xd_boole.specs.Refusals.{LeadInside}
use Rattle.xd_points.specs.FirstRuns.{place_before}
use Rattle.xd_points.specs.declared.points.Points.{Points}
use Rattle.xd_points.specs.declared.moves.Parts.{Parts}
use Rattle.xd_points.specs.declared.moves.Rests.{Rests}

abbrev pub state_at : ℕ → State
state_at i = record { number = i }

abbrev pub no_point : PointView
no_point = point (state_at 0) (state_at 0) []

abbrev pub point_at : List PointView → ℕ → PointView
point_at points i = slice_index_or points i no_point

abbrev pub point_key : PointView → List ℕ
point_key p = p.left.number ∷ p.pattern.number ∷ map (λ (s : State). s.number) p.rights

-- the documents that the state of this number is to accept
abbrev pub meaning : Automaton → PatternStates → Points → ℕ → Document → Bool
meaning a b p i d = means a b (point_at p.points.items i) d

-- whether the point has this number that means what an old state accepts
abbrev pub is_old : PatternStates → Points → ℕ → Bool
is_old b p i = is_old_point b (point_at p.points.items i)

-- a point that means what an old state accepts is taken to accept the empty document
abbrev pub point_last : Automaton → PatternStates → PointView → Bool
point_last a b p = is_old_point b p || means a b p empty

-- one state for each point, which accepts the empty document where the point says so; and numbers
-- that lead to their points
pub record ArePoints (a : Automaton) (b : PatternStates) (p : Points) : Type 0 where
  pub count : length p.made ≡ length p.points.items
  pub points : (i : ℕ) → i < length p.points.items → IsPointOf a b (point_at p.points.items i)
  pub last : (i : ℕ) → i < length p.points.items → (moves_at p.made (state_at i)).last ≡ point_last a b (point_at p.points.items i)
  pub only : (key : List ℕ) (i : ℕ) → found_at p.found key ≡ Some i → (i < length p.points.items) × (point_key (point_at p.points.items i) ≡ key)

-- the state has no moves
pub record IsBare (moves : StateMoves) : Type 0 where
  pub labels : moves.labels ≡ []
  pub texts : moves.texts ≡ []

-- points were added, whose states have no moves yet
pub record Grows (old new : Points) : Type 0 where
  pub longer : length old.points.items ≤ length new.points.items
  pub points : (i : ℕ) → i < length old.points.items → point_at new.points.items i ≡ point_at old.points.items i
  pub moves : (i : ℕ) → i < length old.points.items → moves_at new.made (state_at i) ≡ moves_at old.made (state_at i)
  pub fresh : (i : ℕ) → length old.points.items ≤ i → i < length new.points.items → IsBare (moves_at new.made (state_at i))

-- the state is that of this point
pub record IsStateFor (p : Points) (left pattern : State) (rights : List State) (s : State) : Type 0 where
  pub within : s.number < length p.points.items
  pub is : point_at p.points.items s.number ≡ point left pattern rights

-- the state stands for this one of the pattern
pub record LeadsTo (p : Points) (pattern : State) (s : State) : Type 0 where
  pub within : s.number < length p.points.items
  pub pattern_is : (point_at p.points.items s.number).pattern ≡ pattern

-- the state has this point's state of the pattern, and means what the point does
pub record StandsFor (a : Automaton) (b : PatternStates) (p : Points) (of : PointView) (s : State) : Type 0 where
  pub leads : LeadsTo p of.pattern s
  pub means : (d : Document) → meaning a b p s.number d ≡ means a b of d

-- the states that a move leads to
abbrev pub label_states : LabelMove → List State
label_states m = m.content ∷ m.rest ∷ []

abbrev pub text_states : TextMove → List State
text_states m = m.rest ∷ []

-- where new moves lead: one after the other their states stand for these of the pattern
abbrev pub LabelLeads : MoveSide → Points → LabelMove → Type 0
LabelLeads part p m = AllZip (LeadsTo p) (part.content ∷ part.rest ∷ []) (label_states m)

abbrev pub TextLeads : State → Points → TextMove → Type 0
TextLeads rest p m = AllZip (LeadsTo p) (rest ∷ []) (text_states m)

abbrev pub LeadsAs : {M : Type 0} → (M → List State) → M → Points → M → Type 0
LeadsAs states origin p m = AllZip (LeadsTo p) (states origin) (states m)

-- where two moves lead, one of a left and one of a pattern's state: states of the automaton, and of
-- the patterns
pub record ArePartsOf (a : Automaton) (b : PatternStates) (parts : Parts) : Type 0 where
  pub left : is_side a parts.left ≡ true
  pub pattern : is_side b.auto parts.pattern ≡ true

pub record AreRestsOf (a : Automaton) (b : PatternStates) (rests : Rests) : Type 0 where
  pub left : IsState a rests.left
  pub pattern : IsState b.auto rests.pattern

abbrev pub parts_accept : Automaton → PatternStates → Document → Document → Parts → Bool
parts_accept a b c d parts = side_accepts a c d parts.left && side_accepts b.auto c d parts.pattern

abbrev pub rests_accept : Automaton → PatternStates → Document → Rests → Bool
rests_accept a b d rests = accepts a d rests.left && accepts b.auto d rests.pattern

-- what a new move is to take
abbrev pub label_means : Automaton → PatternStates → Points → ElementFirst → LabelMove → Bool
label_means a b p q m = class_has m.class q.label && (meaning a b p m.content.number q.content && meaning a b p m.rest.number q.rest)

abbrev pub text_means : Automaton → PatternStates → Points → TextFirst → TextMove → Bool
text_means a b p q m = class_has m.words q.characters && meaning a b p m.rest.number q.rest

-- points were added, and moves between their states, which take what `takes` says
pub record AddsMoves {M Q : Type 0} (Leads : Points → M → Type 0) (by_move : Points → Q → M → Bool) (a : Automaton) (b : PatternStates) (old new : Points) (before after : List M) (takes : Q → Bool) : Type 0 where
  pub whole : ArePoints a b new
  pub grows : Grows old new
  pub leads : AllByRecursion (Leads new) after
  pub taken : (q : Q) → list_any (by_move new q) after ≡ (list_any (by_move old q) before || takes q)

abbrev pub AddsLabels : MoveSide → Automaton → PatternStates → Points → Points → List LabelMove → List LabelMove → (ElementFirst → Bool) → Type 0
AddsLabels part a b = AddsMoves (LabelLeads part) (label_means a b) a b

abbrev pub AddsTexts : State → Automaton → PatternStates → Points → Points → List TextMove → List TextMove → (TextFirst → Bool) → Type 0
AddsTexts rest a b = AddsMoves (TextLeads rest) (text_means a b) a b

-- a right of the point accepts the document, or one of these moves before this number passes the
-- test
abbrev pub taken_before : {M : Type 0} → (M → Bool) → List M → PatternStates → PointView → ℕ → Document → Bool
taken_before t moves b p n d = any_accepts b.taken.auto p.rights d || list_any t (take n moves)

-- moves that on the labels of a class take, of what the parts accept, what the rights of the point
-- do, and the moves of its pattern's state before one
pub record AreRefusing (a : Automaton) (b : PatternStates) (p : PointView) (class : LabelClass) (parts : Parts) (place : ℕ) (moves : List LabelMove) : Type 0 where
  pub taken : (q : ElementFirst) → class_has class q.label ≡ true → parts_accept a b q.content q.rest parts ≡ true
      → list_any (move_takes b.taken.auto q) moves ≡ taken_before (move_takes b.auto q) (moves_at b.auto p.pattern).labels b p place (element_of q)
  pub inside : LeadInside b.taken.auto moves

-- the move leads where the one of this number among the pattern's does
pub record IsStepOf {M : Type 0} (states : M → List State) (origins : List M) (p : Points) (m : M) (n : ℕ) : Type 0 where
  pub origin : M
  pub there : slice_get origins n ≡ Some origin
  pub leads : LeadsAs states origin p m

abbrev pub IsLabelStep : Automaton → State → Points → LabelMove → ℕ → Type 0
IsLabelStep a s = IsStepOf label_states (moves_at a s).labels

abbrev pub IsTextStep : Automaton → State → Points → TextMove → ℕ → Type 0
IsTextStep a s = IsStepOf text_states (moves_at a s).texts

-- some of the moves that have this number passes the test
abbrev pub any_for : {M : Type 0} → (M → Bool) → ℕ → List M → List ℕ → Bool
any_for p n [] ks = false
any_for p n (m ∷ ms) [] = false
any_for p n (m ∷ ms) (k ∷ ks) = (nat_eq k n && p m) || any_for p n ms ks

-- what is to be taken by the move of this number of the pattern's state
abbrev pub takes_for : {M : Type 0} → (M → Bool) → List M → Bool → Automaton → PatternStates → PointView → ℕ → Document → Bool
takes_for t moves first a b p n d = accepts a d p.left && (passes_at t moves n && not (taken_before t moves b p (place_before first n) d))

-- moves with the numbers of the moves that they stand for; those of each number take what `takes`
-- says
pub record StandForMoves {M Q : Type 0} (states : M → List State) (by_move : Points → Q → M → Bool) (origins : List M) (p : Points) (moves : List M) (numbers : List ℕ) (takes : ℕ → Q → Bool) : Type 0 where
  pub steps : AllZip (IsStepOf states origins p) moves numbers
  pub taken : (n : ℕ) (q : Q) → any_for (by_move p q) n moves numbers ≡ takes n q

-- the numbers of the moves that a state's moves stand for
pub record RowView : Type 0 where
  pub labels : List ℕ
  pub texts : List ℕ

abbrev pub no_row : RowView
no_row = record { labels = []; texts = [] }

abbrev pub row_at : List RowView → ℕ → RowView
row_at rows i = slice_index_or rows i no_row

-- for each move of the pattern's state these are moves that take, with it, what the point means
abbrev pub LabelsStand : Bool → Automaton → PatternStates → Points → PointView → List LabelMove → List ℕ → Type 0
LabelsStand first a b p of moves numbers =
    StandForMoves label_states (label_means a b) (moves_at b.auto of.pattern).labels p moves numbers (λ n q. takes_for (move_takes b.auto q) (moves_at b.auto of.pattern).labels first a b of n (element_of q))

abbrev pub TextsStand : Bool → Automaton → PatternStates → Points → PointView → List TextMove → List ℕ → Type 0
TextsStand first a b p of moves numbers =
    StandForMoves text_states (text_means a b) (moves_at b.auto of.pattern).texts p moves numbers (λ n q. takes_for (text_takes b.auto q) (moves_at b.auto of.pattern).texts first a b of n (text_of q))

pub record AreMovesFor (first : Bool) (a : Automaton) (b : PatternStates) (p : Points) (of : PointView) (moves : StateMoves) (row : RowView) : Type 0 where
  pub labels : LabelsStand first a b p of moves.labels row.labels
  pub texts : TextsStand first a b p of moves.texts row.texts

-- the state of this number has its moves
abbrev pub HasMoves : Bool → Automaton → PatternStates → Points → ℕ → RowView → Type 0
HasMoves first a b p i row = AreMovesFor first a b p (point_at p.points.items i) (moves_at p.made (state_at i)) row

-- the states that there are rows for have their moves, but for those that are old ones, and the
-- others have none
pub record AreExpanded (first : Bool) (a : Automaton) (b : PatternStates) (p : Points) (rows : List RowView) : Type 0 where
  pub whole : ArePoints a b p
  pub within : length rows ≤ length p.points.items
  pub has : (i : ℕ) → i < length rows → is_old b p i ≡ false → HasMoves first a b p i (row_at rows i)
  pub bare : (i : ℕ) → length rows ≤ i → i < length p.points.items → IsBare (moves_at p.made (state_at i))

-- all states have their moves
pub record AllExpanded (a : Automaton) (b : PatternStates) (p : Points) : Type 0 where
  pub first : Bool
  pub rows : List RowView
  pub are : AreExpanded first a b p rows
  pub every : length rows ≡ length p.points.items

-- points stay
pub record KeepsPoints (old new : Points) : Type 0 where
  pub longer : length old.points.items ≤ length new.points.items
  pub points : (i : ℕ) → i < length old.points.items → point_at new.points.items i ≡ point_at old.points.items i

-- the first states have the moves that they had
abbrev pub KeepMoves : ℕ → Points → Points → Type 0
KeepMoves n old new = (i : ℕ) → i < n → moves_at new.made (state_at i) ≡ moves_at old.made (state_at i)
