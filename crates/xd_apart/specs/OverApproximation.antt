-- Automata that accept at least what some states accept and others don't.
use Rattle.std.specs.Prelude.{◌≡◌, ℕ, ◌<◌, ◌≤◌, Bool, true, false, not, ◌&&◌, ◌⊎◌, List, [], length, take, Option, Some, None, Contains, refl}
use Rattle.std.specs.List.{All, list_any}
use Rattle.std.specs.Option.{IfSome}
use Rattle.xd_doc.specs.Document.{Document, empty, text, element}
use Rattle.xd_auto.specs.declared.auto.State.{State}
use Rattle.xd_auto.specs.declared.kind.MoveKind.{MoveKind}
use Rattle.xd_auto.specs.declared.kind.MoveKind.TheVariants.{Label, Text}
use Rattle.xd_auto.specs.declared.leading.Ends.{Ends}
use Rattle.xd_auto.specs.Automaton.{Automaton, IsState, LeadsBelow, StateMoves, accepts, has_label, has_text, moves_at, state_number}
use Rattle.xd_auto.specs.Leading.{EndsAre, label_ends, text_ends}
use Rattle.xd_boole.specs.Meaning.{PointView, less, means}
use Rattle.xd_auto.specs.Keys.{found_at}
use Rattle.xd_boole.specs.Points.{IsPointOf, point_at, point_key, state_at}
use Rattle.xd_apart.specs.declared.over_approximation.Clash.{Clash}
use Rattle.xd_apart.specs.declared.over_approximation.OverApproximation.{OverApproximation}

-- how a document begins: with an element or a text of this name, and what is inside and behind it.
-- A text has nothing inside, whatever stands there
pub record First : Type 0 where
  pub name : List ℕ
  pub inside : Document
  pub behind : Document

abbrev pub element_first : First → Document
element_first q = element q.name q.inside q.behind

abbrev pub text_first : First → Document
text_first q = text q.name q.behind

-- the states that a move leads to take what is inside and behind
abbrev pub inside_accepts : Automaton → Document → Option State → Bool
inside_accepts a d None = true
inside_accepts a d (Some s) = accepts a d s

abbrev pub ends_accept : Automaton → First → Ends → Bool
ends_accept a q e = inside_accepts a q.inside e.inside && accepts a q.behind e.behind

-- what holds of each of them and what it takes
abbrev pub LeadOver : (State → Document → Type 0) → First → Ends → Type 0
LeadOver R q e = R e.behind q.behind × IfSome e.inside (λ s. R s q.inside)

-- the state's point means the document
pub record MeantAt (a b : Automaton) (points : List PointView) (s : State) (d : Document) : Type 0 where
  pub there : state_number s < length points
  pub meant : means a b (point_at points (state_number s)) d ≡ true

-- the move takes how the document begins: its name, and, by the points that the move leads to, what
-- is inside and behind
pub record Takes {M : Type 0} (has : M → List ℕ → Bool) (ends_of : M → Ends) (a b : Automaton) (points : List PointView) (q : First) (w : M) : Type 0 where
  pub name : has w q.name ≡ true
  pub ends : LeadOver (MeantAt a b points) q (ends_of w)

-- one of the moves takes it, wherever this point means the document
abbrev pub AreTaking : {M : Type 0} → (M → List ℕ → Bool) → (M → Ends) → (First → Document) → Automaton → Automaton → List PointView → PointView → List M → Type 0
AreTaking {M} has ends_of document a b points p moves = (q : First) → means a b p (document q) ≡ true → (w : M) × Contains moves w × Takes has ends_of a b points q w

-- the moves of a state take, by the points that they lead to, at least what this point means
pub record ApproximatesPoint (a b : Automaton) (points : List PointView) (p : PointView) (moves : StateMoves) : Type 0 where
  pub last : means a b p empty ≡ true → moves.last ≡ true
  pub elements : AreTaking has_label label_ends element_first a b points p moves.labels
  pub texts : AreTaking has_text text_ends text_first a b points p moves.texts

-- so do those of each state, by its own point
abbrev pub ApproximatesPoints : Automaton → Automaton → Automaton → List PointView → Type 0
ApproximatesPoints a b over points = (i : ℕ) → i < length points → ApproximatesPoint a b points (point_at points i) (moves_at over (state_at i))

-- one leads inside only where the other one does
abbrev pub IsLikeInside : Option State → Option State → Type 0
IsLikeInside (Some s) other = Unit {0}
IsLikeInside None None = Unit {0}
IsLikeInside None (Some s) = ⊥

-- what holds of the moves of a kind, those on elements or those on texts: which of a state they
-- are, how they are exchanged, and how documents begin that they take
pub record IsKind {M : Type 0} (has : M → List ℕ → Bool) (ends_of : M → Ends) (moves_in : StateMoves → List M) (exchanged : StateMoves → List M → StateMoves) (document : First → Document) : Type 0 where
  pub accepted : (a : Automaton) (q : First) (s : State) → accepts a (document q) s ≡ list_any (λ m. has m q.name && ends_accept a q (ends_of m)) (moves_in (moves_at a s))
  pub alike : (m n : M) → IsLikeInside (ends_of m).inside (ends_of n).inside
  pub taking : (a b : Automaton) (points : List PointView) (p : PointView) (moves : StateMoves) → ApproximatesPoint a b points p moves → AreTaking has ends_of document a b points p (moves_in moves)
  pub approximation : (a b : Automaton) (points : List PointView) (p : PointView) (moves : StateMoves) (others : List M) → ApproximatesPoint a b points p moves → AreTaking has ends_of document a b points p others → ApproximatesPoint a b points p (exchanged moves others)

pub label_kind : IsKind has_label label_ends (λ moves. moves.labels) (λ moves labels. record moves { labels = labels }) element_first
label_kind = record {
  accepted = λ a q s. refl;
  alike = λ m n. tt;
  taking = λ a b points p moves h. h.elements;
  approximation = λ a b points p moves others h taking. record { last = h.last; elements = taking; texts = h.texts };
}

pub text_kind : IsKind has_text text_ends (λ moves. moves.texts) (λ moves texts. record moves { texts = texts }) text_first
text_kind = record {
  accepted = λ a q s. refl;
  alike = λ m n. tt;
  taking = λ a b points p moves h. h.texts;
  approximation = λ a b points p moves others h taking. record { last = h.last; elements = h.elements; texts = taking };
}

-- each state stands for its point: the first ones for the states of `a`, with their moves
pub record Approximates (a b over : Automaton) (points : List PointView) : Type 0 where
  pub count : length over ≡ length points
  pub lefts : length a ≤ length points
  pub closed : (s : State) → IsState a s → LeadsBelow (length a) (moves_at a s)
  pub own : (s : State) → IsState a s → moves_at over s ≡ moves_at a s
  pub whole : (s : State) → IsState a s → point_at points (state_number s) ≡ less s []
  pub there : (i : ℕ) → i < length points → IsPointOf a b (point_at points i)
  pub approximation : ApproximatesPoints a b over points

-- the lefts' states
abbrev pub left_states : OverApproximation → Automaton
left_states l = take l.lefts l.over

-- it is an over-approximation of its lefts without these rights, and its numbers lead to their
-- points
pub record IsOverApproximation (b : Automaton) (l : OverApproximation) : Type 0 where
  pub within : l.lefts ≤ length l.over
  pub approximates : Approximates (left_states l) b l.over l.points.items
  pub only : (key : List ℕ) (i : ℕ) → found_at l.numbers key ≡ Some i → (i < length l.points.items) × (point_key (point_at l.points.items i) ≡ key)

-- old points stand where they stood
pub record KeepsPoints (old new : List PointView) : Type 0 where
  pub longer : length old ≤ length new
  pub same : (i : ℕ) → i < length old → point_at new i ≡ point_at old i

-- points were added
pub record Grows (old new : OverApproximation) : Type 0 where
  pub lefts : left_states new ≡ left_states old
  pub points : KeepsPoints old.points.items new.points.items
  pub moves : (i : ℕ) → i < length old.points.items → moves_at new.over (state_at i) ≡ moves_at old.over (state_at i)

-- it is an over-approximation of the same lefts, and old points stand where they stood
pub record IsCloser (b : Automaton) (old new : OverApproximation) : Type 0 where
  pub approximation : IsOverApproximation b new
  pub lefts : left_states new ≡ left_states old
  pub points : KeepsPoints old.points.items new.points.items

-- the state stands for this point
pub record StandsFor (points : List PointView) (p : PointView) (s : State) : Type 0 where
  pub there : state_number s < length points
  pub is : point_at points (state_number s) ≡ p

-- the states that a move leads to lie below n
abbrev pub EndsBelow : ℕ → Ends → Type 0
EndsBelow n e = EndsAre (λ s. state_number s < n) e

-- so do those that each of the moves leads to
abbrev pub AreBelow : {M : Type 0} → (M → Ends) → ℕ → List M → Type 0
AreBelow ends_of n moves = All (λ m. EndsBelow n (ends_of m)) moves

-- the one state's point means what the other's does, but for what the added state accepts
pub record Narrows (a b : Automaton) (points : List PointView) (s t added : State) : Type 0 where
  pub there : state_number t < length points
  pub meant : (d : Document) → means a b (point_at points (state_number t)) d ≡ (means a b (point_at points (state_number s)) d && not (accepts b d added))

-- the same inside, where both moves lead there
abbrev pub NarrowsInside : Automaton → Automaton → List PointView → Option State → Option State → Option State → Type 0
NarrowsInside a b points inside by added = IfSome inside (λ s. IfSome added (λ r. (t : State) × (by ≡ Some t) × Narrows a b points s t r))

-- and of all that a move leads to
pub record NarrowsEnds (a b : Automaton) (points : List PointView) (e by added : Ends) : Type 0 where
  pub there : EndsBelow (length points) by
  pub inside : NarrowsInside a b points e.inside by.inside added.inside
  pub behind : Narrows a b points e.behind by.behind added.behind

-- among the moves there is one on the name to these states
pub record HasMove {M : Type 0} (has : M → List ℕ → Bool) (ends_of : M → Ends) (moves : List M) (name : List ℕ) (e : Ends) : Type 0 where
  pub move : M
  pub among : Contains moves move
  pub named : has move name ≡ true
  pub ends : ends_of move ≡ e

-- the names that both moves have, and those that only the first one has
abbrev pub in_both : {M : Type 0} → (M → List ℕ → Bool) → M → M → List ℕ → Bool
in_both has w m name = has w name && has m name

abbrev pub in_first : {M : Type 0} → (M → List ℕ → Bool) → M → M → List ℕ → Bool
in_first has w m name = has w name && not (has m name)

-- a move on just these names to these states; none where there are no such names
abbrev pub IsPartOf : {M : Type 0} → (M → List ℕ → Bool) → (M → Ends) → (List ℕ → Bool) → Ends → Option M → Type 0
IsPartOf has ends_of on e None = (name : List ℕ) → on name ≡ false
IsPartOf has ends_of on e (Some v) = ((name : List ℕ) → has v name ≡ on name) × (ends_of v ≡ e)

-- moves on these names to these states were added
pub record Adds {M : Type 0} (has : M → List ℕ → Bool) (ends_of : M → Ends) (on : List ℕ → Bool) (e : Ends) (old new : List M) : Type 0 where
  pub keeps : (v : M) → Contains old v → Contains new v
  pub there : (name : List ℕ) → on name ≡ true → HasMove has ends_of new name e
  pub below : (n : ℕ) → AreBelow ends_of n old → EndsBelow n e → AreBelow ends_of n new

-- another state inside, where the move leads there
abbrev pub in_place : State → Option State → Option State
in_place s None = None
in_place s (Some t) = Some s

abbrev pub inside_to : State → Ends → Ends
inside_to s e = record { inside = in_place s e.inside; behind = e.behind }

abbrev pub behind_to : State → Ends → Ends
behind_to s e = record { inside = e.inside; behind = s }

-- in place of a move stand those that divide it by a move of a right: on the names of both, one by
-- which the inside is refused, where there is one, and one by which what is behind is; on its other
-- names, the move as it was
pub record Divides {M : Type 0} (has : M → List ℕ → Bool) (ends_of : M → Ends) (w m : M) (by : Ends) (moves divided : List M) : Type 0 where
  pub others : (v : M) → Contains moves v → Contains divided v ⊎ (v ≡ w)
  pub inside : IfSome by.inside (λ s. (name : List ℕ) → in_both has w m name ≡ true → HasMove has ends_of divided name (inside_to s (ends_of w)))
  pub behind : (name : List ℕ) → in_both has w m name ≡ true → HasMove has ends_of divided name (behind_to by.behind (ends_of w))
  pub outside : (name : List ℕ) → in_first has w m name ≡ true → HasMove has ends_of divided name (ends_of w)

-- the moves, with this flag
abbrev pub copied : Bool → StateMoves → StateMoves
copied last moves = record moves { last = last }

-- a right of the state's point has a move, and the state has one
pub record IsClash {M : Type 0} (moves_in : StateMoves → List M) (b : Automaton) (l : OverApproximation) (c : Clash) : Type 0 where
  pub state : state_number c.state < length l.points.items
  pub number : c.number < length (moves_in (moves_at l.over c.state))
  pub right : Contains (point_at l.points.items (state_number c.state)).rights c.right
  pub taken : c.taken < length (moves_in (moves_at b c.right))

-- the same by the kind of the moves
abbrev pub IsClashOf : MoveKind → Automaton → OverApproximation → Clash → Type 0
IsClashOf Label b l c = IsClash (λ moves. moves.labels) b l c
IsClashOf Text b l c = IsClash (λ moves. moves.texts) b l c
