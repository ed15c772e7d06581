-- States of lists of pieces, while they are made.
use Rattle.std.specs.Prelude.{◌≡◌, ℕ, ◌+◌, ◌-◌, ◌<◌, ◌≤◌, ◌⊎◌, nat_lt, false, cond, List, [], ◌∷◌, ◌++◌, map, length, get_or, Option, Some, None}
use Rattle.std.specs.List.{AllByRecursion, slice_get}
use Rattle.xd_doc.specs.Classes.{LabelClass, TextClass}
use Rattle.xd_syntax.specs.Tree.{Definitions}
use Rattle.xd_auto.specs.declared.auto.State.{State}
use Rattle.xd_auto.specs.declared.auto.LabelMove.{LabelMove}
use Rattle.xd_auto.specs.declared.auto.TextMove.{TextMove}
use Rattle.xd_auto.specs.Automaton.{Automaton, StateMoves, IsState, moves_at, no_moves, state_number, with_text_move, with_label_move}
use Rattle.xd_pattern_runs.specs.Alike.{Alike}
use Rattle.xd_pattern_runs.specs.Runs as Runs
use Rattle.xd_pattern_runs.specs.Runs.{Continuation, Choice, choices, has_stop, texts_of, elements_of}
use Rattle.xd_pattern_runs.specs.Mirrors.{Ahead, SameText, SameElement}
use Rattle.xd_patterns.specs.Tasks.{Tables, words_at, continuation, ArePieces, choice_at, Adds}
use Rattle.xd_patterns.specs.Marked.{Marking, marked_text, marked_label}
use Rattle.xd_continuations.specs.declared.links.Link.{Link}
use Rattle.xd_patterns.specs.declared.chains.Piece.{Piece}
use Rattle.xd_patterns.specs.declared.expand.Found.{Found}
use Rattle.xd_patterns.specs.declared.compile.StateMarks.{StateMarks}
use Rattle.xd_patterns.specs.declared.compile.Lists.{Lists}
use Rattle.xd_patterns.specs.declared.compile.Target.{Target}

-- the states from the base on are those of the lists with these numbers
abbrev pub stands : Tables → List (Link ℕ) → List (Link Piece) → Option ℕ → Option Continuation
stands t m c None = None
stands t m c (Some n) = Some (continuation t m c n)

abbrev pub standing : Tables → List (Link ℕ) → List (Link Piece) → ℕ → List ℕ → Ahead State
standing t m c base states s = cond (nat_lt (state_number s) base) None (stands t m c (slice_get states (state_number s - base)))

-- the state is that of the list with this number; if there was none, it is new
pub record FindsState (number base : ℕ) (old new : List ℕ) (old_auto new_auto : Automaton) (s : State) : Type 0 where
  pub added : ((new ≡ old) × (new_auto ≡ old_auto)) ⊎ ((new ≡ old ++ number ∷ []) × (new_auto ≡ old_auto ++ no_moves false ∷ []))
  pub after : base ≤ state_number s
  pub there : slice_get new (state_number s - base) ≡ Some number
  pub belongs : IsState new_auto s
  pub count : length new_auto ≡ base + length new

-- numbers are added, and with each a state without moves
pub record AddsStates (base : ℕ) (old new : List ℕ) (old_auto new_auto : Automaton) : Type 0 where
  pub more : List ℕ
  pub grown : new ≡ old ++ more
  pub count : length new_auto ≡ base + length new
  pub longer : length old_auto ≤ length new_auto
  pub moves : (s : State) → moves_at new_auto s ≡ moves_at old_auto s

-- states come after the others, and those below the base stay as they were
pub record Spares (base : ℕ) (old new : Automaton) : Type 0 where
  pub states : (s : State) → IsState old s → IsState new s
  pub stay : (s : State) → state_number s < base → moves_at new s ≡ moves_at old s

-- the lists with these numbers have the states from the base on, and their pieces are of these
-- tables
pub record HaveStates (t : Tables) (m : List (Link ℕ)) (lists : Lists) (base : ℕ) (auto : Automaton) : Type 0 where
  pub count : length auto ≡ base + length lists.states.keys
  pub pieces : ArePieces t m lists.cells
  pub numbers : AllByRecursion (λ n. n ≤ length lists.cells) lists.states.keys

-- the state is one of those from the base on
pub record IsTarget (target : Target) (auto : Automaton) : Type 0 where
  pub from : IsState auto target.from
  pub after : target.base ≤ state_number target.from

-- a move on a text is added to a state, after its others, with its marks
pub record AddsText (marks number : ℕ) (words : TextClass) (from : State) (base : ℕ) (old new : List ℕ) (old_auto new_auto : Automaton) (texts texts' labels labels' : List ℕ) : Type 0 where
  pub made : Automaton
  pub states : AddsStates base old new old_auto made
  pub rest : State
  pub after : base ≤ state_number rest
  pub there : slice_get new (state_number rest - base) ≡ Some number
  pub auto : new_auto ≡ with_text_move made from (record { words = words; rest = rest })
  pub marked : texts' ≡ texts ++ marks ∷ []
  pub others : labels' ≡ labels
  pub bounded : (k : ℕ) → number ≤ k → AllByRecursion (λ n. n ≤ k) old → AllByRecursion (λ n. n ≤ k) new

-- the same on an element
pub record AddsElement (marks number : ℕ) (class : LabelClass) (inside : ℕ) (from : State) (base : ℕ) (old new : List ℕ) (old_auto new_auto : Automaton) (texts texts' labels labels' : List ℕ) : Type 0 where
  pub made : Automaton
  pub states : AddsStates base old new old_auto made
  pub content : State
  pub content_after : base ≤ state_number content
  pub content_there : slice_get new (state_number content - base) ≡ Some inside
  pub rest : State
  pub after : base ≤ state_number rest
  pub there : slice_get new (state_number rest - base) ≡ Some number
  pub auto : new_auto ≡ with_label_move made from (record { class = class; content = content; rest = rest })
  pub marked : labels' ≡ labels ++ marks ∷ []
  pub others : texts' ≡ texts
  pub bounded : (k : ℕ) → number ≤ k → inside ≤ k → AllByRecursion (λ n. n ≤ k) old → AllByRecursion (λ n. n ≤ k) new

-- these are the moves that were found, each with its marks
abbrev pub AreMoves : {V W N : Type 0} → Tables → List (Link ℕ) → (List (List ℕ) → V → W) → (W → N → Type 0) → List ℕ → List V → List N → Type 0
AreMoves t m marked Same [] [] [] = Unit {0}
AreMoves t m marked Same (i ∷ ids) (v ∷ vs) (n ∷ ns) = (i ≤ length m) × Same (marked (words_at t m i) v) n × AreMoves t m marked Same ids vs ns
AreMoves t m marked Same _ _ _ = ⊥

abbrev pub TextsAre : Tables → List (Link ℕ) → Ahead State → List ℕ → List TextMove → List (Runs.TextMove Continuation) → Type 0
TextsAre t m A = AreMoves t m marked_text (SameText A)

abbrev pub LabelsAre : Tables → List (Link ℕ) → Ahead State → List ℕ → List LabelMove → List (Runs.ElementMove Continuation) → Type 0
LabelsAre t m A = AreMoves t m marked_label (SameElement A)

-- what a state has is what was found
pub record HasMoves (t : Tables) (m : List (Link ℕ)) (A : Ahead State) (moves : StateMoves) (texts labels : List ℕ) (cs : List Choice) : Type 0 where
  pub last : moves.last ≡ has_stop cs
  pub text_moves : TextsAre t m A texts moves.texts (texts_of cs)
  pub label_moves : LabelsAre t m A labels moves.labels (elements_of cs)

-- lists and states are added; what other states have stays, and new states have no moves yet
pub record Grows (t : Tables) (m m' : List (Link ℕ)) (c c' : List (Link Piece)) (base : ℕ) (states states' : List ℕ) (auto auto' : Automaton) (from : State) : Type 0 where
  pub adds : Adds t m m' c c'
  pub more : List ℕ
  pub grown : states' ≡ states ++ more
  pub numbers : AllByRecursion (λ n. n ≤ length c) states → AllByRecursion (λ n. n ≤ length c') states'
  pub count : length auto' ≡ base + length states'
  pub longer : length auto ≤ length auto'
  pub moves : (s : State) → (state_number s ≡ state_number from → ⊥) → moves_at auto' s ≡ moves_at auto s

-- a state has what it had, and a choice that was found
pub record AddsMove (t : Tables) (m : List (Link ℕ)) (c c' : List (Link Piece)) (base : ℕ) (states states' : List ℕ) (auto auto' : Automaton) (from : State) (texts texts' labels labels' : List ℕ) (choice : Choice) : Type 0 where
  pub grows : Grows t m m c c' base states states' auto auto' from
  pub has : (cs : List Choice) → HasMoves t m (standing t m c base states) (moves_at auto from) texts labels cs →
      HasMoves t m (standing t m c' base states') (moves_at auto' from) texts' labels' (cs ++ choice ∷ [])

-- so many choices were added to a state
pub record IsAdding (t : Tables) (m : List (Link ℕ)) (c c' : List (Link Piece)) (base : ℕ) (states states' : List ℕ) (auto auto' : Automaton) (from : State) (texts labels : List ℕ) (found : List Found) : Type 0 where
  pub grows : Grows t m m c c' base states states' auto auto' from
  pub pieces : ArePieces t m c'
  pub bounded : AllByRecursion (λ n. n ≤ length c') states'
  pub has : HasMoves t m (standing t m c' base states') (moves_at auto' from) texts labels (map (choice_at t m c) found)

-- a state has the moves of the choices of the list with this number, where repeats may be left out
pub record Makes (E : Definitions) (t : Tables) (m m' : List (Link ℕ)) (c c' : List (Link Piece)) (base number : ℕ) (states states' : List ℕ) (auto auto' : Automaton) (from : State) (texts labels : List ℕ) : Type 0 where
  pub grows : Grows t m m' c c' base states states' auto auto' from
  pub bounded : AllByRecursion (λ n. n ≤ length c') states'
  pub pieces : ArePieces t m' c'
  pub found : List Choice
  pub alike : Alike found (choices E (continuation t m c number))
  pub has : HasMoves t m' (standing t m' c' base states') (moves_at auto' from) texts labels found

-- a state has the moves of the list that it is of
pub record IsDone (E : Definitions) (t : Tables) (m : List (Link ℕ)) (c : List (Link Piece)) (base : ℕ) (states : List ℕ) (moves : StateMoves) (i : ℕ) (texts labels : List ℕ) : Type 0 where
  pub number : ℕ
  pub there : slice_get states i ≡ Some number
  pub found : List Choice
  pub alike : Alike found (choices E (continuation t m c number))
  pub has : HasMoves t m (standing t m c base states) moves texts labels found

-- the lists of marks in the row of this number; where there is no row there are none
abbrev pub texts_at : List (List ℕ × List ℕ) → ℕ → List ℕ
texts_at rows n = (get_or rows n ([], [])).0

abbrev pub labels_at : List (List ℕ × List ℕ) → ℕ → List ℕ
labels_at rows n = (get_or rows n ([], [])).1

-- the numbers of the lists of marks, state by state
abbrev pub rows_in : List StateMarks → List (List ℕ × List ℕ)
rows_in [] = []
rows_in (r ∷ rs) = (r.texts.items, r.labels.items) ∷ rows_in rs

-- the first states, so many, have their moves, and the others none yet
pub record IsCompiling (E : Definitions) (t : Tables) (m m' : List (Link ℕ)) (c c' : List (Link Piece)) (base : ℕ) (states states' : List ℕ) (auto auto' : Automaton) (done : ℕ) (table : List (List ℕ × List ℕ)) : Type 0 where
  pub adds : Adds t m m' c c'
  pub more : List ℕ
  pub grown : states' ≡ states ++ more
  pub pieces : ArePieces t m' c'
  pub bounded : AllByRecursion (λ n. n ≤ length c') states'
  pub count : length auto' ≡ base + length states'
  pub longer : length auto ≤ length auto'
  pub old : (s : State) → state_number s < base → moves_at auto' s ≡ moves_at auto s
  pub fresh : (s : State) → base + done ≤ state_number s → moves_at auto' s ≡ no_moves false
  pub lined : length table ≡ done
  pub finished : (i : ℕ) (s : State) → i < done → state_number s ≡ base + i → IsDone E t m' c' base states' (moves_at auto' s) i (texts_at table i) (labels_at table i)

-- the lists of marks of a state's moves; old states have none
abbrev pub texts_from : ℕ → List (List ℕ × List ℕ) → State → List ℕ
texts_from base rows s = cond (nat_lt (state_number s) base) [] (texts_at rows (state_number s - base))

abbrev pub labels_from : ℕ → List (List ℕ × List ℕ) → State → List ℕ
labels_from base rows s = cond (nat_lt (state_number s) base) [] (labels_at rows (state_number s - base))

-- the marks of each state
abbrev pub marking : Tables → List (Link ℕ) → ℕ → List (List ℕ × List ℕ) → Marking
marking t m base rows s = record { texts = map (words_at t m) (texts_from base rows s); labels = map (words_at t m) (labels_from base rows s) }
