-- The continuations of an automaton's states, and what their flags and their moves are.
use Rattle.std.specs.Prelude.{◌≡◌, ℕ, ◌≤◌, Bool, List, [], ◌∷◌, length, Option, Some, None}
use Rattle.std.specs.List.{AllByRecursion}
use Rattle.xd_syntax.specs.Tree.{Tree, seq_of}
use Rattle.xd_syntax.specs.Table.{Row}
use Rattle.xd_syntax.specs.TypeDepth.{depth}
use Rattle.xd_syntax.specs.ShallowTables.{IsShallow}
use Rattle.xd_syntax.specs.Shallow.{nesting_limit}
use Rattle.xd_meaning.specs.CanBeEmpty.{can_be_empty}
use Rattle.xd_syntax.specs.Program.{names_of}
use Rattle.xd_syntax.specs.Kept.{ProgramTable, AddsTypes, program_tree}
use Rattle.xd_auto.specs.Automaton.{Automaton, moves_at, state_number}
use Rattle.xd_auto.specs.declared.auto.State.{State}
use Rattle.xd_auto.specs.declared.auto.LabelMove.{LabelMove}
use Rattle.xd_auto.specs.declared.auto.TextMove.{TextMove}
use Rattle.xd_rules.specs.Heads.{Head, element_in, text_in}
use Rattle.xd_meaning.specs.Heads.{heads}
use Rattle.xd_continuations.specs.Continuation.{IsContinuation}
use Rattle.xd_moves.specs.Found.{continuation, AreBounded, AreOfTypes}
use Rattle.xd_heads.specs.Sorts.{sorts_of, row_at}
use Rattle.xd_heads.specs.States.{IsOfCell, number_at, nodes_in}
use Rattle.xd_heads.specs.Compiled.{continuations_of}
use Rattle.xd_heads.specs.CellsView.{CellsView}

abbrev pub as_type : Option (List Tree) → Option Tree
as_type None = None
as_type (Some K) = Some (seq_of K)

-- the continuation of a state, as a type
abbrev pub continuation_of : List Row → CellsView → State → Option Tree
continuation_of types c s = as_type (continuations_of types c.cells c.states s)

-- the state has a continuation
abbrev pub IsTypeState : CellsView → State → Type 0
IsTypeState c s = (n : ℕ) × (number_at c.states (state_number s) ≡ Some n)

-- which heads of the state's type are texts
abbrev pub sorts_at : CellsView → State → List Bool
sorts_at c s = row_at c.sorts (state_number s)

-- each state keeps its continuation
pub record KeepsStates (old_types new_types : List Row) (old new : CellsView) : Type 0 where
  pub types : (s : State) (T : Tree) → continuation_of old_types old s ≡ Some T → continuation_of new_types new s ≡ Some T

-- The moves on an element are, in order, the heads that are elements, and those on a text the heads
-- that are texts: each has the head's class, and leads to states whose continuations are the head's
-- content and the head's rest.
pub data AreHeadMoves (C : State → Option Tree) : List (Head Tree) → List LabelMove → List TextMove → Type 0 where
  no_head : AreHeadMoves C [] [] []
  element_head : {h : Head Tree} {hs : List (Head Tree)} {l : LabelMove} {ls : List LabelMove} {ts : List TextMove} →
      h.kind ≡ element_in l.class → C l.content ≡ Some h.content → C l.rest ≡ Some h.rest → AreHeadMoves C hs ls ts → AreHeadMoves C (h ∷ hs) (l ∷ ls) ts
  text_head : {h : Head Tree} {hs : List (Head Tree)} {ls : List LabelMove} {t : TextMove} {ts : List TextMove} →
      h.kind ≡ text_in t.words → C t.rest ≡ Some h.rest → AreHeadMoves C hs ls ts → AreHeadMoves C (h ∷ hs) ls (t ∷ ts)

-- the continuations that are kept are lists of pieces of the program's types, and short enough for
-- the next compilation to end
pub record AreKeptCells (p : ProgramTable) (c : CellsView) : Type 0 where
  pub numbers : AllByRecursion (IsOfCell (length c.cells)) c.states
  pub rows : length c.sorts ≡ length c.states
  pub nodes : AreOfTypes p.types c.cells
  pub pieces : (n k : ℕ) → number_at c.states n ≡ Some k → IsContinuation (continuation p.types c.cells k)
  pub bounded : AreBounded (names_of (program_tree p)) (nodes_in p.types) p.types c.cells

-- Cells mirror an automaton on a program: each state has a continuation, which is no deeper than a
-- text may be nested, where the program's types are not; the state's flag says whether the
-- continuation can be empty; its moves are the continuation's heads; and the cells know which of
-- these are texts.
pub record Mirrors (p : ProgramTable) (c : CellsView) (a : Automaton) : Type 0 where
  pub states : length a ≡ length c.states
  pub shallow : IsShallow p.types → (s : State) (T : Tree) → continuation_of p.types c s ≡ Some T → depth T ≤ nesting_limit
  pub flags : (s : State) (T : Tree) → continuation_of p.types c s ≡ Some T → (moves_at a s).last ≡ can_be_empty (names_of (program_tree p)) T
  pub moves : (s : State) (T : Tree) → continuation_of p.types c s ≡ Some T →
      AreHeadMoves (continuation_of p.types c) (heads (names_of (program_tree p)) T) (moves_at a s).labels (moves_at a s).texts
  pub sorts : (s : State) (T : Tree) → continuation_of p.types c s ≡ Some T → sorts_at c s ≡ sorts_of (heads (names_of (program_tree p)) T)
  pub kept : AreKeptCells p c

-- what mirrors an automaton goes on to mirror it while types are added to the program
abbrev pub MirrorsStay : Type 0
MirrorsStay = (p q : ProgramTable) (c : CellsView) (a : Automaton) → Mirrors p c a → AddsTypes p q → program_tree q ≡ program_tree p → Mirrors q c a
