-- The states of pieces alone, which all others are come to from.
use Rattle.std.specs.Prelude.{◌≡◌, ℕ, ◌-◌, ◌≤◌, true, false, List, [], ◌∷◌, length, Some}
use Rattle.std.specs.List.{AllByRecursion, slice_get}
use Rattle.xd_syntax.specs.Tree.{Definitions}
use Rattle.xd_syntax.specs.declared.types.TypeId.{TypeId}
use Rattle.xd_syntax.specs.declared.patterns.PatternId.{PatternId}
use Rattle.xd_auto.specs.declared.auto.State.{State}
use Rattle.xd_auto.specs.Automaton.{Automaton, state_number}
use Rattle.xd_meaning.specs.KeptFaults.{AllPaired}
use Rattle.xd_pattern_runs.specs.Linear.{IsLinear}
use Rattle.xd_continuations.specs.Chains.{list_at}
use Rattle.xd_continuations.specs.declared.links.Link.{Link}
use Rattle.xd_patterns.specs.declared.chains.Piece.{Piece}
use Rattle.xd_patterns.specs.Pieces.{IsPieceOf, node_piece}
use Rattle.xd_patterns.specs.Tasks.{Tables, rows_of, piece_part, IsPiece, ArePieces}
use Rattle.xd_patterns.specs.Compiling.{AddsStates}
use Rattle.xd_patterns.specs.Marked.{Marking}
use Rattle.xd_patterns.specs.CompiledState.{IsCompiledState}

-- a type, and a pattern, outside of all binders
abbrev pub type_piece : TypeId → Piece
type_piece id = node_piece false id.at 0

abbrev pub pattern_piece : PatternId → Piece
pattern_piece id = node_piece true id.at 0

-- the piece is one of its table, outside of all binders, and linear
pub record CanStart (t : Tables) (q : Piece) : Type 0 where
  pub piece : IsPieceOf (rows_of t q.of_pattern) q
  pub outside : q.marks ≡ 0
  pub linear : IsLinear (piece_part t q)

-- the state is that of the list of the piece alone
pub record StandsAlone (c : List (Link Piece)) (base : ℕ) (states : List ℕ) (q : Piece) (s : State) : Type 0 where
  pub number : ℕ
  pub within : number ≤ length c
  pub list : list_at c number ≡ q ∷ []
  pub after : base ≤ state_number s
  pub there : slice_get states (state_number s - base) ≡ Some number

-- there are lists and states for these pieces alone, and no others; the states have no moves yet
pub record AddsStarts (base : ℕ) (qs : List Piece) (c : List (Link Piece)) (states : List ℕ) (old new : Automaton) (starts : List State) : Type 0 where
  pub pieces : (t : Tables) (m : List (Link ℕ)) → AllByRecursion (IsPiece t m) qs → ArePieces t m c
  pub bounded : AllByRecursion (λ n. n ≤ length c) states
  pub adds : AddsStates base [] states old new
  pub alone : AllPaired (StandsAlone c base states) qs starts

-- the state is that of the piece's part
abbrev pub IsPieceState : Definitions → Tables → Automaton → Marking → Piece → State → Type 0
IsPieceState E t a k q s = IsCompiledState E (piece_part t q) a k s
