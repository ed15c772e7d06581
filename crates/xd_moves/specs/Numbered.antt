-- Nodes that are numbered one after the other.
use Rattle.std.specs.Prelude.{◌≡◌, ℕ, ◌<◌, ◌⊎◌, cond, List, [], ◌∷◌, ◌++◌, length, Some}
use Rattle.std.specs.List.{slice_get}
use Rattle.xd_syntax.specs.Nodes.{row_at}
use Rattle.xd_syntax.specs.Table.{Row, Form}
use Rattle.xd_moves.specs.Codes.{form_code, number_at, turn_form}
use Rattle.xd_moves.specs.Lists.{HasNumber}
use Rattle.xd_moves.specs.declared.firsts.FirstPieces.{FirstPieces}
use Rattle.xd_moves.specs.declared.piece.Piece.{Piece}

-- the form of the type that a piece is
abbrev pub piece_form : List Row → Piece → Form
piece_form types p = cond p.is_turns (turn_form (row_at types p.node).form) (row_at types p.node).form

-- There are as many first pieces as lists: either none came, or this one came after the others,
-- and its position is its number.
pub record AddsFirst (old new : List Piece) (lists : ℕ) (piece : Piece) (number : ℕ) : Type 0 where
  pub added : (new ≡ old) ⊎ ((new ≡ old ++ piece ∷ []) × (number ≡ length old))
  pub count : length new ≡ lists

-- each number's first piece has it, and is of one of the first n nodes
abbrev pub HaveNumbers : List Row → List ℕ → ℕ → List (List ℕ) → List Piece → Type 0
HaveNumbers types numbers n lists firsts = (k : ℕ) (p : Piece) → slice_get firsts k ≡ Some p → (p.node < n) × HasNumber lists (form_code (number_at numbers) (piece_form types p)) k

-- the first n nodes, and the stars of those that are repetitions, have the numbers of their codes,
-- and each number has its first piece
pub record AreNumbered (types : List Row) (n : ℕ) (lists : List (List ℕ)) (numbers turns : List ℕ) (firsts : List Piece) : Type 0 where
  pub each : length numbers ≡ n
  pub turned : length turns ≡ n
  pub count : length firsts ≡ length lists
  pub codes : (j : ℕ) → j < n → HasNumber lists (form_code (number_at numbers) (row_at types j).form) (number_at numbers j)
  pub turn_codes : (j : ℕ) → j < n → HasNumber lists (form_code (number_at numbers) (turn_form (row_at types j).form)) (number_at turns j)
  pub first : HaveNumbers types numbers n lists firsts

abbrev pub AreNumberedBy : List Row → ℕ → List (List ℕ) → FirstPieces → Type 0
AreNumberedBy types n lists f = AreNumbered types n lists f.numbers.items f.turns.items f.firsts.items
