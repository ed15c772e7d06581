-- Interned continuations: each cell is a piece and an older cell.
use Rattle.std.specs.Prelude.{ℕ, zero, suc, true, false, List, [], ◌∷◌}
use Rattle.std.specs.List.{AllByRecursion}
use Rattle.xd_continuations.specs.Chains as chains
use Rattle.xd_continuations.specs.declared.links.Link.{Link}
use Rattle.xd_moves.specs.declared.piece.Piece.{Piece}

abbrev pub Cell : Type 0
Cell = Link Piece

-- the pieces of the first n nodes
abbrev pub pieces_below : ℕ → List Piece
pieces_below zero = []
pieces_below (suc n) = record { node = n; is_turns = false } ∷ (record { node = n; is_turns = true } ∷ pieces_below n)

-- how many continuations of at most so many of these pieces there are
abbrev pub room : ℕ → ℕ → ℕ
room n most = chains.room (pieces_below n) most

-- each piece is chosen
abbrev pub AreChosen : (Piece → Type 0) → List Cell → Type 0
AreChosen P cells = AllByRecursion (λ (c : Cell). P c.item) cells

-- where the pieces of the old cells are chosen, so are those of the new ones
abbrev pub StayChosen : (Piece → Type 0) → List Cell → List Cell → Type 0
StayChosen P old new = AreChosen P old → AreChosen P new
