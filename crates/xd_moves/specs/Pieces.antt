-- Pieces of types, by nodes: a node, or the star of the repetition that it is.
use Rattle.std.specs.Prelude.{◌≡◌, ℕ, ◌<◌, cond, List, length, get_or}
use Rattle.xd_syntax.specs.Tree.{Tree, Empty, Text, Words, Name, Elem, Seq, Alt, Star, Plus, Opt, Val}
use Rattle.xd_syntax.specs.Table.{Row, tree_at}
use Rattle.xd_moves.specs.Codes.{number_at}
use Rattle.xd_moves.specs.declared.firsts.FirstPieces.{FirstPieces}
use Rattle.xd_moves.specs.declared.piece.Piece.{Piece}

-- the star of what `+` repeats; every other type stays
abbrev pub turns_of : Tree → Tree
turns_of (Plus T) = Star T
turns_of Empty = Empty
turns_of Text = Text
turns_of (Words w) = (Words w)
turns_of (Name x) = Name x
turns_of (Elem c T) = Elem c T
turns_of (Seq T U) = Seq T U
turns_of (Alt T U) = Alt T U
turns_of (Star T) = Star T
turns_of (Opt T) = Opt T
turns_of (Val x T) = Val x T

-- the type that a piece is
abbrev pub piece_tree : List Row → Piece → Tree
piece_tree types p = cond p.is_turns (turns_of (tree_at types p.node)) (tree_at types p.node)

abbrev pub piece_number : FirstPieces → Piece → ℕ
piece_number f p = cond p.is_turns (number_at f.turns.items p.node) (number_at f.numbers.items p.node)

-- the piece that stands for this one
abbrev pub first_piece : FirstPieces → Piece → Piece
first_piece f p = get_or f.firsts.items (piece_number f p) p

-- each piece of the types has one that stands for it: one of the same type, and the same one for
-- all of that type
pub record AreFirst (types : List Row) (f : FirstPieces) : Type 0 where
  pub numbers : length f.numbers.items ≡ length types
  pub turns : length f.turns.items ≡ length types
  pub within : (p : Piece) → p.node < length types → piece_number f p < length f.firsts.items
  pub there : (p : Piece) → p.node < length types → (first_piece f p).node < length types
  pub same : (p : Piece) → p.node < length types → piece_tree types (first_piece f p) ≡ piece_tree types p
  pub one : (p q : Piece) → p.node < length types → q.node < length types → piece_tree types p ≡ piece_tree types q → first_piece f p ≡ first_piece f q

-- the piece stands for some
abbrev pub IsFirst : List Row → FirstPieces → Piece → Type 0
IsFirst types f p = (q : Piece) × (q.node < length types) × (p ≡ first_piece f q)
