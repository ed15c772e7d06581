-- What a piece of a table of nodes stands for.
use Rattle.std.specs.Prelude.{◌≡◌, ℕ, zero, suc, ◌+◌, ◌<◌, ◌≤◌, nat_eq, cond, Bool, true, false, List, [], length, get_or, drop, map}
use Rattle.xd_syntax.specs.Tree.{Tree, Empty, Text, Words, Name, Elem, Seq, Alt, Star, Plus, Opt, Val, seq_of}
use Rattle.xd_syntax.specs.TreeForms.{alt_of}
use Rattle.xd_syntax.specs.Table.{Row, Form, empty_form, seq_form, alt_form, plus_form, val_form, tree_at}
use Rattle.xd_patterns.specs.declared.chains.Piece.{Piece}
use Rattle.xd_patterns.specs.declared.pieces.View.{View}
use Rattle.xd_patterns.specs.declared.pieces.View.TheVariants as V

abbrev pub no_row : Row
no_row = record { place = record { line = 1; column = 1 }; form = empty_form }

-- the form of a node
abbrev pub form_at : List Row → ℕ → Form
form_at rows i = (get_or rows i no_row).form

-- a sequence or an alternative without its first parts, where the parts have these trees
abbrev pub form_rest : (ℕ → Tree) → ℕ → Form → Tree
form_rest t n (seq_form is) = seq_of (map t (drop n is))
form_rest t n (alt_form is) = alt_of (map t (drop n is))
form_rest t n f = Empty

-- the star of a repetition of at least one turn
abbrev pub form_turns : (ℕ → Tree) → Form → Tree
form_turns t (plus_form i) = Star (t i)
form_turns t f = Empty

-- the part of a pattern or of a type that a piece is
abbrev pub part_from : List Row → Bool → ℕ → ℕ → Tree
part_from rows false zero i = tree_at rows i
part_from rows false (suc n) i = form_rest (tree_at rows) (suc n) (form_at rows i)
part_from rows true n i = form_turns (tree_at rows) (form_at rows i)

abbrev pub part_of : List Row → Piece → Tree
part_of rows q = part_from rows q.is_turns q.from q.node

-- a sequence or an alternative has two parts or more from there on
abbrev pub HasRest : ℕ → Form → Type 0
HasRest n (seq_form is) = n + 2 ≤ length is
HasRest n (alt_form is) = n + 2 ≤ length is
HasRest n f = ⊥

abbrev pub HasTurns : Form → Type 0
HasTurns (plus_form i) = Unit {0}
HasTurns f = ⊥

abbrev pub IsFormPart : Bool → ℕ → Form → Type 0
IsFormPart false zero f = Unit {0}
IsFormPart false (suc n) f = HasRest (suc n) f
IsFormPart true zero f = HasTurns f
IsFormPart true (suc n) f = ⊥

-- the piece is one of the table
pub record IsPieceOf (rows : List Row) (q : Piece) : Type 0 where
  pub there : q.node < length rows
  pub part : IsFormPart q.is_turns q.from (form_at rows q.node)

-- the variable that a node binds
abbrev pub variable_of : Form → List ℕ
variable_of (val_form x p i) = x
variable_of _ = []

abbrev pub IsBinderForm : Form → Type 0
IsBinderForm (val_form x p i) = Unit {0}
IsBinderForm f = ⊥

-- the node binds a variable
abbrev pub IsBinder : List Row → ℕ → Type 0
IsBinder rows i = (i < length rows) × IsBinderForm (form_at rows i)

-- a piece of the same table, with these marks
pub record IsLike (rows : List Row) (of_pattern : Bool) (marks : ℕ) (q : Piece) : Type 0 where
  pub source : q.of_pattern ≡ of_pattern
  pub marked : q.marks ≡ marks
  pub piece : IsPieceOf rows q

-- a node of a table as a piece
abbrev pub node_piece : Bool → ℕ → ℕ → Piece
node_piece of_pattern i marks = record { of_pattern = of_pattern; node = i; from = 0; is_turns = false; marks = marks }

-- the parts after the first of those that the piece has, where the node has so many, the last of
-- them with this number
abbrev pub rest_piece : Piece → ℕ → ℕ → Piece
rest_piece p count last =
    cond (nat_eq (p.from + 2) count) (record { of_pattern = p.of_pattern; node = last; from = 0; is_turns = false; marks = p.marks })
    (record { of_pattern = p.of_pattern; node = p.node; from = p.from + 1; is_turns = p.is_turns; marks = p.marks })

-- the view shows what the piece is
abbrev pub Sees : List Row → Piece → View → Type 0
Sees rows p V.Empty = part_of rows p ≡ Empty
Sees rows p V.Text = part_of rows p ≡ Text
Sees rows p (V.Words w) = part_of rows p ≡ Words w.now
Sees rows p (V.Name y) = part_of rows p ≡ Name y.now
Sees rows p (V.Elem c q) = (part_of rows p ≡ Elem c.now (part_of rows q)) × IsLike rows p.of_pattern 0 q
Sees rows p (V.Seq q r) = (part_of rows p ≡ Seq (part_of rows q) (part_of rows r)) × IsLike rows p.of_pattern p.marks q × IsLike rows p.of_pattern p.marks r
Sees rows p (V.Alt q r) = (part_of rows p ≡ Alt (part_of rows q) (part_of rows r)) × IsLike rows p.of_pattern p.marks q × IsLike rows p.of_pattern p.marks r
Sees rows p (V.Star q) = (part_of rows p ≡ Star (part_of rows q)) × IsLike rows p.of_pattern p.marks q
Sees rows p (V.Plus q r) = (part_of rows p ≡ Plus (part_of rows q)) × (part_of rows r ≡ Star (part_of rows q)) × IsLike rows p.of_pattern p.marks q × IsLike rows p.of_pattern p.marks r
Sees rows p (V.Opt q) = (part_of rows p ≡ Opt (part_of rows q)) × IsLike rows p.of_pattern p.marks q
Sees rows p (V.Val q) = (part_of rows p ≡ Val (variable_of (form_at rows p.node)) (part_of rows q)) × IsLike rows p.of_pattern p.marks q × (p.of_pattern ≡ true) × IsBinder rows p.node
