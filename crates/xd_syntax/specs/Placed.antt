-- Types and patterns with the place of each node.
use Rattle.std.specs.Prelude.{ℕ, List, [], ◌∷◌}
use Rattle.xd_base.specs.declared.Place.{Place}
use Rattle.xd_doc.specs.Classes.{LabelClass, TextClass}
use Rattle.xd_syntax.specs.Tree.{Tree, Empty, Text, Words, Name, Elem, Seq, Alt, Star, Plus, Opt, Val, occurrences}

-- Each node has its place first. A variable has the place of its word besides.
pub data PlacedTree : Type 0 where
  Empty_at : Place → PlacedTree
  Text_at : Place → PlacedTree
  Words_at : Place → (texts : TextClass) → PlacedTree
  Name_at : Place → (word : List ℕ) → PlacedTree
  Elem_at : Place → (class : LabelClass) (content : PlacedTree) → PlacedTree
  Seq_at : Place → (first rest : PlacedTree) → PlacedTree
  Alt_at : Place → (first rest : PlacedTree) → PlacedTree
  Star_at : Place → (part : PlacedTree) → PlacedTree
  Plus_at : Place → (part : PlacedTree) → PlacedTree
  Opt_at : Place → (part : PlacedTree) → PlacedTree
  Val_at : Place → (variable : List ℕ) (word : Place) (part : PlacedTree) → PlacedTree

-- the place of the node
abbrev pub place_of : PlacedTree → Place
place_of (Empty_at p) = p
place_of (Text_at p) = p
place_of (Words_at p w) = p
place_of (Name_at p x) = p
place_of (Elem_at p c T) = p
place_of (Seq_at p T U) = p
place_of (Alt_at p T U) = p
place_of (Star_at p T) = p
place_of (Plus_at p T) = p
place_of (Opt_at p T) = p
place_of (Val_at p x q T) = p

-- the tree, places aside
abbrev pub unplaced : PlacedTree → Tree
unplaced (Empty_at p) = Empty
unplaced (Text_at p) = Text
unplaced (Words_at p w) = Words w
unplaced (Name_at p x) = Name x
unplaced (Elem_at p c T) = Elem c (unplaced T)
unplaced (Seq_at p T U) = Seq (unplaced T) (unplaced U)
unplaced (Alt_at p T U) = Alt (unplaced T) (unplaced U)
unplaced (Star_at p T) = Star (unplaced T)
unplaced (Plus_at p T) = Plus (unplaced T)
unplaced (Opt_at p T) = Opt (unplaced T)
unplaced (Val_at p x q T) = Val x (unplaced T)

-- The node of a list of parts. What stands after the first part has the place of the second.
abbrev pub placed_seq : Place → List PlacedTree → PlacedTree
placed_seq p [] = Empty_at p
placed_seq p (t ∷ []) = t
placed_seq p (t ∷ (u ∷ us)) = Seq_at p t (placed_seq (place_of u) (u ∷ us))

-- the same of the parts of an alternative
abbrev pub placed_alt : Place → List PlacedTree → PlacedTree
placed_alt p [] = Empty_at p
placed_alt p (t ∷ []) = t
placed_alt p (t ∷ (u ∷ us)) = Alt_at p t (placed_alt (place_of u) (u ∷ us))

-- the variables of a pattern, one for each occurrence, in order
abbrev pub variables : PlacedTree → List (List ℕ)
variables T = occurrences (unplaced T)
