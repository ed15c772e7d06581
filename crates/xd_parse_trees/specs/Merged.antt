-- How parts become one node: sequences and alternatives are merged, and the names of a class are
-- put in order.
use Rattle.std.specs.Prelude.{ℕ, Bool, List, [], ◌∷◌, flat_map}
use Rattle.xd_base.specs.declared.Place.{Place}
use Rattle.xd_doc.specs.Classes.{LabelClass}
use Rattle.xd_doc.specs.ByteOrder.{in_byte_order}
use Rattle.xd_syntax.specs.Placed.{PlacedTree, Empty_at, Seq_at, Alt_at, place_of, placed_seq, placed_alt}
use Rattle.xd_syntax.specs.Expression.{Expression, Nothing, Joined, place_of_expression, joined}

-- the parts that a tree is as a part of a sequence: none where it is empty
abbrev pub parts_of_seq : PlacedTree → List PlacedTree
parts_of_seq (Empty_at p) = []
parts_of_seq (Seq_at p T U) = T ∷ parts_of_seq U
parts_of_seq T = T ∷ []

-- the parts that a tree is as a branch of an alternative
abbrev pub parts_of_alt : PlacedTree → List PlacedTree
parts_of_alt (Alt_at p T U) = T ∷ parts_of_alt U
parts_of_alt T = T ∷ []

-- The sequence of parts that are merged. It has the place of its first part; where nothing is left
-- it is empty, at the place given.
abbrev pub merged_seq : Place → List PlacedTree → PlacedTree
merged_seq p [] = Empty_at p
merged_seq p (T ∷ Ts) = placed_seq (place_of T) (T ∷ Ts)

-- one part and those after it; one part alone stays what it is
abbrev pub sequence : PlacedTree → List PlacedTree → PlacedTree
sequence T [] = T
sequence T (U ∷ Us) = merged_seq (place_of T) (flat_map parts_of_seq (T ∷ (U ∷ Us)))

-- one branch and those after it; one branch alone stays what it is
abbrev pub alternative : PlacedTree → List PlacedTree → PlacedTree
alternative T [] = T
alternative T (U ∷ Us) = placed_alt (place_of T) (flat_map parts_of_alt (T ∷ (U ∷ Us)))

-- the parts that an expression is as a part of a sequence: none where it is empty
abbrev pub parts_of_expression : Expression → List Expression
parts_of_expression (Nothing p) = []
parts_of_expression (Joined p e f) = e ∷ parts_of_expression f
parts_of_expression e = e ∷ []

-- The sequence of expressions that are merged, at the place of its first; where nothing is left it
-- is empty, at the place given.
abbrev pub merged_expression : Place → List Expression → Expression
merged_expression p [] = Nothing p
merged_expression p (e ∷ es) = joined (place_of_expression e) (e ∷ es)

-- one expression and those after it; one alone stays what it is
abbrev pub sequence_of_expressions : Expression → List Expression → Expression
sequence_of_expressions e [] = e
sequence_of_expressions e (f ∷ fs) =
    merged_expression (place_of_expression e) (flat_map parts_of_expression (e ∷ (f ∷ fs)))

-- these labels or texts, or all but these
abbrev pub class_of : (except : Bool) → List (List ℕ) → LabelClass
class_of except ws = record { names = in_byte_order ws; except = except }
