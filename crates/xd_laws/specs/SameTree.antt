-- Whether two types are the same tree.
use Rattle.std.specs.Prelude.{Bool, true, false, not, cond, ◌&&◌}
use Rattle.std.specs.Str.{bytes_eq}
use Rattle.std.specs.Cmp.Lexicographic.{pointwise}
use Rattle.xd_doc.specs.Classes.{LabelClass}
use Rattle.xd_syntax.specs.Tree.{Tree, Empty, Text, Words, Name, Elem, Seq, Alt, Star, Plus, Opt, Val}

-- classes by their names in order
abbrev pub same_class : LabelClass → LabelClass → Bool
same_class c e = cond c.except e.except (not e.except) && pointwise bytes_eq c.names e.names

-- types by their forms, and names and variables by their words
abbrev pub same_tree : Tree → Tree → Bool
same_tree Empty Empty = true
same_tree Text Text = true
same_tree (Words v) (Words w) = same_class v w
same_tree (Name x) (Name y) = bytes_eq x y
same_tree (Elem c T) (Elem e U) = same_class c e && same_tree T U
same_tree (Seq T U) (Seq S R) = same_tree T S && same_tree U R
same_tree (Alt T U) (Alt S R) = same_tree T S && same_tree U R
same_tree (Star T) (Star U) = same_tree T U
same_tree (Plus T) (Plus U) = same_tree T U
same_tree (Opt T) (Opt U) = same_tree T U
same_tree (Val x T) (Val y U) = bytes_eq x y && same_tree T U
same_tree _ _ = false
