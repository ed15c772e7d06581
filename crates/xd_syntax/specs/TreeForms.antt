-- Forms of trees, and their size.
use Rattle.std.specs.Prelude.{ℕ, ◌+◌, Bool, true, false, List, [], ◌∷◌}
use Rattle.xd_syntax.specs.Tree.{Alt, Elem, Empty, Opt, Plus, Seq, Star, Tree, Val}

-- how many nodes the tree has
abbrev pub size : Tree → ℕ
size (Elem c T) = size T + 1
size (Seq T U) = size T + size U + 1
size (Alt T U) = size T + size U + 1
size (Star T) = size T + 1
size (Plus T) = size T + 1
size (Opt T) = size T + 1
size (Val x T) = size T + 1
size _ = 1

abbrev pub alt_of : List Tree → Tree
alt_of [] = Empty
alt_of (t ∷ []) = t
alt_of (t ∷ (u ∷ us)) = Alt t (alt_of (u ∷ us))

abbrev pub is_seq : Tree → Bool
is_seq (Seq T U) = true
is_seq _ = false

abbrev pub is_alt : Tree → Bool
is_alt (Alt T U) = true
is_alt _ = false
