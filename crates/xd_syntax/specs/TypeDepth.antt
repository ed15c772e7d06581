-- How many brackets and parentheses the canonical text of a type opens at once.
use Rattle.std.specs.Prelude.{ℕ, ◌+◌, max, Bool, cond, List, [], ◌∷◌}
use Rattle.xd_syntax.specs.Tree.{Tree, Empty, Words, Elem, Seq, Alt, Star, Plus, Opt, Val, is_empty}
use Rattle.xd_syntax.specs.TypeText.{Level, any_type_level, sequence_level, postfix_level, primary_level, alternative_wants, sequence_wants, postfix_wants}

-- one deeper, where parentheses are wanted
abbrev pub deeper : Bool → ℕ → ℕ
deeper b n = cond b (n + 1) n

-- a list of more than one stands in parentheses
abbrev pub list_depth : List (List ℕ) → ℕ
list_depth (s ∷ (t ∷ ts)) = 1
list_depth _ = 0

-- how many brackets and parentheses are open at most, the class lists' too
abbrev pub depth_at_level : Level → Tree → ℕ
depth_at_level v Empty = 1
depth_at_level v (Words w) = list_depth w.names
depth_at_level v (Elem c T) = cond (is_empty T) 0 (depth_at_level any_type_level T) + 1
depth_at_level v (Seq T U) =
    deeper (sequence_wants v) (max (depth_at_level postfix_level T) (depth_at_level sequence_level U))
depth_at_level v (Alt T U) =
    deeper (alternative_wants v) (max (depth_at_level sequence_level T) (depth_at_level any_type_level U))
depth_at_level v (Star T) = deeper (postfix_wants v) (depth_at_level primary_level T)
depth_at_level v (Plus T) = deeper (postfix_wants v) (depth_at_level primary_level T)
depth_at_level v (Opt T) = deeper (postfix_wants v) (depth_at_level primary_level T)
depth_at_level v (Val x T) = depth_at_level v T
depth_at_level v _ = 0

-- that of the canonical text of a type
abbrev pub depth : Tree → ℕ
depth T = depth_at_level any_type_level T
