-- Names that may be given to types.
use Rattle.std.specs.Prelude.{◌≡◌, ℕ, true, false, List, [], ◌∷◌}
use Rattle.std.specs.List.{AllByRecursion}
use Rattle.xd_syntax.specs.Words.{any_word, has_word}
use Rattle.xd_syntax.specs.Keywords.{is_type_name}

-- no word stands twice
abbrev pub AreDistinct : List (List ℕ) → Type 0
AreDistinct [] = Unit {0}
AreDistinct (w ∷ ws) = (has_word ws w ≡ false) × AreDistinct ws

-- each may name a type, none is `Any`, and none stands twice
pub record AreNewNames (words : List (List ℕ)) : Type 0 where
  pub proper : AllByRecursion (λ w. is_type_name w ≡ true) words
  pub not_any : has_word words any_word ≡ false
  pub distinct : AreDistinct words
