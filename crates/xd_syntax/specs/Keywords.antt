-- Words that name no type.
use Rattle.std.specs.Prelude.{ℕ, Bool, ◌&&◌, not, List, [], ◌∷◌, codes}
use Rattle.std.specs.Str.{bytes_eq}
use Rattle.xd_syntax.specs.Words.{has_word, string_word}

abbrev pub keywords : List (List ℕ)
keywords = codes "type" ∷ codes "fun" ∷ codes "val" ∷ codes "as" ∷ codes "match" ∷ codes "with" ∷ []

-- a word that may name a type: no keyword, and not `String`
abbrev pub is_type_name : List ℕ → Bool
is_type_name w = not (has_word keywords w) && not (bytes_eq string_word w)
