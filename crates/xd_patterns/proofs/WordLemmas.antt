-- The words of lists of numbers.
use Rattle.std.proofs.Common.{◌≡◌, ℕ, zero, suc, ◌<◌, ◌||◌, arith, true, List, [], ◌∷◌, ◌++◌, length, get_or, Option, Some, None, refl, ap, ◌∙◌}
use Rattle.std.specs.List.{slice_get}
use Rattle.std.specs.Str.{bytes_eq}
use Rattle.xd_doc.proofs.Bools.{or_assoc, or_true}
use Rattle.xd_syntax.specs.Words.{has_word}
use Rattle.xd_patterns.specs.Variables.{if_some, words_of}

pub words_split : (vs : List (List ℕ)) (ns ms : List ℕ) (x : List ℕ) → has_word (words_of vs (ns ++ ms)) x ≡ (has_word (words_of vs ns) x || has_word (words_of vs ms) x)
words_split vs [] ms x = refl
words_split vs (n ∷ ns) ms x = go (slice_get vs n) (words_split vs ns ms x)
  where
    go : (o : Option (List ℕ)) → has_word (words_of vs (ns ++ ms)) x ≡ (has_word (words_of vs ns) x || has_word (words_of vs ms) x) →
        has_word (if_some o ++ words_of vs (ns ++ ms)) x ≡ (has_word (if_some o ++ words_of vs ns) x || has_word (words_of vs ms) x)
    go None i = i
    go (Some w) i = ap (λ b. bytes_eq w x || b) i ∙ or_assoc (bytes_eq w x) (has_word (words_of vs ns) x) (has_word (words_of vs ms) x)

-- the word of one of the numbers is among them
pub word_of_one : (vs : List (List ℕ)) (ns : List ℕ) (i d : ℕ) (x : List ℕ) → i < length ns → has_word (words_of vs (get_or ns i d ∷ [])) x ≡ true → has_word (words_of vs ns) x ≡ true
word_of_one vs [] i d x h e = absurd (omega arith)
word_of_one vs (n ∷ ns) zero d x h e = words_split vs (n ∷ []) ns x ∙ ap (λ b. b || has_word (words_of vs ns) x) e
word_of_one vs (n ∷ ns) (suc i) d x h e =
    words_split vs (n ∷ []) ns x ∙ ap (λ b. has_word (words_of vs (n ∷ [])) x || b) (word_of_one vs ns i d x (omega arith) e) ∙ or_true (has_word (words_of vs (n ∷ [])) x)
