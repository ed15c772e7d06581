-- Lines of a text, words of a line, and numbers.
use Rattle.std.specs.Prelude.{◌≡◌, ℕ, ◌<◌, ◌^◌, List, [], ◌∷◌, ◌++◌}
use Rattle.std.specs.List.{AllByRecursion}
use Rattle.std.specs.Str.{byte}
use Rattle.std.specs.Fmt.{decimal}

-- what ends a line
abbrev pub line_feed : ℕ
line_feed = byte "\n"

-- what stands between words
abbrev pub space : ℕ
space = byte " "

-- the byte doesn't stand in the text
abbrev pub IsFreeOf : ℕ → List ℕ → Type 0
IsFreeOf c bytes = AllByRecursion (λ b. b ≡ c → ⊥) bytes

-- these, each with the mark after it
abbrev pub each_ended : ℕ → List (List ℕ) → List ℕ
each_ended c [] = []
each_ended c (l ∷ ls) = l ++ c ∷ each_ended c ls

-- The text is these lines, each ended by a line feed, and then a last one without, which is empty
-- where nothing follows the last line feed.
pub record IsCut (bytes : List ℕ) (lines : List (List ℕ)) (left : List ℕ) : Type 0 where
  pub whole : bytes ≡ each_ended line_feed lines ++ left
  pub free : AllByRecursion (IsFreeOf line_feed) lines
  pub left_free : IsFreeOf line_feed left

-- words with single spaces between them
abbrev pub spaced : List (List ℕ) → List ℕ
spaced [] = []
spaced (w ∷ []) = w
spaced (w ∷ (v ∷ vs)) = w ++ space ∷ spaced (v ∷ vs)

-- how many digits a number has at most
abbrev pub most_digits : ℕ
most_digits = 18

-- a number, from 1: its decimal digits without a zero before them
pub record IsNumber (n : ℕ) : Type 0 where
  pub least : 0 < n
  pub most : n < 10 ^ most_digits

-- the bytes are the digits of the number
pub record SpellsNumber (bytes : List ℕ) (n : ℕ) : Type 0 where
  pub digits : bytes ≡ decimal n
  pub number : IsNumber n
