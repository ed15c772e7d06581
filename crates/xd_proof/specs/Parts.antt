-- What the lines of a proof text say, and how they are spelled.
use Rattle.std.specs.Prelude.{◌≡◌, ℕ, true, codes, List, [], ◌∷◌, ◌++◌}
use Rattle.std.specs.Fmt.{decimal}
use Rattle.std.specs.Str.{is_utf8}
use Rattle.xd_doc.specs.Word.{is_word}
use Rattle.xd_syntax.specs.Tree.{Tree}
use Rattle.xd_syntax.specs.TypeText.{quoted_text}
use Rattle.xd_rules.specs.declared.atom.Atom.{Atom}
use Rattle.xd_rules.specs.declared.atom.Atom.TheVariants.{Label, OtherLabel, Text, OtherText}
use Rattle.xd_rules.specs.Rules.{ChoiceTree, settles_content, settles_rest, split_on, Case}
use Rattle.xd_proof.specs.Lines.{spaced, space, IsNumber, SpellsNumber}

-- A line of a proof text. `A` is what stands for a type in a goal: the type itself in the first
-- format, its number in the second.
pub data ProofLine (A : Type 0) : Type 0 where
  first_title : ProofLine A
  second_title : ProofLine A
  type_count : (count : ℕ) → ProofLine A
  type_part : (number : ℕ) (type_there : Tree) → ProofLine A
  goal_count : (count : ℕ) → ProofLine A
  goal_part : (number : ℕ) → ProofLine A
  left_part : (left : A) → ProofLine A
  right_part : (right : A) → ProofLine A
  empty_part : (number : ℕ) → ProofLine A
  case_part : (there : Case) → ProofLine A
  end_part : ProofLine A

-- the spelling of an atom: a label is its own, and a text stands in quotes, where it may have
-- spaces in it
abbrev pub atom_word : Atom → List ℕ
atom_word (Label l) = l
atom_word OtherLabel = codes "~"
atom_word (Text s) = quoted_text s
atom_word OtherText = codes "$"

-- a label is a word, a keyword too, and a text has characters that UTF-8 can spell
abbrev pub IsAtom : Atom → Type 0
IsAtom (Label l) = is_word l ≡ true
IsAtom (Text s) = is_utf8 s ≡ true
IsAtom a = Unit {0}

-- the words of a choice tree, which stands before its parts
abbrev pub tree_words : ChoiceTree → List (List ℕ)
tree_words (settles_content n) = codes "c" ∷ decimal n ∷ []
tree_words (settles_rest n) = codes "r" ∷ decimal n ∷ []
tree_words (split_on n A B) = codes "?" ∷ decimal n ∷ tree_words A ++ tree_words B

-- its numbers can be written
abbrev pub HasNumbers : ChoiceTree → Type 0
HasNumbers (settles_content n) = IsNumber n
HasNumbers (settles_rest n) = IsNumber n
HasNumbers (split_on n A B) = IsNumber n × HasNumbers A × HasNumbers B

-- the words of a case
abbrev pub case_words : Case → List (List ℕ)
case_words c = codes "case" ∷ decimal c.head ∷ atom_word c.atom ∷ tree_words c.choice

-- the bytes spell the case
pub record SpellsCase (bytes : List ℕ) (c : Case) : Type 0 where
  pub words : bytes ≡ spaced (case_words c)
  pub head : IsNumber c.head
  pub atom : IsAtom c.atom
  pub numbers : HasNumbers c.choice

-- a word, and after one space what R says
pub record Follows {A : Type 0} (word : List ℕ) (R : List ℕ → A → Type 0)
    (bytes : List ℕ) (x : A) : Type 0 where
  pub behind : List ℕ
  pub whole : bytes ≡ word ++ space ∷ behind
  pub reads : R behind x

-- A number, and after one space a type. The bytes after the space are the type's, spaces among
-- them.
pub record SpellsTypePart (R : List ℕ → Tree → Type 0) (bytes : List ℕ) (n : ℕ) (T : Tree) : Type 0 where
  pub number : IsNumber n
  pub reads : Follows (decimal n) R bytes T

module _ {A : Type 0} (TypeReads : List ℕ → Tree → Type 0) (Reads : List ℕ → A → Type 0) where
  -- The bytes spell the line, where these say how types and what stands for them are spelled.
  abbrev pub SpellsPart : List ℕ → ProofLine A → Type 0
  SpellsPart bytes first_title = bytes ≡ codes "xduce-proof 1"
  SpellsPart bytes second_title = bytes ≡ codes "xduce-proof 2"
  SpellsPart bytes (type_count m) = Follows (codes "types") SpellsNumber bytes m
  SpellsPart bytes (type_part k T) = Follows (codes "type") (λ b U. SpellsTypePart TypeReads b k U) bytes T
  SpellsPart bytes (goal_count n) = Follows (codes "goals") SpellsNumber bytes n
  SpellsPart bytes (goal_part k) = Follows (codes "goal") SpellsNumber bytes k
  SpellsPart bytes (left_part x) = Follows (codes "left") Reads bytes x
  SpellsPart bytes (right_part x) = Follows (codes "right") Reads bytes x
  SpellsPart bytes (empty_part n) = Follows (codes "empty") SpellsNumber bytes n
  SpellsPart bytes (case_part c) = SpellsCase bytes c
  SpellsPart bytes end_part = bytes ≡ codes "end"

  -- line by line
  abbrev pub SpellParts : List (List ℕ) → List (ProofLine A) → Type 0
  SpellParts [] [] = Unit {0}
  SpellParts [] (p ∷ ps) = ⊥
  SpellParts (l ∷ ls) [] = ⊥
  SpellParts (l ∷ ls) (p ∷ ps) = SpellsPart l p × SpellParts ls ps
