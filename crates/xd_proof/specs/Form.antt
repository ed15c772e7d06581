-- The form of a proof text, in both formats, and the first line where a text leaves it.
--
-- The first line of a text picks its format, as `xduce-proof 1` begins no text of the second. Each
-- of these is the first bad line of a text that is right up to there:
--
--   xduce-proof 3        line 1: neither format has such a title
--   goals 0              line 2: a number is at least 1
--   goal 2               line 3: the goals are numbered from 1 on
--   left Q               line 4: where the program has no type Q
--   right 3              of the second format, where `types 2` was said: there is no such type
--   case 1 a c 1         in place of a `left`: no text of a goal goes on so
--   goal 3               after the last of `goals 2`: `end` is wanted
--   the line after the last one that is ended, if the text ends before `end`, or if `end` has no
--   line feed
use Rattle.std.specs.Prelude.{◌≡◌, ◌⊎◌, ℕ, ◌+◌, ◌-◌, ◌<◌, ◌≤◌, List, [], ◌∷◌, ◌++◌, map, length, take, Option, Some, None}
use Rattle.xd_syntax.specs.Tree.{Tree}
use Rattle.xd_rules.specs.Rules.{Case, numbered}
use Rattle.xd_meaning.specs.Violation.{Lined, empty_lines}
use Rattle.xd_proof.specs.Lines.{IsCut, SpellsNumber}
use Rattle.xd_proof.specs.Parts.{ProofLine, first_title, second_title, type_count, type_part, goal_count, goal_part, left_part, right_part, empty_part, case_part, end_part, SpellParts}

-- a goal as it is written: `A` is what stands for a type
pub record GoalBlock (A : Type 0) : Type 0 where
  pub left : A
  pub rights : List A
  pub empty_right : Option ℕ
  pub cases : List Case

module _ {A : Type 0} where
  -- the line that names a right that fits the empty document, if one is named
  abbrev pub empty_parts : Option ℕ → List (ProofLine A)
  empty_parts None = []
  empty_parts (Some n) = empty_part n ∷ []

  -- the lines of a goal with this number
  abbrev pub block_parts : ℕ → GoalBlock A → List (ProofLine A)
  block_parts k b =
      goal_part k ∷ left_part b.left ∷ map right_part b.rights
      ++ (empty_parts b.empty_right ++ map case_part b.cases)

  -- the goals from this number on
  abbrev pub blocks_from : ℕ → List (GoalBlock A) → List (ProofLine A)
  blocks_from k [] = []
  blocks_from k (b ∷ bs) = block_parts k b ++ blocks_from (k + 1) bs

  -- the lines from the number of goals to the end
  abbrev pub goal_list : List (GoalBlock A) → List (ProofLine A)
  goal_list bs = goal_count (length bs) ∷ (blocks_from 1 bs ++ end_part ∷ [])

  -- the types from this number on
  abbrev pub types_from : ℕ → List Tree → List (ProofLine A)
  types_from k [] = []
  types_from k (T ∷ Ts) = type_part k T ∷ types_from (k + 1) Ts

-- the lines of a text of the first format
abbrev pub first_format : List (GoalBlock Tree) → List (ProofLine Tree)
first_format bs = first_title ∷ goal_list bs

-- the lines of a text of the second
abbrev pub second_format : List Tree → List (GoalBlock ℕ) → List (ProofLine ℕ)
second_format Ts bs = second_title ∷ type_count (length Ts) ∷ (types_from 1 Ts ++ goal_list bs)

-- how many lines a goal has
abbrev pub block_length : {A : Type 0} → GoalBlock A → ℕ
block_length b = 2 + length b.rights + empty_lines b.empty_right + length b.cases

-- the goals of blocks, the first of which begins on this line
abbrev pub goals_from : ℕ → List (GoalBlock Tree) → List Lined
goals_from n [] = []
goals_from n (b ∷ bs) =
    record {
      line = n;
      goal = record { left = b.left; rights = b.rights; empty_right = b.empty_right; cases = b.cases };
    } ∷ goals_from (n + block_length b) bs

-- the types of these numbers
abbrev pub AreNamed : List Tree → List ℕ → List Tree → Type 0
AreNamed Ts [] [] = Unit {0}
AreNamed Ts [] (U ∷ Us) = ⊥
AreNamed Ts (n ∷ ns) [] = ⊥
AreNamed Ts (n ∷ ns) (U ∷ Us) = (numbered Ts n ≡ Some U) × AreNamed Ts ns Us

-- the first block names its types by their numbers among these, the second has the types themselves
pub record NamesTypes (Ts : List Tree) (b : GoalBlock ℕ) (c : GoalBlock Tree) : Type 0 where
  pub left : numbered Ts b.left ≡ Some c.left
  pub rights : AreNamed Ts b.rights c.rights
  pub empty_right : b.empty_right ≡ c.empty_right
  pub cases : b.cases ≡ c.cases

-- each block of the first list and its block in the second
abbrev pub NameTypes : List Tree → List (GoalBlock ℕ) → List (GoalBlock Tree) → Type 0
NameTypes Ts [] [] = Unit {0}
NameTypes Ts [] (c ∷ cs) = ⊥
NameTypes Ts (b ∷ bs) [] = ⊥
NameTypes Ts (b ∷ bs) (c ∷ cs) = NamesTypes Ts b c × NameTypes Ts bs cs

module _ (TypeReads : List ℕ → Tree → Type 0) where
  -- the lines are those of a proof text of the first format with these goals
  pub record AreFirst (lines : List (List ℕ)) (goals : List Lined) : Type 0 where
    pub blocks : List (GoalBlock Tree)
    pub spelled : SpellParts TypeReads TypeReads lines (first_format blocks)
    pub read : goals ≡ goals_from 3 blocks

  -- the same of the second, where the lines of the types stand before the goals
  pub record AreSecond (lines : List (List ℕ)) (goals : List Lined) : Type 0 where
    pub types : List Tree
    pub blocks : List (GoalBlock ℕ)
    pub meant : List (GoalBlock Tree)
    pub spelled : SpellParts TypeReads SpellsNumber lines (second_format types blocks)
    pub named : NameTypes types blocks meant
    pub read : goals ≡ goals_from (4 + length types) meant

  -- The first line tells the formats apart.
  abbrev pub AreProof : List (List ℕ) → List Lined → Type 0
  AreProof lines goals = AreFirst lines goals ⊎ AreSecond lines goals

  -- the bytes are a proof text with these goals
  pub record IsProofText (bytes : List ℕ) (goals : List Lined) : Type 0 where
    pub lines : List (List ℕ)
    pub cut : IsCut bytes lines []
    pub read : AreProof lines goals

  -- some proof text begins with these lines
  pub record CanBegin (lines : List (List ℕ)) : Type 0 where
    pub more : List (List ℕ)
    pub goals : List Lined
    pub read : AreProof (lines ++ more) goals

  -- The bytes are no proof text, and this is the number of the first line with which none goes on.
  -- Where the text ends early, or its last line has no line feed, that is the number of its ended
  -- lines and one.
  pub record IsFirstBadLine (bytes : List ℕ) (n : ℕ) : Type 0 where
    pub lines : List (List ℕ)
    pub left : List ℕ
    pub cut : IsCut bytes lines left
    pub unread : (goals : List Lined) → IsProofText bytes goals → ⊥
    pub number : (0 < n) × (n ≤ length lines + 1)
    pub before : CanBegin (take (n - 1) lines)
    pub here : (n ≡ length lines + 1) ⊎ (CanBegin (take n lines) → ⊥)
