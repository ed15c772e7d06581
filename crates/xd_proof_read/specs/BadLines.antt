-- The first line with which no text of some kind goes on.
use Rattle.std.specs.Prelude.{◌≡◌, ◌⊎◌, ℕ, ◌+◌, ◌-◌, ◌<◌, ◌≤◌, codes, List, [], ◌++◌, length, take, get_or}
use Rattle.xd_syntax.specs.Tree.{Tree}
use Rattle.xd_meaning.specs.Violation.{Lined}
use Rattle.xd_proof.specs.Lines.{SpellsNumber}
use Rattle.xd_proof.specs.Parts.{Follows, SpellsTypePart, SpellParts}
use Rattle.xd_proof.specs.Form.{GoalBlock, goal_list, types_from, AreProof}
use Rattle.xd_proof_read.specs.declared.formats.Format.{Format}
use Rattle.xd_proof_read.specs.declared.formats.Format.TheVariants.{First, Second}
use Rattle.xd_proof_read.specs.declared.error.ProofError.{ProofError}
use Rattle.xd_proof_read.specs.declared.error.ProofError.TheVariants.{Form, NoMemory}

-- the lines of proof texts
abbrev pub ProofLines : (TypeReads : List ℕ → Tree → Type 0) → List (List ℕ) → Type 0
ProofLines TypeReads lines = (goals : List Lined) × AreProof TypeReads lines goals

-- the lines from the number of goals to the end
abbrev pub GoalLines : (TypeReads Reads : List ℕ → Tree → Type 0) → List (List ℕ) → Type 0
GoalLines TypeReads Reads lines = (blocks : List (GoalBlock Tree)) × SpellParts TypeReads Reads lines (goal_list blocks)

module _ (AreWhole : List (List ℕ) → Type 0) where
  -- some go on from these
  abbrev pub CanGoOn : List (List ℕ) → Type 0
  CanGoOn lines = (more : List (List ℕ)) × AreWhole (lines ++ more)

  -- The lines are none, and this is the number of the first with which none goes on; where they end
  -- early, how many there are and one.
  pub record IsFirstBad (lines : List (List ℕ)) (n : ℕ) : Type 0 where
    pub unread : AreWhole lines → ⊥
    pub number : (0 < n) × (n ≤ length lines + 1)
    pub before : CanGoOn (take (n - 1) lines)
    pub here : (n ≡ length lines + 1) ⊎ (CanGoOn (take n lines) → ⊥)

-- the line that the error tells, if it tells one
abbrev pub TellsLine : (ℕ → Type 0) → ProofError → Type 0
TellsLine P (Form n) = P n
TellsLine P NoMemory = Unit {0}

-- it is this many lines further on
abbrev pub IsBehind : (before : ℕ) → (ℕ → Type 0) → ℕ → Type 0
IsBehind before P n = (k : ℕ) × (n ≡ before + k) × P k

-- the line is that of the type with this number
abbrev pub IsTypeLine : (TypeReads : List ℕ → Tree → Type 0) → List ℕ → ℕ → Tree → Type 0
IsTypeLine TypeReads line k T = Follows (codes "type") (λ b U. SpellsTypePart TypeReads b k U) line T

-- of lines of types this is the number of the first that is none
pub record IsBadTypeLine (TypeReads : List ℕ → Tree → Type 0) (lines : List (List ℕ)) (n : ℕ) : Type 0 where
  pub number : (0 < n) × (n ≤ length lines)
  pub types : List Tree
  pub before : SpellParts TypeReads SpellsNumber (take (n - 1) lines) (types_from 1 types)
  pub here : (T : Tree) → IsTypeLine TypeReads (get_or lines (n - 1) []) n T → ⊥

abbrev pub title_of : Format → List ℕ
title_of First = codes "xduce-proof 1"
title_of Second = codes "xduce-proof 2"
