-- A walk over the steps of a choice tree, along a path of splits.
use Rattle.std.specs.Prelude.{◌≡◌, ℕ, suc, ◌-◌, ◌<◌, Bool, true, false, not, cond, ◌&&◌, List, [], ◌∷◌, length, Option, Some, None}
use Rattle.xd_rules.specs.Heads.{HeadKind, matches}
use Rattle.xd_rules.specs.declared.atom.Atom.{Atom}
use Rattle.xd_rules.specs.Rules.{ChoiceTree, settles_content, settles_rest, split_on, numbered}
use Rattle.xd_meaning.specs.Violation.{Reason, bad_split, bad_leaf}
use Rattle.xd_laws.proofs.FirstWrong.{reason_unless, or_next}
use Rattle.xd_proof.specs.declared.proof.ProofGoal.{ProofGoal}
use Rattle.xd_proof.specs.declared.steps.Step.{Step}
use Rattle.xd_proof.specs.declared.steps.Step.TheVariants.{Content, Rest, Split}
use Rattle.xd_proof_check.specs.Atoms.{kinds_of}
use Rattle.xd_moves.specs.Codes.{number_at}
use Rattle.xd_proof_check.specs.Leaves.{GoalsBelong, is_among, leaf_numbered}
use Rattle.xd_proof_check.specs.Paths.{HasRoom, content_side, rest_side, heads_split, turned}
use Rattle.xd_proof_check.specs.declared.path.Turn.{Turn}
use Rattle.xd_proof_check.specs.declared.path.Path.{Path}
use Rattle.xd_proof_check.specs.declared.walk.Setting.{Setting}

-- what the steps of a case are looked at in: the numbers of types, the goals, the atom, the kinds
-- of the right heads, and the numbers of the contents and of the rests, of the left head and of the
-- right heads
pub record SettingView : Type 0 where
  pub numbers : List ℕ
  pub goals : List ProofGoal
  pub atom : Atom
  pub kinds : List HeadKind
  pub left_content : ℕ
  pub left_rest : ℕ
  pub contents : List ℕ
  pub rests : List ℕ

abbrev pub setting_of : Setting → SettingView
setting_of s = record {
  numbers = s.numbers.now;
  goals = s.goals.now;
  atom = s.atom.now;
  kinds = kinds_of s.rights.now;
  left_content = s.left_content;
  left_rest = s.left_rest;
  contents = s.contents.now;
  rests = s.rests.now;
}

abbrev pub kind_matches : Atom → Option HeadKind → Bool
kind_matches a None = false
kind_matches a (Some k) = matches k a

-- the right head with this number matches, and is not split on yet
abbrev pub split_fits : SettingView → List Turn → ℕ → Bool
split_fits b ts n = kind_matches b.atom (numbered b.kinds n) && not (is_among (heads_split ts) (n - 1))

-- the path after a step, the newest turn first
abbrev pub turns_behind : List Turn → Step → List Turn
turns_behind ts (Content n) = turned ts
turns_behind ts (Rest n) = turned ts
turns_behind ts (Split n) = record { right = n - 1; on_rest = false } ∷ ts

-- what is wrong with a step
abbrev pub wrong_step : SettingView → List Turn → Step → Option Reason
wrong_step b ts (Content n) = reason_unless (leaf_numbered b.numbers b.left_content (content_side b.contents ts) (numbered b.goals n)) bad_leaf
wrong_step b ts (Rest n) = reason_unless (leaf_numbered b.numbers b.left_rest (rest_side b.rests ts) (numbered b.goals n)) bad_leaf
wrong_step b ts (Split n) = reason_unless (split_fits b ts n) bad_split

-- what is wrong first with steps
abbrev pub wrong_steps : SettingView → List Turn → List Step → Option Reason
wrong_steps b ts [] = None
wrong_steps b ts (s ∷ ss) = or_next (wrong_step b ts s) (wrong_steps b (turns_behind ts s) ss)

abbrev pub turns_after : List Turn → List Step → List Turn
turns_after ts [] = ts
turns_after ts (s ∷ ss) = turns_after (turns_behind ts s) ss

-- the right heads of these numbers, from n on, that match, as turns on the rest side
abbrev pub rest_turns : Atom → ℕ → List HeadKind → List Turn
rest_turns a n [] = []
rest_turns a n (k ∷ ks) = cond (matches k a) (record { right = n; on_rest = true } ∷ rest_turns a (suc n) ks) (rest_turns a (suc n) ks)

-- all types and right heads of a setting have their places in the marks of a path
pub record IsSetting (s : SettingView) (p : Path) : Type 0 where
  pub belong : GoalsBelong (length s.numbers) s.goals
  pub contents : (i : ℕ) → number_at s.numbers i < length p.content.items
  pub rests : (i : ℕ) → number_at s.numbers i < length p.rest.items
  pub heads : length s.kinds ≡ length s.contents
  pub room : HasRoom s.contents s.rests p

-- what is wrong first with the tree of a text
abbrev pub wrong_text_step : SettingView → ChoiceTree → Option Reason
wrong_text_step s (settles_content n) = Some bad_split
wrong_text_step s (settles_rest n) = wrong_step s (rest_turns s.atom 0 s.kinds) (Rest n)
wrong_text_step s (split_on n t u) = Some bad_split
