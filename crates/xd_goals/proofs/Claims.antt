-- Trees over goals with the same claims.
use Rattle.std.proofs.Common.{ℕ, ◌≡◌, Bool, true, false, List, [], ◌∙◌}
use Rattle.xd_auto.specs.declared.auto.State.{State}
use Rattle.xd_auto.specs.Automaton.{Automaton}
use Rattle.xd_rules.specs.declared.atom.Atom.{Atom}
use Rattle.xd_rules.specs.Heads.{Head}
use Rattle.xd_rules.specs.Meaning.{is_text_atom}
use Rattle.xd_rules.specs.Rules.{Claim, ChoiceTree, settles_content, settles_rest, split_on}
use Rattle.xd_state_heads.specs.Moves.{with_state}
use Rattle.xd_goals.specs.Rows.{GoalRow, claim_at}
use Rattle.xd_goals.specs.Trees.{IsGrown, IsTextTree, IsTreeBySort}
use Rattle.xd_goals.specs.Standing.{IsCaseTree, claim_sides, task_for}
use Rattle.xd_state_heads.specs.declared.heads.Side.{Side}
use Rattle.xd_goals.specs.declared.table.GoalCase.{GoalCase}
use Rattle.xd_goals.specs.declared.grow.Task.{Task}

module _ (a : Automaton) (old new : List GoalRow) (same : (g : ℕ) → claim_at new g ≡ claim_at old g) where
  grown_same : (task : Task) (sides : List Side) (tree : ChoiceTree) (contents rests : List State) → IsGrown old task sides tree contents rests → IsGrown new task sides tree contents rests
  grown_same task sides (settles_content g) contents rests k = same g ∙ k
  grown_same task sides (settles_rest g) contents rests k = same g ∙ k
  grown_same task sides (split_on j x y) contents rests k =
      (k.0, k.1, k.2, grown_same task sides x (with_state k.0.content contents) rests k.3, grown_same task sides y contents (with_state k.0.rest rests) k.4)

  text_same : (task : Task) (sides : List Side) (tree : ChoiceTree) → IsTextTree old task sides tree → IsTextTree new task sides tree
  text_same task sides (settles_content g) k = k
  text_same task sides (settles_rest g) k = same g ∙ k
  text_same task sides (split_on j x y) k = k

  pub same_kinds : (owner : GoalCase) (c : Claim State) (h : Head State) (atom : Atom) (tree : ChoiceTree) → IsCaseTree a old owner c h atom tree → IsCaseTree a new owner c h atom tree
  same_kinds owner c h atom tree k = go (is_text_atom atom) k
    where
      go : (b : Bool) → IsTreeBySort b old (task_for a owner h) (claim_sides a c atom) tree → IsTreeBySort b new (task_for a owner h) (claim_sides a c atom) tree
      go true x = text_same (task_for a owner h) (claim_sides a c atom) tree x
      go false x = grown_same (task_for a owner h) (claim_sides a c atom) tree [] [] x
