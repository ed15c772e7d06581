-- Goals and heads, and the numbers of their types.
use Rattle.std.specs.Prelude.{◌≡◌, ℕ, ◌<◌, List, map, length}
use Rattle.std.specs.List.{AllZip}
use Rattle.xd_syntax.specs.Table.{Row, tree_at}
use Rattle.xd_syntax.specs.SoundTables.{IsTypeAt}
use Rattle.xd_syntax.specs.Tree.{Tree}
use Rattle.xd_rules.specs.Heads.{Head}
use Rattle.xd_meaning.specs.Consistent.{Goal}
use Rattle.xd_moves.specs.Codes.{number_at}
use Rattle.xd_moves.specs.Cells.{Cell}
use Rattle.xd_heads.specs.Numbered.{IsNumberIn, Tell}
use Rattle.xd_proof.specs.declared.proof.ProofGoal.{ProofGoal}
use Rattle.xd_proof_check.specs.Walk.{SettingView}

-- its left and its rights are those of this goal
pub record IsClaimAt (types : List Row) (made : ProofGoal) (g : Goal) : Type 0 where
  pub left : IsTypeAt types g.left made.left
  pub rights : AllZip (λ id T. IsTypeAt types T id) made.rights.items g.rights

-- numbers tell types apart, and these are those of the nodes
pub record Knows (types : List Row) (cells : List Cell) (numbers : List ℕ) : Type 0 where
  pub tell : Tell types cells
  pub nodes : (i : ℕ) → i < length types → IsNumberIn types cells (number_at numbers i) (tree_at types i)

-- the setting is that of this left head, these right heads and these goals
pub record Corresponds (types : List Row) (cells : List Cell) (s : SettingView) (left : Head Tree) (hs : List (Head Tree)) (gs : List Goal) : Type 0 where
  pub numbers : Knows types cells s.numbers
  pub goals : AllZip (IsClaimAt types) s.goals gs
  pub kinds : s.kinds ≡ map (λ (h : Head Tree). h.kind) hs
  pub contents : AllZip (λ number (h : Head Tree). IsNumberIn types cells number h.content) s.contents hs
  pub rests : AllZip (λ number (h : Head Tree). IsNumberIn types cells number h.rest) s.rests hs
  pub left_content : IsNumberIn types cells s.left_content left.content
  pub left_rest : IsNumberIn types cells s.left_rest left.rest
