-- What is few enough for the numbers of a proof text.
use Rattle.std.specs.Prelude.{◌<◌, ◌+◌, ◌^◌, List, length}
use Rattle.std.specs.List.{AllByRecursion}
use Rattle.xd_auto.specs.declared.auto.LabelMove.{LabelMove}
use Rattle.xd_auto.specs.declared.auto.TextMove.{TextMove}
use Rattle.xd_syntax.specs.Tree.{Definitions}
use Rattle.xd_meaning.specs.Heads.{heads}
use Rattle.xd_rules.specs.Rules.{Case}
use Rattle.xd_meaning.specs.Consistent.{Goal, right_heads}
use Rattle.xd_proof.specs.Lines.{most_digits}
use Rattle.xd_proof.specs.Parts.{IsAtom}

-- So few that each can have a number. A slice with elements of 10 bytes or
-- more has no more, since it takes less than 2^63 bytes.
abbrev pub AreFew : {A : Type 0} → List A → Type 0
AreFew xs = length xs < 10 ^ most_digits

-- so few that each can have a number, together
abbrev pub AreFewMoves : List LabelMove → List TextMove → Type 0
AreFewMoves ls ts = length ls + length ts < 10 ^ most_digits

-- the rights of the goal and the heads of both sides are few, and its atoms can be spelled
pub record IsSmall (E : Definitions) (g : Goal) : Type 0 where
  pub rights : AreFew g.rights
  pub on_left : AreFew (heads E g.left)
  pub on_right : AreFew (right_heads E g)
  pub atoms : AllByRecursion (λ (c : Case). IsAtom c.atom) g.cases
