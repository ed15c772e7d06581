use Rattle.std.proofs.Common.{◌≡◌, ◌&&◌, Bool, List, ℕ, not, true, take}
use Rattle.std.specs.List.{AllByRecursion}
use Rattle.xd_doc.specs.Classes.{class_has}
use Rattle.xd_auto.specs.declared.auto.State.{State}
use Rattle.xd_auto.specs.declared.auto.TextMove.{TextMove}
use Rattle.xd_auto.specs.Automaton.{has_text}
use Rattle.xd_boole.specs.Groups.{AllSides, any_group}
use Rattle.xd_boole.specs.Matching.{any_has}
use Rattle.xd_boole.proofs.groups.text_groups_before.Given as goal

abbrev pub invariant-loop-other : goal.invariant-loop-other
invariant-loop-other l = record {
  taken : (p : State → Bool) (x : List ℕ) → any_group class_has p x l.groups.items ≡ (class_has l.step.words x && not (any_has has_text x (λ (m : TextMove). p m.rest) (take l.other-index l.other-items)));
  sides : (p : State → Bool) → AllByRecursion (λ (m : TextMove). p m.rest ≡ true) l.other-items → AllSides p l.groups.items;
}
