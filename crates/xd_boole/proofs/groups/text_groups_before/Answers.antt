use Rattle.std.proofs.Common.{◌≡◌, Bool, not, true, ◌&&◌, length, ap, refl, ◌∙◌}
use Rattle.xd_doc.specs.Classes.{class_has}
use Rattle.xd_doc.proofs.Lists.{all_more}
use Rattle.xd_auto.specs.declared.auto.State.{State}
use Rattle.xd_auto.specs.declared.auto.TextMove.{TextMove}
use Rattle.xd_auto.specs.Automaton.{accepts, has_text, moves_at}
use Rattle.xd_boole.specs.Meaning.{is_state}
use Rattle.xd_boole.specs.Groups.{any_group}
use Rattle.xd_boole.specs.Matching.{any_has}
use Rattle.xd_boole.specs.Points.{TextBelow}
use Rattle.xd_boole.proofs.Bools.{and_where}
use Rattle.xd_boole.proofs.DividesLemmas.{divided_by_more}
use Rattle.xd_boole.proofs.MoveBelowLemmas.{texts_are}
use Rattle.xd_boole.proofs.Lists.{all_at, any_walked}
use Rattle.xd_boole.proofs.AnyAcceptsLemmas.{is_state_of}
use Rattle.xd_boole.proofs.groups.text_groups_before.Goals as goal

pub loop-other-preserved : goal.loop-other-preserved
loop-other-preserved c = record {
  taken = λ p x.
      divided_by_more (λ (m : TextMove). has_text m x && p m.rest) c.deref-other-items.result.now c.loop-other.other-index c.other-item.result (any_group class_has p x c.loop-other.groups.items)
      (any_group class_has p x c.in_ok-groups.groups.items) (class_has c.args.step.now.words x) c.loop-other-test.true c.other-item.is (c.in_ok-groups.ensures.taken p x) (c.loop-other.invariant.taken p x);
  sides = λ p all.
      c.in_ok-groups.ensures.sides p (c.loop-other.invariant.sides p all)
      (all_at (λ (m : TextMove). p m.rest ≡ true) c.deref-other-items.result.now all c.loop-other.other-index c.other-item.result c.loop-other-test.true c.other-item.is);
}

pub returns : goal.returns
returns c =
    let a = c.args.auto.now in
    record {
      taken = λ q.
          let p : State → Bool = λ s. accepts a q.rest s in
          c.loop-other.invariant.taken p q.characters
          ∙ and_where (class_has c.args.step.now.words q.characters) _ _
          (λ had. ap not (any_walked (λ (m : TextMove). has_text m q.characters && p m.rest) c.deref-other-items.result.now c.loop-other.other-index c.loop-other-test.false
          ∙ ap (any_has has_text q.characters (λ (m : TextMove). p m.rest)) c.deref-other-items.ensures.value ∙ c.in_ok-moves.ensures.taken q.characters had (λ m. p m.rest)));
      sides = c.loop-other.invariant.sides (is_state a)
          (rw c.deref-other-items.ensures.value
          (c.in_ok-moves.ensures.inside (λ m. is_state a m.rest)
          (λ s leads. all_more (TextBelow (length a)) (λ m. is_state a m.rest ≡ true) (moves_at a s).texts (λ m below. is_state_of a m.rest below) (texts_are a s (moves_at a s).texts refl leads))));
    }
