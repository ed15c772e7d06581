use Rattle.std.proofs.Common.{inr, subst}
use Rattle.xd_syntax.specs.Kept.{program_tree}
use Rattle.xd_syntax.specs.Sound.{type_named}
use Rattle.xd_syntax.specs.Types.{tree}
use Rattle.xd_command_inclusions.specs.Minus.{AnswersDifference}
use Rattle.xd_command_inclusions.proofs.command.minus.minus_named.Goals as goal

pub returns : goal.returns
returns c =
    let types = c.named_types.new.sound.types in
    let w = type_named c.args.left.now in
    let v = type_named c.args.right.now in
    let o = c.in_ok-show_difference.field-0 in
    let named = c.in_ok-one.ensures.step in
    let Q = program_tree c.named_types.new.sound in
    inr (
      named.defined,
      subst (λ P. AnswersDifference P w v o) c.named_types.ensures.same
          (subst (λ R. AnswersDifference Q w R o) named.other.same
          (subst (λ L. AnswersDifference Q L (tree types c.in_ok-one.other) o) named.one.same c.in_ok-show_difference.ensures)),
    )
