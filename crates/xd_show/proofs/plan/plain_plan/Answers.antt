use Rattle.std.proofs.Common.{◌+◌, ◌∙◌, sym, ap, subst}
use Rattle.xd_auto.specs.declared.auto.State.{State}
use Rattle.std.proofs.Common.{Vec, Global, arith}
use Rattle.std.proofs.lemmas.Grind.{common_steps}
use Rattle.xd_show.proofs.PlanLaws.{AreNamedBelow, named_more, named_passed, named_start}
use Rattle.xd_show.proofs.plan.plain_plan.Goals as goal
use Rattle.xd_show.proofs.plan.plain_plan.Goals.{then-number+in_ok-push-2, else-number}

pub loop-number-init : goal.loop-number-init
loop-number-init c = grind (arith, common_steps, named_start c.args.auto.now c.args.start c.requires)

pub loop-number-preserved : goal.loop-number-preserved
loop-number-preserved c =
    let Goal = AreNamedBelow c.args.auto.now c.args.start (c.loop-number.number + 1) in
    let of = λ (v : Vec State Global). v.items in
    elim c.if-number.branch [
      | then-number+in_ok-push-2 w ↦ subst Goal (sym (ap of w.named-is ∙ w.in_ok-push-2.ensures.items))
          (named_more c.args.auto.now c.args.start c.loop-number.number c.loop-number.named.items w.state.result c.loop-number.invariant w.state.ensures.belongs w.state.ensures.number)
      | else-number w ↦ subst Goal (sym (ap of w.named-is))
          (named_passed c.args.auto.now c.args.start c.loop-number.number c.loop-number.named.items c.loop-number.invariant (w.if-number.false ∙ c.number.ensures))
    ]
