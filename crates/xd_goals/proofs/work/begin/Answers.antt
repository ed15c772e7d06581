use Rattle.std.proofs.lemmas.Result.{IfOk-from_err}
use Rattle.std.proofs.Common.{List, map, sym, ap, subst, refl, ◌∙◌, arith, rules}
use Rattle.xd_doc.proofs.Lists.{all_get}
use Rattle.xd_state_heads.specs.Moves.{claim_with}
use Rattle.xd_goals.specs.Kept.{view_of}
use Rattle.xd_state_heads.specs.Wants.{IsCaseOf, want_key}
use Rattle.xd_state_heads.specs.declared.heads.Want.{Want}
use Rattle.xd_goals.proofs.HasGrownLemmas.{can_begin-then, grown-same, grown-then}
use Rattle.std.proofs.lemmas.List.{take_all}
use Rattle.xd_goals.proofs.IsTreeBySortLemmas.{begun_more, end_chosen, end_failed}
use Rattle.xd_goals.proofs.work.begin.Goals as goal

pub begin_case-requires-clause-case : goal.begin_case-requires-clause-case
begin_case-requires-clause-case c =
    subst (IsCaseOf c.args.asked.now.auto.now c.args.asked.now.left) (sym c.index-case.ensures)
    (all_get (IsCaseOf c.args.asked.now.auto.now c.args.asked.now.left) c.in_ok-cases.cases.items c.loop-number.number c.index-case.result.now c.in_ok-cases.ensures.each (omega (arith, c.loop-number-test.true, c.loop-number.invariant.end_is)))

pub loop-number-preserved : goal.loop-number-preserved
loop-number-preserved c =
    let ended = end_chosen c.args.asked.now.auto.now c.args.store.now (view_of c.begin_case.new.goals) (record { goal = c.args.owner; place = c.loop-number.number }) (claim_with c.args.asked.now.left c.args.asked.now.rights.now) c.index-case.result.now.head c.index-case.result.now.atom
    c.in_ok-grown.grown c.in_ok-choice.field-0 c.in-Chosen.choice c.in_ok-choice.ensures c.in-Chosen.is c.in_ok-grown.ensures.grown in
    record {
      grows = grown-then c.loop-number.invariant.grows c.begin_case.ensures.grows;
      begun = begun_more c.args.asked.now.auto.now (view_of c.loop-number.goals) (view_of c.begin_case.new.goals) c.begin_case.ensures.grows.grows c.args.owner.number (claim_with c.args.asked.now.left c.args.asked.now.rights.now) want_key c.in_ok-cases.cases.items c.loop-number.number c.index-case.result.now
          c.loop-number.made.items c.push.new.self.items c.in-Chosen.choice (omega (arith, c.loop-number-test.true, c.loop-number.invariant.end_is)) c.index-case.ensures ended.0 c.loop-number.invariant.begun ended.1 c.in_ok-push-in-Chosen.ensures.items;
      end_is = c.loop-number.invariant.end_is;
    }

pub returns-in-Failed-clause-settled : goal.returns-in-Failed-clause-settled
returns-in-Failed-clause-settled c =
    end_failed c.args.asked.now.auto.now c.args.store.now (view_of c.begin_case.new.goals) (record { goal = c.args.owner; place = c.loop-number.number }) (claim_with c.args.asked.now.left c.args.asked.now.rights.now) c.index-case.result.now.head c.index-case.result.now.atom
    c.in_ok-grown.grown c.in_ok-choice.field-0 c.in-Failed.failure c.in_ok-choice.ensures c.in-Failed.is c.in_ok-grown.ensures.grown

pub returns-clause-settled : goal.returns-clause-settled
returns-clause-settled c = record {
  complete = c.loop-number.invariant.begun.keys_are
      ∙ ap (λ (ws : List Want). map want_key ws) (take_all c.loop-number.number c.in_ok-cases.cases.items (omega (arith, c.loop-number-test.false, c.loop-number.invariant.end_is)))
      ∙ c.in_ok-cases.ensures.complete;
  open_choices = c.loop-number.invariant.begun.open_choices;
}

pub returns-in_err-push-in-Chosen-clause-settled : goal.returns-in_err-push-in-Chosen-clause-settled
returns-in_err-push-in-Chosen-clause-settled c = IfOk-from_err c.from_residual-in_err-push-in-Chosen.result _ c.from_residual-in_err-push-in-Chosen.ensures.0

pub returns-in_err-choice-clause-settled : goal.returns-in_err-choice-clause-settled
returns-in_err-choice-clause-settled c = IfOk-from_err c.from_residual-in_err-choice.result _ c.from_residual-in_err-choice.ensures.0

pub returns-in_err-grown-clause-settled : goal.returns-in_err-grown-clause-settled
returns-in_err-grown-clause-settled c = IfOk-from_err c.from_residual-in_err-grown.result _ c.from_residual-in_err-grown.ensures.0

pub returns-in_err-cases-clause-settled : goal.returns-in_err-cases-clause-settled
returns-in_err-cases-clause-settled c = IfOk-from_err c.from_residual.result _ c.from_residual.ensures.0

pub goal_cases-requires-clause-left : goal.goal_cases-requires-clause-left
goal_cases-requires-clause-left c = c.requires.left

pub goal_cases-requires-clause-rights : goal.goal_cases-requires-clause-rights
goal_cases-requires-clause-rights c = c.requires.rights

pub loop-number-init : goal.loop-number-init
loop-number-init c = record {
  grows = grown-same c.requires.consistent c.requires.right;
  begun = rw c.new-made.ensures.items (record { keys_are = refl; open_choices = λ place k e. absurd (cc) });
  end_is = search rules;
}

pub begin_case-requires-clause-can : goal.begin_case-requires-clause-can
begin_case-requires-clause-can c = can_begin-then c.requires c.loop-number.invariant.grows

pub returns-in_err-cases-clause-grows : goal.returns-in_err-cases-clause-grows
returns-in_err-cases-clause-grows c = grown-same c.requires.consistent c.requires.right

pub returns-in_err-grown-clause-grows : goal.returns-in_err-grown-clause-grows
returns-in_err-grown-clause-grows c = grown-then c.loop-number.invariant.grows c.begin_case.ensures.grows

pub returns-in_err-choice-clause-grows : goal.returns-in_err-choice-clause-grows
returns-in_err-choice-clause-grows c = grown-then c.loop-number.invariant.grows c.begin_case.ensures.grows

pub returns-in_err-push-in-Chosen-clause-grows : goal.returns-in_err-push-in-Chosen-clause-grows
returns-in_err-push-in-Chosen-clause-grows c = grown-then c.loop-number.invariant.grows c.begin_case.ensures.grows

pub returns-in-Failed-clause-grows : goal.returns-in-Failed-clause-grows
returns-in-Failed-clause-grows c = grown-then c.loop-number.invariant.grows c.begin_case.ensures.grows

pub returns-clause-grows : goal.returns-clause-grows
returns-clause-grows c = c.loop-number.invariant.grows
