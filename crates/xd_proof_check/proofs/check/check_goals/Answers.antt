use Rattle.std.proofs.Common.{◌+◌, ◌∙◌, drop, ap, sym, subst, arith, length}
use Rattle.std.specs.Option.{IfNone, option_map}
use Rattle.xd_doc.proofs.Lists.{all_get}
use Rattle.xd_proof.specs.LinesFit.{LinesFit}
use Rattle.xd_proof_check.specs.Leaves.{GoalBelongs}
use Rattle.xd_syntax.specs.Kept.{program_tree}
use Rattle.xd_syntax.specs.Program.{names_of}
use Rattle.xd_meaning.specs.Violation.{goals_of}
use Rattle.xd_proof.specs.Kept.{AreTrees}
use Rattle.xd_proof_check.specs.GoalWalk.{violation_of}
use Rattle.xd_proof_check.specs.Paths.{IsClear}
use Rattle.xd_laws.proofs.FirstWrong.{or_next, wrong_goals}
use Rattle.xd_proof_check.proofs.AcceptLemmas.{claims_of}
use Rattle.xd_proof_check.proofs.GoalLemmas.{goals_step, lined_long, none_drop}
use Rattle.xd_proof_check.proofs.check.check_goals.Goals as goal

pub returns-in-Some-clause-found : goal.returns-in-Some-clause-found
returns-in-Some-clause-found c =
    let p = c.args.program.now in
    let E = names_of (program_tree p) in
    let goals = c.args.goals.now in
    let at = c.loop-goal.goal-index in
    λ ls z.
    sym (c.loop-goal.invariant.found ls z
    ∙ goals_step p.types E (goals_of ls) goals ls at c.goal-item.result c.in_ok-violation.field-0 z c.loop-goal-test.true c.goal-item.is
    (λ l i. c.in_ok-violation.ensures.found (goals_of ls) l (claims_of p.types goals ls z) i)
    ∙ ap (λ o. or_next (option_map violation_of o) (wrong_goals E (goals_of ls) (drop (at + 1) ls))) c.in-Some.is)

pub loop-goal-preserved : goal.loop-goal-preserved
loop-goal-preserved c =
    let p = c.args.program.now in
    let E = names_of (program_tree p) in
    let goals = c.args.goals.now in
    let at = c.loop-goal.goal-index in
    let q = c.check_goal.new.path in
    record {
      serves = c.in_ok-violation.ensures.serves;
      clear = subst (λ o. IfNone o (IsClear q)) c.in_default.is c.in_ok-violation.ensures.clear;
      found = λ ls z.
          c.loop-goal.invariant.found ls z
          ∙ goals_step p.types E (goals_of ls) goals ls at c.goal-item.result c.in_ok-violation.field-0 z c.loop-goal-test.true c.goal-item.is
          (λ l i. c.in_ok-violation.ensures.found (goals_of ls) l (claims_of p.types goals ls z) i)
          ∙ ap (λ o. or_next (option_map violation_of o) (wrong_goals E (goals_of ls) (drop (at + 1) ls))) c.in_default.is;
    }

pub returns-clause-found : goal.returns-clause-found
returns-clause-found c =
    let p = c.args.program.now in
    let E = names_of (program_tree p) in
    λ ls z.
    let n = lined_long p.types c.args.goals.now ls z in
    sym (c.loop-goal.invariant.found ls z ∙ none_drop E (goals_of ls) ls c.loop-goal.goal-index (omega (arith, c.loop-goal-test.false)))

pub check_goal-requires-clause-here : goal.check_goal-requires-clause-here
check_goal-requires-clause-here c = subst (GoalBelongs (length c.args.program.now.types)) (sym c.goal-item.is) (all_get (GoalBelongs (length c.args.program.now.types)) c.args.goals.now c.loop-goal.goal-index c.goal-item.result c.requires.belong c.loop-goal-test.true)

pub check_goal-requires-clause-lines : goal.check_goal-requires-clause-lines
check_goal-requires-clause-lines c = subst LinesFit (sym c.goal-item.is) (all_get LinesFit c.args.goals.now c.loop-goal.goal-index c.goal-item.result c.requires.lines c.loop-goal-test.true)

pub check_goal-requires-clause-trees : goal.check_goal-requires-clause-trees
check_goal-requires-clause-trees c = subst AreTrees (sym c.goal-item.is) (all_get AreTrees c.args.goals.now c.loop-goal.goal-index c.goal-item.result c.requires.trees c.loop-goal-test.true)
