use Rattle.std.proofs.Common.{◌≡◌, ◌∙◌, List, length, ap, sym, subst}
use Rattle.std.specs.List.{AllByRecursion}
use Rattle.std.specs.Option.{option_map}
use Rattle.xd_syntax.specs.Kept.{ProgramTable, program_tree}
use Rattle.xd_syntax.specs.Program.{names_of}
use Rattle.xd_syntax.specs.RecursionFaults.{IsSound}
use Rattle.xd_laws.proofs.FirstWrong.{first_wrong}
use Rattle.xd_proof.specs.Goals.{AreGoalsAt}
use Rattle.xd_proof.specs.declared.proof.ProofGoal.{ProofGoal}
use Rattle.xd_proof.specs.Kept.{AreTrees}
use Rattle.xd_proof_check.specs.GoalWalk.{violation_of}
use Rattle.xd_proof_check.specs.Leaves.{GoalsBelong}
use Rattle.xd_proof_check.proofs.AcceptLemmas.{accepted_is, belong_of, claims_hold, goals_stay, says_verdict}
use Rattle.xd_proof_check.proofs.checker.accepts.Goals as goal

pub check_goals-requires-clause-belong : goal.check_goals-requires-clause-belong
check_goals-requires-clause-belong c =
    let q = c.new.new.sound in
    let F = c.args.proof.now in
    let g = c.goals.ensures.goals c.args.sound.now.types c.requires in
    subst (λ (x : ProgramTable). GoalsBelong (length x.types) c.goals.result.now) (sym c.program.ensures.program)
    (subst (GoalsBelong (length q.types)) (sym c.goals.ensures.same)
    (belong_of q.types F g.0 (goals_stay c.args.sound.now.types q.types c.new.ensures.adds.types F g.0 g.1)))

pub check_goals-requires-clause-trees : goal.check_goals-requires-clause-trees
check_goals-requires-clause-trees c = subst (AllByRecursion AreTrees) (sym c.goals.ensures.same) c.goals.ensures.trees

pub returns-clause-verdict : goal.returns-clause-verdict
returns-clause-verdict c =
    let p = c.args.sound.now in
    let q = c.new.new.sound in
    let F = c.args.proof.now in
    says_verdict p q (names_of (program_tree p)) F c.verdict.result c.new.ensures.adds.types (ap names_of c.new.ensures.same)
    (λ ls z.
    c.verdict.ensures
    ∙ subst (λ (x : ProgramTable). AreGoalsAt x.types F ls → option_map violation_of c.in_ok-found.found ≡ first_wrong (names_of (program_tree x)) ls) c.program.ensures.program
    (subst (λ (gs : List ProofGoal). AreGoalsAt c.program.result.now.types gs ls → option_map violation_of c.in_ok-found.found ≡ first_wrong (names_of (program_tree c.program.result.now)) ls) c.goals.ensures.same
    (c.in_ok-found.ensures.found ls)) z)

pub returns-clause-accepted : goal.returns-clause-accepted
returns-clause-accepted c =
    let p = c.args.sound.now in
    λ ls z. accepted_is (names_of (program_tree p)) ls c.verdict.result (returns-clause-verdict c ls z)

pub returns-clause-holds : goal.returns-clause-holds
returns-clause-holds c =
    let p = c.args.sound.now in
    let s = c.in_ok-lister.ensures.serves in
    λ ls z e. claims_hold (program_tree p) (subst IsSound c.new.ensures.same s.sound) ls c.verdict.result (returns-clause-verdict c ls z) e

pub give_back-requires : goal.give_back-requires
give_back-requires c = rw c.program.ensures.program at c.in_ok-found.ensures.serves

pub check_goals-requires-clause-serves : goal.check_goals-requires-clause-serves
check_goals-requires-clause-serves c = rw c.program.ensures.program c.in_ok-lister.ensures.serves
