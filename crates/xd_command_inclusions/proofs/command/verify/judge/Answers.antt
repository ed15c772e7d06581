use Rattle.std.proofs.Common.{subst}
use Rattle.xd_syntax.specs.Kept.{program_tree}
use Rattle.xd_syntax.specs.Program.{names_of}
use Rattle.xd_proof.specs.Goals.{AreGoalsAt}
use Rattle.xd_proof.proofs.GoalLemmas.{goals_belong}
use Rattle.xd_proof_check.specs.Reasons.{IsVerdict}
use Rattle.xd_proof_check.proofs.AcceptLemmas.{goals_stay}
use Rattle.xd_command_inclusions.proofs.VerifyLemmas.{judges_accepted}
use Rattle.xd_command_inclusions.proofs.command.verify.judge.Goals as goal

pub claim-requires : goal.claim-requires
claim-requires c =
    let old = c.args.sound.now.types in
    let new = c.accepts.new.sound.types in
    let g = c.goals-some.ensures.goals old c.requires in
    goals_belong new c.args.proof.now g.0 (goals_stay old new c.in_ok-accepts.ensures.adds.types c.args.proof.now g.0 g.1)

pub returns-in_ok-claim-in-Accepted : goal.returns-in_ok-claim-in-Accepted
returns-in_ok-claim-in-Accepted c = λ goals are.
    let P = program_tree c.args.sound.now in
    let old = c.args.sound.now.types in
    let new = c.accepts.new.sound.types in
    let v = subst (IsVerdict (names_of P) goals) c.in-Accepted.is (c.in_ok-accepts.ensures.verdict goals are) in
    let h = c.in_ok-accepts.ensures.holds goals are c.in-Accepted.is in
    let stay = goals_stay old new c.in_ok-accepts.ensures.adds.types c.args.proof.now goals are in
    judges_accepted P old c.args.proof.now goals c.in_ok-claim-in-Accepted.field-0 are c.goals-some.ensures.some v h
    (λ claim others e. c.in_ok-claim-in-Accepted.ensures claim others (subst (AreGoalsAt new c.args.proof.now) e stay))
