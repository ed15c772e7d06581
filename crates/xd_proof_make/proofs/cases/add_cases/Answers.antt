use Rattle.xd_proof_make.specs.Places.{new_numbers}
use Rattle.xd_proof_make.proofs.ReadCaseLemmas.{more_made}
use Rattle.xd_proof_make.proofs.cases.add_cases.Goals as goal

pub loop-choice-preserved : goal.loop-choice-preserved
loop-choice-preserved c =
    more_made c.args.table.now.nodes (new_numbers c.args.heads.now) c.args.goals.now c.args.head c.args.choices.now c.loop-choice.choice-index c.choice-item.result c.args.cases.now.items c.loop-choice.cases.items _ c.in_ok-write_case.field-0
    c.loop-choice-test.true c.choice-item.is c.loop-choice.invariant c.in_ok-write_case.ensures c.in_ok-push.ensures.items
