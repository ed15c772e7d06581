use Rattle.xd_proof_make.proofs.TableStepsLemmas.{IsWalked, count_all}
use Rattle.xd_proof_make.proofs.steps.table_steps.Given as goal

abbrev pub invariant-loop-number : goal.invariant-loop-number
invariant-loop-number l = IsWalked l.table.nodes l.root l.stack.items l.steps.items

abbrev pub decreases-loop-number : goal.decreases-loop-number
decreases-loop-number l = count_all l.table.nodes l.stack.items
