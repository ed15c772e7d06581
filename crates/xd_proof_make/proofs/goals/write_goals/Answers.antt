use Rattle.std.proofs.Common.{ℕ, ◌<◌, List, length, subst, sym}
use Rattle.std.specs.List.{AllZip}
use Rattle.xd_goals.specs.Rows.{row_at}
use Rattle.xd_proof_make.specs.Made.{CanWrite, IsGoalMade}
use Rattle.xd_proof_make.proofs.IsMetLemmas.{all_get_by}
use Rattle.xd_proof_make.proofs.ProofGoalLemmas.{zip_more, take_past}
use Rattle.xd_proof_make.proofs.goals.write_goals.Goals as goal

pub write_goal-requires-clause-can : goal.write_goal-requires-clause-can
write_goal-requires-clause-can c =
    subst (CanWrite c.args.cells.now c.args.auto.now c.args.table.now c.args.states.now c.args.numbers.now) (sym c.goal-goal.ensures)
    (all_get_by (CanWrite c.args.cells.now c.args.auto.now c.args.table.now c.args.states.now c.args.numbers.now) c.args.goals.now c.loop-number.number-index 0 c.loop-number-test.true c.requires.can)

pub loop-number-preserved : goal.loop-number-preserved
loop-number-preserved c = λ p m h.
    zip_more (λ g x. IsGoalMade p c.args.cells.now c.args.auto.now c.args.table.now.nodes c.args.numbers.now (row_at c.args.table.now.rows g) x) c.args.goals.now c.loop-number.number-index c.loop-number.made.items c.push.new.self.items c.in_ok-write_goal.field-0
    c.loop-number-test.true (c.loop-number.invariant p m h)
    (subst (λ (g : ℕ). IsGoalMade p c.args.cells.now c.args.auto.now c.args.table.now.nodes c.args.numbers.now (row_at c.args.table.now.rows g) c.in_ok-write_goal.field-0) c.goal-goal.ensures (c.in_ok-write_goal.ensures p m h))
    c.in_ok-push.ensures.items

pub returns-clause-made : goal.returns-clause-made
returns-clause-made c = λ p m h.
    subst (λ (gs : List ℕ). AllZip (λ g x. IsGoalMade p c.args.cells.now c.args.auto.now c.args.table.now.nodes c.args.numbers.now (row_at c.args.table.now.rows g) x) gs c.loop-number.made.items)
    (take_past c.args.goals.now c.loop-number.number-index c.loop-number-test.false) (c.loop-number.invariant p m h)

pub goal-goal-requires : goal.goal-goal-requires
goal-goal-requires c = all_get_by (λ g. g < length c.args.table.now.rows) c.args.goals.now c.loop-number.number-index 0 c.loop-number-test.true c.requires.there

pub write_goal-requires-clause-there : goal.write_goal-requires-clause-there
write_goal-requires-clause-there c =
    subst (λ (g : ℕ). g < length c.args.table.now.rows) (sym c.goal-goal.ensures)
    (all_get_by (λ g. g < length c.args.table.now.rows) c.args.goals.now c.loop-number.number-index 0 c.loop-number-test.true c.requires.there)
