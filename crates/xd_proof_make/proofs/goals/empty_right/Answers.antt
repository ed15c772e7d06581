use Rattle.std.proofs.Common.{get_or, sym, ◌∙◌}
use Rattle.xd_proof_make.proofs.ProofGoalLemmas.{numbered_next, some_last}
use Rattle.xd_proof_make.proofs.goals.empty_right.Goals as goal

pub returns-then-is_last : goal.returns-then-is_last
returns-then-is_last c = (
  sym c.if-not-is_last.ensures,
  get_or c.args.rights.now c.loop-index.index (record { number = 0 }),
  numbered_next c.args.rights.now c.loop-index.index (record { number = 0 }) c.loop-index-test.true,
  sym c.is_last-in-loop-index.ensures ∙ c.if-is_last.true,
)

pub unreachable-requires : goal.unreachable-requires
unreachable-requires c = some_last c.args.auto.now c.args.rights.now c.loop-index.index c.loop-index.invariant c.loop-index-test.false (c.requires.covered (sym c.if-not-is_last.ensures))
