use Rattle.xd_heads.specs.Mirrors.{IsTypeState}
use Rattle.xd_proof_make.proofs.IsMetLemmas.{all_get_by}
use Rattle.xd_proof_make.proofs.places.all_sorts.Goals as goal

pub sorts-requires-clause-state : goal.sorts-requires-clause-state
sorts-requires-clause-state c = all_get_by (IsTypeState c.args.cells.now) c.args.wanted.now c.loop-state.state-index (record { number = 0 }) c.loop-state-test.true c.requires.states
