use Rattle.xd_proof_make.specs.Known.{HasKnown}
use Rattle.xd_proof_make.proofs.IsMetLemmas.{all_get_by}
use Rattle.xd_proof_make.proofs.KeepsKnownLemmas.{ids_more}
use Rattle.xd_proof_make.proofs.goals.type_ids.Goals as goal

pub type_of-requires : goal.type_of-requires
type_of-requires c = all_get_by (HasKnown c.args.states.now) c.args.wanted.now c.loop-state.state-index (record { number = 0 }) c.loop-state-test.true c.requires

pub loop-state-preserved : goal.loop-state-preserved
loop-state-preserved c =
    ids_more c.args.states.now c.loop-state.ids.items c.push.new.self.items c.type_of.result c.args.wanted.now c.loop-state.state-index (record { number = 0 }) c.loop-state-test.true c.loop-state.invariant c.type_of.ensures c.in_ok-push.ensures.items
