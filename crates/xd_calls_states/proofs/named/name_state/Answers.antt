use Rattle.xd_heads.proofs.Mirrored.{mirrors_stay}
use Rattle.xd_calls_states.proofs.NamedStates.{named_more}
use Rattle.xd_calls_states.proofs.named.name_state.Goals as goal

pub compile_type-requires-clause-mirrors : goal.compile_type-requires-clause-mirrors
compile_type-requires-clause-mirrors c =
    mirrors_stay c.args.sound.now c.find_type.new.sound c.args.cells.now c.args.auto.now c.requires.mirrors c.in_ok-id.ensures.adds c.in_ok-id.ensures.same

pub returns-clause-states : goal.returns-clause-states
returns-clause-states c = named_more c.args.auto.now c.compile_type.new.auto c.args.states.now.items _ _ c.in_ok-state.ensures.extends c.requires.states c.in_ok-state.ensures.state c.in_ok-push.ensures.items

pub compile_type-requires-clause-belongs : goal.compile_type-requires-clause-belongs
compile_type-requires-clause-belongs c = c.in_ok-id.ensures.belongs

pub returns-clause-mirrors : goal.returns-clause-mirrors
returns-clause-mirrors c = c.in_ok-state.ensures.mirrors
