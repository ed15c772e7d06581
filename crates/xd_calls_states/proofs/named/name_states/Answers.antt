use Rattle.std.proofs.Common.{subst, sym}
use Rattle.xd_heads.specs.Mirrors.{Mirrors}
use Rattle.xd_calls_states.proofs.named.name_states.Goals as goal

pub name_each-requires-clause-mirrors : goal.name_each-requires-clause-mirrors
name_each-requires-clause-mirrors c = subst (Mirrors c.args.sound.now c.new-cells.result) (sym c.requires) (c.new-cells.ensures.mirrors c.args.sound.now)

pub name_each-requires-clause-states : goal.name_each-requires-clause-states
name_each-requires-clause-states c = rw c.new-states.ensures.items tt
