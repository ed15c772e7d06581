use Rattle.std.proofs.Common.{subst, sym}
use Rattle.xd_heads.specs.Mirrors.{Mirrors}
use Rattle.xd_calls_states.proofs.types.show_state_of.Goals as goal

pub show_compiled-requires-clause-mirrors : goal.show_compiled-requires-clause-mirrors
show_compiled-requires-clause-mirrors c = subst (Mirrors c.args.sound.now c.new-cells.result) (sym c.new-auto.ensures) (c.new-cells.ensures.mirrors c.args.sound.now)
