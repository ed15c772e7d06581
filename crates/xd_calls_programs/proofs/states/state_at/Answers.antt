use Rattle.std.proofs.Common.{subst, sym}
use Rattle.xd_heads.specs.Mirrors.{Mirrors}
use Rattle.xd_calls_programs.proofs.states.state_at.Goals as goal

pub compile_type-requires-clause-mirrors : goal.compile_type-requires-clause-mirrors
compile_type-requires-clause-mirrors c = subst (Mirrors c.args.sound.now c.new-cells.result) (sym c.new-auto.ensures) (c.new-cells.ensures.mirrors c.args.sound.now)
