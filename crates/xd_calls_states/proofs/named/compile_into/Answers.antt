use Rattle.std.proofs.Common.{subst, sym}
use Rattle.xd_heads.specs.Mirrors.{Mirrors}
use Rattle.xd_calls_states.proofs.named.compile_into.Goals as goal

pub compile_both-requires-clause-mirrors : goal.compile_both-requires-clause-mirrors
compile_both-requires-clause-mirrors c = subst (Mirrors c.args.sound.now c.new-cells.result) (sym c.requires.empty) (c.new-cells.ensures.mirrors c.args.sound.now)
