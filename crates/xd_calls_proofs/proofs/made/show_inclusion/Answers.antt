use Rattle.std.proofs.Common.{sym, subst}
use Rattle.xd_heads.specs.Mirrors.{Mirrors}
use Rattle.xd_calls_proofs.proofs.made.show_inclusion.Goals as goal

pub both_states-requires-clause-mirrors : goal.both_states-requires-clause-mirrors
both_states-requires-clause-mirrors c = subst (Mirrors c.args.sound.now c.new-cells.result) (sym c.new-auto.ensures) (c.new-cells.ensures.mirrors c.args.sound.now)
