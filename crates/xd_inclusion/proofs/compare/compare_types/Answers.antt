use Rattle.std.proofs.Common.{sym, subst}
use Rattle.xd_heads.specs.Mirrors.{Mirrors}
use Rattle.xd_inclusion.proofs.compare.compare_types.Goals as goal

pub compare_in-requires-clause-mirrors : goal.compare_in-requires-clause-mirrors
compare_in-requires-clause-mirrors c = subst (Mirrors c.args.sound.now c.new-cells.result) (sym c.new-auto.ensures) (c.new-cells.ensures.mirrors c.args.sound.now)
