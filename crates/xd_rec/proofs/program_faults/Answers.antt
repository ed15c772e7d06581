use Rattle.std.proofs.Common.{sym, subst}
use Rattle.xd_rec.specs.Names.{AreUnique}
use Rattle.xd_rec.proofs.Unique.{unique_names}
use Rattle.xd_rec.proofs.program_faults.Goals as goal

pub recursion_faults-requires-clause-unique : goal.recursion_faults-requires-clause-unique
recursion_faults-requires-clause-unique c = subst AreUnique (sym c.type_defs.ensures.type_defs) (unique_names c.args.program.now c.requires.named)
