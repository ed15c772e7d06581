use Rattle.std.proofs.Common.{take}
use Rattle.xd_rec.specs.Faults.{IsGraphOf}
use Rattle.xd_rec.proofs.faults.add_uses.Given as goal

abbrev pub invariant-loop-top_use : goal.invariant-loop-top_use
invariant-loop-top_use l = record { graph : IsGraphOf l.defs (take l.top_use-index l.uses) l.front_only l.graph }
