use Rattle.std.proofs.Common.{take}
use Rattle.std.specs.List.{AllZip}
use Rattle.xd_scrutinees.specs.Scrutinees.{StandsAlone}
use Rattle.xd_scrutinees.proofs.matches.apart.Given as goal

abbrev pub invariant-loop-found : goal.invariant-loop-found
invariant-loop-found l = AllZip (StandsAlone l.auto') (take l.found-index l.met) l.made.items
