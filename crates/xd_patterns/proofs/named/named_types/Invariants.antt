use Rattle.std.proofs.Common.{take}
use Rattle.std.specs.List.{AllByRecursion}
use Rattle.xd_meaning.specs.KeptFaults.{AllPaired}
use Rattle.xd_syntax.specs.Types.{BelongsTo}
use Rattle.xd_patterns.specs.Named.{StandsForType}
use Rattle.xd_patterns.specs.Sources.{names_in}
use Rattle.xd_patterns.proofs.named.named_types.Given as goal

abbrev pub invariant-loop-id : goal.invariant-loop-id
invariant-loop-id l = record {
  belong : AllByRecursion (BelongsTo l.sources.types.now) l.named.items;
  stand : AllPaired (StandsForType (names_in l.sources) l.sources.types.now) (take l.id-index l.ids) l.named.items;
}
