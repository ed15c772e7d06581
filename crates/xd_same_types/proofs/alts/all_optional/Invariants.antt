use Rattle.std.proofs.Common.{take}
use Rattle.std.specs.List.{AllByRecursion}
use Rattle.xd_syntax.specs.Types.{tree}
use Rattle.xd_same_types.specs.Same.{CanBeEmpty}
use Rattle.xd_same_types.proofs.alts.all_optional.Given as goal

abbrev pub invariant-loop-part : goal.invariant-loop-part
invariant-loop-part l = AllByRecursion (λ id. CanBeEmpty (tree l.pool.types id)) (take l.part-index l.parts)
