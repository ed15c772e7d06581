use Rattle.std.proofs.Common.{◌≡◌, ◌<◌, length, get_or}
use Rattle.std.specs.List.{AllByRecursion}
use Rattle.xd_syntax.specs.Types.{BelongsTo}
use Rattle.xd_named_parts.proofs.plan.named_types.Given as goal

abbrev pub invariant-loop-number : goal.invariant-loop-number
invariant-loop-number l = record {
  belong : AllByRecursion (BelongsTo l.given.pool.types) l.made.items;
  some : 0 < length l.made.items;
  first : get_or l.made.items 0 l.first ≡ l.first;
}
