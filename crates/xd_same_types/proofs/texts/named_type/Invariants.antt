use Rattle.std.proofs.Common.{take}
use Rattle.xd_doc.specs.Classes.{is_named}
use Rattle.xd_same_types.specs.Grown.{GrowsTypes}
use Rattle.xd_syntax.specs.Types.{BelongsTo, tree}
use Rattle.xd_same_types.specs.Same.{IsTextsType}
use Rattle.xd_same_types.proofs.texts.named_type.Given as goal

abbrev pub invariant-loop-number : goal.invariant-loop-number
invariant-loop-number l = record {
  keeps : GrowsTypes l.fn.pool.types l.pool.types;
  belongs : BelongsTo l.pool.types l.made;
  texts : IsTextsType (is_named (take l.number l.texts)) (tree l.pool.types l.made);
}
