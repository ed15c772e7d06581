use Rattle.std.proofs.Common.{◌≡◌, take}
use Rattle.std.specs.Option.{IfSome}
use Rattle.xd_same_types.specs.Grown.{GrowsTypes}
use Rattle.xd_syntax.specs.Types.{BelongsTo}
use Rattle.xd_show_solve.specs.Equations.{IsParted, SumStands, own_in, side_in}
use Rattle.xd_show_solve.proofs.SideLaws.{a_side}
use Rattle.xd_show_solve.proofs.SumSteps.{products, constant_of}
use Rattle.xd_show_solve.proofs.solve.part_by.Given as goal

abbrev pub invariant-loop-term : goal.invariant-loop-term
invariant-loop-term l = record {
  keeps : GrowsTypes l.fn.pool.types l.pool.types;
  rest : SumStands l.pool.types l.parts.rest;
  own : IfSome l.parts.own (BelongsTo l.pool.types);
  items : l.term-items ≡ l.sum.terms.items;
  parted : IsParted (a_side (products l.fn.pool.types (take l.term-index l.term-items)) (constant_of l.fn.pool.types l.sum.constant)) l.of (own_in l.pool.types l.parts.own) (side_in l.pool.types l.parts.rest);
}
