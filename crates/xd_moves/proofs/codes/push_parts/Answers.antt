use Rattle.std.proofs.Common.{◌<◌, length, arith, rules}
use Rattle.xd_syntax.specs.declared.types.TypeId.{TypeId}
use Rattle.xd_sound.proofs.EmptyLemmas.{part_in}
use Rattle.xd_moves.proofs.codes.push_parts.Goals as goal

no_type : TypeId
no_type = record { at = 0 }

pub offset_bounds-numbers-at : goal.offset_bounds-numbers-at
unfolding no_type
offset_bounds-numbers-at c =
    let h = part_in (length c.args.numbers.now) c.args.parts.now c.loop-part.part-index no_type c.requires c.loop-part-test.true in
    let l : c.at.result < length c.args.numbers.now = omega (arith, c.at.ensures) in
    search rules

pub bounds-numbers-at : goal.bounds-numbers-at
unfolding no_type
bounds-numbers-at c =
    let h = part_in (length c.args.numbers.now) c.args.parts.now c.loop-part.part-index no_type c.requires c.loop-part-test.true in
    omega (arith, c.at.ensures)
