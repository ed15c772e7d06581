use Rattle.std.proofs.Common.{◌-◌, refl, arith}
use Rattle.xd_boole.specs.declared.refusals.Parted.{Parted}
use Rattle.xd_boole.proofs.RefusalLemmas.{parts_half, parts_last}
use Rattle.xd_boole.proofs.refusals.part_of.Goals as goal

pub returns-in-Some : goal.returns-in-Some
returns-in-Some c =
    let made : Parted = record { part = c.in-Some.part; choices = c.in_ok-copies.copies; moves = c.args.moves; depth = c.args.depth - 1 } in
    parts_half c.args.universal.now c.args.choices.now c.args.moves.items c.args.depth made (omega arith) c.in_ok-copies.ensures refl

pub returns : goal.returns
returns c =
    let made : Parted = record { part = c.in-Some-pop.step.class; choices = c.in_ok-choices.choices; moves = c.pop.new.self; depth = c.args.depth } in
    parts_last c.args.universal.now c.args.choices.now c.in_ok-copies.copies.items c.pop.new.self.items c.in-Some-pop.step c.args.moves.items c.args.depth made c.in_ok-copies.ensures
    (rw c.side_of.ensures at c.in_ok-choices.ensures) c.in-Some-pop.ensures.items refl refl refl
