use Rattle.std.proofs.Common.{[], ◌∷◌, inl, refl, sym, subst}
use Rattle.xd_syntax.specs.Kept.{program_tree}
use Rattle.xd_command_steps.proofs.CarryNothing.{CarryNothing, names_carry, recursion_carry}
use Rattle.xd_command_steps.proofs.program.sound_program.Goals as goal

pub returns-in-Err-Fault-clause-step : goal.returns-in-Err-Fault-clause-step
returns-in-Err-Fault-clause-step c =
    let first = rw c.in-Err-Fault.field-0-is at c.in-Err-Fault.ensures.fault in
    (c.in-Err-Fault.fault ∷ [], inl (c.in-Err-Fault.fault, first, refl), c.in_ok-faults-in-Err-Fault.ensures)

pub faults-requires-then-not-is_empty : goal.faults-requires-then-not-is_empty
faults-requires-then-not-is_empty c =
    subst CarryNothing (sym c.deref.ensures.value) (subst CarryNothing (sym c.in_ok-faults.ensures) (names_carry (program_tree c.in-Ok.program)))

pub faults-requires-in-Faults : goal.faults-requires-in-Faults
faults-requires-in-Faults c =
    let found = rw c.in-Faults.is at c.in_ok-sound.ensures in
    subst CarryNothing (sym c.deref-in-Faults.ensures.value) (recursion_carry (program_tree c.in-Ok.program) c.in-Faults.faults.items found.1)
