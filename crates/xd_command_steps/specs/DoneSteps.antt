-- What a step of a command does: it ends the command, or finds something.
use Rattle.std.specs.Prelude.{Result, Ok, Err}
use Rattle.xd_command_steps.specs.Output.{Output}
use Rattle.xd_command_steps.specs.declared.output.Stop.{Stop}
use Rattle.xd_command_steps.specs.declared.output.Stop.TheVariants as stops

-- what a call that does a step gives; running out of memory tells nothing
abbrev pub DoesStep : {A : Type 0} → Result A Stop → (ends : Output → Type 0) → (finds : A → Type 0) → Type 0
DoesStep (Ok x) ends finds = finds x
DoesStep (Err (stops.Refused o)) ends finds = ends o
DoesStep (Err stops.NoMemory) ends finds = Unit {0}

-- what a call that does all steps gives
abbrev pub DoesAll : Result Output Stop → (Output → Type 0) → Type 0
DoesAll r answers = DoesStep r answers answers
