-- A step of a command either ends it with an output, or finds what the next steps go on with.
use Rattle.std.specs.Prelude.{◌⊎◌}
use Rattle.xd_command_steps.specs.Output.{Output}

-- the output of a command that begins with this step
abbrev pub Step :
    {A : Type 0} → (ends : Output → Type 0) → (finds : A → Type 0) → (next : A → Output → Type 0) →
    Output → Type 0
Step {A} ends finds next o = ends o ⊎ ((x : A) × finds x × next x o)
