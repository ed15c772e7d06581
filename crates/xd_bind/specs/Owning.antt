-- Whether a move of some kind belongs to a variable.
use Rattle.std.specs.Prelude.{ℕ, Bool}
use Rattle.xd_auto.specs.declared.auto.State.{State}
use Rattle.xd_auto.specs.declared.kind.MoveKind.{MoveKind}
use Rattle.xd_auto.specs.declared.kind.MoveKind.TheVariants.{Label, Text}
use Rattle.xd_auto.specs.Traces.{Owned}

abbrev pub is_owned : Owned → MoveKind → State → ℕ → Bool
is_owned b Text s n = b.text s n
is_owned b Label s n = b.element s n
