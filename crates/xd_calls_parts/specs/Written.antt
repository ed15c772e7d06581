-- What is written for the contents of states.
use Rattle.std.specs.Prelude.{◌≡◌, ℕ, List, length, Option, Some}
use Rattle.std.specs.List.{AllByRecursion}
use Rattle.xd_syntax.specs.declared.types.TypeId.{TypeId}

-- this type, for each of so many states
pub record IsWrittenForAll (n : ℕ) (id : TypeId) (written : List (Option TypeId)) : Type 0 where
  pub count : length written ≡ n
  pub each : AllByRecursion (λ (o : Option TypeId). o ≡ Some id) written
