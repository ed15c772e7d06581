-- The sink in memory, as contracts see it.
use Rattle.std.specs.Prelude.{ℕ, List}

-- what is written, the room that is left, the most that a call takes, the numbers of the calls
-- that are to fail, and the calls and faults so far
pub record SinkState : Type 0 where
  pub written : List ℕ
  pub room : ℕ
  pub piece : ℕ
  pub failing : List ℕ
  pub calls : ℕ
  pub faults : ℕ
