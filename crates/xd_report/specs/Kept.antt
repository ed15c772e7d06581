-- What is kept while a line is appended.
use Rattle.std.specs.Prelude.{◌≡◌, ℕ, List, ◌++◌}

-- `new` begins with `old`
pub record IsKept (old new : List ℕ) : Type 0 where
  pub rest : List ℕ
  pub appended : new ≡ old ++ rest
