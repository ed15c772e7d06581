-- Bytes to which a text is appended, as far as memory goes.
use Rattle.std.specs.Prelude.{◌≡◌, ℕ, List, ◌++◌}

-- `new` is `old` followed by a prefix of the text
pub record AppendsPrefix (text old new : List ℕ) : Type 0 where
  pub prefix : List ℕ
  pub missing : List ℕ
  pub appended : new ≡ old ++ prefix
  pub whole : prefix ++ missing ≡ text
