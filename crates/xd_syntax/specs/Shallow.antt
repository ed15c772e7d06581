-- How deep a text may be.
use Rattle.std.specs.Prelude.{ℕ}

-- how many brackets and parentheses may be open at once
abbrev pub nesting_limit : ℕ
nesting_limit = 256
