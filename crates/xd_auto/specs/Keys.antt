-- What a map has by keys of states.
use Rattle.std.specs.Prelude.{ℕ, ◌+◌, ◌*◌, ◌%◌, ◌^◌, List, Option, nat_eq}
use Rattle.std.specs.Cmp.Lexicographic.{pointwise}
use Rattle.std.specs.HashMap.{HashMap, get}

-- the number under a key
abbrev pub found_at : {S : Type 0} → HashMap (List ℕ) ℕ S → List ℕ → Option ℕ
found_at {S = S} found key = get (pointwise nat_eq) found key

-- a number with one more part mixed in
abbrev pub mixed_with : ℕ → ℕ → ℕ
mixed_with key part = (key * 0x9E3779B97F4A7C15 % 2 ^ 64 + part) % 2 ^ 64
