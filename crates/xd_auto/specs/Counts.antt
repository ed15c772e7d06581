-- How many numbers a test leaves out.
use Rattle.std.specs.Prelude.{ℕ, zero, suc, ◌+◌, Bool, cond}

-- how many of the first n numbers the test leaves out
abbrev pub left_out : (ℕ → Bool) → ℕ → ℕ
left_out f zero = 0
left_out f (suc n) = cond (f n) 0 1 + left_out f n

-- the same over the first m rows
abbrev pub left_out_of : (ℕ → ℕ → Bool) → ℕ → ℕ → ℕ
left_out_of f zero n = 0
left_out_of f (suc m) n = left_out (f m) n + left_out_of f m n
