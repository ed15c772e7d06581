-- The first token that no text goes on with.
use Rattle.std.specs.Prelude.{◌<◌, ◌+◌, ℕ, List, length, take}
use Rattle.xd_grammar.specs.declared.grammar.Nonterminal.{Nonterminal}
use Rattle.xd_grammar.specs.declared.grammar.Terminal.{Terminal}
use Rattle.xd_grammar.specs.Grammar.{BeginsNonterminal}
use Rattle.xd_syntax.specs.Shallow.{nesting_limit}

-- Why no text within the limit of nesting goes on with a token: none begins with the tokens up to
-- this one, or the token opens more levels than may be open.
--
-- In `type A = a[]]` the second `]` is refused with `no_text`: no text begins so. In 257 labels one
-- inside the other, `a[a[a[`.., the last is refused with `too_deep`: a text begins so where 257
-- levels may be open, and none where 256 may.
pub data Refusal : Type 0 where
  no_text : Refusal
  too_deep : Refusal

-- No text goes on with the token n after those before it: without a limit of nesting, or else
-- within it.
abbrev pub IsRefusedAt : Nonterminal → List Terminal → ℕ → Refusal → Type 0
IsRefusedAt part ts n no_text = (limit : ℕ) → ¬ (BeginsNonterminal limit part (take (n + 1) ts))
IsRefusedAt part ts n too_deep =
    ¬ (BeginsNonterminal nesting_limit part (take (n + 1) ts))
    × ((limit : ℕ) × BeginsNonterminal limit part (take (n + 1) ts))

-- the tokens before the token n begin a text within the limit, and it is refused
pub record IsFirstRefusal (part : Nonterminal) (ts : List Terminal) (n : ℕ) (refusal : Refusal) : Type 0 where
  pub within : n < length ts
  pub before : BeginsNonterminal nesting_limit part (take n ts)
  pub there : IsRefusedAt part ts n refusal
