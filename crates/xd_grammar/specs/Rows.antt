-- Rows as the reader holds them.
use Rattle.std.specs.Prelude.{List, [], ◌∷◌}
use Rattle.std.specs.Borrow.{Bor}
use Rattle.xd_grammar.specs.Grammar.{Row}

abbrev pub rows_now : List (Bor Row) → List Row
rows_now [] = []
rows_now (r ∷ rs) = r.now ∷ rows_now rs
