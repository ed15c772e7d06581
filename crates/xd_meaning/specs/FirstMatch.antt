-- The first match of a pattern (Hosoya and Pierce, JFP 2003).
use Rattle.std.specs.Prelude.{ℕ, cond, List, [], ◌∷◌, Option, Some, None}
use Rattle.xd_doc.specs.Document.{Document}
use Rattle.xd_syntax.specs.Tree.{Tree, Definitions}
use Rattle.xd_syntax.specs.Ways.{Way, is_whole, ways}

-- what the first whole way binds
abbrev pub first_whole : List Way → Option (List (List ℕ × Document))
first_whole [] = None
first_whole (w ∷ ws) = cond (is_whole w) (Some w.bindings) (first_whole ws)

-- within as many unfoldings as a sound program needs
abbrev pub first : Definitions → Tree → Document → Option (List (List ℕ × Document))
first E P d = first_whole (ways E P d)
