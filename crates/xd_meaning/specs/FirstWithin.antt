-- First matches within so many unfoldings.
use Rattle.std.specs.Prelude.{ℕ, List, Option}
use Rattle.xd_doc.specs.Document.{Document}
use Rattle.xd_syntax.specs.Tree.{Tree, Definitions}
use Rattle.xd_syntax.specs.Ways.{ways_within}
use Rattle.xd_meaning.specs.FirstMatch.{first_whole}

-- the bindings of the first way that takes the whole document, within n unfoldings
abbrev pub first_within : Definitions → ℕ → Tree → Document → Option (List (List ℕ × Document))
first_within E n P d = first_whole (ways_within E n P d)
