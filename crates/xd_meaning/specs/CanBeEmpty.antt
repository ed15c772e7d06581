-- Whether the empty document fits a type, computed.
use Rattle.std.specs.Prelude.{ℕ, zero, suc, Bool, false, List, length, Option, Some, None}
use Rattle.xd_syntax.specs.Tree.{Tree, Definitions, body}
use Rattle.xd_syntax.specs.Fits.{empty_by}

-- whether it fits what a name is defined as
abbrev pub empty_definition : (Tree → Bool) → Option Tree → Bool
empty_definition F None = false
empty_definition F (Some T) = F T

-- whether it fits what a name stands for, within so many unfoldings
abbrev pub empty_name : Definitions → ℕ → List ℕ → Bool
empty_name E zero x = false
empty_name E (suc n) x = empty_definition (empty_by (empty_name E n)) (body E x)

-- whether the empty document fits, within as many unfoldings as there are definitions
unfoldable pub can_be_empty : Definitions → Tree → Bool
can_be_empty E T = empty_by (empty_name E (length E)) T
