-- Graphs: for each node, a number, the nodes that its edges lead to.
use Rattle.std.specs.Prelude.{ℕ, ◌<◌, List, [], length, get_or}
use Rattle.xd_doc.specs.Members.{IsOneOf}

-- the nodes that a node's edges lead to
abbrev pub successors : List (List ℕ) → ℕ → List ℕ
successors g v = get_or g v []

abbrev pub HasEdge : List (List ℕ) → ℕ → ℕ → Type 0
HasEdge g v w = IsOneOf w (successors g v)

-- edges lead to nodes of the graph
abbrev pub IsClosed : List (List ℕ) → Type 0
IsClosed g = (v w : ℕ) → HasEdge g v w → w < length g
