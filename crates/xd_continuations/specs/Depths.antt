-- How deep continuations are, as types.
use Rattle.std.specs.Prelude.{◌≤◌, ℕ, List}
use Rattle.std.specs.List.{AllByRecursion}
use Rattle.xd_syntax.specs.Tree.{Tree, Definitions, seq_of}
use Rattle.xd_syntax.specs.TypeDepth.{depth}
use Rattle.xd_continuations.specs.Continuation.{Move}

-- no definition is deeper
abbrev pub NoneDeeper : ℕ → Definitions → Type 0
NoneDeeper limit E = AllByRecursion (λ (p : List ℕ × Tree). depth p.1 ≤ limit) E

-- neither content nor rest is deeper
abbrev pub IsNoDeeper : ℕ → Move → Type 0
IsNoDeeper limit m = (depth (seq_of m.content) ≤ limit) × (depth (seq_of m.rest) ≤ limit)
