-- Tables of types whose nodes keep the limit of nesting.
use Rattle.std.specs.Prelude.{◌≡◌, ℕ, ◌+◌, ◌<◌, ◌≤◌, List, length}
use Rattle.xd_syntax.specs.Tree.{Tree}
use Rattle.xd_syntax.specs.Table.{Row, tree_at}
use Rattle.xd_syntax.specs.TypeDepth.{depth}
use Rattle.xd_syntax.specs.Shallow.{nesting_limit}

-- no node after the old ones is deeper than this
abbrev pub AddsWithin : (limit : ℕ) → (old new : List Row) → Type 0
AddsWithin limit old new = (i : ℕ) → length old ≤ i → i < length new → depth (tree_at new i) ≤ limit

-- no node is deeper than a text may be nested
abbrev pub IsShallow : List Row → Type 0
IsShallow types = (i : ℕ) → i < length types → depth (tree_at types i) ≤ nesting_limit

-- one node is added at most, and it is that of this type
pub record AddsOne (T : Tree) (old new : List Row) : Type 0 where
  pub one : length new ≤ length old + 1
  pub same : (i : ℕ) → length old ≤ i → i < length new → tree_at new i ≡ T
