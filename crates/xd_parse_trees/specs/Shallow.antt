-- How deep the types are that are read: they are no deeper than the text is nested.
use Rattle.std.specs.Prelude.{◌≡◌, ℕ, ◌≤◌, List}
use Rattle.std.specs.List.{AllByRecursion}
use Rattle.xd_syntax.specs.Table.{Row}
use Rattle.xd_syntax.specs.Placed.{PlacedTree, unplaced, place_of, placed_seq}
use Rattle.xd_syntax.specs.TypeDepth.{depth}
use Rattle.xd_syntax.specs.ShallowTables.{AddsWithin}
use Rattle.xd_syntax.specs.Program.{Parameter, ProgramTree}
use Rattle.xd_parse_trees.specs.Merged.{parts_of_seq}

-- Within each limit that something keeps, the new nodes keep it too. (An empty sequence that is
-- left out of a longer one has depth 1.)
abbrev pub NoDeeper : (within : ℕ → Type 0) → (old new : List Row) → Type 0
NoDeeper within old new = (limit : ℕ) → 1 ≤ limit → within limit → AddsWithin limit old new

-- ---- trees, and what they are in, within a limit
abbrev pub TreeWithin : PlacedTree → ℕ → Type 0
TreeWithin T limit = depth (unplaced T) ≤ limit

abbrev pub TreesWithin : List PlacedTree → ℕ → Type 0
TreesWithin Ts limit = AllByRecursion (λ T. TreeWithin T limit) Ts

abbrev pub ParametersWithin : List Parameter → ℕ → Type 0
ParametersWithin qs limit = AllByRecursion (λ q. TreeWithin q.declared limit) qs

abbrev pub DefinitionsWithin : ProgramTree → ℕ → Type 0
DefinitionsWithin P limit = AllByRecursion (λ t. TreeWithin t.body limit) P.types × AllByRecursion (λ f. ParametersWithin f.parameters limit × TreeWithin f.declared limit) P.functions

-- ---- parts that are merged
-- the parts of the tree, as those of a sequence, make it again
abbrev pub IsWhole : PlacedTree → Type 0
IsWhole T = placed_seq (place_of T) (parts_of_seq T) ≡ T

-- each part is no deeper than the tree
abbrev pub IsDeepest : PlacedTree → (parts : List PlacedTree) → Type 0
IsDeepest T parts = (limit : ℕ) → 1 ≤ limit → TreeWithin T limit → TreesWithin parts limit
