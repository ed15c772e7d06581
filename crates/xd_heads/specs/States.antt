-- The continuations of an automaton's states, by their numbers: each is one state at most.
use Rattle.std.specs.Prelude.{◌≡◌, ℕ, ◌<◌, ◌≤◌, ◌+◌, ◌⊎◌, List, [], ◌∷◌, ◌++◌, length, Option}
use Rattle.std.specs.List.{AllByRecursion, slice_get}
use Rattle.xd_doc.specs.Members.{IsOneOf}
use Rattle.xd_syntax.specs.Table.{Row, tree_at}
use Rattle.xd_syntax.specs.declared.types.TypeDef.{TypeDef}
use Rattle.xd_continuations.specs.TailUses.{RecursOnlyInTail}
use Rattle.xd_continuations.specs.Bounds.{node_count}
use Rattle.xd_sound.specs.TypeNames.{meanings}
use Rattle.xd_moves.specs.Found.{AreBounded}
use Rattle.xd_moves.specs.Cells.{Cell}

abbrev pub EachOnce : List ℕ → Type 0
EachOnce [] = Unit {0}
EachOnce (k ∷ ks) = (IsOneOf k ks → ⊥) × EachOnce ks

-- the number of the continuation of a state, where the state is there
abbrev pub number_at : List ℕ → ℕ → Option ℕ
number_at states i = slice_get states i

-- the number is there, after the others if it was not there
abbrev pub AddsNumber : List ℕ → ℕ → List ℕ → Type 0
AddsNumber old k new = (IsOneOf k old × (new ≡ old)) ⊎ ((IsOneOf k old → ⊥) × (new ≡ old ++ k ∷ []))

-- the continuation is one of the first n and the empty one
abbrev pub IsOfCell : ℕ → ℕ → Type 0
IsOfCell n k = k ≤ n

-- states are added after the others
pub record AddsStates (old_cells new_cells : List Cell) (old new : List ℕ) : Type 0 where
  pub more : List ℕ
  pub grown : new ≡ old ++ more
  pub numbers : AllByRecursion (IsOfCell (length old_cells)) old → AllByRecursion (IsOfCell (length new_cells)) new

-- the nodes of all types in the table, and of that of `Any`
abbrev pub nodes_from : List Row → List Row → ℕ → ℕ
nodes_from types [] i = 6
nodes_from types (r ∷ rs) i = node_count (tree_at types i) + nodes_from types rs (i + 1)

unfoldable pub nodes_in : List Row → ℕ
nodes_in types = nodes_from types types 0

-- where no type is larger, the cells that are added are bounded as the old ones
abbrev pub StaysBounded : List Row → List TypeDef → List Cell → List Cell → Type 0
StaysBounded types ds old new =
    RecursOnlyInTail (meanings types ds) → AllByRecursion (λ (d : TypeDef). d.body.at < length types) ds →
    AreBounded (meanings types ds) (nodes_in types) types old → AreBounded (meanings types ds) (nodes_in types) types new
