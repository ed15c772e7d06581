-- What declared types stand for.
use Rattle.std.specs.Prelude.{◌≡◌, ◌⊎◌, ℕ, List, Some}
use Rattle.xd_syntax.specs.Table.{Row}
use Rattle.xd_syntax.specs.Tree.{Name, Definitions, body}
use Rattle.xd_syntax.specs.Types.{tree}
use Rattle.xd_syntax.specs.declared.types.TypeId.{TypeId}

-- the second type is the first, or what the first, a name, stands for
abbrev pub StandsForType : Definitions → List Row → TypeId → TypeId → Type 0
StandsForType E types id named = (named ≡ id) ⊎ ((w : List ℕ) × (tree types id ≡ Name w) × (body E w ≡ Some (tree types named)))
