-- The types of states, as far as they are known.
use Rattle.std.specs.Prelude.{◌≡◌, List, Option, Some, length, slice_get}
use Rattle.xd_syntax.specs.Tree.{Tree}
use Rattle.xd_syntax.specs.SoundTables.{IsTypeAt}
use Rattle.xd_syntax.specs.Kept.{ProgramTable}
use Rattle.xd_syntax.specs.declared.types.TypeId.{TypeId}
use Rattle.xd_auto.specs.declared.auto.State.{State}
use Rattle.xd_heads.specs.CellsView.{CellsView}
use Rattle.xd_heads.specs.Mirrors.{continuation_of}

-- the type is that of the state
pub record IsKnown (p : ProgramTable) (c : CellsView) (s : State) (id : TypeId) : Type 0 where
  pub type_ : Tree
  pub continuation : continuation_of p.types c s ≡ Some type_
  pub there : IsTypeAt p.types type_ id

abbrev pub known_at : List (Option TypeId) → State → Option (Option TypeId)
known_at states s = slice_get states s.number

-- what is kept is so
abbrev pub AreKnown : ProgramTable → CellsView → List (Option TypeId) → Type 0
AreKnown p c states = (s : State) (id : TypeId) → known_at states s ≡ Some (Some id) → IsKnown p c s id

-- it is kept for this state
pub record HasKnown (states : List (Option TypeId)) (s : State) : Type 0 where
  pub known : TypeId
  pub kept : known_at states s ≡ Some (Some known)

-- what was kept still is
pub record KeepsKnown (old new : List (Option TypeId)) : Type 0 where
  pub sized : length new ≡ length old
  pub kept : (s : State) (id : TypeId) → known_at old s ≡ Some (Some id) → known_at new s ≡ Some (Some id)

-- the type is that which is kept for the state
abbrev pub IsIdOf : List (Option TypeId) → TypeId → State → Type 0
IsIdOf states id s = known_at states s ≡ Some (Some id)
