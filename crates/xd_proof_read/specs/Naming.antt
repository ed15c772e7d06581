-- How the goals of a proof text name their types: by the text of the type itself, or by its number
-- among the types before.
use Rattle.std.specs.Prelude.{◌≡◌, ℕ, ◌<◌, List, map, length, Option, Some, MatchOption}
use Rattle.std.specs.List.{AllByRecursion}
use Rattle.xd_syntax.specs.Tree.{Tree}
use Rattle.xd_syntax.specs.Table.{Row}
use Rattle.xd_syntax.specs.Types.{BelongsTo, tree}
use Rattle.xd_syntax.specs.SoundTables.{IsTypeAt}
use Rattle.xd_syntax.specs.NameFaults.{known_types}
use Rattle.xd_syntax.specs.declared.types.TypeId.{TypeId}
use Rattle.xd_syntax.specs.Kept.{ProgramTable, AddsTypes, program_tree}
use Rattle.xd_syntax.specs.ShallowTables.{AddsWithin}
use Rattle.xd_syntax.specs.Shallow.{nesting_limit}
use Rattle.xd_rules.specs.Rules.{numbered}
use Rattle.xd_proof.specs.Lines.{SpellsNumber}
use Rattle.xd_proof.specs.TypeTexts.{SpellsType}
use Rattle.xd_proof_read.specs.declared.naming.Naming.{Naming}
use Rattle.xd_proof_read.specs.declared.naming.Naming.TheVariants.{Spelled, Numbered}

-- the bytes are the number of this type among these
pub record NamesType (Ts : List Tree) (bytes : List ℕ) (T : Tree) : Type 0 where
  pub number : ℕ
  pub spelled : SpellsNumber bytes number
  pub stands : numbered Ts number ≡ Some T

-- the bytes are the text of a type, of names that the program has
abbrev pub SpellsTypeOf : ProgramTable → List ℕ → Tree → Type 0
SpellsTypeOf p bytes T = SpellsType (known_types (program_tree p)) bytes T

-- the bytes name the type
abbrev pub Names : ProgramTable → Naming → List ℕ → Tree → Type 0
Names p Spelled bytes T = SpellsTypeOf p bytes T
Names p (Numbered ids) bytes T = NamesType (map (tree p.types) ids.items) bytes T

-- what is made is the type that the bytes stand for, if they stand for one
abbrev pub IsTypeRead : (Reads : List ℕ → Tree → Type 0) → List ℕ → List Row → Option TypeId → Type 0
IsTypeRead Reads bytes types made = MatchOption made ((T : Tree) → Reads bytes T → ⊥) (λ id. (T : Tree) × Reads bytes T × IsTypeAt types T id)

-- the numbered types are there, one at least
abbrev pub NamingStands : List Row → Naming → Type 0
NamingStands types Spelled = Unit {0}
NamingStands types (Numbered ids) = AllByRecursion (BelongsTo types) ids.items × (0 < length ids.items)

-- Types alone are added, none deeper than a text may be nested, and the program means what it
-- meant.
pub record GrowsTypes (old new : ProgramTable) : Type 0 where
  pub adds : AddsTypes old new
  pub same : program_tree new ≡ program_tree old
  pub within : AddsWithin nesting_limit old.types new.types
