-- What texts of types decide.
use Rattle.std.specs.Prelude.{ℕ, List}
use Rattle.xd_doc.specs.Document.{Document}
use Rattle.xd_syntax.specs.Tree.{Tree}
use Rattle.xd_syntax.specs.Table.{Row}
use Rattle.xd_syntax.specs.Types.{BelongsTo, tree}
use Rattle.xd_syntax.specs.NameFaults.{known_types}
use Rattle.xd_syntax.specs.Program.{ProgramTree}
use Rattle.xd_syntax.specs.declared.types.TypeId.{TypeId}
use Rattle.xd_parse_trees.specs.Means.{IsProgramText}
use Rattle.xd_proof.specs.TypeTexts.{SpellsType}
use Rattle.xd_inclusion.specs.Compared.{IsInclusion}
use Rattle.xd_inclusion.specs.declared.compare.Inclusion.{Inclusion}

-- the id is that of the type that the bytes spell, over names that the program defines
abbrev pub IsReadType : ProgramTree → List Row → (bytes : List ℕ) → TypeId → Type 0
IsReadType P types bytes id = BelongsTo types id × SpellsType (known_types P) bytes (tree types id)

-- The decision between the types that two texts spell, over the types that the definitions define.
pub record Compares (definitions left right : List ℕ) (ds : List Document) (decision : Inclusion) : Type 0 where
  pub program : ProgramTree
  pub L : Tree
  pub R : Tree
  pub defined : IsProgramText definitions program
  pub left_spelled : SpellsType (known_types program) left L
  pub right_spelled : SpellsType (known_types program) right R
  pub decided : IsInclusion program L R ds decision
