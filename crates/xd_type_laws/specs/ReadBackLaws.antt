-- Laws: texts of types and of definitions of types read back.
use Rattle.std.specs.Prelude.{◌≡◌, ℕ, ◌<◌, ◌≤◌, true, false, List, length}
use Rattle.std.specs.List.{AllByRecursion}
use Rattle.xd_doc.specs.Word.{is_word}
use Rattle.xd_syntax.specs.Words.{has_word}
use Rattle.xd_syntax.specs.Keywords.{keywords, is_type_name}
use Rattle.xd_syntax.specs.Tree.{Tree, Definitions, Empty, Text, Words, Name, Elem, Seq, Alt, Star, Plus, Opt, Val, is_empty}
use Rattle.xd_syntax.specs.TreeForms.{is_seq, is_alt}
use Rattle.xd_syntax.specs.Table.{Row, IsWordsNode, tree_at}
use Rattle.xd_syntax.specs.ProperTables.{IsTable}
use Rattle.xd_syntax.specs.Proper.{IsProperTree}
use Rattle.xd_syntax.specs.Placed.{PlacedTree, unplaced}
use Rattle.xd_syntax.specs.Kept.{ProgramTable, IsKept, program_tree}
use Rattle.xd_syntax.specs.TypeText.{type_text}
use Rattle.xd_syntax.specs.TypeDepth.{depth}
use Rattle.xd_type_laws.specs.DefinitionsText.{type_definitions, definitions_text}
use Rattle.xd_syntax.specs.Shallow.{nesting_limit}
use Rattle.xd_grammar.specs.declared.grammar.Nonterminal.TheVariants as n
use Rattle.xd_grammar.specs.Text.{SpellsText}
use Rattle.xd_parse_trees.specs.Means.{BytesSpellType}
use Rattle.xd_type_laws.specs.ReadsBack.{AreReadBack}

-- Parts are merged: a sequence is of two or more, of which none is empty and only what leans to the
-- right is a sequence; an alternative likewise. No name is a keyword or `String`, and there are no
-- binders.
abbrev pub IsMerged : Tree → Type 0
IsMerged Empty = Unit {0}
IsMerged Text = Unit {0}
IsMerged (Words w) = IsWordsNode w
IsMerged (Name x) = is_type_name x ≡ true
IsMerged (Elem c T) = IsMerged T
IsMerged (Seq T U) = (is_seq T ≡ false) × (is_empty T ≡ false) × (is_empty U ≡ false) × IsMerged T × IsMerged U
IsMerged (Alt T U) = (is_alt T ≡ false) × IsMerged T × IsMerged U
IsMerged (Star T) = IsMerged T
IsMerged (Plus T) = IsMerged T
IsMerged (Opt T) = IsMerged T
IsMerged (Val x T) = ⊥

-- The canonical text of this type spells a type that is this one, places aside. Where the type is
-- no deeper than a text may be nested, so it does within the limit.
pub record IsReadBack (T : Tree) : Type 0 where
  pub placed : PlacedTree
  pub spelled : BytesSpellType (type_text T) placed
  pub same : unplaced placed ≡ T
  pub within : depth T ≤ nesting_limit → SpellsText n.TypeText (type_text T)

-- every type that is merged and proper is read back, and so is every node of a table
abbrev pub TypesReadBack : Type 0
TypesReadBack = (T : Tree) → IsMerged T → IsProperTree false T → IsReadBack T

abbrev pub NodesReadBack : Type 0
NodesReadBack = (rows : List Row) (i : ℕ) → IsTable false rows → i < length rows → IsReadBack (tree_at rows i)

-- a type with a name that a definition may have: a word that is no keyword
pub record IsDefinition (d : List ℕ × Tree) : Type 0 where
  pub word : is_word d.0 ≡ true
  pub plain : has_word keywords d.0 ≡ false
  pub merged : IsMerged d.1
  pub proper : IsProperTree false d.1

-- where none of the types is deeper than a text may be nested, the text spells them within the limit
abbrev pub ReadsWithin : Definitions → Type 0
ReadsWithin ds = AllByRecursion (λ d. depth d.1 ≤ nesting_limit) ds → SpellsText n.Definitions (definitions_text ds)

-- definitions are read back, and so are those of a program's tables
abbrev pub DefinitionsReadBack : Type 0
DefinitionsReadBack = (ds : Definitions) → AllByRecursion IsDefinition ds → AreReadBack ds × ReadsWithin ds

abbrev pub KeptDefinitionsReadBack : Type 0
KeptDefinitionsReadBack = (p : ProgramTable) → IsKept p → AreReadBack (type_definitions (program_tree p)) × ReadsWithin (type_definitions (program_tree p))
