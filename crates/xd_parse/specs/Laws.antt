-- Laws of the definitions.
use Rattle.std.specs.Prelude.{◌≡◌, ℕ, List}
use Rattle.xd_grammar.specs.declared.grammar.Nonterminal.{Nonterminal}
use Rattle.xd_grammar.specs.Text.{SpellsText}
use Rattle.xd_parse.specs.Faults.{IsFirstTextFault}
use Rattle.xd_syntax.specs.declared.fault.Fault.{Fault}
use Rattle.xd_syntax.specs.Placed.{PlacedTree}
use Rattle.xd_syntax.specs.Program.{ProgramTree}
use Rattle.xd_parse_trees.specs.Means.{BytesSpellProgram, BytesSpellType}

-- bytes spell one program at most, and one type at most
pub record TextsMeanOneThing : Type 0 where
  pub programs : (bytes : List ℕ) (P Q : ProgramTree) → BytesSpellProgram bytes P → BytesSpellProgram bytes Q → P ≡ Q
  pub types : (bytes : List ℕ) (T U : PlacedTree) → BytesSpellType bytes T → BytesSpellType bytes U → T ≡ U

-- a text with a first fault is none within the limit of nesting, and it has one first fault
pub record FirstFaultsAreOne : Type 0 where
  pub nothing : (part : Nonterminal) (bytes : List ℕ) (f : Fault) → IsFirstTextFault part bytes f → ¬ (SpellsText part bytes)
  pub one : (part : Nonterminal) (bytes : List ℕ) (f g : Fault) → IsFirstTextFault part bytes f → IsFirstTextFault part bytes g → f ≡ g
