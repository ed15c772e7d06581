-- What a program means on a document.
use Rattle.std.specs.Prelude.{◌≡◌, ◌≤◌, ◌-◌, ℕ, List}
use Rattle.xd_doc.specs.Document.{Document, canonical_text}
use Rattle.xd_read.specs.Reading.{BytesSpell}
use Rattle.xd_syntax.specs.Program.{ProgramTree}
use Rattle.xd_meaning.specs.Meaning.{Done, meaning}
use Rattle.xd_parse_trees.specs.Means.{IsProgramText}
use Rattle.xd_uses.specs.declared.values.Value.{Value}

-- the value that the program means on a document, as its canonical text, and the calls that it took
pub record IsValueOn (program : ProgramTree) (text : List ℕ) (fuel : ℕ) (made : Value) : Type 0 where
  pub input : Document
  pub value : Document
  pub spelled : BytesSpell text input
  pub few : made.calls ≤ fuel
  pub meant : meaning program fuel input ≡ Done value (fuel - made.calls)
  pub written : made.text.items ≡ canonical_text value

-- the same of the program that the definitions spell
pub record IsValue (definitions text : List ℕ) (fuel : ℕ) (made : Value) : Type 0 where
  pub program : ProgramTree
  pub defined : IsProgramText definitions program
  pub is : IsValueOn program text fuel made
