-- Blocks of variables by the states that accept what they may be.
use Rattle.std.specs.Prelude.{◌≡◌, ℕ, true, List, ◌++◌, Some, codes, flat_map}
use Rattle.std.specs.BTreeMap.{BTreeMap, get}
use Rattle.std.specs.Ordering.{nat_cmp}
use Rattle.std.specs.List.{AllZip}
use Rattle.xd_auto.specs.Automaton.{Automaton, accepts}
use Rattle.xd_auto.specs.declared.auto.State.{State}
use Rattle.xd_doc.specs.Document.{Document}
use Rattle.xd_report.specs.Report.{place_front}
use Rattle.xd_syntax.specs.Program.{ProgramTree}
use Rattle.xd_variables.specs.declared.variables.BoundVariable.{BoundVariable}
use Rattle.xd_show_blocks.specs.Blocks.{VariableBlock, Shows, block_text, shown_text}
use Rattle.xd_show_blocks.specs.declared.shown.ShownState.{ShownState}

-- what the state accepts
abbrev pub Accepted : Automaton → State → Document → Type 0
Accepted a s d = accepts a d s ≡ true

-- definitions of types that show the set, as text, and the name of the first
pub record IsShownBy (D : Document → Type 0) (taken : List (List ℕ)) (k : ShownState) : Type 0 where
  pub program : ProgramTree
  pub shows : Shows D taken program k.start
  pub written : (k.definitions).items ≡ shown_text program

-- what is kept for the number of a state shows what the state accepts
abbrev pub AreShownBy : Automaton → List (List ℕ) → BTreeMap ℕ ShownState → Type 0
AreShownBy a taken m = (s : State) (k : ShownState) → get nat_cmp m s.number ≡ Some k → IsShownBy (Accepted a s) taken k

-- the block shows what the variable's state accepts
pub record IsBlockAt (a : Automaton) (taken : List (List ℕ)) (x : BoundVariable) (b : VariableBlock) : Type 0 where
  pub place : b.place ≡ x.place
  pub variable : b.variable ≡ x.word
  pub shows : Shows (Accepted a x.state) taken b.program b.start

-- the block of the variable was appended
pub record AddsBlock (a : Automaton) (taken : List (List ℕ)) (x : BoundVariable) (old new : List ℕ) : Type 0 where
  pub block : VariableBlock
  pub shows : IsBlockAt a taken x block
  pub grown : new ≡ old ++ block_text block

-- the text has the blocks of these variables, in order
pub record HasBlocks (a : Automaton) (taken : List (List ℕ)) (xs : List BoundVariable) (text : List ℕ) : Type 0 where
  pub blocks : List VariableBlock
  pub each : AllZip (IsBlockAt a taken) xs blocks
  pub written : text ≡ flat_map block_text blocks

-- the text of the block of a variable whose state is shown so
abbrev pub text_of_block : BoundVariable → ShownState → List ℕ
text_of_block x k = place_front x.place ++ codes "variable " ++ x.word ++ codes " as " ++ k.start ++ codes "\n" ++ (k.definitions).items
