-- The faults of texts as the language has them.
use Rattle.std.specs.Prelude.{◌≡◌, ℕ, List}
use Rattle.xd_syntax.specs.NameFaults.{fault_at}
use Rattle.xd_syntax.specs.declared.fault.Fault.{Fault}
use Rattle.xd_syntax.specs.declared.fault.FaultKind.TheVariants.{NotUtf8, Syntax, TooDeep}
use Rattle.xd_grammar.specs.declared.grammar.Nonterminal.{Nonterminal}
use Rattle.xd_grammar.specs.declared.text.TextFault.{TextFault}
use Rattle.xd_grammar.specs.declared.text.TextFault.TheVariants as faults
use Rattle.xd_grammar.specs.Text.{IsTextFault}

-- the fault with its place
abbrev pub reported : TextFault → Fault
reported (faults.NotUtf8 p) = fault_at p NotUtf8
reported (faults.Syntax p) = fault_at p Syntax
reported (faults.TooDeep p) = fault_at p TooDeep

-- this is the first fault of a text of this nonterminal
abbrev pub IsFirstTextFault : Nonterminal → List ℕ → Fault → Type 0
IsFirstTextFault part bytes f = (t : TextFault) × IsTextFault part bytes t × (f ≡ reported t)
