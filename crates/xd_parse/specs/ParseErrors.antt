-- Why a text was not read.
use Rattle.std.specs.Prelude.{ℕ, List}
use Rattle.xd_grammar.specs.declared.grammar.Nonterminal.{Nonterminal}
use Rattle.xd_parse.specs.declared.parse.ParseError.{ParseError}
use Rattle.xd_parse.specs.declared.parse.ParseError.TheVariants.{Fault, NoMemory}
use Rattle.xd_parse.specs.Faults.{IsFirstTextFault}

-- a fault is the text's first; nothing is said of memory
abbrev pub IsParseError : Nonterminal → List ℕ → ParseError → Type 0
IsParseError part bytes (Fault fault) = IsFirstTextFault part bytes fault
IsParseError part bytes NoMemory = Unit {0}

-- it is the text that is at fault
abbrev pub IsFault : ParseError → Type 0
IsFault (Fault fault) = Unit {0}
IsFault NoMemory = ⊥
