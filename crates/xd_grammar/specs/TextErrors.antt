-- Errors of texts, as the code answers them.
use Rattle.std.specs.Prelude.{ℕ, Bool, true, false, List}
use Rattle.xd_grammar.specs.declared.grammar.Nonterminal.{Nonterminal}
use Rattle.xd_grammar.specs.declared.grammar.Nonterminal.TheVariants as n
use Rattle.xd_grammar.specs.declared.grammar.Terminal.{Terminal}
use Rattle.xd_grammar.specs.declared.grammar.Terminal.TheVariants as t
use Rattle.xd_grammar.specs.declared.text.TextError.{TextError}
use Rattle.xd_grammar.specs.declared.text.TextError.TheVariants.{Fault, NoMemory}
use Rattle.xd_grammar.specs.Text.{IsTextFault, SpellsText}

-- the terminals that only the last token of a text has
abbrev pub ends_text : Terminal → Bool
ends_text t.End = true
ends_text t.Broken = true
ends_text k = false

-- the nonterminals of whole texts
abbrev pub is_text : Nonterminal → Bool
is_text n.Definitions = true
is_text n.TypeText = true
is_text part = false

-- Why a text was refused: this is its first fault, and it is no text of the nonterminal; nothing is
-- said of memory.
abbrev pub IsTextError : Nonterminal → List ℕ → TextError → Type 0
IsTextError part bytes (Fault fault) = IsTextFault part bytes fault × ¬ (SpellsText part bytes)
IsTextError part bytes NoMemory = Unit {0}
