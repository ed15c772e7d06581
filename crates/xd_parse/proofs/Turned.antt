-- From what was read to what the text stands for: a text that spells has some value, and what was
-- read is that value.
use Rattle.std.proofs.Common.{◌≡◌, ℕ, List, [], ◌∷◌, refl, subst}
use Rattle.xd_lex.specs.Tokens.{Lexeme, tokens_of}
use Rattle.xd_syntax.specs.Placed.{PlacedTree}
use Rattle.xd_syntax.specs.Program.{ProgramTree}
use Rattle.xd_grammar.specs.declared.grammar.Nonterminal.{Nonterminal}
use Rattle.xd_grammar.specs.declared.grammar.Nonterminal.TheVariants as n
use Rattle.xd_grammar.specs.declared.grammar.Sort.TheVariants as sorts
use Rattle.xd_grammar.specs.declared.grammar.Symbol.TheVariants.{Token, Part}
use Rattle.xd_grammar.specs.declared.grammar.Terminal.TheVariants as t
use Rattle.xd_grammar.specs.Text.{SpellsText}
use Rattle.xd_parse_trees.specs.Values.{Value, a_tree, definitions}
use Rattle.xd_parse_trees.specs.Means.{MeansAll, IsProgramText, IsTypeText}
use Rattle.xd_parse_trees.specs.Reading.{Reads, behind}
use Rattle.xd_parse.proofs.Spelled.{read_all}
use Rattle.xd_parse_trees.proofs.Rows.{row_part, row_token, row_end, part_one}
use Rattle.xd_syntax.specs.Shallow.{nesting_limit}

tokens_meant : (part : Nonterminal) (bytes : List ℕ) (ls to : List Lexeme) (v : Value) → SpellsText part bytes → ls ≡ tokens_of bytes → Reads part ls to v → MeansAll part (tokens_of bytes) v
tokens_meant part bytes ls to v s e r = read_all nesting_limit part (tokens_of bytes) to v s.spells (subst (λ (xs : List Lexeme). Reads part xs to v) e r)

pub program_meant : (bytes : List ℕ) (ls to : List Lexeme) (P : ProgramTree) → SpellsText n.Definitions bytes → ls ≡ tokens_of bytes → Reads n.Definitions ls to (definitions P) → IsProgramText bytes P
program_meant bytes ls to P s e r = record { spelled = record { utf8 = s.utf8; means = tokens_meant n.Definitions bytes ls to (definitions P) s e r }; within = s }

-- a type up to the end of its text
pub type_text_reads : (from to : List Lexeme) (T : PlacedTree) → Reads (n.Alternative sorts.Type) from to (a_tree T) → Reads n.TypeText from (behind to) (a_tree T)
type_text_reads from to T r =
    part_one n.TypeText (Part (n.Alternative sorts.Type) ∷ Token t.End ∷ []) from (behind to) _ refl
    (row_part (n.Alternative sorts.Type) (Token t.End ∷ []) from to (behind to) (a_tree T) _ r
    (row_token t.End [] to (behind to) [] (row_end (behind to))))

pub type_meant : (bytes : List ℕ) (ls to : List Lexeme) (T : PlacedTree) → SpellsText n.TypeText bytes → ls ≡ tokens_of bytes → Reads (n.Alternative sorts.Type) ls to (a_tree T) → IsTypeText bytes T
type_meant bytes ls to T s e r = record { spelled = record { utf8 = s.utf8; means = tokens_meant n.TypeText bytes ls (behind to) (a_tree T) s e (type_text_reads ls to T r) }; within = s }
