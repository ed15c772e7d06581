-- The syntax tree of a text.
use Rattle.std.specs.Prelude.{◌≢◌, List, [], ◌∷◌, ℕ, IsUtf8}
use Rattle.xd_lex.specs.Tokens.{Lexeme, tokens_of}
use Rattle.xd_syntax.specs.Placed.{PlacedTree}
use Rattle.xd_syntax.specs.Program.{ProgramTree}
use Rattle.xd_grammar.specs.declared.grammar.Nonterminal.{Nonterminal}
use Rattle.xd_grammar.specs.declared.grammar.Nonterminal.TheVariants as n
use Rattle.xd_grammar.specs.declared.grammar.Symbol.TheVariants.{Token, Opening, Closed, Unless, Part}
use Rattle.xd_grammar.specs.declared.grammar.Terminal.{Terminal}
use Rattle.xd_doc.specs.Members.{IsOneOf}
use Rattle.xd_grammar.specs.Grammar.{Row, rules}
use Rattle.xd_grammar.specs.Text.{terminal_at, SpellsText}
use Rattle.xd_parse_trees.specs.Values.{Value, a_tree, definitions, token_value, value_of}

-- The tokens of the first list, up to where the second begins, spell the row, whose tokens and
-- nonterminals stand for the values.
pub data Means : Row → (from to : List Lexeme) → List Value → Type 0 where
  ends : {ls : List Lexeme} → Means [] ls ls []
  a_token : {l : Lexeme} {row : Row} {ls rest : List Lexeme} {vs : List Value} →
      Means row ls rest vs → Means (Token (terminal_at l) ∷ row) (l ∷ ls) rest (token_value l ∷ vs)
  an_opening : {l : Lexeme} {row : Row} {ls rest : List Lexeme} {vs : List Value} →
      Means row ls rest vs → Means (Opening (terminal_at l) ∷ row) (l ∷ ls) rest (token_value l ∷ vs)
  a_closing : {row : Row} {ls rest : List Lexeme} {vs : List Value} →
      Means row ls rest vs → Means (Closed ∷ row) ls rest vs
  a_bar : {j : Terminal} {l : Lexeme} {row : Row} {ls rest : List Lexeme} {vs : List Value} →
      j ≢ terminal_at l → Means row (l ∷ ls) rest vs → Means (Unless j ∷ row) (l ∷ ls) rest vs
  a_part : {part : Nonterminal} (made : Row) {row : Row} {ls middle rest : List Lexeme}
      {parts vs : List Value} → IsOneOf made (rules part) → Means made ls middle parts →
      Means row middle rest vs → Means (Part part ∷ row) ls rest (value_of part parts ∷ vs)

-- all the tokens spell the nonterminal, which stands for the value
abbrev pub MeansAll : Nonterminal → List Lexeme → Value → Type 0
MeansAll part ls v = Means (Part part ∷ []) ls [] (v ∷ [])

-- the bytes spell this program, however deep it nests
pub record BytesSpellProgram (bytes : List ℕ) (P : ProgramTree) : Type 0 where
  pub utf8 : IsUtf8 bytes
  pub means : MeansAll n.Definitions (tokens_of bytes) (definitions P)

-- the bytes spell this type, however deep it nests
pub record BytesSpellType (bytes : List ℕ) (T : PlacedTree) : Type 0 where
  pub utf8 : IsUtf8 bytes
  pub means : MeansAll n.TypeText (tokens_of bytes) (a_tree T)

-- the bytes spell this program, and do so within 256 levels of nesting
pub record IsProgramText (bytes : List ℕ) (P : ProgramTree) : Type 0 where
  pub spelled : BytesSpellProgram bytes P
  pub within : SpellsText n.Definitions bytes

-- the bytes spell this type, and do so within 256 levels of nesting
pub record IsTypeText (bytes : List ℕ) (T : PlacedTree) : Type 0 where
  pub spelled : BytesSpellType bytes T
  pub within : SpellsText n.TypeText bytes
