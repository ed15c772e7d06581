-- Texts and their faults.
use Rattle.std.specs.Prelude.{◌≡◌, ℕ, cond, List, [], ◌∷◌, Option, Some, None, map, zero, suc, IsUtf8, codes}
use Rattle.std.specs.Str.{bytes_eq}
use Rattle.xd_base.specs.declared.Place.{Place}
use Rattle.xd_lex.specs.declared.Kind.{Kind}
use Rattle.xd_lex.specs.declared.Kind.TheVariants as kinds
use Rattle.xd_lex.specs.Tokens.{Lexeme, tokens_of, IsNotUtf8At}
use Rattle.xd_grammar.specs.declared.grammar.Nonterminal.{Nonterminal}
use Rattle.xd_grammar.specs.declared.grammar.Terminal.{Terminal}
use Rattle.xd_grammar.specs.declared.grammar.Terminal.TheVariants as t
use Rattle.xd_grammar.specs.declared.text.TextFault.{TextFault}
use Rattle.xd_grammar.specs.declared.text.TextFault.TheVariants as faults
use Rattle.xd_grammar.specs.Grammar.{SpellsNonterminal}
use Rattle.xd_grammar.specs.FirstFault.{Refusal, no_text, too_deep, IsFirstRefusal}
use Rattle.xd_syntax.specs.Shallow.{nesting_limit}

-- a keyword is a terminal of its own
abbrev pub word_terminal : List ℕ → Terminal
word_terminal word =
    cond (bytes_eq word (codes "type")) t.Type
    (cond (bytes_eq word (codes "fun")) t.Fun
    (cond (bytes_eq word (codes "val")) t.Val
    (cond (bytes_eq word (codes "as")) t.As
    (cond (bytes_eq word (codes "match")) t.Match
    (cond (bytes_eq word (codes "with")) t.With t.Word)))))

-- what a token of this kind is to the grammar
abbrev pub kind_terminal : Kind → List ℕ → Terminal
kind_terminal kinds.Word text = word_terminal text
kind_terminal kinds.Label text = t.Label
kind_terminal kinds.Text text = t.Text
kind_terminal kinds.ParenL text = t.ParenL
kind_terminal kinds.ParenR text = t.ParenR
kind_terminal kinds.BracketL text = t.BracketL
kind_terminal kinds.BracketR text = t.BracketR
kind_terminal kinds.Comma text = t.Comma
kind_terminal kinds.Bar text = t.Bar
kind_terminal kinds.Star text = t.Star
kind_terminal kinds.Plus text = t.Plus
kind_terminal kinds.Query text = t.Query
kind_terminal kinds.Equals text = t.Equals
kind_terminal kinds.Colon text = t.Colon
kind_terminal kinds.Tilde text = t.Tilde
kind_terminal kinds.Caret text = t.Caret
kind_terminal kinds.Arrow text = t.Arrow
kind_terminal kinds.End text = t.End
kind_terminal (kinds.Broken fault) text = t.Broken

-- what a token is to the grammar
abbrev pub terminal_at : Lexeme → Terminal
terminal_at l = kind_terminal l.kind l.text

-- what tokens are to the grammar
abbrev pub terminals_at : List Lexeme → List Terminal
terminals_at lexemes = map terminal_at lexemes

-- a text of this nonterminal, within 256 levels of nesting
pub record SpellsText (part : Nonterminal) (bytes : List ℕ) : Type 0 where
  pub utf8 : IsUtf8 bytes
  pub spells : SpellsNonterminal nesting_limit part (terminals_at (tokens_of bytes))

-- the token at a position
abbrev pub lexeme_at : List Lexeme → ℕ → Option Lexeme
lexeme_at [] k = None
lexeme_at (l ∷ ls) zero = Some l
lexeme_at (l ∷ ls) (suc k) = lexeme_at ls k

-- this is the place of the token at the index
pub record IsPlaceAt (ls : List Lexeme) (index : ℕ) (place : Place) : Type 0 where
  pub lexeme : Lexeme
  pub stands : lexeme_at ls index ≡ Some lexeme
  pub at : lexeme.place ≡ place

-- the first token that no text within the limit goes on with, and its place
pub record IsFaultAt (part : Nonterminal) (ls : List Lexeme)
    (refusal : Refusal) (place : Place) : Type 0 where
  pub index : ℕ
  pub first : IsFirstRefusal part (terminals_at ls) index refusal
  pub placed : IsPlaceAt ls index place

-- the fault of a text that is UTF-8, by its tokens
abbrev pub IsLexemeFault : Nonterminal → List Lexeme → TextFault → Type 0
IsLexemeFault part ls (faults.NotUtf8 place) = ⊥
IsLexemeFault part ls (faults.Syntax place) = IsFaultAt part ls no_text place
IsLexemeFault part ls (faults.TooDeep place) = IsFaultAt part ls too_deep place

-- the fault of a text: where it isn't UTF-8, or else that of its tokens
abbrev pub IsTextFault : Nonterminal → List ℕ → TextFault → Type 0
IsTextFault part bytes (faults.NotUtf8 place) = IsNotUtf8At bytes place
IsTextFault part bytes fault = IsUtf8 bytes × IsLexemeFault part (tokens_of bytes) fault
