-- The grammar of programs and types, and what its rows of symbols spell.
use Rattle.std.specs.Prelude.{◌≡◌, ◌≢◌, ◌<◌, ◌++◌, ℕ, suc, List, [], ◌∷◌}
use Rattle.xd_doc.specs.Members.{IsOneOf}
use Rattle.xd_grammar.specs.declared.grammar.Nonterminal.{Nonterminal}
use Rattle.xd_grammar.specs.declared.grammar.Nonterminal.TheVariants as n
use Rattle.xd_grammar.specs.declared.grammar.Sort.TheVariants as sorts
use Rattle.xd_grammar.specs.declared.grammar.Symbol.{Symbol}
use Rattle.xd_grammar.specs.declared.grammar.Symbol.TheVariants.{Token, Opening, Closed, Unless, Part}
use Rattle.xd_grammar.specs.declared.grammar.Terminal.{Terminal}
use Rattle.xd_grammar.specs.declared.grammar.Terminal.TheVariants as t

-- a row of symbols, which are spelled one after the other
abbrev pub Row : Type 0
Row = List Symbol

-- The rows that a nonterminal stands for, with its rule above them, in which `label "["` is one
-- token. Types and patterns have the same rows, but for the variables of patterns. `Opening` opens
-- a level of nesting with its terminal and `Closed` closes one. `Unless` says which terminal
-- doesn't come next: a repetition ends, and an option is left out, only there, so each takes as
-- many tokens as it can, and parentheses with a `[` after them are the list of a class. After a `^`
-- stand labels or texts, one or a list of them.
--
-- Of `(a|b)[]`, the tokens up to the `)` are the front of a group and of a class's list. The `[` is
-- refused by the group, which ends with `Unless t.BracketL`, and opens the content of the class. In
-- `a,b` the sequence can't end at `a`, since `MoreParts` is left out by `Unless t.Comma` alone. In
-- `a[b[]]` each label opens a level, so two are open between `b[` and its `]`, and the `Closed`
-- after a `]` closes one again. `Closed` and `Unless` take no token.
abbrev pub rules : Nonterminal → List Row
-- definitions  = { "type" word "=" alternative
--              | "fun" word parameter { parameter } ":" alternative "=" expression } End
rules n.Definitions =
    (Token t.Type ∷ Token t.Word ∷ Token t.Equals ∷ Part (n.Alternative sorts.Type)
    ∷ Part n.Definitions ∷ [])
    ∷ (Token t.Fun ∷ Token t.Word ∷ Part n.Param ∷ Part n.MoreParams ∷ Token t.Colon
    ∷ Part (n.Alternative sorts.Type) ∷ Token t.Equals ∷ Part n.Expr ∷ Part n.Definitions ∷ [])
    ∷ (Token t.End ∷ []) ∷ []
-- parameter    = "(" "val" word "as" alternative ")"
rules n.Param =
    (Opening t.ParenL ∷ Token t.Val ∷ Token t.Word ∷ Token t.As
    ∷ Part (n.Alternative sorts.Type) ∷ Token t.ParenR ∷ Closed ∷ []) ∷ []
-- more parameters = { parameter }
rules n.MoreParams = (Unless t.ParenL ∷ []) ∷ (Part n.Param ∷ Part n.MoreParams ∷ []) ∷ []
-- type text    = alternative End
rules n.TypeText = (Part (n.Alternative sorts.Type) ∷ Token t.End ∷ []) ∷ []
-- alternative  = sequence { "|" sequence }
rules (n.Alternative s) = (Part (n.Sequence s) ∷ Part (n.MoreBranches s) ∷ []) ∷ []
-- more branches = { "|" sequence }
rules (n.MoreBranches s) =
    (Token t.Bar ∷ Part (n.Sequence s) ∷ Part (n.MoreBranches s) ∷ []) ∷ (Unless t.Bar ∷ []) ∷ []
-- sequence     = repetition { "," repetition }
rules (n.Sequence s) = (Part (n.Post s) ∷ Part (n.MoreParts s) ∷ []) ∷ []
-- more parts   = { "," repetition }
rules (n.MoreParts s) =
    (Token t.Comma ∷ Part (n.Post s) ∷ Part (n.MoreParts s) ∷ []) ∷ (Unless t.Comma ∷ []) ∷ []
-- repetition   = item [ "*" | "+" | "?" ]; in patterns also "val" word [ "as" repetition ]
rules (n.Post sorts.Type) = (Part (n.Prim sorts.Type) ∷ Part n.Operator ∷ []) ∷ []
rules (n.Post sorts.Pattern) =
    (Token t.Val ∷ Token t.Word ∷ Part n.Bound ∷ [])
    ∷ (Part (n.Prim sorts.Pattern) ∷ Part n.Operator ∷ []) ∷ []
-- item         = word | "(" group | text | "^" excepted | class content
rules (n.Prim s) =
    (Token t.Word ∷ []) ∷ (Opening t.ParenL ∷ Part (n.Group s) ∷ []) ∷ (Token t.Text ∷ [])
    ∷ (Token t.Caret ∷ Part (n.Excepted s) ∷ []) ∷ (Part n.Class ∷ Part (n.Content s) ∷ []) ∷ []
-- excepted     = text | label "[" content | "(" excepted list
rules (n.Excepted s) =
    (Token t.Text ∷ []) ∷ (Opening t.Label ∷ Part (n.Content s) ∷ [])
    ∷ (Opening t.ParenL ∷ Part (n.ExceptedList s) ∷ []) ∷ []
-- excepted list = text { "|" text } ")" | any word { "|" any word } ")" "[" content
rules (n.ExceptedList s) =
    (Token t.Text ∷ Part n.MoreTexts ∷ Token t.ParenR ∷ Closed ∷ [])
    ∷ (Part n.AnyWord ∷ Part n.MoreNames ∷ Token t.ParenR ∷ Closed ∷ Opening t.BracketL
    ∷ Part (n.Content s) ∷ []) ∷ []
-- group        = ")" | alternative ")"; no "[" follows
rules (n.Group s) =
    (Token t.ParenR ∷ Closed ∷ Unless t.BracketL ∷ [])
    ∷ (Part (n.Alternative s) ∷ Token t.ParenR ∷ Closed ∷ Unless t.BracketL ∷ []) ∷ []
-- content      = "]" | alternative "]"
rules (n.Content s) =
    (Token t.BracketR ∷ Closed ∷ [])
    ∷ (Part (n.Alternative s) ∷ Token t.BracketR ∷ Closed ∷ []) ∷ []
-- bound        = [ "as" repetition ]
rules n.Bound = (Opening t.As ∷ Part (n.Post sorts.Pattern) ∷ Closed ∷ []) ∷ (Unless t.As ∷ []) ∷ []
-- operator     = [ "*" | "+" | "?" ]
rules n.Operator =
    (Token t.Star ∷ []) ∷ (Token t.Plus ∷ []) ∷ (Token t.Query ∷ [])
    ∷ (Unless t.Star ∷ Unless t.Plus ∷ Unless t.Query ∷ []) ∷ []
-- class        = "~" "[" | labels
rules n.Class = (Token t.Tilde ∷ Opening t.BracketL ∷ []) ∷ (Part n.Labels ∷ []) ∷ []
-- labels       = label "[" | names "["
rules n.Labels = (Opening t.Label ∷ []) ∷ (Part n.Names ∷ Opening t.BracketL ∷ []) ∷ []
-- names        = "(" any word { "|" any word } ")"
rules n.Names =
    (Opening t.ParenL ∷ Part n.AnyWord ∷ Part n.MoreNames ∷ Token t.ParenR ∷ Closed ∷ []) ∷ []
-- more names   = { "|" any word }
rules n.MoreNames =
    (Token t.Bar ∷ Part n.AnyWord ∷ Part n.MoreNames ∷ []) ∷ (Unless t.Bar ∷ []) ∷ []
-- more texts   = { "|" text }
rules n.MoreTexts = (Token t.Bar ∷ Token t.Text ∷ Part n.MoreTexts ∷ []) ∷ (Unless t.Bar ∷ []) ∷ []
-- any word     = word | "type" | "fun" | "val" | "as" | "match" | "with"
rules n.AnyWord =
    (Token t.Word ∷ []) ∷ (Token t.Type ∷ []) ∷ (Token t.Fun ∷ []) ∷ (Token t.Val ∷ [])
    ∷ (Token t.As ∷ []) ∷ (Token t.Match ∷ []) ∷ (Token t.With ∷ []) ∷ []
-- expression   = part { "," part }
rules n.Expr = (Part n.Item ∷ Part n.MoreItems ∷ []) ∷ []
-- more items   = { "," part }
rules n.MoreItems =
    (Token t.Comma ∷ Part n.Item ∷ Part n.MoreItems ∷ []) ∷ (Unless t.Comma ∷ []) ∷ []
-- part         = text | word { parentheses } | label "[" expression content
--              | "match" expression "with" clause { "|" clause } | parentheses
rules n.Item =
    (Token t.Text ∷ []) ∷ (Token t.Word ∷ Part n.MoreParens ∷ [])
    ∷ (Opening t.Label ∷ Part n.ExprContent ∷ [])
    ∷ (Opening t.Match ∷ Part n.Expr ∷ Token t.With ∷ Part n.Clause ∷ Part n.MoreClauses
    ∷ Closed ∷ [])
    ∷ (Part n.Paren ∷ []) ∷ []
-- expression content = "]" | expression "]"
rules n.ExprContent =
    (Token t.BracketR ∷ Closed ∷ []) ∷ (Part n.Expr ∷ Token t.BracketR ∷ Closed ∷ []) ∷ []
-- parentheses  = "(" parentheses content
rules n.Paren = (Opening t.ParenL ∷ Part n.ParenContent ∷ []) ∷ []
-- parentheses content = ")" | expression ")"
rules n.ParenContent =
    (Token t.ParenR ∷ Closed ∷ []) ∷ (Part n.Expr ∷ Token t.ParenR ∷ Closed ∷ []) ∷ []
-- more parentheses = { parentheses }
rules n.MoreParens = (Unless t.ParenL ∷ []) ∷ (Part n.Paren ∷ Part n.MoreParens ∷ []) ∷ []
-- clause       = sequence "->" expression
rules n.Clause = (Part (n.Sequence sorts.Pattern) ∷ Token t.Arrow ∷ Part n.Expr ∷ []) ∷ []
-- more clauses = { "|" clause }
rules n.MoreClauses =
    (Token t.Bar ∷ Part n.Clause ∷ Part n.MoreClauses ∷ []) ∷ (Unless t.Bar ∷ []) ∷ []

-- whether tokens are to spell a row to its end, or may break off anywhere
pub data Extent : Type 0 where
  Entire : Extent
  Partial : Extent

-- what may be left of a row after the last token
abbrev pub MayEnd : Extent → Row → Type 0
MayEnd Entire [] = Unit {0}
MayEnd Entire (symbol ∷ row) = ⊥
MayEnd Partial row = Unit {0}

-- Where so many levels of nesting are open, and at most `limit` may be, the tokens spell the row,
-- or a front of it.
pub data Derives (extent : Extent) (limit : ℕ) : ℕ → Row → List Terminal → Type 0 where
  end : {depth : ℕ} {row : Row} → MayEnd extent row → Derives extent limit depth row []
  token : {depth : ℕ} {k : Terminal} {row : Row} {ts : List Terminal} →
      Derives extent limit depth row ts → Derives extent limit depth (Token k ∷ row) (k ∷ ts)
  opening : {depth : ℕ} {k : Terminal} {row : Row} {ts : List Terminal} → depth < limit →
      Derives extent limit (suc depth) row ts → Derives extent limit depth (Opening k ∷ row) (k
      ∷ ts)
  closed : {depth : ℕ} {row : Row} {ts : List Terminal} →
      Derives extent limit depth row ts → Derives extent limit (suc depth) (Closed ∷ row) ts
  unless : {depth : ℕ} {j k : Terminal} {row : Row} {ts : List Terminal} → j ≢ k →
      Derives extent limit depth row (k ∷ ts) → Derives extent limit depth (Unless j ∷ row) (k ∷ ts)
  by : {depth : ℕ} {part : Nonterminal} (made : Row) {row : Row} {ts : List Terminal} →
      IsOneOf made (rules part) →
      Derives extent limit depth (made ++ row) ts → Derives extent limit depth (Part part ∷ row) ts

-- the tokens are a whole text of this nonterminal, which ends with `End`
abbrev pub SpellsNonterminal : ℕ → Nonterminal → List Terminal → Type 0
SpellsNonterminal limit part ts = Derives Entire limit 0 (Part part ∷ []) ts

-- the tokens are the front of a text of this nonterminal
abbrev pub BeginsNonterminal : ℕ → Nonterminal → List Terminal → Type 0
BeginsNonterminal limit part ts = Derives Partial limit 0 (Part part ∷ []) ts
