-- What the symbols of the grammar stand for in the syntax tree: each token for itself, and each
-- nonterminal for what its row makes of what the row's symbols stand for (an attribute grammar,
-- Knuth 1968). The row stands above each equation, in the words of the grammar's rules. Symbols
-- that are no token, those that say what doesn't come next or that a level of nesting ends, stand
-- for nothing.
use Rattle.std.specs.Prelude.{ℕ, ◌-◌, true, false, cond, List, [], ◌∷◌, ◌++◌, length, take, codes}
use Rattle.std.specs.Str.{bytes_eq}
use Rattle.xd_base.specs.declared.Place.{Place}
use Rattle.xd_doc.specs.Classes.{LabelClass}
use Rattle.xd_lex.specs.Tokens.{Lexeme}
use Rattle.xd_lex.specs.Spelled.{unescaped}
use Rattle.xd_syntax.specs.Words.{any_word, string_word}
use Rattle.xd_syntax.specs.Placed.{PlacedTree, Empty_at, Text_at, Words_at, Name_at, Elem_at, Star_at, Plus_at, Opt_at, Val_at, place_of}
use Rattle.xd_syntax.specs.Expression.{Expression, Nothing, Quoted, Variable, Tagged, Called, Matched, Clauses, no_clause, clause, arguments_of}
use Rattle.xd_syntax.specs.Program.{Parameter, ProgramTree}
use Rattle.xd_grammar.specs.declared.grammar.Nonterminal.{Nonterminal}
use Rattle.xd_grammar.specs.declared.grammar.Nonterminal.TheVariants as n
use Rattle.xd_grammar.specs.declared.grammar.Terminal.{Terminal}
use Rattle.xd_grammar.specs.declared.grammar.Terminal.TheVariants as t
use Rattle.xd_grammar.specs.Text.{kind_terminal}
use Rattle.xd_parse_trees.specs.Merged.{class_of, sequence, alternative, sequence_of_expressions}

-- What a symbol stands for. A mark is a token of which only the terminal and the place count;
-- keywords are marks.
pub data Value : Type 0 where
  mark : Terminal → Place → Value
  word : (characters : List ℕ) → Place → Value
  label : (characters : List ℕ) → Place → Value
  a_text : (characters : List ℕ) → Place → Value
  absent : Value
  a_tree : PlacedTree → Value
  trees : List PlacedTree → Value
  names : List (List ℕ) → Value
  labels : Place → List (List ℕ) → Value
  class : Place → LabelClass → Value
  texts : List (List ℕ) → Value
  labelled : List (List ℕ) → PlacedTree → Value
  an_expression : Expression → Value
  expressions : List Expression → Value
  a_clause : PlacedTree → Expression → Value
  clauses : Clauses → Value
  a_parameter : Parameter → Value
  parameters : List Parameter → Value
  definitions : ProgramTree → Value

-- what a token of this terminal stands for, by its bytes and its place
abbrev pub token_of : Terminal → List ℕ → Place → Value
token_of t.Word text p = word text p
token_of t.Label text p = label (take (length text - 1) text) p
token_of t.Text text p = a_text (unescaped text) p
token_of k text p = mark k p

-- a token: a label without its bracket, a text without its quotes and escapes
abbrev pub token_value : Lexeme → Value
token_value l = token_of (kind_terminal l.kind l.text) l.text l.place

-- the word of a keyword
abbrev pub keyword_word : Terminal → List ℕ
keyword_word t.Type = codes "type"
keyword_word t.Fun = codes "fun"
keyword_word t.Val = codes "val"
keyword_word t.As = codes "as"
keyword_word t.Match = codes "match"
keyword_word t.With = codes "with"
keyword_word k = []

-- ---- parts of what rows stand for

-- a word as a type
abbrev pub named_type : List ℕ → Place → PlacedTree
named_type x p = cond (bytes_eq string_word x) (Text_at p) (Name_at p x)

-- `*`, `+` or `?` after a part
abbrev pub repeated : Terminal → PlacedTree → PlacedTree
repeated t.Star T = Star_at (place_of T) T
repeated t.Plus T = Plus_at (place_of T) T
repeated k T = Opt_at (place_of T) T

-- a word with parentheses after it is a call
abbrev pub word_expression : List ℕ → Place → List Expression → Expression
word_expression x p [] = Variable p x
word_expression x p (e ∷ es) = Called p x (arguments_of (e ∷ es))

-- the program with this type before its others
abbrev pub with_type : List ℕ → Place → PlacedTree → ProgramTree → ProgramTree
with_type x p T P = record P { types = record { name = x; place = p; body = T } ∷ P.types }

-- the program with this function before its others
abbrev pub with_function :
    List ℕ → Place → List Parameter → PlacedTree → Expression → ProgramTree → ProgramTree
with_function x p qs T e P =
    record P {
      functions = record { name = x; place = p; parameters = qs; declared = T; body = e } ∷ P.functions;
    }

-- What a nonterminal stands for, by what the symbols of its row stand for, in the order of the
-- grammar. `val x` alone is `val x as Any`, with `Any` at the place of the word. `()` is empty at
-- its `(`, and an empty content at its `]`; other parentheses make no node. A class has the place
-- of its first token. A keyword is a word where any word may stand.
--
-- A worked text, `a[],()*`. The label at 1:1 is `labels 1:1 [a]` and then `class 1:1 {a}`, and its
-- content is `a_tree (Empty_at 1:3)`, so the item is an element, at 1:1. No operator follows it:
-- `absent`. The parentheses are `absent` as a group, and `a_tree (Empty_at 1:5)` as an item. The
-- star is a mark, which gives `a_tree (Star_at 1:5 ..)`. That is the one tree of the `more parts`,
-- and the sequence is `a_tree (Seq_at 1:1 ..)` of the element and the star.
abbrev pub value_of : Nonterminal → List Value → Value
-- "type" word "=" alternative definitions
value_of n.Definitions (mark _ _ ∷ word x q ∷ mark _ _ ∷ a_tree T ∷ definitions P ∷ []) =
    definitions (with_type x q T P)
-- "fun" word parameter { parameter } ":" alternative "=" expression definitions
value_of n.Definitions (mark _ _ ∷ word x q ∷ a_parameter y ∷ parameters ys ∷ mark _ _ ∷ a_tree T
    ∷ mark _ _ ∷ an_expression e ∷ definitions P ∷ []) =
    definitions (with_function x q (y ∷ ys) T e P)
-- End
value_of n.Definitions (mark _ _ ∷ []) = definitions (record { types = []; functions = [] })
-- "(" "val" word "as" alternative ")"
value_of n.Param (mark _ _ ∷ mark _ _ ∷ word x q ∷ mark _ _ ∷ a_tree T ∷ mark _ _ ∷ []) =
    a_parameter (record { name = x; place = q; declared = T })
-- nothing more
value_of n.MoreParams [] = parameters []
-- parameter and more parameters
value_of n.MoreParams (a_parameter q ∷ parameters qs ∷ []) = parameters (q ∷ qs)
-- alternative End
value_of n.TypeText (a_tree T ∷ mark _ _ ∷ []) = a_tree T
-- sequence { "|" sequence }
value_of (n.Alternative _) (a_tree T ∷ trees Ts ∷ []) = a_tree (alternative T Ts)
-- nothing more
value_of (n.MoreBranches _) [] = trees []
-- "|" sequence and more branches
value_of (n.MoreBranches _) (mark _ _ ∷ a_tree T ∷ trees Ts ∷ []) = trees (T ∷ Ts)
-- repetition { "," repetition }
value_of (n.Sequence _) (a_tree T ∷ trees Ts ∷ []) = a_tree (sequence T Ts)
-- nothing more
value_of (n.MoreParts _) [] = trees []
-- "," repetition and more parts
value_of (n.MoreParts _) (mark _ _ ∷ a_tree T ∷ trees Ts ∷ []) = trees (T ∷ Ts)
-- "val" word
value_of (n.Post _) (mark _ p ∷ word x q ∷ absent ∷ []) = a_tree (Val_at p x q (Name_at q any_word))
-- "val" word "as" repetition
value_of (n.Post _) (mark _ p ∷ word x q ∷ a_tree T ∷ []) = a_tree (Val_at p x q T)
-- item
value_of (n.Post _) (a_tree T ∷ absent ∷ []) = a_tree T
-- item "*", item "+", item "?"
value_of (n.Post _) (a_tree T ∷ mark k _ ∷ []) = a_tree (repeated k T)
-- word
value_of (n.Prim _) (word x p ∷ []) = a_tree (named_type x p)
-- text
value_of (n.Prim _) (a_text s p ∷ []) = a_tree (Words_at p (class_of false (s ∷ [])))
-- "^" text, "^" "(" text { "|" text } ")"
value_of (n.Prim _) (mark _ p ∷ texts ss ∷ []) = a_tree (Words_at p (class_of true ss))
-- "^" label "[" content, "^" "(" any word { "|" any word } ")" "[" content
value_of (n.Prim _) (mark _ p ∷ labelled ws T ∷ []) = a_tree (Elem_at p (class_of true ws) T)
-- "(" ")"
value_of (n.Prim _) (mark _ p ∷ absent ∷ []) = a_tree (Empty_at p)
-- "(" alternative ")"
value_of (n.Prim _) (mark _ _ ∷ a_tree T ∷ []) = a_tree T
-- class content
value_of (n.Prim _) (class p c ∷ a_tree T ∷ []) = a_tree (Elem_at p c T)
-- text
value_of (n.Excepted _) (a_text s _ ∷ []) = texts (s ∷ [])
-- label "[" content
value_of (n.Excepted _) (label w _ ∷ a_tree T ∷ []) = labelled (w ∷ []) T
-- "(" text { "|" text } ")"
value_of (n.Excepted _) (mark _ _ ∷ texts ss ∷ []) = texts ss
-- "(" any word { "|" any word } ")" "[" content
value_of (n.Excepted _) (mark _ _ ∷ labelled ws T ∷ []) = labelled ws T
-- text { "|" text } ")"
value_of (n.ExceptedList _) (a_text s _ ∷ texts ss ∷ mark _ _ ∷ []) = texts (s ∷ ss)
-- any word { "|" any word } ")" "[" content
value_of (n.ExceptedList _) (names vs ∷ names ws ∷ mark _ _ ∷ mark _ _ ∷ a_tree T ∷ []) =
    labelled (vs ++ ws) T
-- ")"
value_of (n.Group _) (mark _ _ ∷ []) = absent
-- alternative ")"
value_of (n.Group _) (a_tree T ∷ mark _ _ ∷ []) = a_tree T
-- "]"
value_of (n.Content _) (mark _ p ∷ []) = a_tree (Empty_at p)
-- alternative "]"
value_of (n.Content _) (a_tree T ∷ mark _ _ ∷ []) = a_tree T
-- nothing more
value_of n.Bound [] = absent
-- "as" repetition
value_of n.Bound (mark _ _ ∷ a_tree T ∷ []) = a_tree T
-- nothing more
value_of n.Operator [] = absent
-- "*" | "+" | "?"
value_of n.Operator (mark k p ∷ []) = mark k p
-- "~" "["
value_of n.Class (mark _ p ∷ mark _ _ ∷ []) = class p (class_of true [])
-- labels
value_of n.Class (labels p ws ∷ []) = class p (class_of false ws)
-- label "["
value_of n.Labels (label w p ∷ []) = labels p (w ∷ [])
-- names "["
value_of n.Labels (labels p ws ∷ mark _ _ ∷ []) = labels p ws
-- "(" any word { "|" any word } ")"
value_of n.Names (mark _ p ∷ names vs ∷ names ws ∷ mark _ _ ∷ []) = labels p (vs ++ ws)
-- nothing more
value_of n.MoreNames [] = names []
-- "|" any word and more names
value_of n.MoreNames (mark _ _ ∷ names vs ∷ names ws ∷ []) = names (vs ++ ws)
-- nothing more
value_of n.MoreTexts [] = texts []
-- "|" text and more texts
value_of n.MoreTexts (mark _ _ ∷ a_text s _ ∷ texts ss ∷ []) = texts (s ∷ ss)
-- word
value_of n.AnyWord (word x _ ∷ []) = names (x ∷ [])
-- "type", "fun", "val", "as", "match", "with"
value_of n.AnyWord (mark k _ ∷ []) = names (keyword_word k ∷ [])
-- part { "," part }
value_of n.Expr (an_expression e ∷ expressions es ∷ []) = an_expression (sequence_of_expressions e es)
-- nothing more
value_of n.MoreItems [] = expressions []
-- "," part and more items
value_of n.MoreItems (mark _ _ ∷ an_expression e ∷ expressions es ∷ []) = expressions (e ∷ es)
-- text
value_of n.Item (a_text s p ∷ []) = an_expression (Quoted p s)
-- word { parentheses }
value_of n.Item (word x p ∷ expressions es ∷ []) = an_expression (word_expression x p es)
-- label "[" expression content
value_of n.Item (label w p ∷ an_expression e ∷ []) = an_expression (Tagged p w e)
-- "match" expression "with" clause { "|" clause }
value_of n.Item (mark _ p ∷ an_expression e ∷ mark _ _ ∷ a_clause P f ∷ clauses cs ∷ []) =
    an_expression (Matched p e (clause P f cs))
-- parentheses
value_of n.Item (an_expression e ∷ []) = an_expression e
-- "]"
value_of n.ExprContent (mark _ p ∷ []) = an_expression (Nothing p)
-- expression "]"
value_of n.ExprContent (an_expression e ∷ mark _ _ ∷ []) = an_expression e
-- "(" ")"
value_of n.Paren (mark _ p ∷ absent ∷ []) = an_expression (Nothing p)
-- "(" expression ")"
value_of n.Paren (mark _ _ ∷ an_expression e ∷ []) = an_expression e
-- ")"
value_of n.ParenContent (mark _ _ ∷ []) = absent
-- expression ")"
value_of n.ParenContent (an_expression e ∷ mark _ _ ∷ []) = an_expression e
-- nothing more
value_of n.MoreParens [] = expressions []
-- parentheses and more parentheses
value_of n.MoreParens (an_expression e ∷ expressions es ∷ []) = expressions (e ∷ es)
-- sequence "->" expression
value_of n.Clause (a_tree P ∷ mark _ _ ∷ an_expression e ∷ []) = a_clause P e
-- nothing more
value_of n.MoreClauses [] = clauses no_clause
-- "|" clause and more clauses
value_of n.MoreClauses (mark _ _ ∷ a_clause P e ∷ clauses cs ∷ []) = clauses (clause P e cs)
-- no other row has such parts
value_of _ _ = absent
