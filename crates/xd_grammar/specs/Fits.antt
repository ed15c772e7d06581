-- Which rows may begin with a token, by a test.
use Rattle.std.specs.Prelude.{ℕ, suc, ◌==◌, ◌+◌, Bool, true, false, cond, List, [], ◌∷◌, Option, Some, None}
use Rattle.xd_grammar.specs.declared.grammar.Nonterminal.{Nonterminal}
use Rattle.xd_grammar.specs.declared.grammar.Nonterminal.TheVariants as n
use Rattle.xd_grammar.specs.declared.grammar.Symbol.TheVariants.{Token, Opening, Closed, Unless, Part}
use Rattle.xd_grammar.specs.declared.grammar.Terminal.{Terminal}
use Rattle.xd_grammar.specs.declared.grammar.Terminal.TheVariants as t
use Rattle.xd_grammar.specs.Grammar.{Row}

-- terminals by number, so that they can be compared
abbrev pub number : Terminal → ℕ
number t.Type = 0
number t.Fun = 1
number t.Val = 2
number t.As = 3
number t.Match = 4
number t.With = 5
number t.Word = 6
number t.Label = 7
number t.Text = 8
number t.ParenL = 9
number t.ParenR = 10
number t.BracketL = 11
number t.BracketR = 12
number t.Comma = 13
number t.Bar = 14
number t.Star = 15
number t.Plus = 16
number t.Query = 17
number t.Equals = 18
number t.Colon = 19
number t.Tilde = 20
number t.Caret = 21
number t.Arrow = 22
number t.End = 23
number t.Broken = 24

abbrev pub same : Terminal → Terminal → Bool
same j k = number j == number k

-- whether the first symbols of a row let the token come next
abbrev pub fits : Row → Terminal → Bool
fits [] k = true
fits (Token j ∷ row) k = same j k
fits (Opening j ∷ row) k = same j k
fits (Unless j ∷ row) k = cond (same j k) false (fits row k)
fits (Closed ∷ row) k = true
fits (Part part ∷ row) k = true

-- the first row that does
abbrev pub first_fit : List Row → Terminal → Option Row
first_fit [] k = None
first_fit (r ∷ rs) k = cond (fits r k) (Some r) (first_fit rs k)

-- how many symbols stand before the next token at most
abbrev pub cost : Nonterminal → ℕ
cost n.Definitions = 2
cost n.Param = 2
cost n.MoreParams = 3
cost n.TypeText = 9
cost (n.Alternative s) = 8
cost (n.MoreBranches s) = 2
cost (n.Sequence s) = 7
cost (n.MoreParts s) = 2
cost (n.Post s) = 6
cost (n.Prim s) = 5
cost (n.Excepted s) = 2
cost (n.ExceptedList s) = 3
cost (n.Group s) = 9
cost (n.Content s) = 9
cost n.Bound = 2
cost n.Operator = 4
cost n.Class = 4
cost n.Labels = 3
cost n.Names = 2
cost n.MoreNames = 2
cost n.MoreTexts = 2
cost n.AnyWord = 2
cost n.Expr = 4
cost n.MoreItems = 2
cost n.Item = 3
cost n.ExprContent = 5
cost n.Paren = 2
cost n.ParenContent = 5
cost n.MoreParens = 3
cost n.Clause = 8
cost n.MoreClauses = 2

abbrev pub is_empty_too : Nonterminal → Bool
is_empty_too n.MoreParams = true
is_empty_too (n.MoreBranches s) = true
is_empty_too (n.MoreParts s) = true
is_empty_too n.Bound = true
is_empty_too n.Operator = true
is_empty_too n.MoreNames = true
is_empty_too n.MoreTexts = true
is_empty_too n.MoreItems = true
is_empty_too n.MoreParens = true
is_empty_too n.MoreClauses = true
is_empty_too part = false

abbrev pub work : Row → ℕ
work [] = 0
work (Token j ∷ row) = 1
work (Opening j ∷ row) = 1
work (Closed ∷ row) = suc (work row)
work (Unless j ∷ row) = suc (work row)
work (Part part ∷ row) = cost part + cond (is_empty_too part) (work row) 0
