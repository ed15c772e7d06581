-- Which tokens begin a symbol by its productions alone: the rows without the rules of longest match
-- and without levels of nesting.
use Rattle.std.specs.Prelude.{◌++◌, ◌↔◌, ℕ, map, List, [], ◌∷◌}
use Rattle.xd_grammar.specs.declared.grammar.Nonterminal.{Nonterminal}
use Rattle.xd_grammar.specs.declared.grammar.Symbol.TheVariants.{Token, Opening, Closed, Unless, Part}
use Rattle.xd_grammar.specs.declared.grammar.Terminal.{Terminal}
use Rattle.xd_grammar.specs.declared.grammar.Nonterminal.TheVariants as n
use Rattle.xd_doc.specs.Members.{IsOneOf}
use Rattle.xd_grammar.specs.Grammar.{Row, rules, Partial, Derives}

abbrev pub production : Row → Row
production [] = []
production (Token k ∷ row) = Token k ∷ production row
production (Opening k ∷ row) = Token k ∷ production row
production (Closed ∷ row) = production row
production (Unless k ∷ row) = production row
production (Part part ∷ row) = Part part ∷ production row

abbrev pub productions : Nonterminal → List Row
productions part = map production (rules part)

-- The tokens are the front of what the row spells.
pub data Starts : Row → List Terminal → Type 0 where
  nothing : {row : Row} → Starts row []
  symbol : {k : Terminal} {row : Row} {ts : List Terminal} → Starts row ts → Starts (Token k ∷ row) (k ∷ ts)
  choice : {part : Nonterminal} (made : Row) {row : Row} {ts : List Terminal} → IsOneOf made (productions part) → Starts (made ++ row) ts → Starts (Part part ∷ row) ts

-- the levels that are open where a symbol begins: that of its parenthesis, for the rest of a list
-- after `^(`
abbrev pub opened : Nonterminal → ℕ
opened (n.ExceptedList s) = 1
opened part = 0

-- The rules of longest match choose between derivations of the same tokens: they leave which tokens
-- begin a symbol as it is. Only where a limit is set do they count, since they say where a match
-- ends and so how many levels are open.
abbrev pub LongestMatchOnlyChooses : Type 0
LongestMatchOnlyChooses = (part : Nonterminal) (ts : List Terminal) → ((limit : ℕ) × Derives Partial limit (opened part) (Part part ∷ []) ts) ↔ Starts (Part part ∷ []) ts
