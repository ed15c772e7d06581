-- Rows that are read by the first rule that fits the next token: what is read so is what the
-- grammar says.
use Rattle.std.proofs.Common.{◌≡◌, ℕ, zero, suc, ltb, ltb-true, Bool, true, false, cond, List, [], ◌∷◌, ◌++◌, Option, Some, None, refl, sym, subst}
use Rattle.xd_lex.specs.Tokens.{Lexeme}
use Rattle.xd_syntax.specs.Shallow.{nesting_limit}
use Rattle.xd_grammar.specs.declared.grammar.Nonterminal.{Nonterminal}
use Rattle.xd_grammar.specs.declared.grammar.Symbol.TheVariants.{Token, Opening, Closed, Unless, Part}
use Rattle.xd_grammar.specs.declared.grammar.Terminal.{Terminal}
use Rattle.xd_doc.specs.Members.{IsOneOf}
use Rattle.xd_grammar.specs.Grammar.{Row, rules, Entire, Derives, token, opening, closed, unless, by}
use Rattle.xd_grammar.specs.Fits.{same, first_fit}
use Rattle.xd_grammar.specs.Text.{terminals_at, terminal_at}
use Rattle.xd_parse_trees.specs.Means.{Means, ends, a_token, an_opening, a_closing, a_bar, a_part}
use Rattle.xd_parse_trees.specs.Values.{Value, token_value, value_of}
use Rattle.xd_grammar.proofs.Derive.{same-true, same-false, chosen_is}

-- the tokens that are left, the levels that are open, and what the row stands for
pub record Read : Type 0 where
  pub to : List Lexeme
  pub level : ℕ
  pub values : List Value

abbrev with_value : Value → Option Read → Option Read
with_value v None = None
with_value v (Some r) = Some (record r { values = v ∷ r.values })

abbrev and_then : Option Read → (Read → Option Read) → Option Read
and_then None k = None
and_then (Some r) k = k r

abbrev by_rule : Option Row → (Row → Option Read) → Option Read
by_rule None k = None
by_rule (Some made) k = k made

-- A row, with the first rule of each nonterminal that fits the next token, at most so many symbols
-- deep. Where that rule is the wrong one, nothing is read.
abbrev pub read_row : (steps level : ℕ) → Row → List Lexeme → Option Read
read_row zero d row ls = None
read_row (suc f) d [] ls = Some (record { to = ls; level = d; values = [] })
read_row (suc f) d (s ∷ row) [] = None
read_row (suc f) d (Token k ∷ row) (l ∷ ls) = cond (same k (terminal_at l)) (with_value (token_value l) (read_row f d row ls)) None
read_row (suc f) d (Opening k ∷ row) (l ∷ ls) =
    cond (same k (terminal_at l)) (cond (ltb d nesting_limit) (with_value (token_value l) (read_row f (suc d) row ls)) None) None
read_row (suc f) zero (Closed ∷ row) (l ∷ ls) = None
read_row (suc f) (suc d) (Closed ∷ row) (l ∷ ls) = read_row f d row (l ∷ ls)
read_row (suc f) d (Unless j ∷ row) (l ∷ ls) = cond (same j (terminal_at l)) None (read_row f d row (l ∷ ls))
read_row (suc f) d (Part part ∷ row) (l ∷ ls) =
    by_rule (first_fit (rules part) (terminal_at l))
    (λ made. and_then (read_row f d made (l ∷ ls)) (λ r. with_value (value_of part r.values) (read_row f r.level row r.to)))

-- The row stands for the values, and its tokens are derived, where what is left is of more rows
-- after it.
pub record IsRead (level : ℕ) (row : Row) (ls : List Lexeme) (r : Read) : Type 0 where
  pub means : Means row ls r.to r.values
  pub derives : (more : Row) → Derives Entire nesting_limit r.level more (terminals_at r.to) → Derives Entire nesting_limit level (row ++ more) (terminals_at ls)

abbrev Holds : (level : ℕ) → Row → List Lexeme → Option Read → Type 0
Holds d row ls None = Unit {0}
Holds d row ls (Some r) = IsRead d row ls r

token_holds : (d : ℕ) (k : Terminal) (row : Row) (l : Lexeme) (ls : List Lexeme) (b : Bool) → same k (terminal_at l) ≡ b → (o : Option Read) → Holds d row ls o →
    Holds d (Token k ∷ row) (l ∷ ls) (cond b (with_value (token_value l) o) None)
token_holds d k row l ls true e None h = tt
token_holds d k row l ls true e (Some r) h =
    subst (λ j. IsRead d (Token j ∷ row) (l ∷ ls) (record r { values = token_value l ∷ r.values })) (sym (same-true k (terminal_at l) e))
    (record { means = a_token h.means; derives = λ more g. token (h.derives more g) })
token_holds d k row l ls false e o h = tt

opening_holds : (d : ℕ) (k : Terminal) (row : Row) (l : Lexeme) (ls : List Lexeme) (b c : Bool) → same k (terminal_at l) ≡ b → ltb d nesting_limit ≡ c → (o : Option Read) →
    Holds (suc d) row ls o → Holds d (Opening k ∷ row) (l ∷ ls) (cond b (cond c (with_value (token_value l) o) None) None)
opening_holds d k row l ls true true e f None h = tt
opening_holds d k row l ls true true e f (Some r) h =
    subst (λ j. IsRead d (Opening j ∷ row) (l ∷ ls) (record r { values = token_value l ∷ r.values })) (sym (same-true k (terminal_at l) e))
    (record { means = an_opening h.means; derives = λ more g. opening (ltb-true d nesting_limit f) (h.derives more g) })
opening_holds d k row l ls true false e f o h = tt
opening_holds d k row l ls false c e f o h = tt

unless_holds : (d : ℕ) (j : Terminal) (row : Row) (l : Lexeme) (ls : List Lexeme) (b : Bool) → same j (terminal_at l) ≡ b → (o : Option Read) → Holds d row (l ∷ ls) o →
    Holds d (Unless j ∷ row) (l ∷ ls) (cond b None o)
unless_holds d j row l ls true e o h = tt
unless_holds d j row l ls false e None h = tt
unless_holds d j row l ls false e (Some r) h =
    let ne = same-false j (terminal_at l) e in record { means = a_bar ne h.means; derives = λ more g. unless ne (h.derives more g) }

closed_holds : (d : ℕ) (row : Row) (ls : List Lexeme) (o : Option Read) → Holds d row ls o → Holds (suc d) (Closed ∷ row) ls o
closed_holds d row ls None h = tt
closed_holds d row ls (Some r) h = record { means = a_closing h.means; derives = λ more g. closed (h.derives more g) }

rest_holds : (d : ℕ) (part : Nonterminal) (made row : Row) (ls : List Lexeme) (r : Read) → IsOneOf made (rules part) → IsRead d made ls r → (o : Option Read) → Holds r.level row r.to o →
    Holds d (Part part ∷ row) ls (with_value (value_of part r.values) o)
rest_holds d part made row ls r one h None g = tt
rest_holds d part made row ls r one h (Some q) g = record {
  means = a_part made one h.means g.means;
  derives = λ more x. by made one (h.derives (row ++ more) (g.derives more x));
}

part_holds : (d : ℕ) (part : Nonterminal) (made row : Row) (ls : List Lexeme) (then : Read → Option Read) → IsOneOf made (rules part) → (o : Option Read) → Holds d made ls o →
    ((r : Read) → Holds r.level row r.to (then r)) → Holds d (Part part ∷ row) ls (and_then o (λ r. with_value (value_of part r.values) (then r)))
part_holds d part made row ls then one None h k = tt
part_holds d part made row ls then one (Some r) h k = rest_holds d part made row ls r one h (then r) (k r)

rule_holds : (d : ℕ) (part : Nonterminal) (row : Row) (ls : List Lexeme) (k : Terminal) (o : Option Row) → first_fit (rules part) k ≡ o → (then : Row → Option Read) →
    ((made : Row) → IsOneOf made (rules part) → Holds d (Part part ∷ row) ls (then made)) → Holds d (Part part ∷ row) ls (by_rule o then)
rule_holds d part row ls k None e then h = tt
rule_holds d part row ls k (Some made) e then h = h made (chosen_is (rules part) k made e)

read_holds : (f d : ℕ) (row : Row) (ls : List Lexeme) → Holds d row ls (read_row f d row ls)
read_holds zero d row ls = tt
read_holds (suc f) d [] ls = record { means = ends; derives = λ more g. g }
read_holds (suc f) d (s ∷ row) [] = tt
read_holds (suc f) d (Token k ∷ row) (l ∷ ls) = token_holds d k row l ls (same k (terminal_at l)) refl (read_row f d row ls) (read_holds f d row ls)
read_holds (suc f) d (Opening k ∷ row) (l ∷ ls) =
    opening_holds d k row l ls (same k (terminal_at l)) (ltb d nesting_limit) refl refl (read_row f (suc d) row ls) (read_holds f (suc d) row ls)
read_holds (suc f) zero (Closed ∷ row) (l ∷ ls) = tt
read_holds (suc f) (suc d) (Closed ∷ row) (l ∷ ls) = closed_holds d row (l ∷ ls) (read_row f d row (l ∷ ls)) (read_holds f d row (l ∷ ls))
read_holds (suc f) d (Unless j ∷ row) (l ∷ ls) = unless_holds d j row l ls (same j (terminal_at l)) refl (read_row f d row (l ∷ ls)) (read_holds f d row (l ∷ ls))
read_holds (suc f) d (Part part ∷ row) (l ∷ ls) =
    rule_holds d part row (l ∷ ls) (terminal_at l) (first_fit (rules part) (terminal_at l)) refl _
    (λ made one. part_holds d part made row (l ∷ ls) _ one (read_row f d made (l ∷ ls)) (read_holds f d made (l ∷ ls)) (λ r. read_holds f r.level row r.to))

-- what is read is so by the grammar
pub read_is : (f d : ℕ) (row : Row) (ls : List Lexeme) (r : Read) → read_row f d row ls ≡ Some r → IsRead d row ls r
read_is f d row ls r e = let h : Holds d row ls (Some r) = subst (Holds d row ls) e (read_holds f d row ls) in h
