use Rattle.std.proofs.Common.{◌*◌, ◌+◌, length}
use Rattle.xd_syntax.specs.Exprs.{expr_numbers, clause_numbers}
use Rattle.xd_parse.proofs.Readers.{ReadItems, ReadArguments, ReadClauses}
use Rattle.xd_parse.proofs.expressions.+expressions.Given as goal

-- the tokens that are left, and then the order in which the functions call one another on the same
-- tokens
abbrev pub decreases-read_expr : goal.decreases-read_expr
decreases-read_expr l = length l.cursor.now * 8 + 4

abbrev pub decreases-read_items : goal.decreases-read_items
decreases-read_items l = length l.cursor.now * 8 + 3

abbrev pub decreases-read_item : goal.decreases-read_item
decreases-read_item l = length l.cursor.now * 8 + 2

abbrev pub decreases-read_named : goal.decreases-read_named
decreases-read_named l = length l.cursor.now * 8 + 1

abbrev pub decreases-read_element : goal.decreases-read_element
decreases-read_element l = length l.cursor.now * 8 + 1

abbrev pub decreases-read_content : goal.decreases-read_content
decreases-read_content l = length l.cursor.now * 8 + 5

abbrev pub decreases-read_argument : goal.decreases-read_argument
decreases-read_argument l = length l.cursor.now * 8 + 1

abbrev pub decreases-read_paren : goal.decreases-read_paren
decreases-read_paren l = length l.cursor.now * 8

abbrev pub decreases-read_match : goal.decreases-read_match
decreases-read_match l = length l.cursor.now * 8 + 1

abbrev pub decreases-read_clause : goal.decreases-read_clause
decreases-read_clause l = length l.cursor.now * 8 + 5

abbrev pub invariant-read_items-items : goal.invariant-read_items-items
invariant-read_items-items l = ReadItems l.fn.cursor l.fn.patterns l.fn.exprs l.cursor l.patterns l.exprs l.read

abbrev pub decreases-read_items-items : goal.decreases-read_items-items
decreases-read_items-items l = length l.cursor

abbrev pub invariant-read_named-arguments : goal.invariant-read_named-arguments
invariant-read_named-arguments l = ReadArguments l.fn.cursor l.fn.patterns l.fn.exprs l.cursor l.patterns l.exprs l.name.word l.name.place (expr_numbers l.arguments.items)

abbrev pub decreases-read_named-arguments : goal.decreases-read_named-arguments
decreases-read_named-arguments l = length l.cursor

abbrev pub invariant-read_match-clauses : goal.invariant-read_match-clauses
invariant-read_match-clauses l = ReadClauses l.fn.cursor l.fn.patterns l.fn.exprs l.cursor l.patterns l.exprs l.place l.scrutinee.at (clause_numbers l.clauses.items)

abbrev pub decreases-read_match-clauses : goal.decreases-read_match-clauses
decreases-read_match-clauses l = length l.cursor
