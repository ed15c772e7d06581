-- What the rows of expressions read.
use Rattle.std.proofs.Common.{◌≡◌, ◌-◌, true, false, List, [], ◌∷◌, Some, None, length, take, refl}
use Rattle.xd_lex.specs.Tokens.{Lexeme}
use Rattle.xd_lex.specs.Spelled.{unescaped}
use Rattle.xd_syntax.specs.Placed.{PlacedTree}
use Rattle.xd_syntax.specs.Expression.{Expression, Nothing, Quoted, Tagged, Matched, Clauses, no_clause, clause}
use Rattle.xd_grammar.specs.declared.grammar.Nonterminal.{Nonterminal}
use Rattle.xd_grammar.specs.declared.grammar.Nonterminal.TheVariants as n
use Rattle.xd_grammar.specs.declared.grammar.Sort.TheVariants as sorts
use Rattle.xd_grammar.specs.declared.grammar.Symbol.TheVariants.{Token, Opening, Closed, Unless, Part}
use Rattle.xd_grammar.specs.declared.grammar.Terminal.{Terminal}
use Rattle.xd_grammar.specs.declared.grammar.Terminal.TheVariants as t
use Rattle.xd_grammar.specs.Grammar.{Row, rules}
use Rattle.xd_grammar.specs.Fits.{same, first_fit}
use Rattle.xd_parse_trees.specs.Merged.{sequence_of_expressions}
use Rattle.xd_parse_trees.specs.Values.{Value, token_of, absent, a_tree, an_expression, expressions, a_clause, clauses, word_expression, value_of}
use Rattle.xd_parse_trees.specs.Reading.{Reads, front_terminal, front_place, front_text, behind}
use Rattle.xd_parse_trees.proofs.Rows.{front_same, ReadsRow, row_end, row_token, row_opening, row_closed, row_unless, row_part, part_one, part_fit, part_none}

-- the value of the next token as this terminal
abbrev as_token : Terminal → List Lexeme → Value
as_token k c = token_of k (front_text c) (front_place c)

-- a row of a single nonterminal
one_part : (part : Nonterminal) (from to : List Lexeme) (v : Value) → Reads part from to v → ReadsRow (Part part ∷ []) from to (v ∷ [])
one_part part from to v r = row_part part [] from to to v [] r (row_end to)

-- a token and the closing of a level
token_closed : (k : Terminal) (from : List Lexeme) → ReadsRow (Token k ∷ Closed ∷ []) from (behind from) (as_token k from ∷ [])
token_closed k from = row_token k (Closed ∷ []) from (behind from) [] (row_closed [] (behind from) (behind from) [] (row_end (behind from)))

-- ---- items
pub item_text : (c : List Lexeme) → front_terminal c ≡ t.Text → Reads n.Item c (behind c) (an_expression (Quoted (front_place c) (unescaped (front_text c))))
item_text c h = part_fit n.Item (Token t.Text ∷ []) c (behind c) (as_token t.Text c ∷ []) refl (rw h refl) (row_token t.Text [] c (behind c) [] (row_end (behind c)))

pub item_word : (c to : List Lexeme) (es : List Expression) → front_terminal c ≡ t.Word → Reads n.MoreParens (behind c) to (expressions es) → Reads n.Item c to (an_expression (word_expression (front_text c) (front_place c) es))
item_word c to es h r =
    part_fit n.Item (Token t.Word ∷ Part n.MoreParens ∷ []) c to (as_token t.Word c ∷ expressions es ∷ []) refl (rw h refl)
    (row_token t.Word (Part n.MoreParens ∷ []) c to (expressions es ∷ []) (one_part n.MoreParens (behind c) to (expressions es) r))

pub item_label : (c to : List Lexeme) (e : Expression) → front_terminal c ≡ t.Label → Reads n.ExprContent (behind c) to (an_expression e) →
    Reads n.Item c to (an_expression (Tagged (front_place c) (take (length (front_text c) - 1) (front_text c)) e))
item_label c to e h r =
    part_fit n.Item (Opening t.Label ∷ Part n.ExprContent ∷ []) c to (as_token t.Label c ∷ an_expression e ∷ []) refl (rw h refl)
    (row_opening t.Label (Part n.ExprContent ∷ []) c to (an_expression e ∷ []) (one_part n.ExprContent (behind c) to (an_expression e) r))

abbrev match_row : Row
match_row = Part n.Expr ∷ Token t.With ∷ Part n.Clause ∷ Part n.MoreClauses ∷ Closed ∷ []

pub item_match : (c m k to : List Lexeme) (e f : Expression) (P : PlacedTree) (cs : Clauses) → front_terminal c ≡ t.Match → Reads n.Expr (behind c) m (an_expression e) →
    Reads n.Clause (behind m) k (a_clause P f) → Reads n.MoreClauses k to (clauses cs) → Reads n.Item c to (an_expression (Matched (front_place c) e (clause P f cs)))
item_match c m k to e f P cs h re rc rm =
    part_fit n.Item (Opening t.Match ∷ match_row) c to (as_token t.Match c ∷ an_expression e ∷ as_token t.With m ∷ a_clause P f ∷ clauses cs ∷ []) refl (rw h refl)
    (row_opening t.Match match_row c to (an_expression e ∷ as_token t.With m ∷ a_clause P f ∷ clauses cs ∷ [])
    (row_part n.Expr (Token t.With ∷ Part n.Clause ∷ Part n.MoreClauses ∷ Closed ∷ []) (behind c) m to (an_expression e) (as_token t.With m ∷ a_clause P f ∷ clauses cs ∷ []) re
    (row_token t.With (Part n.Clause ∷ Part n.MoreClauses ∷ Closed ∷ []) m to (a_clause P f ∷ clauses cs ∷ [])
    (row_part n.Clause (Part n.MoreClauses ∷ Closed ∷ []) (behind m) k to (a_clause P f) (clauses cs ∷ []) rc
    (row_part n.MoreClauses (Closed ∷ []) k to to (clauses cs) [] rm (row_closed [] to to [] (row_end to)))))))

pub item_paren : (c to : List Lexeme) (e : Expression) → front_terminal c ≡ t.ParenL → Reads n.Paren c to (an_expression e) → Reads n.Item c to (an_expression e)
item_paren c to e h r = part_fit n.Item (Part n.Paren ∷ []) c to (an_expression e ∷ []) refl (rw h refl) (one_part n.Paren c to (an_expression e) r)

-- no item begins with the next token
item_first : (k : Terminal) → same t.Text k ≡ false → same t.Word k ≡ false → same t.Label k ≡ false → same t.Match k ≡ false → first_fit (rules n.Item) k ≡ Some (Part n.Paren ∷ [])
item_first k a b d e = rw (a, b, d, e) refl

paren_first : (k : Terminal) → same t.ParenL k ≡ false → first_fit (rules n.Paren) k ≡ None
paren_first k a = rw a refl

pub item_none : (c to : List Lexeme) (e : Expression) → same t.Text (front_terminal c) ≡ false → same t.Word (front_terminal c) ≡ false → same t.Label (front_terminal c) ≡ false →
    same t.Match (front_terminal c) ≡ false → same t.ParenL (front_terminal c) ≡ false → Reads n.Item c to (an_expression e)
item_none c to e a b d f g =
    part_fit n.Item (Part n.Paren ∷ []) c to (an_expression e ∷ []) refl (item_first (front_terminal c) a b d f)
    (one_part n.Paren c to (an_expression e) (part_none n.Paren c to (an_expression e) (paren_first (front_terminal c) g)))

-- ---- what stands in brackets and parentheses
pub content_empty : (c : List Lexeme) → same t.BracketR (front_terminal c) ≡ true → Reads n.ExprContent c (behind c) (an_expression (Nothing (front_place c)))
content_empty c h =
    let e : front_terminal c ≡ t.BracketR = front_same t.BracketR c h in
    part_fit n.ExprContent (Token t.BracketR ∷ Closed ∷ []) c (behind c) (as_token t.BracketR c ∷ []) refl (rw e refl) (token_closed t.BracketR c)

content_first : (k : Terminal) → same t.BracketR k ≡ false → first_fit (rules n.ExprContent) k ≡ Some (Part n.Expr ∷ Token t.BracketR ∷ Closed ∷ [])
content_first k a = rw a refl

pub content_full : (c m : List Lexeme) (e : Expression) → same t.BracketR (front_terminal c) ≡ false → Reads n.Expr c m (an_expression e) → Reads n.ExprContent c (behind m) (an_expression e)
content_full c m e h r =
    part_fit n.ExprContent (Part n.Expr ∷ Token t.BracketR ∷ Closed ∷ []) c (behind m) (an_expression e ∷ as_token t.BracketR m ∷ []) refl (content_first (front_terminal c) h)
    (row_part n.Expr (Token t.BracketR ∷ Closed ∷ []) c m (behind m) (an_expression e) (as_token t.BracketR m ∷ []) r (token_closed t.BracketR m))

group : (c to : List Lexeme) (v : Value) → Reads n.ParenContent (behind c) to v → Reads n.Paren c to (value_of n.Paren (as_token t.ParenL c ∷ v ∷ []))
group c to v r =
    part_one n.Paren (Opening t.ParenL ∷ Part n.ParenContent ∷ []) c to (as_token t.ParenL c ∷ v ∷ []) refl
    (row_opening t.ParenL (Part n.ParenContent ∷ []) c to (v ∷ []) (one_part n.ParenContent (behind c) to v r))

pub paren_empty : (c : List Lexeme) → same t.ParenR (front_terminal (behind c)) ≡ true → Reads n.Paren c (behind (behind c)) (an_expression (Nothing (front_place c)))
paren_empty c h =
    let e : front_terminal (behind c) ≡ t.ParenR = front_same t.ParenR (behind c) h in
    group c (behind (behind c)) absent
    (part_fit n.ParenContent (Token t.ParenR ∷ Closed ∷ []) (behind c) (behind (behind c)) (as_token t.ParenR (behind c) ∷ []) refl (rw e refl) (token_closed t.ParenR (behind c)))

paren_content_first : (k : Terminal) → same t.ParenR k ≡ false → first_fit (rules n.ParenContent) k ≡ Some (Part n.Expr ∷ Token t.ParenR ∷ Closed ∷ [])
paren_content_first k a = rw a refl

pub paren_full : (c m : List Lexeme) (e : Expression) → same t.ParenR (front_terminal (behind c)) ≡ false → Reads n.Expr (behind c) m (an_expression e) → Reads n.Paren c (behind m) (an_expression e)
paren_full c m e h r =
    group c (behind m) (an_expression e)
    (part_fit n.ParenContent (Part n.Expr ∷ Token t.ParenR ∷ Closed ∷ []) (behind c) (behind m) (an_expression e ∷ as_token t.ParenR m ∷ []) refl (paren_content_first (front_terminal (behind c)) h)
    (row_part n.Expr (Token t.ParenR ∷ Closed ∷ []) (behind c) m (behind m) (an_expression e) (as_token t.ParenR m ∷ []) r (token_closed t.ParenR m)))

-- ---- a first part and those after it
pub expr_reads : (c m to : List Lexeme) (e : Expression) (es : List Expression) → Reads n.Item c m (an_expression e) → Reads n.MoreItems m to (expressions es) → Reads n.Expr c to (an_expression (sequence_of_expressions e es))
expr_reads c m to e es r s =
    part_one n.Expr (Part n.Item ∷ Part n.MoreItems ∷ []) c to (an_expression e ∷ expressions es ∷ []) refl
    (row_part n.Item (Part n.MoreItems ∷ []) c m to (an_expression e) (expressions es ∷ []) r (one_part n.MoreItems m to (expressions es) s))

pub clause_reads : (c m to : List Lexeme) (P : PlacedTree) (e : Expression) → Reads (n.Sequence sorts.Pattern) c m (a_tree P) → Reads n.Expr (behind m) to (an_expression e) → Reads n.Clause c to (a_clause P e)
clause_reads c m to P e r s =
    part_one n.Clause (Part (n.Sequence sorts.Pattern) ∷ Token t.Arrow ∷ Part n.Expr ∷ []) c to (a_tree P ∷ as_token t.Arrow m ∷ an_expression e ∷ []) refl
    (row_part (n.Sequence sorts.Pattern) (Token t.Arrow ∷ Part n.Expr ∷ []) c m to (a_tree P) (as_token t.Arrow m ∷ an_expression e ∷ []) r
    (row_token t.Arrow (Part n.Expr ∷ []) m to (an_expression e ∷ []) (one_part n.Expr (behind m) to (an_expression e) s)))

-- ---- repetitions
no_comma : (k : Terminal) → same t.Comma k ≡ false → first_fit (rules n.MoreItems) k ≡ Some (Unless t.Comma ∷ [])
no_comma k a = rw a refl

pub items_end : (c : List Lexeme) → same t.Comma (front_terminal c) ≡ false → Reads n.MoreItems c c (expressions [])
items_end c h = part_fit n.MoreItems (Unless t.Comma ∷ []) c c [] refl (no_comma (front_terminal c) h) (row_unless t.Comma [] c c [] (row_end c))

pub items_more : (c m to : List Lexeme) (e : Expression) (es : List Expression) → same t.Comma (front_terminal c) ≡ true → Reads n.Item (behind c) m (an_expression e) →
    Reads n.MoreItems m to (expressions es) → Reads n.MoreItems c to (expressions (e ∷ es))
items_more c m to e es h r s =
    let k : front_terminal c ≡ t.Comma = front_same t.Comma c h in
    part_fit n.MoreItems (Token t.Comma ∷ Part n.Item ∷ Part n.MoreItems ∷ []) c to (as_token t.Comma c ∷ an_expression e ∷ expressions es ∷ []) refl (rw k refl)
    (row_token t.Comma (Part n.Item ∷ Part n.MoreItems ∷ []) c to (an_expression e ∷ expressions es ∷ [])
    (row_part n.Item (Part n.MoreItems ∷ []) (behind c) m to (an_expression e) (expressions es ∷ []) r (one_part n.MoreItems m to (expressions es) s)))

no_paren : (k : Terminal) → same t.ParenL k ≡ false → first_fit (rules n.MoreParens) k ≡ Some (Unless t.ParenL ∷ [])
no_paren k a = rw a refl

pub parens_end : (c : List Lexeme) → same t.ParenL (front_terminal c) ≡ false → Reads n.MoreParens c c (expressions [])
parens_end c h = part_fit n.MoreParens (Unless t.ParenL ∷ []) c c [] refl (no_paren (front_terminal c) h) (row_unless t.ParenL [] c c [] (row_end c))

pub parens_more : (c m to : List Lexeme) (e : Expression) (es : List Expression) → same t.ParenL (front_terminal c) ≡ true → Reads n.Paren c m (an_expression e) →
    Reads n.MoreParens m to (expressions es) → Reads n.MoreParens c to (expressions (e ∷ es))
parens_more c m to e es h r s =
    let k : front_terminal c ≡ t.ParenL = front_same t.ParenL c h in
    part_fit n.MoreParens (Part n.Paren ∷ Part n.MoreParens ∷ []) c to (an_expression e ∷ expressions es ∷ []) refl (rw k refl)
    (row_part n.Paren (Part n.MoreParens ∷ []) c m to (an_expression e) (expressions es ∷ []) r (one_part n.MoreParens m to (expressions es) s))

no_bar : (k : Terminal) → same t.Bar k ≡ false → first_fit (rules n.MoreClauses) k ≡ Some (Unless t.Bar ∷ [])
no_bar k a = rw a refl

pub clauses_end : (c : List Lexeme) → same t.Bar (front_terminal c) ≡ false → Reads n.MoreClauses c c (clauses no_clause)
clauses_end c h = part_fit n.MoreClauses (Unless t.Bar ∷ []) c c [] refl (no_bar (front_terminal c) h) (row_unless t.Bar [] c c [] (row_end c))

pub clauses_more : (c m to : List Lexeme) (P : PlacedTree) (e : Expression) (cs : Clauses) → same t.Bar (front_terminal c) ≡ true → Reads n.Clause (behind c) m (a_clause P e) →
    Reads n.MoreClauses m to (clauses cs) → Reads n.MoreClauses c to (clauses (clause P e cs))
clauses_more c m to P e cs h r s =
    let k : front_terminal c ≡ t.Bar = front_same t.Bar c h in
    part_fit n.MoreClauses (Token t.Bar ∷ Part n.Clause ∷ Part n.MoreClauses ∷ []) c to (as_token t.Bar c ∷ a_clause P e ∷ clauses cs ∷ []) refl (rw k refl)
    (row_token t.Bar (Part n.Clause ∷ Part n.MoreClauses ∷ []) c to (a_clause P e ∷ clauses cs ∷ [])
    (row_part n.Clause (Part n.MoreClauses ∷ []) (behind c) m to (a_clause P e) (clauses cs ∷ []) r (one_part n.MoreClauses m to (clauses cs) s)))
