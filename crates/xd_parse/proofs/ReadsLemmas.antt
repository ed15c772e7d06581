-- What is read where it ends with one more node.
use Rattle.std.proofs.Common.{◌≡◌, ℕ, ◌<◌, ◌++◌, arith, true, false, List, [], ◌∷◌, length, map, refl, sym, ap, subst, ◌∙◌, Result, Ok, Err, IfOk}
use Rattle.std.specs.Prelude.{◌==◌}
use Rattle.std.proofs.lemmas.Bool.{eqb-true}
use Rattle.xd_base.specs.declared.Place.{Place}
use Rattle.xd_doc.proofs.Results.{ok_both}
use Rattle.xd_lex.specs.Tokens.{Lexeme}
use Rattle.xd_syntax.specs.PlacedTable.{placed_at}
use Rattle.xd_syntax.specs.Table.{Row}
use Rattle.xd_syntax.specs.Expression.{Expression, Nothing, Quoted, Tagged, Called, arguments_of}
use Rattle.xd_syntax.specs.ExpressionTable.{ExprRow, ExprShape, shape_expression, expression_at, IsJoinedPart, ShapePatternsBelong, PatternsBelong, KeepsExprs}
use Rattle.xd_syntax.specs.Exprs.{expression, expr_numbers, clause_numbers}
use Rattle.xd_syntax.specs.declared.exprs.ExprId.{ExprId}
use Rattle.xd_syntax.specs.declared.exprs.Clause.{Clause}
use Rattle.std.specs.List.{AllByRecursion}
use Rattle.xd_parse.specs.declared.joining.Items.{Items}
use Rattle.xd_parse_trees.specs.Merged.{merged_expression}
use Rattle.xd_parse.specs.Items.{AreItems, expression_of}
use Rattle.xd_grammar.specs.declared.grammar.Nonterminal.{Nonterminal}
use Rattle.xd_grammar.specs.declared.grammar.Nonterminal.TheVariants as n
use Rattle.xd_grammar.specs.declared.grammar.Terminal.{Terminal}
use Rattle.xd_grammar.specs.declared.grammar.Terminal.TheVariants as t
use Rattle.xd_grammar.specs.Fits.{same}
use Rattle.xd_parse_trees.specs.Values.{Value, an_expression, word_expression}
use Rattle.xd_parse_trees.specs.Reading.{Reads, front_terminal}
use Rattle.xd_parse.specs.Grows.{Grows}
use Rattle.xd_grammar.proofs.Derive.{same-other}
use Rattle.xd_parse_trees.proofs.Kept.{KeepsRows-refl}
use Rattle.xd_parse.proofs.Grown.{Grows-node, Grows-trans}
use Rattle.xd_parse.proofs.ExprRows.{item_none}

pub if_ok : {X E : Type 0} (r : Result X E) (P : X → Type 0) → ((x : X) → P x) → IfOk r P
if_ok (Ok x) P h = h x
if_ok (Err e) P h = tt

-- a reading from a place that is given otherwise
pub from_there : (part : Nonterminal) (x y to : List Lexeme) (v : Value) → x ≡ y → Reads part x to v → Reads part y to v
from_there part x y to v e r = subst (λ (z : List Lexeme). Reads part z to v) e r

pub to_there : (part : Nonterminal) (from x y : List Lexeme) (v : Value) → x ≡ y → Reads part from y v → Reads part from x v
to_there part from x y v e r = subst (λ (z : List Lexeme). Reads part from z v) (sym e) r

-- expressions alone are added
pub Grows-exprs : (ps0 : List Row) (es0 : List ExprRow) (ps : List Row) (es fs : List ExprRow) → Grows ps0 es0 ps es → KeepsExprs es fs → ((k : ℕ) → PatternsBelong k es → PatternsBelong k fs) → Grows ps0 es0 ps fs
Grows-exprs ps0 es0 ps es fs g k b = Grows-trans ps0 es0 ps es ps fs g (record { rows = KeepsRows-refl ps; nodes = k; clauses = b (length ps) g.clauses })

-- what is read is the new node
pub add_reads : {E : Type 0} (r : Result ExprId E) (part : Nonterminal) (from to : List Lexeme) (ps : List Row) (es fs : List ExprRow) (p : Place) (f : ExprShape) →
    IfOk r (λ id. (patterns : List Row) → expression patterns fs id ≡ shape_expression (placed_at patterns) (expression_at patterns es) p f) →
    Reads part from to (an_expression (shape_expression (placed_at ps) (expression_at ps es) p f)) → IfOk r (λ id. Reads part from to (an_expression (expression ps fs id)))
add_reads (Ok id) part from to ps es fs p f h r = subst (λ (e : Expression). Reads part from to (an_expression e)) (sym (h ps)) r
add_reads (Err e) part from to ps es fs p f h r = tt

pub item_reads : {E : Type 0} (r : Result Items E) (part : Nonterminal) (from to : List Lexeme) (ps : List Row) (es fs : List ExprRow) (p : Place) (f : ExprShape) →
    IfOk r (λ items. (patterns : List Row) → expression_of patterns fs items ≡ shape_expression (placed_at patterns) (expression_at patterns es) p f) →
    Reads part from to (an_expression (shape_expression (placed_at ps) (expression_at ps es) p f)) → IfOk r (λ items. Reads part from to (an_expression (expression_of ps fs items)))
item_reads (Ok items) part from to ps es fs p f h r = subst (λ (e : Expression). Reads part from to (an_expression e)) (sym (h ps)) r
item_reads (Err e) part from to ps es fs p f h r = tt

-- nothing is read, at a place
pub nothing_reads : (items : Items) (part : Nonterminal) (from to : List Lexeme) (ps : List Row) (es : List ExprRow) (p : Place) → items.place ≡ p → items.parts.items ≡ [] →
    Reads part from to (an_expression (Nothing p)) → Reads part from to (an_expression (expression_of ps es items))
nothing_reads items part from to ps es p e f r =
    subst (λ (x : Expression). Reads part from to (an_expression x)) (sym (ap (λ ids. merged_expression items.place (map (expression_at ps es) (expr_numbers ids))) f ∙ ap Nothing e)) r

pub nothing_stands : (items : Items) (es : List ExprRow) → items.parts.items ≡ [] → AreItems es items
nothing_stands items es f = subst (λ ids. AllByRecursion (IsJoinedPart es) (expr_numbers ids)) (sym f) tt

-- what is read is the node of what was read
pub node_reads : {E : Type 0} (r : Result ExprId E) (part : Nonterminal) (from to : List Lexeme) (ps : List Row) (es fs : List ExprRow) (items : Items) → Reads part from to (an_expression (expression_of ps es items)) →
    IfOk r (λ id. (patterns : List Row) → expression patterns fs id ≡ expression_of patterns es items) → IfOk r (λ id. Reads part from to (an_expression (expression ps fs id)))
node_reads (Ok id) part from to ps es fs items r h = subst (λ (e : Expression). Reads part from to (an_expression e)) (sym (h ps)) r
node_reads (Err e) part from to ps es fs items r h = tt

pub node_grows : {E : Type 0} (r : Result ExprId E) (ps0 : List Row) (es0 : List ExprRow) (ps : List Row) (es fs : List ExprRow) → Grows ps0 es0 ps es → IfOk r (λ id. KeepsExprs es fs) →
    IfOk r (λ id. (k : ℕ) → PatternsBelong k es → PatternsBelong k fs) → IfOk r (λ id. Grows ps0 es0 ps fs)
node_grows r ps0 es0 ps es fs g k b = ok_both r _ _ _ (λ id x y. Grows-exprs ps0 es0 ps es fs g x y) k b

pub add_grows : {A E : Type 0} (r : Result A E) (ps0 : List Row) (es0 : List ExprRow) (ps : List Row) (es fs : List ExprRow) (p : Place) (f : ExprShape) → Grows ps0 es0 ps es → ShapePatternsBelong (length ps) f →
    IfOk r (λ id. fs ≡ es ++ record { place = p; form = f } ∷ []) → IfOk r (λ id. Grows ps0 es0 ps fs)
add_grows (Ok id) ps0 es0 ps es fs p f g b h = Grows-trans ps0 es0 ps es ps fs g (Grows-node ps es fs (record { place = p; form = f }) g.clauses h b)
add_grows (Err e) ps0 es0 ps es fs p f g b h = tt

-- ---- with the place and the words that a call gave
pub at_place : (part : Nonterminal) (from to : List Lexeme) (p q : Place) → p ≡ q → Reads part from to (an_expression (Nothing q)) → Reads part from to (an_expression (Nothing p))
at_place part from to p q e r = subst (λ (x : Place). Reads part from to (an_expression (Nothing x))) (sym e) r

pub quoted_at : (from to : List Lexeme) (p q : Place) (s u : List ℕ) → p ≡ q → s ≡ u → Reads n.Item from to (an_expression (Quoted q u)) → Reads n.Item from to (an_expression (Quoted p s))
quoted_at from to p q s u e f r = subst (λ (x : Place). Reads n.Item from to (an_expression (Quoted x s))) (sym e) (subst (λ (x : List ℕ). Reads n.Item from to (an_expression (Quoted q x))) (sym f) r)

pub tagged_at : (from to : List Lexeme) (p q : Place) (w x : List ℕ) (e : Expression) → p ≡ q → w ≡ x → Reads n.Item from to (an_expression (Tagged q x e)) → Reads n.Item from to (an_expression (Tagged p w e))
tagged_at from to p q w x e a b r = subst (λ (y : Place). Reads n.Item from to (an_expression (Tagged y w e))) (sym a) (subst (λ (y : List ℕ). Reads n.Item from to (an_expression (Tagged q y e))) (sym b) r)

-- ---- a variable or a call
pub no_ids : (k : ℕ) (ids : List ExprId) → (k == 0) ≡ true → k ≡ length ids → ids ≡ []
no_ids k [] h e = refl
no_ids k (id ∷ ids) h e = let z : k ≡ 0 = eqb-true k 0 h in absurd (omega arith)

pub call_is : (x : List ℕ) (p : Place) (u : ℕ → Expression) (is : List ℕ) → 0 < length is → word_expression x p (map u is) ≡ Called p x (arguments_of (map u is))
call_is x p u [] h = absurd (omega arith)
call_is x p u (i ∷ is) h = refl

-- ---- where no item begins
pub nothing_begins : (c to : List Lexeme) (e : Expression) (k : Terminal) → k ≡ front_terminal c → (k ≡ t.Text → ⊥) → (k ≡ t.Word → ⊥) → (k ≡ t.Label → ⊥) → (k ≡ t.Match → ⊥) → (k ≡ t.ParenL → ⊥) → Reads n.Item c to (an_expression e)
nothing_begins c to e k q a b d f g =
    let other : (j : Terminal) → (k ≡ j → ⊥) → same j (front_terminal c) ≡ false = λ j h. same-other j (front_terminal c) (λ x. h (q ∙ sym x)) in
    item_none c to e (other t.Text a) (other t.Word b) (other t.Label d) (other t.Match f) (other t.ParenL g)

clause_numbers_append : (cs ds : List Clause) → clause_numbers (cs ++ ds) ≡ clause_numbers cs ++ clause_numbers ds
clause_numbers_append [] ds = refl
clause_numbers_append (c ∷ cs) ds = ap (λ xs. (c.pattern.at, c.body.at) ∷ xs) (clause_numbers_append cs ds)

pub clause_numbers_push : (all cs : List Clause) (c : Clause) → all ≡ cs ++ c ∷ [] → clause_numbers all ≡ clause_numbers cs ++ (c.pattern.at, c.body.at) ∷ []
clause_numbers_push all cs c e = ap clause_numbers e ∙ clause_numbers_append cs (c ∷ [])

pub first_pushed : (all none : List Clause) (c : Clause) → all ≡ none ++ c ∷ [] → none ≡ [] → all ≡ c ∷ []
first_pushed all none c e f = e ∙ ap (λ xs. xs ++ c ∷ []) f
