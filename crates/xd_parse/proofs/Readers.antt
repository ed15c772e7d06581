-- What the loops over items, arguments and clauses have read so far.
use Rattle.std.proofs.Common.{◌≡◌, ℕ, ◌<◌, ◌≤◌, ◌++◌, arith, true, false, List, [], ◌∷◌, length, map, refl, sym, ap, subst, ◌∙◌, append_assoc, append-nil, length-append}
use Rattle.std.specs.List.{AllByRecursion}
use Rattle.std.proofs.lemmas.List.{map-append}
use Rattle.xd_base.specs.declared.Place.{Place}
use Rattle.xd_lex.specs.Tokens.{Lexeme}
use Rattle.xd_syntax.specs.Placed.{PlacedTree}
use Rattle.xd_syntax.specs.PlacedTable.{placed_at}
use Rattle.xd_syntax.specs.Table.{Row, KeepsRows}
use Rattle.xd_syntax.specs.Expression.{Expression, Matched, Clauses, no_clause, clause}
use Rattle.xd_syntax.specs.ExpressionTable.{clauses_of, ExprRow, expression_at, IsJoinedPart, KeepsExprs, PatternsBelong}
use Rattle.xd_syntax.specs.Exprs.{expr_numbers}
use Rattle.xd_syntax.proofs.ExprTrees.{joined_parts_below}
use Rattle.xd_grammar.specs.declared.grammar.Nonterminal.TheVariants as n
use Rattle.xd_parse_trees.proofs.StandLemmas.{kept}
use Rattle.xd_parse.specs.declared.joining.Items.{Items}
use Rattle.xd_grammar.specs.declared.grammar.Terminal.TheVariants as t
use Rattle.xd_grammar.specs.Fits.{same}
use Rattle.xd_parse_trees.specs.Merged.{merged_expression, sequence_of_expressions}
use Rattle.xd_parse.specs.Items.{AreItems, expression_of}
use Rattle.xd_parse_trees.specs.Values.{an_expression, expressions, a_clause, clauses, word_expression}
use Rattle.xd_parse_trees.specs.Reading.{Reads, front_terminal, front_place, front_text, behind}
use Rattle.xd_parse.specs.Grows.{Grows}
use Rattle.xd_parse_trees.proofs.Kept.{IsPattern-more}
use Rattle.xd_parse.proofs.Grown.{Grows-trans, IsExpr-more, IsExprPart-more, same_expression, same_expressions, push_part}
use Rattle.xd_parse.proofs.JoinLemmas.{all_alone, all_joined_append, joined_stays, numbers_append, sequence_merged}
use Rattle.xd_parse_trees.proofs.Rows.{behind_le, next_lt}
use Rattle.xd_parse.proofs.ExprRows.{expr_reads, items_end, items_more, item_word, parens_end, parens_more, item_match, clauses_end, clauses_more}

-- one more at the end of what was collected
more_mapped : (t u : ℕ → Expression) (is : List ℕ) (i : ℕ) (later : List Expression) → map u is ≡ map t is → map u (is ++ i ∷ []) ++ later ≡ map t is ++ (u i ∷ later)
more_mapped t u is i later e =
    ap (λ xs. xs ++ later) (map-append u is (i ∷ []) ∙ ap (λ xs. xs ++ u i ∷ []) e) ∙ append_assoc (map t is) (u i ∷ []) later

-- ---- items
pub record ReadItems (start : List Lexeme) (ps0 : List Row) (es0 : List ExprRow) (here : List Lexeme) (ps : List Row) (es : List ExprRow) (read : Items) : Type 0 where
  pub reads : (to : List Lexeme) (later : List Expression) → Reads n.MoreItems here to (expressions later) → Reads n.Expr start to (an_expression (sequence_of_expressions (expression_of ps es read) later))
  pub stand : AreItems es read
  pub grows : Grows ps0 es0 ps es
  pub left : length here ≤ length start

pub items_start : (start here : List Lexeme) (ps0 : List Row) (es0 : List ExprRow) (ps : List Row) (es : List ExprRow) (read : Items) → Reads n.Item start here (an_expression (expression_of ps es read)) →
    AreItems es read → Grows ps0 es0 ps es → length here ≤ length start → ReadItems start ps0 es0 here ps es read
items_start start here ps0 es0 ps es read r a g l = record {
  reads = λ to later s. expr_reads start here to (expression_of ps es read) later r s;
  stand = a;
  grows = g;
  left = l;
}

-- items are as they were
pub items_stay : (ps : List Row) (es : List ExprRow) (qs : List Row) (fs : List ExprRow) (read : Items) → Grows ps es qs fs → PatternsBelong (length ps) es → AreItems es read → expression_of qs fs read ≡ expression_of ps es read
items_stay ps es qs fs read g b a = ap (merged_expression read.place) (same_expressions ps es qs fs (expr_numbers read.parts.items) g b (joined_parts_below es (expr_numbers read.parts.items) a))

-- items, and others after them
items_are : (ps : List Row) (es : List ExprRow) (front back all : Items) → all.place ≡ front.place → all.parts.items ≡ front.parts.items ++ back.parts.items →
    expression_of ps es all ≡ merged_expression front.place (map (expression_at ps es) (expr_numbers front.parts.items) ++ map (expression_at ps es) (expr_numbers back.parts.items))
items_are ps es front back all p e =
    ap (λ x. merged_expression x (map (expression_at ps es) (expr_numbers all.parts.items))) p
    ∙ ap (merged_expression front.place) (ap (λ xs. map (expression_at ps es) (expr_numbers xs)) e ∙ ap (map (expression_at ps es)) (numbers_append front.parts.items back.parts.items)
    ∙ map-append (expression_at ps es) (expr_numbers front.parts.items) (expr_numbers back.parts.items))

pub items_step : (start here there : List Lexeme) (ps0 : List Row) (es0 : List ExprRow) (ps : List Row) (es : List ExprRow) (qs : List Row) (fs : List ExprRow) (read item all : Items) →
    ReadItems start ps0 es0 here ps es read → same t.Comma (front_terminal here) ≡ true → Reads n.Item (behind here) there (an_expression (expression_of qs fs item)) →
    AreItems fs item → Grows ps es qs fs → length there ≤ length (behind here) → all.place ≡ read.place → all.parts.items ≡ read.parts.items ++ item.parts.items → ReadItems start ps0 es0 there qs fs all
items_step start here there ps0 es0 ps es qs fs read item all a h r i g l pe e =
    let t : AreItems fs read = joined_stays es fs (expr_numbers read.parts.items) g.nodes a.stand in
    let u : ℕ → Expression = expression_at qs fs in
    record {
      reads = λ to later s.
          let k : expression_of qs fs read ≡ expression_of ps es read = items_stay ps es qs fs read g a.grows.clauses a.stand in
          let m : sequence_of_expressions (expression_of qs fs all) later ≡ sequence_of_expressions (expression_of qs fs read) (expression_of qs fs item ∷ later)
          = ap (λ x. sequence_of_expressions x later) (items_are qs fs read item all pe e)
          ∙ sequence_merged read.place item.place (map u (expr_numbers read.parts.items)) (map u (expr_numbers item.parts.items))
          (all_alone qs fs (expr_numbers read.parts.items) t) (all_alone qs fs (expr_numbers item.parts.items) i) later in
          subst (λ (x : Expression). Reads n.Expr start to (an_expression x)) (sym (m ∙ ap (λ x. sequence_of_expressions x (expression_of qs fs item ∷ later)) k))
          (a.reads to (expression_of qs fs item ∷ later) (items_more here there to (expression_of qs fs item) later h r s));
      stand = subst (AllByRecursion (IsJoinedPart fs)) (sym (ap expr_numbers e ∙ numbers_append read.parts.items item.parts.items)) (all_joined_append fs (expr_numbers read.parts.items) (expr_numbers item.parts.items) t i);
      grows = Grows-trans ps0 es0 ps es qs fs a.grows g;
      left = let b = behind_le here in let d = a.left in omega arith;
    }

pub items_done : (start here : List Lexeme) (ps0 : List Row) (es0 : List ExprRow) (ps : List Row) (es : List ExprRow) (read : Items) → ReadItems start ps0 es0 here ps es read →
    same t.Comma (front_terminal here) ≡ false → Reads n.Expr start here (an_expression (expression_of ps es read))
items_done start here ps0 es0 ps es read a h = a.reads here [] (items_end here h)

-- ---- arguments
pub record ReadArguments (start : List Lexeme) (ps0 : List Row) (es0 : List ExprRow) (here : List Lexeme) (ps : List Row) (es : List ExprRow) (word : List ℕ) (place : Place) (more : List ℕ) : Type 0 where
  pub reads : (to : List Lexeme) (later : List Expression) → Reads n.MoreParens here to (expressions later) →
      Reads n.Item start to (an_expression (word_expression word place (map (expression_at ps es) more ++ later)))
  pub there : AllByRecursion (λ i. i < length es) more
  pub grows : Grows ps0 es0 ps es
  pub left : length here < length start

pub arguments_start : (start : List Lexeme) (ps : List Row) (es : List ExprRow) (word : List ℕ) (place : Place) → front_terminal start ≡ t.Word → word ≡ front_text start → place ≡ front_place start →
    Grows ps es ps es → ReadArguments start ps es (behind start) ps es word place []
arguments_start start ps es word place h w p g = record {
  reads = λ to later s. subst (λ (x : List ℕ). Reads n.Item start to (an_expression (word_expression x place later))) (sym w)
      (subst (λ (x : Place). Reads n.Item start to (an_expression (word_expression (front_text start) x later))) (sym p) (item_word start to later h s));
  there = tt;
  grows = g;
  left = next_lt t.Word start refl h;
}

pub arguments_step : (start here there : List Lexeme) (ps0 : List Row) (es0 : List ExprRow) (ps : List Row) (es : List ExprRow) (qs : List Row) (fs : List ExprRow) (word : List ℕ) (place : Place) (more : List ℕ) (item : ℕ) →
    ReadArguments start ps0 es0 here ps es word place more → same t.ParenL (front_terminal here) ≡ true → Reads n.Paren here there (an_expression (expression_at qs fs item)) →
    item < length fs → Grows ps es qs fs → length there < length here → ReadArguments start ps0 es0 there qs fs word place (more ++ item ∷ [])
arguments_step start here there ps0 es0 ps es qs fs word place more item a h r i g l = record {
  reads = λ to later s.
      let m = more_mapped (expression_at ps es) (expression_at qs fs) more item later (same_expressions ps es qs fs more g a.grows.clauses a.there) in
      subst (λ (xs : List Expression). Reads n.Item start to (an_expression (word_expression word place xs))) (sym m)
      (a.reads to (expression_at qs fs item ∷ later) (parens_more here there to (expression_at qs fs item) later h r s));
  there = push_part (length fs) more item (IsExprPart-more es fs more g.nodes a.there) i;
  grows = Grows-trans ps0 es0 ps es qs fs a.grows g;
  left = let d = a.left in omega arith;
}

pub arguments_done : (start here : List Lexeme) (ps0 : List Row) (es0 : List ExprRow) (ps : List Row) (es : List ExprRow) (word : List ℕ) (place : Place) (more : List ℕ) →
    ReadArguments start ps0 es0 here ps es word place more → same t.ParenL (front_terminal here) ≡ false → Reads n.Item start here (an_expression (word_expression word place (map (expression_at ps es) more)))
arguments_done start here ps0 es0 ps es word place more a h =
    subst (λ (xs : List Expression). Reads n.Item start here (an_expression (word_expression word place xs))) (append-nil (map (expression_at ps es) more)) (a.reads here [] (parens_end here h))

-- ---- clauses
abbrev pub clauses_before : (ℕ → PlacedTree) → (ℕ → Expression) → List (ℕ × ℕ) → Clauses → Clauses
clauses_before P u [] later = later
clauses_before P u (c ∷ cs) later = clause (P c.0) (u c.1) (clauses_before P u cs later)

before_none : (P : ℕ → PlacedTree) (u : ℕ → Expression) (cs : List (ℕ × ℕ)) → clauses_before P u cs no_clause ≡ clauses_of P u cs
before_none P u [] = refl
before_none P u (c ∷ cs) = ap (clause (P c.0) (u c.1)) (before_none P u cs)

before_push : (P : ℕ → PlacedTree) (u : ℕ → Expression) (cs : List (ℕ × ℕ)) (c : ℕ × ℕ) (later : Clauses) → clauses_before P u (cs ++ c ∷ []) later ≡ clauses_before P u cs (clause (P c.0) (u c.1) later)
before_push P u [] c later = refl
before_push P u (d ∷ cs) c later = ap (clause (P d.0) (u d.1)) (before_push P u cs c later)

before_same : (ps : List Row) (es : List ExprRow) (qs : List Row) (fs : List ExprRow) (cs : List (ℕ × ℕ)) (later : Clauses) → Grows ps es qs fs → PatternsBelong (length ps) es →
    AllByRecursion (λ (c : ℕ × ℕ). c.0 < length ps) cs → AllByRecursion (λ (c : ℕ × ℕ). c.1 < length es) cs →
    clauses_before (placed_at qs) (expression_at qs fs) cs later ≡ clauses_before (placed_at ps) (expression_at ps es) cs later
before_same ps es qs fs [] later g b x y = refl
before_same ps es qs fs (c ∷ cs) later g b x y =
    let p : placed_at qs c.0 ≡ placed_at ps c.0 = kept ps qs c.0 g.rows x.0 in
    let e : expression_at qs fs c.1 ≡ expression_at ps es c.1 = same_expression ps es qs fs c.1 g b y.0 in
    let k = before_same ps es qs fs cs later g b x.1 y.1 in cc

patterns_more : (ps qs : List Row) (cs : List (ℕ × ℕ)) (c : ℕ × ℕ) → KeepsRows ps qs → AllByRecursion (λ (x : ℕ × ℕ). x.0 < length ps) cs → c.0 < length qs → AllByRecursion (λ (x : ℕ × ℕ). x.0 < length qs) (cs ++ c ∷ [])
patterns_more ps qs [] c k a h = (h, tt)
patterns_more ps qs (d ∷ cs) c k a h = (IsPattern-more ps qs d.0 k a.0, patterns_more ps qs cs c k a.1 h)

bodies_more : (es fs : List ExprRow) (cs : List (ℕ × ℕ)) (c : ℕ × ℕ) → KeepsExprs es fs → AllByRecursion (λ (x : ℕ × ℕ). x.1 < length es) cs → c.1 < length fs → AllByRecursion (λ (x : ℕ × ℕ). x.1 < length fs) (cs ++ c ∷ [])
bodies_more es fs [] c k a h = (h, tt)
bodies_more es fs (d ∷ cs) c k a h = (IsExpr-more es fs d.1 k a.0, bodies_more es fs cs c k a.1 h)

pub record ReadClauses (start : List Lexeme) (ps0 : List Row) (es0 : List ExprRow) (here : List Lexeme) (ps : List Row) (es : List ExprRow) (place : Place) (scrutinee : ℕ) (more : List (ℕ × ℕ)) : Type 0 where
  pub reads : (to : List Lexeme) (later : Clauses) → Reads n.MoreClauses here to (clauses later) →
      Reads n.Item start to (an_expression (Matched place (expression_at ps es scrutinee) (clauses_before (placed_at ps) (expression_at ps es) more later)))
  pub scrutinee_there : scrutinee < length es
  pub patterns_there : AllByRecursion (λ (c : ℕ × ℕ). c.0 < length ps) more
  pub bodies_there : AllByRecursion (λ (c : ℕ × ℕ). c.1 < length es) more
  pub some : 1 ≤ length more
  pub grows : Grows ps0 es0 ps es
  pub left : length here < length start

pub clauses_start : (start m here : List Lexeme) (ps0 : List Row) (es0 : List ExprRow) (ps : List Row) (es : List ExprRow) (qs : List Row) (fs : List ExprRow) (place : Place) (scrutinee pattern body : ℕ) →
    front_terminal start ≡ t.Match → place ≡ front_place start → Reads n.Expr (behind start) m (an_expression (expression_at ps es scrutinee)) → scrutinee < length es → Grows ps0 es0 ps es →
    length m ≤ length (behind start) → Reads n.Clause (behind m) here (a_clause (placed_at qs pattern) (expression_at qs fs body)) → pattern < length qs → body < length fs → Grows ps es qs fs →
    length here ≤ length (behind m) → ReadClauses start ps0 es0 here qs fs place scrutinee ((pattern, body) ∷ [])
clauses_start start m here ps0 es0 ps es qs fs place scrutinee pattern body h p r s g l rc x y k j = record {
  reads = λ to later w.
      let e : expression_at qs fs scrutinee ≡ expression_at ps es scrutinee = same_expression ps es qs fs scrutinee k g.clauses s in
      subst (λ (z : Place). Reads n.Item start to (an_expression (Matched z (expression_at qs fs scrutinee) (clause (placed_at qs pattern) (expression_at qs fs body) later)))) (sym p)
      (subst (λ (z : Expression). Reads n.Item start to (an_expression (Matched (front_place start) z (clause (placed_at qs pattern) (expression_at qs fs body) later)))) (sym e)
      (item_match start m here to (expression_at ps es scrutinee) (expression_at qs fs body) (placed_at qs pattern) later h r rc w));
  scrutinee_there = IsExpr-more es fs scrutinee k.nodes s;
  patterns_there = (x, tt);
  bodies_there = (y, tt);
  some = omega arith;
  grows = Grows-trans ps0 es0 ps es qs fs g k;
  left = let a = next_lt t.Match start refl h in let b = behind_le m in omega arith;
}

pub clauses_step : (start here there : List Lexeme) (ps0 : List Row) (es0 : List ExprRow) (ps : List Row) (es : List ExprRow) (qs : List Row) (fs : List ExprRow) (place : Place) (scrutinee : ℕ) (more : List (ℕ × ℕ)) (pattern body : ℕ) →
    ReadClauses start ps0 es0 here ps es place scrutinee more → same t.Bar (front_terminal here) ≡ true → Reads n.Clause (behind here) there (a_clause (placed_at qs pattern) (expression_at qs fs body)) →
    pattern < length qs → body < length fs → Grows ps es qs fs → length there ≤ length (behind here) → ReadClauses start ps0 es0 there qs fs place scrutinee (more ++ (pattern, body) ∷ [])
clauses_step start here there ps0 es0 ps es qs fs place scrutinee more pattern body a h r x y g l = record {
  reads = λ to later w.
      let e : expression_at qs fs scrutinee ≡ expression_at ps es scrutinee = same_expression ps es qs fs scrutinee g a.grows.clauses a.scrutinee_there in
      let m : clauses_before (placed_at qs) (expression_at qs fs) (more ++ (pattern, body) ∷ []) later
      ≡ clauses_before (placed_at ps) (expression_at ps es) more (clause (placed_at qs pattern) (expression_at qs fs body) later)
      = before_push (placed_at qs) (expression_at qs fs) more (pattern, body) later
      ∙ before_same ps es qs fs more (clause (placed_at qs pattern) (expression_at qs fs body) later) g a.grows.clauses a.patterns_there a.bodies_there in
      subst (λ (z : Clauses). Reads n.Item start to (an_expression (Matched place (expression_at qs fs scrutinee) z))) (sym m)
      (subst (λ (z : Expression). Reads n.Item start to (an_expression (Matched place z (clauses_before (placed_at ps) (expression_at ps es) more (clause (placed_at qs pattern) (expression_at qs fs body) later))))) (sym e)
      (a.reads to (clause (placed_at qs pattern) (expression_at qs fs body) later) (clauses_more here there to (placed_at qs pattern) (expression_at qs fs body) later h r w)));
  scrutinee_there = IsExpr-more es fs scrutinee g.nodes a.scrutinee_there;
  patterns_there = patterns_more ps qs more (pattern, body) g.rows a.patterns_there x;
  bodies_there = bodies_more es fs more (pattern, body) g.nodes a.bodies_there y;
  some = let d = a.some in omega (arith, length-append more ((pattern, body) ∷ []));
  grows = Grows-trans ps0 es0 ps es qs fs a.grows g;
  left = let b = behind_le here in let d = a.left in omega arith;
}

pub clauses_done : (start here : List Lexeme) (ps0 : List Row) (es0 : List ExprRow) (ps : List Row) (es : List ExprRow) (place : Place) (scrutinee : ℕ) (more : List (ℕ × ℕ)) →
    ReadClauses start ps0 es0 here ps es place scrutinee more → same t.Bar (front_terminal here) ≡ false →
    Reads n.Item start here (an_expression (Matched place (expression_at ps es scrutinee) (clauses_of (placed_at ps) (expression_at ps es) more)))
clauses_done start here ps0 es0 ps es place scrutinee more a h =
    subst (λ (z : Clauses). Reads n.Item start here (an_expression (Matched place (expression_at ps es scrutinee) z))) (before_none (placed_at ps) (expression_at ps es) more)
    (a.reads here no_clause (clauses_end here h))
