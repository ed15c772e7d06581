use Rattle.std.proofs.Common.{◌≡◌, ◌++◌, ◌<◌, ◌≤◌, ℕ, List, [], ◌∷◌, length, map, true, false, arith, refl, sym, ap, subst, ◌∙◌, vec_len}
use Rattle.std.proofs.lemmas.Result.{IfOk-from_err, IfOk-weaker}
use Rattle.xd_base.specs.declared.Place.{Place}
use Rattle.xd_lex.specs.Tokens.{Lexeme}
use Rattle.xd_syntax.specs.Placed.{PlacedTree}
use Rattle.xd_syntax.specs.PlacedTable.{placed_at}
use Rattle.xd_syntax.specs.Table.{Row}
use Rattle.xd_syntax.specs.Expression.{Expression, Nothing, Quoted}
use Rattle.xd_syntax.specs.ExpressionTable.{ExprRow, empty_shape, text_shape, var_shape, elem_shape, call_shape, match_shape, expression_at}
use Rattle.xd_syntax.specs.Exprs.{expression, expr_numbers, clause_numbers}
use Rattle.xd_syntax.specs.declared.exprs.ExprId.{ExprId}
use Rattle.xd_syntax.specs.declared.exprs.Clause.{Clause}
use Rattle.xd_syntax.proofs.ExprTrees.{count_numbers}
use Rattle.xd_syntax.proofs.TableRows.{KeepsRows-trans}
use Rattle.xd_grammar.specs.declared.grammar.Nonterminal.TheVariants as n
use Rattle.xd_grammar.specs.declared.grammar.Terminal.TheVariants as t
use Rattle.xd_grammar.specs.Fits.{same}
use Rattle.xd_parse_trees.specs.Values.{an_expression, a_clause, word_expression}
use Rattle.xd_parse_trees.specs.Reading.{Reads, front_terminal, front_place, behind}
use Rattle.xd_parse_trees.proofs.StandLemmas.{kept}
use Rattle.xd_parse.specs.Items.{expression_of}
use Rattle.xd_parse_trees.proofs.Kept.{IsPattern-more}
use Rattle.xd_parse.proofs.Grown.{Grows-refl}
use Rattle.xd_parse.proofs.JoinLemmas.{numbers_push, positive}
use Rattle.xd_parse_trees.proofs.Rows.{behind_le, next_lt, next_lt_at, front_same}
use Rattle.xd_parse.proofs.ExprRows.{item_text, item_label, item_paren, content_empty, content_full, paren_empty, paren_full, clause_reads}
use Rattle.xd_parse.proofs.Readers.{items_start, items_step, items_done, ReadArguments, arguments_start, arguments_step, arguments_done, ReadClauses, clauses_start, clauses_step, clauses_done}
use Rattle.xd_parse.proofs.ReadsLemmas.{if_ok, from_there, to_there, add_reads, item_reads, nothing_reads, nothing_stands, node_reads, node_grows, add_grows, at_place, quoted_at, tagged_at, no_ids, call_is, clause_numbers_push, first_pushed, nothing_begins}
use Rattle.xd_parse.proofs.expressions.+expressions.Goals as goal

pub read_clause-returns-clause-reads : goal.read_clause-returns-clause-reads
read_clause-returns-clause-reads size c =
    let m : List Lexeme = c.read_pattern_seq.new.cursor in
    let to : List Lexeme = c.read_expr.new.cursor in
    let ps : List Row = c.read_pattern_seq.new.patterns in
    let qs : List Row = c.read_expr.new.patterns in
    let e : Expression = expression qs c.read_expr.new.exprs c.in_ok-body.body in
    let s : placed_at qs c.in_ok-pattern.pattern.at ≡ placed_at ps c.in_ok-pattern.pattern.at = kept ps qs c.in_ok-pattern.pattern.at (c.in_ok-body.ensures.grows).rows c.in_ok-pattern.ensures.belongs in
    subst (λ (T : PlacedTree). Reads n.Clause c.args.cursor.now to (a_clause T e)) (sym s)
    (clause_reads c.args.cursor.now m to (placed_at ps c.in_ok-pattern.pattern.at) e c.in_ok-pattern.ensures.reads
    (from_there n.Expr c.step.new.self (behind m) to (an_expression e) c.step.ensures.left c.in_ok-body.ensures.reads))

pub read_content-returns-then-at-clause-reads : goal.read_content-returns-then-at-clause-reads
read_content-returns-then-at-clause-reads size c =
    let from : List Lexeme = c.args.cursor.now in
    let p : Place = c.step-place.result in
    let r : Reads n.ExprContent from (behind from) (an_expression (Nothing (front_place from))) = content_empty from (sym c.at.ensures ∙ c.if-at.true) in
    add_reads c.add.result n.ExprContent from c.step-place.new.self c.args.patterns.now c.args.exprs.now c.add.new.self p empty_shape c.add.ensures.expression
    (to_there n.ExprContent from c.step-place.new.self (behind from) (an_expression (Nothing p)) c.step-place.ensures.left
    (at_place n.ExprContent from (behind from) p (front_place from) c.step-place.ensures.place r))

pub read_content-returns-clause-reads : goal.read_content-returns-clause-reads
read_content-returns-clause-reads size c =
    let from : List Lexeme = c.args.cursor.now in
    let m : List Lexeme = c.read_expr.new.cursor in
    let e : Expression = expression c.read_expr.new.patterns c.read_expr.new.exprs c.in_ok-content.content in
    to_there n.ExprContent from c.step.new.self (behind m) (an_expression e) c.step.ensures.left
    (content_full from m e (sym c.at.ensures ∙ c.if-at.false) c.in_ok-content.ensures.reads)

pub read_paren-returns-then-at-clause-reads : goal.read_paren-returns-then-at-clause-reads
read_paren-returns-then-at-clause-reads size c =
    let from : List Lexeme = c.args.cursor.now in
    let p : Place = c.step-opening.result in
    let l : c.step-opening.new.self ≡ behind from = c.step-opening.ensures.left in
    let h : same t.ParenR (front_terminal (behind from)) ≡ true = subst (λ (x : List Lexeme). same t.ParenR (front_terminal x) ≡ true) l (sym c.at.ensures ∙ c.if-at.true) in
    let r : Reads n.Paren from (behind (behind from)) (an_expression (Nothing (front_place from))) = paren_empty from h in
    nothing_reads c.nothing_at.result n.Paren from _ c.args.patterns.now c.args.exprs.now p c.nothing_at.ensures.place c.nothing_at.ensures.none
    (to_there n.Paren from _ (behind (behind from)) (an_expression (Nothing p)) (c.step.ensures.left ∙ ap behind l)
    (at_place n.Paren from (behind (behind from)) p (front_place from) c.step-opening.ensures.place r))

pub read_paren-returns-then-at-clause-stand : goal.read_paren-returns-then-at-clause-stand
read_paren-returns-then-at-clause-stand size c = nothing_stands c.nothing_at.result c.args.exprs.now c.nothing_at.ensures.none

pub read_paren-returns-clause-reads : goal.read_paren-returns-clause-reads
read_paren-returns-clause-reads size c =
    let from : List Lexeme = c.args.cursor.now in
    let m : List Lexeme = c.read_items.new.cursor in
    let l : c.step-opening.new.self ≡ behind from = c.step-opening.ensures.left in
    let h : same t.ParenR (front_terminal (behind from)) ≡ false = subst (λ (x : List Lexeme). same t.ParenR (front_terminal x) ≡ false) l (sym c.at.ensures ∙ c.if-at.false) in
    let e : Expression = expression_of c.read_items.new.patterns c.read_items.new.exprs c.in_ok-inner.inner in
    to_there n.Paren from _ (behind m) (an_expression e) c.step-2.ensures.left
    (paren_full from m e h (from_there n.Expr c.step-opening.new.self (behind from) m (an_expression e) l c.in_ok-inner.ensures.reads))

-- ---- the node of what was read
pub read_expr-returns-clause-reads : goal.read_expr-returns-clause-reads
read_expr-returns-clause-reads size c = node_reads c.to_expr.result n.Expr c.args.cursor.now c.read_items.new.cursor c.read_items.new.patterns c.read_items.new.exprs c.to_expr.new.exprs c.in_ok-items.items c.in_ok-items.ensures.reads c.to_expr.ensures.value

pub read_expr-returns-clause-grows : goal.read_expr-returns-clause-grows
read_expr-returns-clause-grows size c =
    node_grows c.to_expr.result c.args.patterns.now c.args.exprs.now c.read_items.new.patterns c.read_items.new.exprs c.to_expr.new.exprs c.in_ok-items.ensures.grows c.to_expr.ensures.keeps c.to_expr.ensures.clauses

pub read_argument-returns-clause-reads : goal.read_argument-returns-clause-reads
read_argument-returns-clause-reads size c = node_reads c.to_expr.result n.Paren c.args.cursor.now c.read_paren.new.cursor c.read_paren.new.patterns c.read_paren.new.exprs c.to_expr.new.exprs c.in_ok-items.items c.in_ok-items.ensures.reads c.to_expr.ensures.value

pub read_argument-returns-clause-grows : goal.read_argument-returns-clause-grows
read_argument-returns-clause-grows size c =
    node_grows c.to_expr.result c.args.patterns.now c.args.exprs.now c.read_paren.new.patterns c.read_paren.new.exprs c.to_expr.new.exprs c.in_ok-items.ensures.grows c.to_expr.ensures.keeps c.to_expr.ensures.clauses

pub read_element-returns-clause-reads : goal.read_element-returns-clause-reads
read_element-returns-clause-reads size c =
    let from : List Lexeme = c.args.cursor.now in
    let to : List Lexeme = c.read_content.new.cursor in
    let ps : List Row = c.read_content.new.patterns in
    let es : List ExprRow = c.read_content.new.exprs in
    let e : Expression = expression ps es c.in_ok-content.content in
    item_reads c.add_item.result n.Item from to ps es c.add_item.new.exprs c.in_ok-label.label.place (elem_shape c.in_ok-label.label.word c.in_ok-content.content.at) c.add_item.ensures.expression
    (tagged_at from to c.in_ok-label.label.place (front_place from) c.in_ok-label.label.word _ e c.in_ok-label.ensures.place (c.in_ok-label.ensures.word c.requires.next)
    (item_label from to e c.requires.next (from_there n.ExprContent c.label.new.self (behind from) to (an_expression e) c.in_ok-label.ensures.left c.in_ok-content.ensures.reads)))

-- ---- items
pub read_items-items-init : goal.read_items-items-init
read_items-items-init size c =
    items_start c.args.cursor.now c.read_item.new.cursor c.args.patterns.now c.args.exprs.now c.read_item.new.patterns c.read_item.new.exprs c.in_ok-read.read
    c.in_ok-read.ensures.reads c.in_ok-read.ensures.stand c.in_ok-read.ensures.grows c.in_ok-read.ensures.left

pub read_items-items-preserved : goal.read_items-items-preserved
read_items-items-preserved size c =
    let start : List Lexeme = c.args.cursor.now in
    let here : List Lexeme = c.items.cursor in
    let there : List Lexeme = c.read_item-in-items.new.cursor in
    let qs : List Row = c.read_item-in-items.new.patterns in
    let fs : List ExprRow = c.read_item-in-items.new.exprs in
    let l : c.step.new.self ≡ behind here = c.step.ensures.left in
    items_step start here there c.args.patterns.now c.args.exprs.now c.items.patterns c.items.exprs qs fs c.items.read c.in_ok-item.item c.in_ok-read-2.read c.items.invariant
    (sym c.at.ensures ∙ c.items-test.true) (from_there n.Item c.step.new.self (behind here) there (an_expression (expression_of qs fs c.in_ok-item.item)) l c.in_ok-item.ensures.reads)
    c.in_ok-item.ensures.stand c.in_ok-item.ensures.grows (subst (λ (x : List Lexeme). length there ≤ length x) l c.in_ok-item.ensures.left) c.in_ok-read-2.ensures.place c.in_ok-read-2.ensures.parts

pub read_items-returns-clause-reads : goal.read_items-returns-clause-reads
read_items-returns-clause-reads size c =
    items_done c.args.cursor.now c.items.cursor c.args.patterns.now c.args.exprs.now c.items.patterns c.items.exprs c.items.read c.items.invariant (sym c.at.ensures ∙ c.items-test.false)

-- ---- an item
pub read_item-returns-in_ok-quoted-in-Text-clause-reads : goal.read_item-returns-in_ok-quoted-in-Text-clause-reads
read_item-returns-in_ok-quoted-in-Text-clause-reads size c =
    let from : List Lexeme = c.args.cursor.now in
    let h : front_terminal from ≡ t.Text = sym c.peek.ensures ∙ c.in-Text.is in
    let q = c.in_ok-quoted-in-Text.quoted in
    item_reads c.add_item.result n.Item from c.quoted.new.self c.args.patterns.now c.args.exprs.now c.add_item.new.exprs q.place (text_shape q.text) c.add_item.ensures.expression
    (to_there n.Item from c.quoted.new.self (behind from) (an_expression (Quoted q.place q.text)) c.in_ok-quoted-in-Text.ensures.left
    (quoted_at from (behind from) q.place (front_place from) q.text _ c.in_ok-quoted-in-Text.ensures.place (c.in_ok-quoted-in-Text.ensures.text h) (item_text from h)))

pub read_item-returns-in-ParenL-clause-reads : goal.read_item-returns-in-ParenL-clause-reads
read_item-returns-in-ParenL-clause-reads size c =
    let from : List Lexeme = c.args.cursor.now in
    let to : List Lexeme = c.read_paren.new.cursor in
    let h : front_terminal from ≡ t.ParenL = sym c.peek.ensures ∙ c.in-ParenL.is in
    IfOk-weaker c.read_paren.result _ _ (λ items r. item_paren from to (expression_of c.read_paren.new.patterns c.read_paren.new.exprs items) h r) c.read_paren.ensures.reads

pub read_item-returns-in_default : goal.read_item-returns-in_default
read_item-returns-in_default size c =
    let from : List Lexeme = c.args.cursor.now in
    let ps : List Row = c.args.patterns.now in
    let es : List ExprRow = c.args.exprs.now in
    let d = c.in_default in
    record {
      reads = nothing_begins from c.step-place.new.self (expression_of ps es c.nothing_at.result) c.peek.result c.peek.ensures d.not-Text d.not-Word d.not-Label d.not-Match d.not-ParenL;
      stand = nothing_stands c.nothing_at.result es c.nothing_at.ensures.none;
      grows = Grows-refl ps es c.requires;
      left = subst (λ (x : List Lexeme). length x ≤ length from) (sym c.step-place.ensures.left) (behind_le from);
    }

-- ---- arguments
pub read_named-arguments-init : goal.read_named-arguments-init
read_named-arguments-init size c =
    let from : List Lexeme = c.args.cursor.now in
    let ps : List Row = c.args.patterns.now in
    let es : List ExprRow = c.args.exprs.now in
    let w : List ℕ = c.in_ok-name.name.word in
    let p : Place = c.in_ok-name.name.place in
    subst (λ (xs : List ExprId). ReadArguments from ps es c.word.new.self ps es w p (expr_numbers xs)) (sym c.new-arguments.ensures.items)
    (subst (λ (x : List Lexeme). ReadArguments from ps es x ps es w p []) (sym c.in_ok-name.ensures.left)
    (arguments_start from ps es w p c.requires.next (c.in_ok-name.ensures.word c.requires.next) c.in_ok-name.ensures.place (Grows-refl ps es c.requires.clauses)))

pub read_named-arguments-preserved : goal.read_named-arguments-preserved
read_named-arguments-preserved size c =
    let from : List Lexeme = c.args.cursor.now in
    let here : List Lexeme = c.arguments.cursor in
    let there : List Lexeme = c.read_argument.new.cursor in
    let qs : List Row = c.read_argument.new.patterns in
    let fs : List ExprRow = c.read_argument.new.exprs in
    let w : List ℕ = c.in_ok-name.name.word in
    let p : Place = c.in_ok-name.name.place in
    let more : List ExprId = c.arguments.arguments.items in
    let e : expr_numbers c.push.new.self.items ≡ expr_numbers more ++ c.in_ok-argument.argument.at ∷ [] = numbers_push c.push.new.self.items more c.in_ok-argument.argument c.in_ok-push.ensures.items in
    subst (λ (is : List ℕ). ReadArguments from c.args.patterns.now c.args.exprs.now there qs fs w p is) (sym e)
    (arguments_step from here there c.args.patterns.now c.args.exprs.now c.arguments.patterns c.arguments.exprs qs fs w p (expr_numbers more) c.in_ok-argument.argument.at c.arguments.invariant
    (sym c.at.ensures ∙ c.arguments-test.true) c.in_ok-argument.ensures.reads c.in_ok-argument.ensures.belongs c.in_ok-argument.ensures.grows c.in_ok-argument.ensures.left)

pub read_named-returns-then-is_empty-clause-reads : goal.read_named-returns-then-is_empty-clause-reads
read_named-returns-then-is_empty-clause-reads size c =
    let from : List Lexeme = c.args.cursor.now in
    let here : List Lexeme = c.arguments.cursor in
    let ps : List Row = c.arguments.patterns in
    let es : List ExprRow = c.arguments.exprs in
    let w : List ℕ = c.in_ok-name.name.word in
    let p : Place = c.in_ok-name.name.place in
    let more : List ExprId = c.arguments.arguments.items in
    let none : more ≡ [] = no_ids (vec_len c.arguments.arguments) more (sym c.is_empty.ensures ∙ c.if-is_empty.true) c.arguments.arguments.ok.0 in
    let r : Reads n.Item from here (an_expression (word_expression w p (map (expression_at ps es) (expr_numbers more))))
    = arguments_done from here c.args.patterns.now c.args.exprs.now ps es w p (expr_numbers more) c.arguments.invariant (sym c.at.ensures ∙ c.arguments-test.false) in
    item_reads c.add_item.result n.Item from here ps es c.add_item.new.exprs p (var_shape w) c.add_item.ensures.expression
    (subst (λ (xs : List ExprId). Reads n.Item from here (an_expression (word_expression w p (map (expression_at ps es) (expr_numbers xs))))) none r)

pub read_named-returns-else-is_empty-clause-reads : goal.read_named-returns-else-is_empty-clause-reads
read_named-returns-else-is_empty-clause-reads size c =
    let from : List Lexeme = c.args.cursor.now in
    let here : List Lexeme = c.arguments.cursor in
    let ps : List Row = c.arguments.patterns in
    let es : List ExprRow = c.arguments.exprs in
    let w : List ℕ = c.in_ok-name.name.word in
    let p : Place = c.in_ok-name.name.place in
    let more : List ExprId = c.arguments.arguments.items in
    let some : 0 < length (expr_numbers more) = omega (arith, count_numbers more, positive (vec_len c.arguments.arguments) (sym c.is_empty.ensures ∙ c.if-is_empty.false), c.arguments.arguments.ok.0) in
    let r : Reads n.Item from here (an_expression (word_expression w p (map (expression_at ps es) (expr_numbers more))))
    = arguments_done from here c.args.patterns.now c.args.exprs.now ps es w p (expr_numbers more) c.arguments.invariant (sym c.at.ensures ∙ c.arguments-test.false) in
    item_reads c.add_item-else-is_empty.result n.Item from here ps es c.add_item-else-is_empty.new.exprs p (call_shape w (expr_numbers more)) c.add_item-else-is_empty.ensures.expression
    (subst (λ (x : Expression). Reads n.Item from here (an_expression x)) (call_is w p (expression_at ps es) (expr_numbers more) some) r)

-- ---- clauses
pub read_match-clauses-init : goal.read_match-clauses-init
read_match-clauses-init size c =
    let start : List Lexeme = c.args.cursor.now in
    let m : List Lexeme = c.read_expr.new.cursor in
    let here : List Lexeme = c.read_clause.new.cursor in
    let ps : List Row = c.read_expr.new.patterns in
    let es : List ExprRow = c.read_expr.new.exprs in
    let qs : List Row = c.read_clause.new.patterns in
    let fs : List ExprRow = c.read_clause.new.exprs in
    let s : ExprId = c.in_ok-scrutinee.scrutinee in
    let f : Clause = c.in_ok-first.first in
    let l : c.step-place.new.self ≡ behind start = c.step-place.ensures.left in
    let k : c.step.new.self ≡ behind m = c.step.ensures.left in
    let e : c.push.new.self.items ≡ f ∷ [] = first_pushed c.push.new.self.items c.new-clauses.result.items f c.in_ok-push.ensures.items c.new-clauses.ensures.items in
    subst (λ (xs : List Clause). ReadClauses start c.args.patterns.now c.args.exprs.now here qs fs c.step-place.result s.at (clause_numbers xs)) (sym e)
    (clauses_start start m here c.args.patterns.now c.args.exprs.now ps es qs fs c.step-place.result s.at f.pattern.at f.body.at c.requires.next c.step-place.ensures.place
    (from_there n.Expr c.step-place.new.self (behind start) m (an_expression (expression ps es s)) l c.in_ok-scrutinee.ensures.reads) c.in_ok-scrutinee.ensures.belongs c.in_ok-scrutinee.ensures.grows
    (subst (λ (x : List Lexeme). length m ≤ length x) l c.in_ok-scrutinee.ensures.left)
    (from_there n.Clause c.step.new.self (behind m) here (a_clause (placed_at qs f.pattern.at) (expression qs fs f.body)) k c.in_ok-first.ensures.reads)
    c.in_ok-first.ensures.pattern c.in_ok-first.ensures.body c.in_ok-first.ensures.grows
    (subst (λ (x : List Lexeme). length here ≤ length x) k c.in_ok-first.ensures.left))

pub read_match-clauses-preserved : goal.read_match-clauses-preserved
read_match-clauses-preserved size c =
    let start : List Lexeme = c.args.cursor.now in
    let here : List Lexeme = c.clauses.cursor in
    let there : List Lexeme = c.read_clause-in-clauses.new.cursor in
    let qs : List Row = c.read_clause-in-clauses.new.patterns in
    let fs : List ExprRow = c.read_clause-in-clauses.new.exprs in
    let more : List Clause = c.clauses.clauses.items in
    let d : Clause = c.in_ok-clause.clause in
    let s : ExprId = c.in_ok-scrutinee.scrutinee in
    let l : c.step-in-clauses.new.self ≡ behind here = c.step-in-clauses.ensures.left in
    let e : clause_numbers c.push-in-clauses.new.self.items ≡ clause_numbers more ++ (d.pattern.at, d.body.at) ∷ [] = clause_numbers_push c.push-in-clauses.new.self.items more d c.in_ok-push-2.ensures.items in
    subst (λ (cs : List (ℕ × ℕ)). ReadClauses start c.args.patterns.now c.args.exprs.now there qs fs c.step-place.result s.at cs) (sym e)
    (clauses_step start here there c.args.patterns.now c.args.exprs.now c.clauses.patterns c.clauses.exprs qs fs c.step-place.result s.at (clause_numbers more) d.pattern.at d.body.at c.clauses.invariant
    (sym c.at.ensures ∙ c.clauses-test.true) (from_there n.Clause c.step-in-clauses.new.self (behind here) there (a_clause (placed_at qs d.pattern.at) (expression qs fs d.body)) l c.in_ok-clause.ensures.reads)
    c.in_ok-clause.ensures.pattern c.in_ok-clause.ensures.body c.in_ok-clause.ensures.grows (subst (λ (x : List Lexeme). length there ≤ length x) l c.in_ok-clause.ensures.left))

pub read_match-returns-clause-reads : goal.read_match-returns-clause-reads
read_match-returns-clause-reads size c =
    let start : List Lexeme = c.args.cursor.now in
    let here : List Lexeme = c.clauses.cursor in
    let ps : List Row = c.clauses.patterns in
    let es : List ExprRow = c.clauses.exprs in
    let s : ExprId = c.in_ok-scrutinee.scrutinee in
    let cs : List Clause = c.clauses.clauses.items in
    let r = clauses_done start here c.args.patterns.now c.args.exprs.now ps es c.step-place.result s.at (clause_numbers cs) c.clauses.invariant (sym c.at.ensures ∙ c.clauses-test.false) in
    item_reads c.add_item.result n.Item start here ps es c.add_item.new.exprs c.step-place.result (match_shape s.at (clause_numbers cs)) c.add_item.ensures.expression r

pub read_match-returns-clause-grows : goal.read_match-returns-clause-grows
read_match-returns-clause-grows size c =
    add_grows c.add_item.result c.args.patterns.now c.args.exprs.now c.clauses.patterns c.clauses.exprs c.add_item.new.exprs c.step-place.result (match_shape c.in_ok-scrutinee.scrutinee.at (clause_numbers c.clauses.clauses.items))
    c.clauses.invariant.grows c.clauses.invariant.patterns_there c.add_item.ensures.grown

-- ---- nodes are there, and the tables grow
pub read_expr-to_expr-requires : goal.read_expr-to_expr-requires
read_expr-to_expr-requires size c = c.in_ok-items.ensures.stand

pub read_expr-returns-clause-belongs : goal.read_expr-returns-clause-belongs
read_expr-returns-clause-belongs size c = c.to_expr.ensures.belongs

pub read_expr-returns-clause-left : goal.read_expr-returns-clause-left
read_expr-returns-clause-left size c = if_ok c.to_expr.result _ (λ id. c.in_ok-items.ensures.left)

pub read_argument-to_expr-requires : goal.read_argument-to_expr-requires
read_argument-to_expr-requires size c = c.in_ok-items.ensures.stand

pub read_argument-returns-clause-belongs : goal.read_argument-returns-clause-belongs
read_argument-returns-clause-belongs size c = c.to_expr.ensures.belongs

pub read_argument-returns-clause-left : goal.read_argument-returns-clause-left
read_argument-returns-clause-left size c = if_ok c.to_expr.result _ (λ id. c.in_ok-items.ensures.left)

pub read_clause-returns-clause-pattern : goal.read_clause-returns-clause-pattern
read_clause-returns-clause-pattern size c = IsPattern-more _ _ _ c.in_ok-body.ensures.grows.rows c.in_ok-pattern.ensures.belongs

pub read_clause-returns-clause-body : goal.read_clause-returns-clause-body
read_clause-returns-clause-body size c = c.in_ok-body.ensures.belongs

pub read_clause-returns-clause-grows : goal.read_clause-returns-clause-grows
read_clause-returns-clause-grows size c = record { rows = KeepsRows-trans _ _ _ c.read_pattern_seq.ensures.keeps c.in_ok-body.ensures.grows.rows; nodes = c.in_ok-body.ensures.grows.nodes; clauses = c.in_ok-body.ensures.grows.clauses }

pub read_content-returns-clause-belongs : goal.read_content-returns-clause-belongs
read_content-returns-clause-belongs size c = c.in_ok-content.ensures.belongs

pub read_content-returns-clause-grows : goal.read_content-returns-clause-grows
read_content-returns-clause-grows size c = c.in_ok-content.ensures.grows

pub read_element-returns-clause-stand : goal.read_element-returns-clause-stand
read_element-returns-clause-stand size c = c.add_item.ensures.stand

pub read_element-returns-clause-grows : goal.read_element-returns-clause-grows
read_element-returns-clause-grows size c = add_grows c.add_item.result _ _ _ _ _ c.in_ok-label.label.place _ c.in_ok-content.ensures.grows tt c.add_item.ensures.grown

pub read_item-returns-in_ok-quoted-in-Text-clause-stand : goal.read_item-returns-in_ok-quoted-in-Text-clause-stand
read_item-returns-in_ok-quoted-in-Text-clause-stand size c = c.add_item.ensures.stand

pub read_item-returns-in-Word-clause-reads : goal.read_item-returns-in-Word-clause-reads
read_item-returns-in-Word-clause-reads size c = c.read_named.ensures.reads

pub read_item-returns-in-Word-clause-stand : goal.read_item-returns-in-Word-clause-stand
read_item-returns-in-Word-clause-stand size c = c.read_named.ensures.stand

pub read_item-returns-in-Word-clause-grows : goal.read_item-returns-in-Word-clause-grows
read_item-returns-in-Word-clause-grows size c = c.read_named.ensures.grows

pub read_item-returns-in-Label-clause-reads : goal.read_item-returns-in-Label-clause-reads
read_item-returns-in-Label-clause-reads size c = c.read_element.ensures.reads

pub read_item-returns-in-Label-clause-stand : goal.read_item-returns-in-Label-clause-stand
read_item-returns-in-Label-clause-stand size c = c.read_element.ensures.stand

pub read_item-returns-in-Label-clause-grows : goal.read_item-returns-in-Label-clause-grows
read_item-returns-in-Label-clause-grows size c = c.read_element.ensures.grows

pub read_item-returns-in-Match-clause-reads : goal.read_item-returns-in-Match-clause-reads
read_item-returns-in-Match-clause-reads size c = c.read_match.ensures.reads

pub read_item-returns-in-Match-clause-stand : goal.read_item-returns-in-Match-clause-stand
read_item-returns-in-Match-clause-stand size c = c.read_match.ensures.stand

pub read_item-returns-in-Match-clause-grows : goal.read_item-returns-in-Match-clause-grows
read_item-returns-in-Match-clause-grows size c = c.read_match.ensures.grows

pub read_item-returns-in-ParenL-clause-stand : goal.read_item-returns-in-ParenL-clause-stand
read_item-returns-in-ParenL-clause-stand size c = c.read_paren.ensures.stand

pub read_item-returns-in-ParenL-clause-grows : goal.read_item-returns-in-ParenL-clause-grows
read_item-returns-in-ParenL-clause-grows size c = c.read_paren.ensures.grows

pub read_items-returns-clause-stand : goal.read_items-returns-clause-stand
read_items-returns-clause-stand size c = c.items.invariant.stand

pub read_items-returns-clause-grows : goal.read_items-returns-clause-grows
read_items-returns-clause-grows size c = c.items.invariant.grows

pub read_items-returns-clause-left : goal.read_items-returns-clause-left
read_items-returns-clause-left size c = c.items.invariant.left

pub read_match-returns-clause-stand : goal.read_match-returns-clause-stand
read_match-returns-clause-stand size c = c.add_item.ensures.stand

pub read_match-returns-clause-left : goal.read_match-returns-clause-left
read_match-returns-clause-left size c = if_ok c.add_item.result _ (λ items. c.clauses.invariant.left)

pub read_named-returns-then-is_empty-clause-stand : goal.read_named-returns-then-is_empty-clause-stand
read_named-returns-then-is_empty-clause-stand size c = c.add_item.ensures.stand

pub read_named-returns-then-is_empty-clause-grows : goal.read_named-returns-then-is_empty-clause-grows
read_named-returns-then-is_empty-clause-grows size c = add_grows c.add_item.result _ _ _ _ _ c.in_ok-name.name.place _ c.arguments.invariant.grows tt c.add_item.ensures.grown

pub read_named-returns-then-is_empty-clause-left : goal.read_named-returns-then-is_empty-clause-left
read_named-returns-then-is_empty-clause-left size c = if_ok c.add_item.result _ (λ items. c.arguments.invariant.left)

pub read_named-returns-else-is_empty-clause-stand : goal.read_named-returns-else-is_empty-clause-stand
read_named-returns-else-is_empty-clause-stand size c = c.add_item-else-is_empty.ensures.stand

pub read_named-returns-else-is_empty-clause-grows : goal.read_named-returns-else-is_empty-clause-grows
read_named-returns-else-is_empty-clause-grows size c = add_grows c.add_item-else-is_empty.result _ _ _ _ _ c.in_ok-name.name.place _ c.arguments.invariant.grows tt c.add_item-else-is_empty.ensures.grown

pub read_named-returns-else-is_empty-clause-left : goal.read_named-returns-else-is_empty-clause-left
read_named-returns-else-is_empty-clause-left size c = if_ok c.add_item-else-is_empty.result _ (λ items. c.arguments.invariant.left)

pub read_paren-returns-then-at-clause-grows : goal.read_paren-returns-then-at-clause-grows
read_paren-returns-then-at-clause-grows size c = Grows-refl _ _ c.requires.clauses

pub read_paren-returns-clause-stand : goal.read_paren-returns-clause-stand
read_paren-returns-clause-stand size c = c.in_ok-inner.ensures.stand

pub read_paren-returns-clause-grows : goal.read_paren-returns-clause-grows
read_paren-returns-clause-grows size c = c.in_ok-inner.ensures.grows

-- ---- where memory runs out nothing is said
pub read_argument-returns-in_err-items : goal.read_argument-returns-in_err-items
read_argument-returns-in_err-items size c = let no = c.from_residual.ensures.0 in record { reads = IfOk-from_err c.from_residual.result _ no; belongs = IfOk-from_err c.from_residual.result _ no; grows = IfOk-from_err c.from_residual.result _ no; left = IfOk-from_err c.from_residual.result _ no }

pub read_clause-returns-in_err-pattern : goal.read_clause-returns-in_err-pattern
read_clause-returns-in_err-pattern size c = let no = c.from_residual.ensures.0 in record { reads = IfOk-from_err c.from_residual.result _ no; pattern = IfOk-from_err c.from_residual.result _ no; body = IfOk-from_err c.from_residual.result _ no; grows = IfOk-from_err c.from_residual.result _ no; left = IfOk-from_err c.from_residual.result _ no }

pub read_clause-returns-in_err-body : goal.read_clause-returns-in_err-body
read_clause-returns-in_err-body size c = let no = c.from_residual-in_err-body.ensures.0 in record { reads = IfOk-from_err c.from_residual-in_err-body.result _ no; pattern = IfOk-from_err c.from_residual-in_err-body.result _ no; body = IfOk-from_err c.from_residual-in_err-body.result _ no; grows = IfOk-from_err c.from_residual-in_err-body.result _ no; left = IfOk-from_err c.from_residual-in_err-body.result _ no }

pub read_content-returns-in_err-content : goal.read_content-returns-in_err-content
read_content-returns-in_err-content size c = let no = c.from_residual.ensures.0 in record { reads = IfOk-from_err c.from_residual.result _ no; belongs = IfOk-from_err c.from_residual.result _ no; grows = IfOk-from_err c.from_residual.result _ no; left = IfOk-from_err c.from_residual.result _ no }

pub read_element-returns-in_err-label : goal.read_element-returns-in_err-label
read_element-returns-in_err-label size c = let no = c.from_residual.ensures.0 in record { reads = IfOk-from_err c.from_residual.result _ no; stand = IfOk-from_err c.from_residual.result _ no; grows = IfOk-from_err c.from_residual.result _ no; left = IfOk-from_err c.from_residual.result _ no }

pub read_element-returns-in_err-content : goal.read_element-returns-in_err-content
read_element-returns-in_err-content size c = let no = c.from_residual-in_err-content.ensures.0 in record { reads = IfOk-from_err c.from_residual-in_err-content.result _ no; stand = IfOk-from_err c.from_residual-in_err-content.result _ no; grows = IfOk-from_err c.from_residual-in_err-content.result _ no; left = IfOk-from_err c.from_residual-in_err-content.result _ no }

pub read_expr-returns-in_err-items : goal.read_expr-returns-in_err-items
read_expr-returns-in_err-items size c = let no = c.from_residual.ensures.0 in record { reads = IfOk-from_err c.from_residual.result _ no; belongs = IfOk-from_err c.from_residual.result _ no; grows = IfOk-from_err c.from_residual.result _ no; left = IfOk-from_err c.from_residual.result _ no }

pub read_item-returns-in_err-quoted-in-Text : goal.read_item-returns-in_err-quoted-in-Text
read_item-returns-in_err-quoted-in-Text size c = let no = c.from_residual.ensures.0 in record { reads = IfOk-from_err c.from_residual.result _ no; stand = IfOk-from_err c.from_residual.result _ no; grows = IfOk-from_err c.from_residual.result _ no; left = IfOk-from_err c.from_residual.result _ no }

pub read_items-returns-in_err-read : goal.read_items-returns-in_err-read
read_items-returns-in_err-read size c = let no = c.from_residual.ensures.0 in record { reads = IfOk-from_err c.from_residual.result _ no; stand = IfOk-from_err c.from_residual.result _ no; grows = IfOk-from_err c.from_residual.result _ no; left = IfOk-from_err c.from_residual.result _ no }

pub read_items-returns-in_err-item : goal.read_items-returns-in_err-item
read_items-returns-in_err-item size c = let no = c.from_residual-in_err-item.ensures.0 in record { reads = IfOk-from_err c.from_residual-in_err-item.result _ no; stand = IfOk-from_err c.from_residual-in_err-item.result _ no; grows = IfOk-from_err c.from_residual-in_err-item.result _ no; left = IfOk-from_err c.from_residual-in_err-item.result _ no }

pub read_items-returns-in_err-read-2 : goal.read_items-returns-in_err-read-2
read_items-returns-in_err-read-2 size c = let no = c.from_residual-in_err-read-2.ensures.0 in record { reads = IfOk-from_err c.from_residual-in_err-read-2.result _ no; stand = IfOk-from_err c.from_residual-in_err-read-2.result _ no; grows = IfOk-from_err c.from_residual-in_err-read-2.result _ no; left = IfOk-from_err c.from_residual-in_err-read-2.result _ no }

pub read_match-returns-in_err-scrutinee : goal.read_match-returns-in_err-scrutinee
read_match-returns-in_err-scrutinee size c = let no = c.from_residual.ensures.0 in record { reads = IfOk-from_err c.from_residual.result _ no; stand = IfOk-from_err c.from_residual.result _ no; grows = IfOk-from_err c.from_residual.result _ no; left = IfOk-from_err c.from_residual.result _ no }

pub read_match-returns-in_err-first : goal.read_match-returns-in_err-first
read_match-returns-in_err-first size c = let no = c.from_residual-in_err-first.ensures.0 in record { reads = IfOk-from_err c.from_residual-in_err-first.result _ no; stand = IfOk-from_err c.from_residual-in_err-first.result _ no; grows = IfOk-from_err c.from_residual-in_err-first.result _ no; left = IfOk-from_err c.from_residual-in_err-first.result _ no }

pub read_match-returns-in_err-push : goal.read_match-returns-in_err-push
read_match-returns-in_err-push size c = let no = c.from_residual-in_err-push.ensures.0 in record { reads = IfOk-from_err c.from_residual-in_err-push.result _ no; stand = IfOk-from_err c.from_residual-in_err-push.result _ no; grows = IfOk-from_err c.from_residual-in_err-push.result _ no; left = IfOk-from_err c.from_residual-in_err-push.result _ no }

pub read_match-returns-in_err-clause : goal.read_match-returns-in_err-clause
read_match-returns-in_err-clause size c = let no = c.from_residual-in_err-clause.ensures.0 in record { reads = IfOk-from_err c.from_residual-in_err-clause.result _ no; stand = IfOk-from_err c.from_residual-in_err-clause.result _ no; grows = IfOk-from_err c.from_residual-in_err-clause.result _ no; left = IfOk-from_err c.from_residual-in_err-clause.result _ no }

pub read_match-returns-in_err-push-2 : goal.read_match-returns-in_err-push-2
read_match-returns-in_err-push-2 size c = let no = c.from_residual-in_err-push-2.ensures.0 in record { reads = IfOk-from_err c.from_residual-in_err-push-2.result _ no; stand = IfOk-from_err c.from_residual-in_err-push-2.result _ no; grows = IfOk-from_err c.from_residual-in_err-push-2.result _ no; left = IfOk-from_err c.from_residual-in_err-push-2.result _ no }

pub read_named-returns-in_err-name : goal.read_named-returns-in_err-name
read_named-returns-in_err-name size c = let no = c.from_residual.ensures.0 in record { reads = IfOk-from_err c.from_residual.result _ no; stand = IfOk-from_err c.from_residual.result _ no; grows = IfOk-from_err c.from_residual.result _ no; left = IfOk-from_err c.from_residual.result _ no }

pub read_named-returns-in_err-argument : goal.read_named-returns-in_err-argument
read_named-returns-in_err-argument size c = let no = c.from_residual-in_err-argument.ensures.0 in record { reads = IfOk-from_err c.from_residual-in_err-argument.result _ no; stand = IfOk-from_err c.from_residual-in_err-argument.result _ no; grows = IfOk-from_err c.from_residual-in_err-argument.result _ no; left = IfOk-from_err c.from_residual-in_err-argument.result _ no }

pub read_named-returns-in_err-push : goal.read_named-returns-in_err-push
read_named-returns-in_err-push size c = let no = c.from_residual-in_err-push.ensures.0 in record { reads = IfOk-from_err c.from_residual-in_err-push.result _ no; stand = IfOk-from_err c.from_residual-in_err-push.result _ no; grows = IfOk-from_err c.from_residual-in_err-push.result _ no; left = IfOk-from_err c.from_residual-in_err-push.result _ no }

pub read_paren-returns-in_err-inner : goal.read_paren-returns-in_err-inner
read_paren-returns-in_err-inner size c = let no = c.from_residual.ensures.0 in record { reads = IfOk-from_err c.from_residual.result _ no; stand = IfOk-from_err c.from_residual.result _ no; grows = IfOk-from_err c.from_residual.result _ no; left = IfOk-from_err c.from_residual.result _ no }

-- ---- fewer tokens are left
pub read_argument-read_paren-requires : goal.read_argument-read_paren-requires
read_argument-read_paren-requires size c = (omega arith, (c.requires.clauses, c.requires.next))

pub read_content-read_expr-requires : goal.read_content-read_expr-requires
read_content-read_expr-requires size c = (omega arith, c.requires)

pub read_element-read_content-requires : goal.read_element-read_content-requires
read_element-read_content-requires size c = (omega (arith, next_lt t.Label c.args.cursor.now refl c.requires.next, ap length c.in_ok-label.ensures.left), c.requires.clauses)

pub read_expr-read_items-requires : goal.read_expr-read_items-requires
read_expr-read_items-requires size c = (omega arith, c.requires)

pub read_item-read_named-requires : goal.read_item-read_named-requires
read_item-read_named-requires size c = (omega arith, (c.requires, sym c.peek.ensures ∙ c.in-Word.is))

pub read_item-returns-in-Word-clause-left : goal.read_item-returns-in-Word-clause-left
read_item-returns-in-Word-clause-left size c = IfOk-weaker c.read_named.result _ _ (λ items h. omega arith) c.read_named.ensures.left

pub read_item-read_element-requires : goal.read_item-read_element-requires
read_item-read_element-requires size c = (omega arith, (c.requires, sym c.peek.ensures ∙ c.in-Label.is))

pub read_item-returns-in-Label-clause-left : goal.read_item-returns-in-Label-clause-left
read_item-returns-in-Label-clause-left size c = IfOk-weaker c.read_element.result _ _ (λ items h. omega arith) c.read_element.ensures.left

pub read_item-read_match-requires : goal.read_item-read_match-requires
read_item-read_match-requires size c = (omega arith, (c.requires, sym c.peek.ensures ∙ c.in-Match.is))

pub read_item-returns-in-Match-clause-left : goal.read_item-returns-in-Match-clause-left
read_item-returns-in-Match-clause-left size c = IfOk-weaker c.read_match.result _ _ (λ items h. omega arith) c.read_match.ensures.left

pub read_item-read_paren-requires : goal.read_item-read_paren-requires
read_item-read_paren-requires size c = (omega arith, (c.requires, sym c.peek.ensures ∙ c.in-ParenL.is))

pub read_item-returns-in-ParenL-clause-left : goal.read_item-returns-in-ParenL-clause-left
read_item-returns-in-ParenL-clause-left size c = IfOk-weaker c.read_paren.result _ _ (λ items h. omega arith) c.read_paren.ensures.left

pub read_items-read_item-requires : goal.read_items-read_item-requires
read_items-read_item-requires size c = (omega arith, c.requires)

pub read_items-read_item-requires-in-items : goal.read_items-read_item-requires-in-items
read_items-read_item-requires-in-items size c = (omega (arith, c.items.invariant.left, behind_le c.items.cursor, ap length c.step.ensures.left), c.items.invariant.grows.clauses)

pub read_items-items-smaller : goal.read_items-items-smaller
read_items-items-smaller size c = omega (arith, next_lt_at t.Comma c.items.cursor refl (sym c.at.ensures ∙ c.items-test.true), ap length c.step.ensures.left, c.in_ok-item.ensures.left)

pub read_match-read_expr-requires : goal.read_match-read_expr-requires
read_match-read_expr-requires size c = (omega (arith, next_lt t.Match c.args.cursor.now refl c.requires.next, ap length c.step-place.ensures.left), c.requires.clauses)

pub read_match-read_clause-requires : goal.read_match-read_clause-requires
read_match-read_clause-requires size c = (omega (arith, next_lt t.Match c.args.cursor.now refl c.requires.next, ap length c.step-place.ensures.left, c.in_ok-scrutinee.ensures.left, behind_le c.read_expr.new.cursor, ap length c.step.ensures.left), c.in_ok-scrutinee.ensures.grows.clauses)

pub read_match-read_clause-requires-in-clauses : goal.read_match-read_clause-requires-in-clauses
read_match-read_clause-requires-in-clauses size c = (omega (arith, c.clauses.invariant.left, behind_le c.clauses.cursor, ap length c.step-in-clauses.ensures.left), c.clauses.invariant.grows.clauses)

pub read_match-clauses-smaller : goal.read_match-clauses-smaller
read_match-clauses-smaller size c = omega (arith, next_lt_at t.Bar c.clauses.cursor refl (sym c.at.ensures ∙ c.clauses-test.true), ap length c.step-in-clauses.ensures.left, c.in_ok-clause.ensures.left)

pub read_named-read_argument-requires : goal.read_named-read_argument-requires
read_named-read_argument-requires size c = (omega (arith, c.arguments.invariant.left), (c.arguments.invariant.grows.clauses, front_same t.ParenL c.arguments.cursor (sym c.at.ensures ∙ c.arguments-test.true)))

pub read_named-arguments-smaller : goal.read_named-arguments-smaller
read_named-arguments-smaller size c = c.in_ok-argument.ensures.left

pub read_paren-read_items-requires : goal.read_paren-read_items-requires
read_paren-read_items-requires size c = (omega (arith, next_lt t.ParenL c.args.cursor.now refl c.requires.next, ap length c.step-opening.ensures.left), c.requires.clauses)

pub read_paren-returns-then-at-clause-left : goal.read_paren-returns-then-at-clause-left
read_paren-returns-then-at-clause-left size c = omega (arith, next_lt t.ParenL c.args.cursor.now refl c.requires.next, behind_le c.step-opening.new.self, ap length c.step-opening.ensures.left, ap length c.step.ensures.left)

pub read_paren-returns-clause-left : goal.read_paren-returns-clause-left
read_paren-returns-clause-left size c = omega (arith, next_lt t.ParenL c.args.cursor.now refl c.requires.next, ap length c.step-opening.ensures.left, c.in_ok-inner.ensures.left, behind_le c.read_items.new.cursor, ap length c.step-2.ensures.left)

pub read_content-returns-clause-left : goal.read_content-returns-clause-left
read_content-returns-clause-left size c = omega (arith, c.in_ok-content.ensures.left, behind_le c.read_expr.new.cursor, ap length c.step.ensures.left)

pub read_content-returns-then-at-clause-left : goal.read_content-returns-then-at-clause-left
read_content-returns-then-at-clause-left size c = if_ok c.add.result _ (λ id. omega (arith, behind_le c.args.cursor.now, ap length c.step-place.ensures.left))

pub read_element-returns-clause-left : goal.read_element-returns-clause-left
read_element-returns-clause-left size c = if_ok c.add_item.result _ (λ items. omega (arith, next_lt t.Label c.args.cursor.now refl c.requires.next, ap length c.in_ok-label.ensures.left, c.in_ok-content.ensures.left))

pub read_clause-returns-clause-left : goal.read_clause-returns-clause-left
read_clause-returns-clause-left size c = omega (arith, c.in_ok-pattern.ensures.left, behind_le c.read_pattern_seq.new.cursor, ap length c.step.ensures.left, c.in_ok-body.ensures.left)

pub read_item-returns-in_ok-quoted-in-Text-clause-left : goal.read_item-returns-in_ok-quoted-in-Text-clause-left
read_item-returns-in_ok-quoted-in-Text-clause-left size c = if_ok c.add_item.result _ (λ items. omega (arith, behind_le c.args.cursor.now, ap length c.in_ok-quoted-in-Text.ensures.left))

pub read_item-returns-in_ok-quoted-in-Text-clause-grows : goal.read_item-returns-in_ok-quoted-in-Text-clause-grows
read_item-returns-in_ok-quoted-in-Text-clause-grows size c = add_grows c.add_item.result _ _ _ _ _ c.in_ok-quoted-in-Text.quoted.place _ (Grows-refl _ _ c.requires) tt c.add_item.ensures.grown

pub read_element-add_item-requires-clause-alone : goal.read_element-add_item-requires-clause-alone
read_element-add_item-requires-clause-alone size c = refl

pub read_item-add_item-requires-clause-alone : goal.read_item-add_item-requires-clause-alone
read_item-add_item-requires-clause-alone size c = refl

pub read_match-add_item-requires-clause-alone : goal.read_match-add_item-requires-clause-alone
read_match-add_item-requires-clause-alone size c = refl

pub read_named-add_item-requires-clause-alone : goal.read_named-add_item-requires-clause-alone
read_named-add_item-requires-clause-alone size c = refl

pub read_named-add_item-requires-else-is_empty-clause-alone : goal.read_named-add_item-requires-else-is_empty-clause-alone
read_named-add_item-requires-else-is_empty-clause-alone size c = refl
