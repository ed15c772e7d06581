use borrow.Author.Count.{falls}
use Rattle.std.proofs.Common.{◌≡◌, ◌↔◌, ℕ, Global, Vec, ◌+◌, ◌-◌, ◌*◌, ◌<◌, arith, true, false, Ok, None, List, [], ◌∷◌, ◌++◌, map, length, get_or, drop, refl, ap, sym, subst, ◌∙◌}
use Rattle.std.specs.List.{AllByRecursion}
use Rattle.std.specs.Option.{IfSome}
use Rattle.std.proofs.lemmas.List.{drop_all, get_or_default}
use Rattle.std.proofs.lemmas.Result.{IfOk-from_err}
use Rattle.xd_base.specs.declared.Place.{Place}
use Rattle.xd_doc.proofs.StoredLemmas.{Keeps-same, Keeps-trans}
use Rattle.xd_doc.proofs.Lists.{all_as}
use Rattle.xd_doc.proofs.Options.{some_holds}
use Rattle.xd_auto.specs.declared.auto.State.{State}
use Rattle.xd_auto.specs.Automaton.{IsState, accepts}
use Rattle.xd_syntax.specs.Kept.{ProgramTable, program_tree}
use Rattle.xd_syntax.specs.Placed.{PlacedTree, unplaced}
use Rattle.xd_syntax.specs.PlacedTable.{placed_at}
use Rattle.xd_syntax.specs.Program.{ProgramTree, function_of, names_of}
use Rattle.xd_syntax.specs.Expression.{Clauses, Expression, Matched, arguments_of, place_of_expression}
use Rattle.xd_syntax.specs.ExpressionTable.{ExprPartsBelow, ExprRow, PatternsBelong, ShapePatternsBelong, empty_shape, text_shape, var_shape, elem_shape, seq_shape, call_shape, match_shape, clauses_of}
use Rattle.xd_syntax.specs.Exprs.{clause_numbers, expr_numbers, shape_of}
use Rattle.xd_syntax.specs.declared.exprs.ExprId.{ExprId}
use Rattle.xd_syntax.specs.declared.exprs.Clause.{Clause}
use Rattle.xd_clauses.specs.Clauses.{Accepted, AreMayGivens}
use Rattle.xd_clauses.specs.Compiled.{IsNumbered}
use Rattle.xd_clauses.specs.Behind.{StandsIn}
use Rattle.xd_clauses.specs.declared.compiled.CompiledPatterns.{CompiledPatterns}
use Rattle.xd_points.specs.Meaning.{ServePoints}
use Rattle.xd_clauses.proofs.NumberedLemmas.{paired_length}
use Rattle.xd_check_steps.specs.InScope.{ScopeStands}
use Rattle.xd_check_steps.specs.Walkable.{CanBeWalked, expr_at}
use Rattle.xd_check_steps.specs.Clauses.{HasNumber, patterns_among}
use Rattle.xd_check_steps.proofs.Numbered.{compiled_as, numbered_here, some_here, some_numbered}
use Rattle.xd_syntax.specs.May.{FitsResult, IsLive, clause_entry}
use Rattle.xd_syntax.specs.Tree.{Definitions}
use Rattle.xd_syntax.specs.CheckFaults.{IsLiveIn, dead_clause, parameters_of}
use Rattle.xd_syntax.proofs.PlacedTrees.{unplaced_at}
use Rattle.xd_check_steps.specs.declared.lines.Finding.TheVariants.{DeadClause}
use Rattle.xd_check_steps.specs.declared.variables.Variable.{Variable}
use Rattle.xd_check_steps.specs.Signed.{AreParameters, signature_of}
use Rattle.xd_check_steps.specs.States.{Grows}
use Rattle.xd_check.specs.Walked.{IsWalked, LinesOfArgument, SeenInArguments}
use Rattle.xd_check_steps.specs.Found.{found_in}
use Rattle.xd_check_steps.specs.FoundLines.{AddsLines}
use Rattle.xd_check_steps.specs.declared.findings.MetMatch.{MetMatch}
use Rattle.xd_check_steps.proofs.AddsFoundLemmas.{adds_kept}
use Rattle.xd_check.proofs.ClauseLemmas.{clause_dead, clause_live, comes_first, live_from, live_to, walked_matched}
use Rattle.xd_check.proofs.Arguments.{all_there, walked_called}
use Rattle.xd_check_steps.proofs.GrowsLemmas.{grows_then, scope_kept}
use Rattle.xd_check_steps.proofs.IsKnownLemmas.{known_kept, known_learnt}
use Rattle.xd_check.proofs.ClauseLoop.{ClausesLoop, clause_here, clauses_loop_begin, clauses_loop_end, clauses_loop_more, stands_on}
use Rattle.xd_check.proofs.AreStatesLemmas.{clause_left, clause_scope, clause_states, parameter_states}
use Rattle.xd_check.proofs.Loops.{PartsLoop, argument_here, arguments_begin, arguments_end, arguments_more, part_here, parts_begin, parts_end, parts_more}
use Rattle.xd_check_steps.proofs.Ceilings.{bodies, bodies_below, ceiling, ceiling_again, ceiling_within}
use Rattle.xd_check_steps.proofs.AcceptedInTurnLemmas.{joined_none, never, new_moves}
use Rattle.xd_check.proofs.IsReadyLemmas.{ready_kept, signed_none, signed_some, states_again}
use Rattle.xd_check_steps.proofs.Walkable.{expr_is, walk_arguments, walk_clauses, walk_content, walk_parts, walk_scrutinee}
use Rattle.xd_check.proofs.Walks.{walked_joined, walked_nothing, walked_quoted, walked_tagged, walked_variable}
use Rattle.xd_check.proofs.checker.Checker.+expressions.Goals as goal

pub in_expression-node-node-requires : goal.in_expression-node-node-requires
in_expression-node-node-requires t c =
    let e : c.exprs.result.now ≡ c.args.self.now.sound.exprs = c.exprs.ensures.exprs ∙ ap (λ (q : ProgramTable). q.exprs) c.program.ensures.program in
    subst (λ (es : List ExprRow). c.args.id.at < length es) (sym e) c.requires.expression.there

pub in_expression-variable_state-requires : goal.in_expression-variable_state-requires
in_expression-variable_state-requires t c = c.requires.variables

pub in_expression-in_expression-requires : goal.in_expression-in_expression-requires
in_expression-in_expression-requires t c =
    let p : ProgramTable = c.args.self.now.sound in
    let e : c.exprs.result.now ≡ p.exprs = c.exprs.ensures.exprs ∙ ap (λ (q : ProgramTable). q.exprs) c.program.ensures.program in
    let n = c.node-node.result.now in
    let form = sym c.form.ensures ∙ ap shape_of c.in-Elem.is in
    let tree = expr_is p c.exprs.result.now c.args.id n.place n.form (elem_shape c.in-Elem.label c.in-Elem.content.at) e (c.node-node.ensures.expression p.patterns) form in
    let older : c.in-Elem.content.at < c.args.id.at = subst (ExprPartsBelow c.args.id.at) form c.node-node.ensures.parts in
    let fallen : 4 * c.in-Elem.content.at + 3 < t = omega arith in
    (fallen, (c.requires.ready, (walk_content p c.args.id.at c.in-Elem.content.at n.place c.in-Elem.label c.requires.expression tree older, (c.requires.variables, c.requires.known))))

pub in_expression-wrap-requires : goal.in_expression-wrap-requires
in_expression-wrap-requires t c = c.in_ok-inside-in-Elem.ensures.belongs

pub in_expression-in_parts-requires : goal.in_expression-in_parts-requires
in_expression-in_parts-requires t c =
    let p : ProgramTable = c.args.self.now.sound in
    let e : c.exprs.result.now ≡ p.exprs = c.exprs.ensures.exprs ∙ ap (λ (q : ProgramTable). q.exprs) c.program.ensures.program in
    let n = c.node-node.result.now in
    let ids : List ℕ = expr_numbers c.in-Seq.parts.items in
    let form = sym c.form.ensures ∙ ap shape_of c.in-Seq.is in
    let tree = expr_is p c.exprs.result.now c.args.id n.place n.form (seq_shape ids) e (c.node-node.ensures.expression p.patterns) form in
    let older : AllByRecursion (λ i. i < c.args.id.at) ids = subst (ExprPartsBelow c.args.id.at) form c.node-node.ensures.parts in
    let top = ceiling_again c.args.id.at c.deref.result.now c.in-Seq.parts.items c.deref.ensures.value older in
    let fallen : 4 * ceiling (expr_numbers c.deref.result.now) + 1 < t = omega arith in
    (fallen, (c.requires.ready, (subst (λ (ps : List ExprId). AllByRecursion (CanBeWalked p) (expr_numbers ps)) (sym c.deref.ensures.value) (walk_parts p c.args.id.at n.place ids c.requires.expression tree older), (c.requires.variables, c.requires.known))))

pub in_expression-join_states-requires : goal.in_expression-join_states-requires
in_expression-join_states-requires t c = c.in_ok-states-in-Seq.ensures.belong

pub in_expression-in_call-requires : goal.in_expression-in_call-requires
in_expression-in_call-requires t c =
    let p : ProgramTable = c.args.self.now.sound in
    let e : c.exprs.result.now ≡ p.exprs = c.exprs.ensures.exprs ∙ ap (λ (q : ProgramTable). q.exprs) c.program.ensures.program in
    let n = c.node-node.result.now in
    let ids : List ℕ = expr_numbers c.in-Call.arguments.items in
    let form = sym c.form.ensures ∙ ap shape_of c.in-Call.is in
    let tree = expr_is p c.exprs.result.now c.args.id n.place n.form (call_shape c.in-Call.word ids) e (c.node-node.ensures.expression p.patterns) form in
    let older : AllByRecursion (λ i. i < c.args.id.at) ids = subst (ExprPartsBelow c.args.id.at) form c.node-node.ensures.parts in
    let top = ceiling_again c.args.id.at c.deref-in-Call.result.now c.in-Call.arguments.items c.deref-in-Call.ensures.value older in
    let fallen : 4 * ceiling (expr_numbers c.deref-in-Call.result.now) + 2 < t = omega arith in
    (fallen, (c.requires.ready, (subst (λ (ps : List ExprId). AllByRecursion (CanBeWalked p) (expr_numbers ps)) (sym c.deref-in-Call.ensures.value) (walk_arguments p c.args.id.at n.place c.in-Call.word ids c.requires.expression tree older), (c.requires.variables, c.requires.known))))

pub in_expression-in_expression-requires-in-Match : goal.in_expression-in_expression-requires-in-Match
in_expression-in_expression-requires-in-Match t c =
    let p : ProgramTable = c.args.self.now.sound in
    let e : c.exprs.result.now ≡ p.exprs = c.exprs.ensures.exprs ∙ ap (λ (q : ProgramTable). q.exprs) c.program.ensures.program in
    let n = c.node-node.result.now in
    let cs : List (ℕ × ℕ) = clause_numbers c.in-Match.clauses.items in
    let form = sym c.form.ensures ∙ ap shape_of c.in-Match.is in
    let tree = expr_is p c.exprs.result.now c.args.id n.place n.form (match_shape c.in-Match.scrutinee.at cs) e (c.node-node.ensures.expression p.patterns) form in
    let older : (c.in-Match.scrutinee.at < c.args.id.at) × AllByRecursion (λ (k : ℕ × ℕ). k.1 < c.args.id.at) cs = subst (ExprPartsBelow c.args.id.at) form c.node-node.ensures.parts in
    let first : c.in-Match.scrutinee.at < c.args.id.at = older.0 in
    let fallen : 4 * c.in-Match.scrutinee.at + 3 < t = omega arith in
    (fallen, (c.requires.ready, (walk_scrutinee p c.args.id.at c.in-Match.scrutinee.at n.place cs c.requires.expression tree first, (c.requires.variables, c.requires.known))))

pub in_expression-returns-in_ok-add_state-in-Empty : goal.in_expression-returns-in_ok-add_state-in-Empty
in_expression-returns-in_ok-add_state-in-Empty t c =
    record {
      belongs = c.in_ok-add_state-in-Empty.ensures.belongs;
      walked = λ S stands.
          let p : ProgramTable = c.args.self.now.sound in
          let e : c.exprs.result.now ≡ p.exprs = c.exprs.ensures.exprs ∙ ap (λ (q : ProgramTable). q.exprs) c.program.ensures.program in
          let n = c.node-node.result.now in
          let tree = expr_is p c.exprs.result.now c.args.id n.place n.form empty_shape e (c.node-node.ensures.expression p.patterns) (sym c.form.ensures ∙ ap shape_of c.in-Empty.is) in
          let s : State = c.in_ok-add_state-in-Empty.field-0 in
          let ok = c.in_ok-add_state-in-Empty.ensures.ok in
          subst (λ x. IsWalked p S x c.add_state.new.self c.args.store.now (found_in c.args.findings.now) (found_in c.args.findings.now) s) (sym tree)
          (walked_nothing p S n.place c.add_state.new.self c.args.store.now (found_in c.args.findings.now) s (joined_none c.add_state.new.self s (new_moves c.args.auto.now c.add_state.new.self s true ok.0 ok.1)));
      variables = refl;
      grows = record { extends = c.in_ok-add_state-in-Empty.ensures.extends; keeps = c.in_ok-add_state-in-Empty.ensures.keeps };
      known =
          let e = c.in_ok-add_state-in-Empty.ensures in
          known_kept c.args.auto.now c.add_state.new.self c.args.store.now c.args.store.now c.args.findings.now.known (record { extends = e.extends; keeps = e.keeps }) (Keeps-same c.args.store.now) c.requires.known;
      keeps = Keeps-same c.args.store.now;
    }

pub in_expression-returns-in_ok-text_state-in-Text : goal.in_expression-returns-in_ok-text_state-in-Text
in_expression-returns-in_ok-text_state-in-Text t c =
    record {
      belongs = c.in_ok-text_state-in-Text.ensures.belongs;
      walked = λ S stands.
          let p : ProgramTable = c.args.self.now.sound in
          let e : c.exprs.result.now ≡ p.exprs = c.exprs.ensures.exprs ∙ ap (λ (q : ProgramTable). q.exprs) c.program.ensures.program in
          let n = c.node-node.result.now in
          let tree = expr_is p c.exprs.result.now c.args.id n.place n.form (text_shape c.in-Text.text) e (c.node-node.ensures.expression p.patterns) (sym c.form.ensures ∙ ap shape_of c.in-Text.is) in
          subst (λ x. IsWalked p S x c.text_state.new.auto c.args.store.now (found_in c.args.findings.now) (found_in c.args.findings.now) c.in_ok-text_state-in-Text.field-0) (sym tree)
          (walked_quoted p S n.place c.in-Text.text c.text_state.new.auto c.args.store.now (found_in c.args.findings.now) c.in_ok-text_state-in-Text.field-0 c.in_ok-text_state-in-Text.ensures.accepts);
      variables = refl;
      grows = c.in_ok-text_state-in-Text.ensures.grows;
      known = known_kept c.args.auto.now c.text_state.new.auto c.args.store.now c.args.store.now c.args.findings.now.known c.in_ok-text_state-in-Text.ensures.grows (Keeps-same c.args.store.now) c.requires.known;
      keeps = Keeps-same c.args.store.now;
    }

pub in_expression-returns-in_ok-variable_state-in-Var : goal.in_expression-returns-in_ok-variable_state-in-Var
in_expression-returns-in_ok-variable_state-in-Var t c =
    record {
      belongs = c.in_ok-variable_state-in-Var.ensures.belongs;
      walked = λ S stands.
          let p : ProgramTable = c.args.self.now.sound in
          let e : c.exprs.result.now ≡ p.exprs = c.exprs.ensures.exprs ∙ ap (λ (q : ProgramTable). q.exprs) c.program.ensures.program in
          let n = c.node-node.result.now in
          let tree = expr_is p c.exprs.result.now c.args.id n.place n.form (var_shape c.in-Var.word) e (c.node-node.ensures.expression p.patterns) (sym c.form.ensures ∙ ap shape_of c.in-Var.is) in
          subst (λ x. IsWalked p S x c.variable_state.new.auto c.args.store.now (found_in c.args.findings.now) (found_in c.args.findings.now) c.in_ok-variable_state-in-Var.field-0) (sym tree)
          (walked_variable p S n.place c.in-Var.word c.args.auto.now c.variable_state.new.auto c.args.variables.now c.args.store.now (found_in c.args.findings.now) c.in_ok-variable_state-in-Var.field-0 stands c.in_ok-variable_state-in-Var.ensures.accepts);
      variables = refl;
      grows = c.in_ok-variable_state-in-Var.ensures.grows;
      known = known_kept c.args.auto.now c.variable_state.new.auto c.args.store.now c.args.store.now c.args.findings.now.known c.in_ok-variable_state-in-Var.ensures.grows (Keeps-same c.args.store.now) c.requires.known;
      keeps = Keeps-same c.args.store.now;
    }

pub in_expression-returns-in_ok-wrap-in-Elem : goal.in_expression-returns-in_ok-wrap-in-Elem
in_expression-returns-in_ok-wrap-in-Elem t c =
    record {
      belongs = c.in_ok-wrap-in-Elem.ensures.belongs;
      walked = λ S stands.
          let p : ProgramTable = c.args.self.now.sound in
          let e : c.exprs.result.now ≡ p.exprs = c.exprs.ensures.exprs ∙ ap (λ (q : ProgramTable). q.exprs) c.program.ensures.program in
          let n = c.node-node.result.now in
          let tree = expr_is p c.exprs.result.now c.args.id n.place n.form (elem_shape c.in-Elem.label c.in-Elem.content.at) e (c.node-node.ensures.expression p.patterns) (sym c.form.ensures ∙ ap shape_of c.in-Elem.is) in
          subst (λ x. IsWalked p S x c.wrap.new.self c.in_expression.new.store (found_in c.args.findings.now) (found_in c.in_expression.new.findings) c.in_ok-wrap-in-Elem.field-0) (sym tree)
          (walked_tagged p S n.place c.in-Elem.label (expr_at p c.in-Elem.content.at) c.in_expression.new.auto c.wrap.new.self c.in_expression.new.store (found_in c.args.findings.now) (found_in c.in_expression.new.findings)
          c.in_ok-inside-in-Elem.inside c.in_ok-wrap-in-Elem.field-0 (record { extends = c.in_ok-wrap-in-Elem.ensures.extends; keeps = c.in_ok-wrap-in-Elem.ensures.keeps }) (c.in_ok-inside-in-Elem.ensures.walked S stands) c.in_ok-wrap-in-Elem.ensures.ok);
      variables = c.in_ok-inside-in-Elem.ensures.variables;
      grows = grows_then c.args.auto.now c.in_expression.new.auto c.wrap.new.self c.in_ok-inside-in-Elem.ensures.grows (record { extends = c.in_ok-wrap-in-Elem.ensures.extends; keeps = c.in_ok-wrap-in-Elem.ensures.keeps });
      known =
          let e = c.in_ok-wrap-in-Elem.ensures in
          known_kept c.in_expression.new.auto c.wrap.new.self c.in_expression.new.store c.in_expression.new.store c.in_expression.new.findings.known (record { extends = e.extends; keeps = e.keeps }) (Keeps-same c.in_expression.new.store)
          c.in_ok-inside-in-Elem.ensures.known;
      keeps = c.in_expression.ensures.keeps;
    }

pub in_expression-returns-in_ok-join_states-in-Seq : goal.in_expression-returns-in_ok-join_states-in-Seq
in_expression-returns-in_ok-join_states-in-Seq t c =
    record {
      belongs = c.in_ok-join_states-in-Seq.ensures.belongs;
      walked = λ S stands.
          let p : ProgramTable = c.args.self.now.sound in
          let e : c.exprs.result.now ≡ p.exprs = c.exprs.ensures.exprs ∙ ap (λ (q : ProgramTable). q.exprs) c.program.ensures.program in
          let n = c.node-node.result.now in
          let ids : List ℕ = expr_numbers c.deref.result.now in
          let form = sym c.form.ensures ∙ ap shape_of c.in-Seq.is ∙ ap (λ (ps : List ExprId). seq_shape (expr_numbers ps)) (sym c.deref.ensures.value) in
          let tree = expr_is p c.exprs.result.now c.args.id n.place n.form (seq_shape ids) e (c.node-node.ensures.expression p.patterns) form in
          subst (λ x. IsWalked p S x c.join_states.new.auto c.in_parts.new.store (found_in c.args.findings.now) (found_in c.in_parts.new.findings) c.in_ok-join_states-in-Seq.field-0) (sym tree)
          (walked_joined p S n.place (map (expr_at p) ids) c.in_parts.new.auto c.join_states.new.auto c.in_parts.new.store (found_in c.args.findings.now) (found_in c.in_parts.new.findings) c.in_ok-states-in-Seq.states.items
          c.in_ok-join_states-in-Seq.field-0 c.in_ok-join_states-in-Seq.ensures.grows (c.in_ok-states-in-Seq.ensures.walked S stands) c.in_ok-join_states-in-Seq.ensures.accepts);
      variables = c.in_ok-states-in-Seq.ensures.variables;
      grows = grows_then c.args.auto.now c.in_parts.new.auto c.join_states.new.auto c.in_ok-states-in-Seq.ensures.grows c.in_ok-join_states-in-Seq.ensures.grows;
      known = known_kept c.in_parts.new.auto c.join_states.new.auto c.in_parts.new.store c.in_parts.new.store c.in_parts.new.findings.known c.in_ok-join_states-in-Seq.ensures.grows (Keeps-same c.in_parts.new.store) c.in_ok-states-in-Seq.ensures.known;
      keeps = c.in_parts.ensures.keeps;
    }

pub in_expression-returns-in_ok-in_call-in-Call : goal.in_expression-returns-in_ok-in_call-in-Call
in_expression-returns-in_ok-in_call-in-Call t c =
    record {
      belongs = c.in_ok-in_call-in-Call.ensures.belongs;
      walked = λ S stands.
          let p : ProgramTable = c.args.self.now.sound in
          let e : c.exprs.result.now ≡ p.exprs = c.exprs.ensures.exprs ∙ ap (λ (q : ProgramTable). q.exprs) c.program.ensures.program in
          let n = c.node-node.result.now in
          let ids : List ℕ = expr_numbers c.deref-in-Call.result.now in
          let form = sym c.form.ensures ∙ ap shape_of c.in-Call.is ∙ ap (λ (ps : List ExprId). call_shape c.in-Call.word (expr_numbers ps)) (sym c.deref-in-Call.ensures.value) in
          let tree = expr_is p c.exprs.result.now c.args.id n.place n.form (call_shape c.in-Call.word ids) e (c.node-node.ensures.expression p.patterns) form in
          let r = c.in_ok-in_call-in-Call.ensures in
          subst (λ x. IsWalked p S x c.in_call.new.auto c.in_call.new.store (found_in c.args.findings.now) (found_in c.in_call.new.findings) c.in_ok-in_call-in-Call.field-0) (sym tree)
          (walked_called p S n.place c.in-Call.word (map (expr_at p) ids) c.in_call.new.auto c.in_call.new.store (found_in c.args.findings.now) (found_in c.in_call.new.findings) c.in_ok-in_call-in-Call.field-0 (r.found S stands) r.result);
      variables = c.in_ok-in_call-in-Call.ensures.variables;
      grows = c.in_ok-in_call-in-Call.ensures.grows;
      known = c.in_ok-in_call-in-Call.ensures.known;
      keeps = c.in_call.ensures.keeps;
    }

pub in_parts-loop-part-init : goal.in_parts-loop-part-init
in_parts-loop-part-init t c =
    record {
      walk = subst (PartsLoop c.args.self.now.sound c.args.auto.now c.args.auto.now c.args.variables.now c.args.variables.now c.args.store.now c.args.store.now (found_in c.args.findings.now) (found_in c.args.findings.now) c.args.parts.now 0) (sym c.new-states.ensures.items)
          (parts_begin c.args.self.now.sound c.args.auto.now c.args.variables.now c.args.store.now (found_in c.args.findings.now) c.args.parts.now c.requires.parts);
      known = c.requires.known;
    }

pub in_parts-in_expression-requires : goal.in_parts-in_expression-requires
in_parts-in_expression-requires t c =
    let i = c.loop-part.invariant.walk in
    let st = i.stays in
    let n : ℕ = c.loop-part.part-index in
    let id : ExprId = get_or c.args.parts.now n (record { at = 0 }) in
    let h = part_here c.args.self.now.sound c.args.auto.now c.loop-part.auto' c.args.variables.now c.loop-part.variables c.args.store.now c.loop-part.store (found_in c.args.findings.now) (found_in c.loop-part.findings) c.args.parts.now n c.loop-part.states.items id i
    c.loop-part-test.true (get_or_default c.args.parts.now n (record { at = 0 }) id c.loop-part-test.true) in
    let top = h.1 in
    let fallen : 4 * id.at + 3 < t = omega arith in
    (fallen, (ready_kept c.args.self.now c.args.auto.now c.loop-part.auto' st.grows c.requires.ready, (h.0, (states_again c.args.auto.now c.loop-part.auto' st.grows c.args.variables.now c.loop-part.variables st.variables c.requires.variables, c.loop-part.invariant.known))))

pub in_parts-loop-part-preserved : goal.in_parts-loop-part-preserved
in_parts-loop-part-preserved t c =
    let n : ℕ = c.loop-part.part-index in
    let id : ExprId = get_or c.args.parts.now n (record { at = 0 }) in
    let e = c.in_ok-state.ensures in
    record {
      walk = parts_more c.args.self.now.sound c.args.auto.now c.loop-part.auto' c.in_expression.new.auto c.args.variables.now c.loop-part.variables c.in_expression.new.variables c.args.store.now c.loop-part.store c.in_expression.new.store
          (found_in c.args.findings.now) (found_in c.loop-part.findings) (found_in c.in_expression.new.findings) c.args.parts.now n c.loop-part.states.items c.push.new.self.items id c.in_ok-state.state c.requires.variables c.loop-part.invariant.walk
          c.loop-part-test.true (get_or_default c.args.parts.now n (record { at = 0 }) id c.loop-part-test.true) e.belongs e.walked e.variables e.grows e.keeps c.in_ok-push.ensures.items;
      known = e.known;
    }

pub in_parts-returns : goal.in_parts-returns
in_parts-returns t c =
    record {
      belong = c.loop-part.invariant.walk.there;
      walked =
          parts_end c.args.self.now.sound c.args.auto.now c.loop-part.auto' c.args.variables.now c.loop-part.variables c.args.store.now c.loop-part.store (found_in c.args.findings.now) (found_in c.loop-part.findings) c.args.parts.now c.loop-part.part-index
          c.loop-part.states.items (drop_all c.loop-part.part-index c.args.parts.now c.loop-part-test.false) c.loop-part.invariant.walk;
      variables = c.loop-part.invariant.walk.stays.variables;
      grows = c.loop-part.invariant.walk.stays.grows;
      known = c.loop-part.invariant.known;
      keeps = c.loop-part.invariant.walk.stays.keeps;
    }

pub in_arguments-loop-number-init : goal.in_arguments-loop-number-init
in_arguments-loop-number-init t c =
    record { walk = arguments_begin c.args.self.now.sound c.args.auto.now c.args.variables.now c.args.store.now (found_in c.args.findings.now) c.args.parameters.now c.args.arguments.now c.requires.arguments; known = c.requires.known }

pub in_arguments-in_expression-requires : goal.in_arguments-in_expression-requires
in_arguments-in_expression-requires t c =
    let i = c.loop-number.invariant.walk in
    let st = i.stays in
    let n : ℕ = c.loop-number.number in
    let id : ExprId = get_or c.args.arguments.now n (record { at = 0 }) in
    let h = argument_here c.args.self.now.sound c.args.auto.now c.loop-number.auto' c.args.variables.now c.loop-number.variables c.args.store.now c.loop-number.store (found_in c.args.findings.now) (found_in c.loop-number.findings) c.args.parameters.now
    c.args.arguments.now n id i c.loop-number-test.true (get_or_default c.args.arguments.now n (record { at = 0 }) id c.loop-number-test.true) in
    let top = h.1 in
    let fallen : 4 * id.at + 3 < t = omega arith in
    (fallen, (ready_kept c.args.self.now c.args.auto.now c.loop-number.auto' st.grows c.requires.ready, (h.0, (states_again c.args.auto.now c.loop-number.auto' st.grows c.args.variables.now c.loop-number.variables st.variables c.requires.variables, c.loop-number.invariant.known))))

pub in_arguments-see_argument-requires : goal.in_arguments-see_argument-requires
in_arguments-see_argument-requires t c =
    record {
      argument =
          let n : ℕ = c.loop-number.number in
          let id : ExprId = get_or c.args.arguments.now n (record { at = 0 }) in
          let h = argument_here c.args.self.now.sound c.args.auto.now c.loop-number.auto' c.args.variables.now c.loop-number.variables c.args.store.now c.loop-number.store (found_in c.args.findings.now) (found_in c.loop-number.findings) c.args.parameters.now
          c.args.arguments.now n id c.loop-number.invariant.walk c.loop-number-test.true (get_or_default c.args.arguments.now n (record { at = 0 }) id c.loop-number-test.true) in
          let w = h.0 in
          w.there;
      state = c.in_ok-state.ensures.belongs;
      wanted =
          let st = c.loop-number.invariant.walk.stays in
          let g = grows_then c.args.auto.now c.loop-number.auto' c.in_expression.new.auto st.grows c.in_ok-state.ensures.grows in
          subst (λ o. IfSome o (IsState c.in_expression.new.auto)) (sym c.parameter_state-wanted.ensures)
          (all_there (IsState c.in_expression.new.auto) c.args.parameters.now c.loop-number.number (all_as (IsState c.args.auto.now) (IsState c.in_expression.new.auto) (λ s m. (g.extends).states s m) c.args.parameters.now c.requires.parameters));
      known = c.in_ok-state.ensures.known;
    }

pub in_arguments-returns : goal.in_arguments-returns
in_arguments-returns t c =
    record {
      found =
          arguments_end c.args.self.now.sound c.args.auto.now c.loop-number.auto' c.args.variables.now c.loop-number.variables c.args.store.now c.loop-number.store (found_in c.args.findings.now) (found_in c.loop-number.findings) c.args.parameters.now
          c.args.arguments.now c.loop-number.number (drop_all c.loop-number.number c.args.arguments.now c.loop-number-test.false) c.loop-number.invariant.walk;
      variables = c.loop-number.invariant.walk.stays.variables;
      grows = c.loop-number.invariant.walk.stays.grows;
      known = c.loop-number.invariant.known;
      keeps = c.loop-number.invariant.walk.stays.keeps;
    }

pub in_arguments-loop-number-preserved : goal.in_arguments-loop-number-preserved
in_arguments-loop-number-preserved t c =
    let n : ℕ = c.loop-number.number in
    let id : ExprId = get_or c.args.arguments.now n (record { at = 0 }) in
    let e = c.in_ok-state.ensures in
    record {
      walk = arguments_more c.args.self.now.sound c.args.auto.now c.loop-number.auto' c.in_expression.new.auto c.args.variables.now c.loop-number.variables c.in_expression.new.variables c.args.store.now c.loop-number.store c.in_expression.new.store
          c.see_argument.new.store (found_in c.args.findings.now) (found_in c.loop-number.findings) (found_in c.in_expression.new.findings) (found_in c.see_argument.new.findings) c.args.parameters.now c.args.arguments.now n id c.in_ok-state.state c.requires.variables
          c.loop-number.invariant.walk c.loop-number-test.true (get_or_default c.args.arguments.now n (record { at = 0 }) id c.loop-number-test.true) e.walked e.variables e.grows e.keeps
          (subst (λ o. AddsLines c.see_argument.new.store (LinesOfArgument c.in_expression.new.auto (place_of_expression (expr_at c.args.self.now.sound id.at)) c.in_ok-state.state o) c.in_expression.new.findings.lines.items c.see_argument.new.findings.lines.items) c.parameter_state-wanted.ensures
          c.in_ok-see_argument.ensures.lines) c.in_ok-see_argument.ensures.met c.in_ok-see_argument.ensures.keeps;
      known = c.in_ok-see_argument.ensures.known;
    }

pub in_expression-in_clauses-requires : goal.in_expression-in_clauses-requires
in_expression-in_clauses-requires t c =
    let p : ProgramTable = c.args.self.now.sound in
    let e : c.exprs.result.now ≡ p.exprs = c.exprs.ensures.exprs ∙ ap (λ (q : ProgramTable). q.exprs) c.program.ensures.program in
    let n = c.node-node.result.now in
    let cs : List (ℕ × ℕ) = clause_numbers c.deref-in-Match.result.now in
    let m : ℕ = length p.patterns in
    let form = sym c.form.ensures ∙ ap shape_of c.in-Match.is ∙ ap (λ (ks : List Clause). match_shape c.in-Match.scrutinee.at (clause_numbers ks)) (sym c.deref-in-Match.ensures.value) in
    let tree = expr_is p c.exprs.result.now c.args.id n.place n.form (match_shape c.in-Match.scrutinee.at cs) e (c.node-node.ensures.expression p.patterns) form in
    let older : (c.in-Match.scrutinee.at < c.args.id.at) × AllByRecursion (λ (k : ℕ × ℕ). k.1 < c.args.id.at) cs = subst (ExprPartsBelow c.args.id.at) form c.node-node.ensures.parts in
    let stands : PatternsBelong m c.exprs.result.now = subst (λ (q : ProgramTable). PatternsBelong (length q.patterns) c.exprs.result.now) c.program.ensures.program
    (subst (PatternsBelong (length c.program.result.now.patterns)) (sym c.exprs.ensures.exprs) c.exprs.ensures.stands.clauses) in
    let patterns : AllByRecursion (λ (k : ℕ × ℕ). k.0 < m) cs = subst (ShapePatternsBelong m) form (c.node-node.ensures.clauses m stands) in
    let top = ceiling_within c.args.id.at (bodies cs) (bodies_below c.args.id.at cs older.1) in
    let fallen : 4 * ceiling (bodies cs) + 2 < t = omega arith in
    let v = c.in_ok-state-in-Match.ensures in (
      fallen,
      (
        ready_kept c.args.self.now c.args.auto.now c.in_expression-in-Match.new.auto v.grows c.requires.ready,
        (
          walk_clauses p c.args.id.at c.in-Match.scrutinee.at n.place cs c.requires.expression tree patterns older.1,
          (v.belongs, (states_again c.args.auto.now c.in_expression-in-Match.new.auto v.grows c.args.variables.now c.in_expression-in-Match.new.variables v.variables c.requires.variables, v.known)),
        ),
      ),
    )

pub in_expression-returns-in_ok-in_clauses-in-Match : goal.in_expression-returns-in_ok-in_clauses-in-Match
in_expression-returns-in_ok-in_clauses-in-Match t c =
    record {
      belongs = c.in_ok-in_clauses-in-Match.ensures.belongs;
      walked = λ S stands.
          let p : ProgramTable = c.args.self.now.sound in
          let P : ProgramTree = program_tree p in
          let e : c.exprs.result.now ≡ p.exprs = c.exprs.ensures.exprs ∙ ap (λ (q : ProgramTable). q.exprs) c.program.ensures.program in
          let n = c.node-node.result.now in
          let cs : List (ℕ × ℕ) = clause_numbers c.deref-in-Match.result.now in
          let form = sym c.form.ensures ∙ ap shape_of c.in-Match.is ∙ ap (λ (ks : List Clause). match_shape c.in-Match.scrutinee.at (clause_numbers ks)) (sym c.deref-in-Match.ensures.value) in
          let x : Expression = expr_at p c.in-Match.scrutinee.at in
          let ks : Clauses = clauses_of (placed_at p.patterns) (expr_at p) cs in
          let tree : expr_at p c.args.id.at ≡ Matched c.place-place.result x ks = expr_is p c.exprs.result.now c.args.id n.place n.form (match_shape c.in-Match.scrutinee.at cs) e (c.node-node.ensures.expression p.patterns) form
          ∙ ap (λ q. Matched q x ks) (sym c.place-place.ensures) in
          let v = c.in_ok-state-in-Match.ensures in
          let w = v.walked S stands in
          let a1 = c.in_expression-in-Match.new.auto in
          let there : ScopeStands P S a1 c.in_expression-in-Match.new.variables = subst (ScopeStands P S a1) (sym v.variables) (scope_kept P S c.args.auto.now a1 v.grows c.args.variables.now c.requires.variables stands) in
          let comes = comes_first P S x a1 c.in_ok-state-in-Match.state (Accepted a1 c.in_ok-state-in-Match.state) w.may (λ d. ((λ m. m), (λ m. m))) in
          let x0 : MetMatch = record { expr = c.args.id; place = c.place-place.result; state = c.in_ok-state-in-Match.state } in
          let none : c.replace-earlier.new.dest.items ≡ [] = ap (λ (v : Vec MetMatch Global). v.items) c.replace-earlier.ensures.after ∙ c.new.ensures.items in
          let after : c.meet_before.new.inside.items ≡ c.args.findings.now.met.items ++ x0 ∷ c.in_expression-in-Match.new.findings.met.items = c.in_ok-meet_before-in-Match.ensures ∙ ap (λ (v : Vec MetMatch Global). v.items ++ x0 ∷ c.in_expression-in-Match.new.findings.met.items) c.replace-earlier.ensures.value in
          subst (λ y. IsWalked p S y c.in_clauses.new.auto c.in_clauses.new.store (found_in c.args.findings.now) (found_in c.in_clauses.new.findings) c.in_ok-in_clauses-in-Match.field-0) (sym tree)
          (walked_matched p S c.place-place.result x ks x0 a1 c.in_clauses.new.auto c.in_expression-in-Match.new.store c.in_clauses.new.store c.args.findings.now.lines.items c.replace-earlier.new.dest.items c.args.findings.now.met.items c.meet_before.new.inside.items
          (found_in c.in_expression-in-Match.new.findings) (found_in c.in_clauses.new.findings) c.in_ok-state-in-Match.state c.in_ok-in_clauses-in-Match.field-0 c.in_ok-in_clauses-in-Match.ensures.grows c.in_clauses.ensures.keeps none after (record { match = tree; walkable = c.requires.expression; place = refl; belongs = v.belongs; exact = w.may }) w
          (c.in_ok-in_clauses-in-Match.ensures.walked S x there comes));
      variables = c.in_ok-in_clauses-in-Match.ensures.variables ∙ c.in_ok-state-in-Match.ensures.variables;
      grows = grows_then c.args.auto.now c.in_expression-in-Match.new.auto c.in_clauses.new.auto c.in_ok-state-in-Match.ensures.grows c.in_ok-in_clauses-in-Match.ensures.grows;
      known = c.in_ok-in_clauses-in-Match.ensures.known;
      keeps = Keeps-trans c.args.store.now c.in_expression-in-Match.new.store c.in_clauses.new.store c.in_ok-state-in-Match.ensures.keeps c.in_clauses.ensures.keeps;
    }

pub in_call-returns-in_ok-add_state-in-None : goal.in_call-returns-in_ok-add_state-in-None
in_call-returns-in_ok-add_state-in-None t c =
    record {
      belongs = c.in_ok-add_state-in-None.ensures.belongs;
      result = λ d.
          let P : ProgramTree = program_tree c.args.self.now.sound in
          let named = c.requires.ready.signatures.named c.args.word.now in
          let none = signed_none (names_of P) c.args.auto.now (function_of P.functions c.args.word.now) (signature_of c.args.self.now.signatures c.args.word.now) c.in-None.ensures named in
          let ok = c.in_ok-add_state-in-None.ensures.ok in
          subst (λ o. (accepts c.add_state.new.self d c.in_ok-add_state-in-None.field-0 ≡ true) ↔ FitsResult (names_of P) o d) (sym none)
          ((λ m. never c.add_state.new.self c.in_ok-add_state-in-None.field-0 (new_moves c.in_arguments-in-None.new.auto c.add_state.new.self c.in_ok-add_state-in-None.field-0 false ok.0 ok.1) d m), (λ m. absurd m));
      found = λ S stands.
          let P : ProgramTree = program_tree c.args.self.now.sound in
          let named = c.requires.ready.signatures.named c.args.word.now in
          let none = signed_none (names_of P) c.args.auto.now (function_of P.functions c.args.word.now) (signature_of c.args.self.now.signatures c.args.word.now) c.in-None.ensures named in
          let e = c.in_ok-add_state-in-None.ensures in
          adds_kept (record { extends = e.extends; keeps = e.keeps }) (Keeps-same c.in_arguments-in-None.new.store) (SeenInArguments P S (parameters_of (function_of P.functions c.args.word.now)) (arguments_of (map (expr_at c.args.self.now.sound) (expr_numbers c.args.arguments.now))))
          (c.in_ok-in_arguments-in-None.ensures.found S (parameters_of (function_of P.functions c.args.word.now)) stands
          (subst (λ o. AreParameters (names_of P) c.args.auto.now (parameters_of o) []) (sym none) tt));
      variables = c.in_ok-in_arguments-in-None.ensures.variables;
      grows =
          let e = c.in_ok-add_state-in-None.ensures in
          grows_then c.args.auto.now c.in_arguments-in-None.new.auto c.add_state.new.self c.in_ok-in_arguments-in-None.ensures.grows (record { extends = e.extends; keeps = e.keeps });
      known =
          let e = c.in_ok-add_state-in-None.ensures in
          known_kept c.in_arguments-in-None.new.auto c.add_state.new.self c.in_arguments-in-None.new.store c.in_arguments-in-None.new.store c.in_arguments-in-None.new.findings.known (record { extends = e.extends; keeps = e.keeps })
          (Keeps-same c.in_arguments-in-None.new.store) c.in_ok-in_arguments-in-None.ensures.known;
      keeps = c.in_arguments-in-None.ensures.keeps;
    }

pub in_match-see_uncovered-requires : goal.in_match-see_uncovered-requires
in_match-see_uncovered-requires t c =
    let f = c.in_ok-left.ensures in
    record {
      arriving = f.belongs;
      known = known_kept c.loop-number.auto' c.left_over.new.auto c.loop-number.store c.loop-number.store c.loop-number.findings.known (record { extends = f.extends; keeps = f.accepting }) (Keeps-same c.loop-number.store) c.loop-number.invariant.known;
    }

pub in_match-unite_states-requires : goal.in_match-unite_states-requires
in_match-unite_states-requires t c =
    let f = c.in_ok-left.ensures in
    all_as (IsState c.loop-number.auto') (IsState c.left_over.new.auto) (λ s h. (f.extends).states s h) c.loop-number.states.items c.loop-number.invariant.walk.there

pub in_clause-bindings-requires : goal.in_clause-bindings-requires
in_clause-bindings-requires t c = record { pattern = some_numbered _ _ _ _ c.requires.pattern; serve = c.requires.points; arriving = c.requires.arriving; known = c.requires.known.inhabitants }

pub in_clause-pattern_place-requires : goal.in_clause-pattern_place-requires
in_clause-pattern_place-requires t c = c.requires.clause.there

pub in_clause-returns-in_default : goal.in_clause-returns-in_default
in_clause-returns-in_default t c =
    record {
      belongs = tt;
      walked = λ S e earlier stands comes.
          let p : ProgramTable = c.args.self.now.sound in
          let P : ProgramTree = program_tree p in
          let Q : PlacedTree = placed_at p.patterns c.args.clause.clause.pattern.at in
          let C = Accepted c.args.auto.now c.args.arriving in
          let made : IsNumbered (names_of P) (unplaced Q) c.args.clause.pattern.patterns.now c.args.clause.pattern.number = subst (λ T. IsNumbered (names_of P) T c.args.clause.pattern.patterns.now c.args.clause.pattern.number) (sym (unplaced_at p.patterns c.args.clause.clause.pattern.at)) c.requires.pattern in
          let dead : IsLiveIn P S e earlier Q → ⊥ = λ l. c.in_ok-found.ensures.dead (ap (λ o. Ok o) c.in_default.is) (names_of P) Q made (live_to P S e earlier C Q comes l) in
          clause_dead p S e earlier Q (expr_at p c.args.clause.clause.body.at) c.bindings.new.auto c.bindings.new.store (found_in c.args.findings.now) (record { lines = c.push.new.self.items; met = c.args.findings.now.met.items }) dead
          (record {
            more = record { place = c.pattern_place.result; finding = DeadClause } ∷ [];
            grown = c.in_ok-push.ensures.items;
            belong = (tt, tt);
            meet = ap (λ (q : Place). record { place = q; kind = dead_clause; document = None } ∷ []) c.pattern_place.ensures;
          }) refl;
      variables = refl;
      grows = record { extends = c.in_ok-found.ensures.extends; keeps = c.in_ok-found.ensures.accepting };
      known =
          let f = c.in_ok-found.ensures in
          known_learnt c.args.auto.now c.bindings.new.auto c.args.store.now c.bindings.new.store c.args.findings.now.known c.bindings.new.known (record { extends = f.extends; keeps = f.accepting }) f.keeps c.requires.known f.known;
      keeps = c.in_ok-found.ensures.keeps;
    }

pub in_clause-in_expression-requires : goal.in_clause-in_expression-requires
in_clause-in_expression-requires t c =
    let p : ProgramTable = c.args.self.now.sound in
    let P : ProgramTree = program_tree p in
    let Q : PlacedTree = placed_at p.patterns c.args.clause.clause.pattern.at in
    let C = Accepted c.args.auto.now c.args.arriving in
    let made : IsNumbered (names_of P) (unplaced Q) c.args.clause.pattern.patterns.now c.args.clause.pattern.number = subst (λ T. IsNumbered (names_of P) T c.args.clause.pattern.patterns.now c.args.clause.pattern.number) (sym (unplaced_at p.patterns c.args.clause.clause.pattern.at)) c.requires.pattern in
    let f = c.in_ok-found.ensures in
    let grows : Grows c.args.auto.now c.bindings.new.auto = record { extends = f.extends; keeps = f.accepting } in
    let gs = c.in-Some.givens.items in
    let bound : AreMayGivens (names_of P) C [] Q c.bindings.new.auto gs = some_holds (λ hs. (D : Definitions) (R : PlacedTree) → IsNumbered D (unplaced R) c.args.clause.pattern.patterns.now c.args.clause.pattern.number → AreMayGivens D C [] R c.bindings.new.auto hs.items) c.in_ok-found.found c.in-Some.givens c.in-Some.is f.bindings (names_of P) Q made in
    let fallen : 4 * c.args.clause.clause.body.at + 3 < t = omega arith in (
      fallen,
      (
        ready_kept c.args.self.now c.args.auto.now c.bindings.new.auto grows c.requires.ready,
        (
          c.requires.clause.body,
          (
            clause_states (names_of P) C Q c.args.auto.now c.bindings.new.auto c.args.variables.now c.bring_in.new.variables gs grows c.requires.variables bound c.in_ok-bring_in.ensures,
            known_learnt c.args.auto.now c.bindings.new.auto c.args.store.now c.bindings.new.store c.args.findings.now.known c.bindings.new.known grows f.keeps c.requires.known f.known,
          ),
        ),
      ),
    )

pub in_clause-returns : goal.in_clause-returns
in_clause-returns t c =
    record {
      belongs = c.in_ok-state.ensures.belongs;
      walked = λ S e earlier stands comes.
          let p : ProgramTable = c.args.self.now.sound in
          let P : ProgramTree = program_tree p in
          let Q : PlacedTree = placed_at p.patterns c.args.clause.clause.pattern.at in
          let C = Accepted c.args.auto.now c.args.arriving in
          let made : IsNumbered (names_of P) (unplaced Q) c.args.clause.pattern.patterns.now c.args.clause.pattern.number = subst (λ T. IsNumbered (names_of P) T c.args.clause.pattern.patterns.now c.args.clause.pattern.number) (sym (unplaced_at p.patterns c.args.clause.clause.pattern.at)) c.requires.pattern in
          let f = c.in_ok-found.ensures in
          let grows : Grows c.args.auto.now c.bindings.new.auto = record { extends = f.extends; keeps = f.accepting } in
          let gs = c.in-Some.givens.items in
          let bound : AreMayGivens (names_of P) C [] Q c.bindings.new.auto gs = some_holds (λ hs. (D : Definitions) (R : PlacedTree) → IsNumbered D (unplaced R) c.args.clause.pattern.patterns.now c.args.clause.pattern.number → AreMayGivens D C [] R c.bindings.new.auto hs.items) c.in_ok-found.found c.in-Some.givens c.in-Some.is f.bindings (names_of P) Q made in
          let live : IsLiveIn P S e earlier Q = live_from P S e earlier C Q comes (some_holds (λ hs. (D : Definitions) (R : PlacedTree) → IsNumbered D (unplaced R) c.args.clause.pattern.patterns.now c.args.clause.pattern.number → IsLive D C [] R) c.in_ok-found.found c.in-Some.givens c.in-Some.is f.live (names_of P) Q made) in
          let inside = clause_scope P S e earlier C Q comes c.args.auto.now c.bindings.new.auto c.args.variables.now c.bring_in.new.variables gs grows c.requires.variables stands bound c.in_ok-bring_in.ensures in
          clause_live p S e earlier Q (expr_at p c.args.clause.clause.body.at) c.in_expression.new.auto c.in_expression.new.store (found_in c.args.findings.now) (found_in c.in_expression.new.findings) c.in_ok-state.state live
          (c.in_ok-state.ensures.walked (clause_entry e earlier Q ∷ S) inside);
      variables =
          let same : c.in_expression.new.variables ≡ c.bring_in.new.variables = c.in_ok-state.ensures.variables in
          clause_left c.args.variables.now c.bring_in.new.variables c.truncate.new.self c.len-before.result c.in-Some.givens.items c.in_ok-bring_in.ensures c.len-before.ensures
          (c.truncate.ensures ∙ ap (λ (vs : List Variable). drop (length vs - c.len-before.result) vs) same);
      grows =
          let f = c.in_ok-found.ensures in
          grows_then c.args.auto.now c.bindings.new.auto c.in_expression.new.auto (record { extends = f.extends; keeps = f.accepting }) c.in_ok-state.ensures.grows;
      known = c.in_ok-state.ensures.known;
      keeps = Keeps-trans c.args.store.now c.bindings.new.store c.in_expression.new.store c.in_ok-found.ensures.keeps c.in_ok-state.ensures.keeps;
    }

pub in_call-in_arguments-requires : goal.in_call-in_arguments-requires
in_call-in_arguments-requires t c =
    let P : ProgramTree = program_tree c.args.self.now.sound in
    let named = c.requires.ready.signatures.named c.args.word.now in
    let g = signed_some (names_of P) c.args.auto.now (function_of P.functions c.args.word.now) (signature_of c.args.self.now.signatures c.args.word.now) c.in-Some.signature.now c.in-Some.ensures named in
    let fallen : 4 * ceiling (expr_numbers c.args.arguments.now) + 1 < t = omega arith in
    (fallen, (c.requires.ready, (c.requires.arguments, (subst (AllByRecursion (IsState c.args.auto.now)) (sym c.deref.ensures.value) (parameter_states (names_of P) c.args.auto.now (parameters_of (function_of P.functions c.args.word.now)) c.in-Some.signature.now.parameters.items g.0), (c.requires.variables, c.requires.known)))))

pub in_call-in_arguments-requires-in-None : goal.in_call-in_arguments-requires-in-None
in_call-in_arguments-requires-in-None t c =
    let fallen : 4 * ceiling (expr_numbers c.args.arguments.now) + 1 < t = omega arith in
    (fallen, (c.requires.ready, (c.requires.arguments, (tt, (c.requires.variables, c.requires.known)))))

pub in_call-returns-in_ok-in_arguments-in-Some : goal.in_call-returns-in_ok-in_arguments-in-Some
in_call-returns-in_ok-in_arguments-in-Some t c =
    record {
      belongs =
          let P : ProgramTree = program_tree c.args.self.now.sound in
          let named = c.requires.ready.signatures.named c.args.word.now in
          let g = signed_some (names_of P) c.args.auto.now (function_of P.functions c.args.word.now) (signature_of c.args.self.now.signatures c.args.word.now) c.in-Some.signature.now c.in-Some.ensures named in
          let grows = c.in_ok-in_arguments-in-Some.ensures.grows in
          (grows.extends).states c.in-Some.signature.now.declared g.1;
      result = λ d.
          let P : ProgramTree = program_tree c.args.self.now.sound in
          let named = c.requires.ready.signatures.named c.args.word.now in
          let g = signed_some (names_of P) c.args.auto.now (function_of P.functions c.args.word.now) (signature_of c.args.self.now.signatures c.args.word.now) c.in-Some.signature.now c.in-Some.ensures named in
          let grows = c.in_ok-in_arguments-in-Some.ensures.grows in
          let same : accepts c.in_arguments.new.auto d c.in-Some.signature.now.declared ≡ accepts c.args.auto.now d c.in-Some.signature.now.declared = grows.keeps d c.in-Some.signature.now.declared g.1 in
          ((λ m. (g.2 d).0 (sym same ∙ m)), (λ m. same ∙ (g.2 d).1 m));
      found = λ S stands.
          let P : ProgramTree = program_tree c.args.self.now.sound in
          let named = c.requires.ready.signatures.named c.args.word.now in
          let g = signed_some (names_of P) c.args.auto.now (function_of P.functions c.args.word.now) (signature_of c.args.self.now.signatures c.args.word.now) c.in-Some.signature.now c.in-Some.ensures named in
          c.in_ok-in_arguments-in-Some.ensures.found S (parameters_of (function_of P.functions c.args.word.now)) stands
          (subst (AreParameters (names_of P) c.args.auto.now (parameters_of (function_of P.functions c.args.word.now))) (sym c.deref.ensures.value) g.0);
      variables = c.in_ok-in_arguments-in-Some.ensures.variables;
      grows = c.in_ok-in_arguments-in-Some.ensures.grows;
      known = c.in_ok-in_arguments-in-Some.ensures.known;
      keeps = c.in_arguments.ensures.keeps;
    }

pub in_expression-returns-in_err-in_clauses-in-Match : goal.in_expression-returns-in_err-in_clauses-in-Match
in_expression-returns-in_err-in_clauses-in-Match t c =
    let e = c.from_residual-in_err-in_clauses-in-Match.ensures.0 in
    let r = c.from_residual-in_err-in_clauses-in-Match.result in
    record { belongs = IfOk-from_err r _ e; walked = IfOk-from_err r _ e; variables = IfOk-from_err r _ e; grows = IfOk-from_err r _ e; known = IfOk-from_err r _ e; keeps = Keeps-trans c.args.store.now c.in_expression-in-Match.new.store c.in_clauses.new.store c.in_ok-state-in-Match.ensures.keeps c.in_clauses.ensures.keeps }

pub in_clause-returns-in_err-state : goal.in_clause-returns-in_err-state
in_clause-returns-in_err-state t c =
    let e = c.from_residual-in_err-state.ensures.0 in
    let r = c.from_residual-in_err-state.result in
    record { belongs = IfOk-from_err r _ e; walked = IfOk-from_err r _ e; variables = IfOk-from_err r _ e; grows = IfOk-from_err r _ e; known = IfOk-from_err r _ e; keeps = Keeps-trans c.args.store.now c.bindings.new.store c.in_expression.new.store c.in_ok-found.ensures.keeps c.in_expression.ensures.keeps }

pub in_parts-returns-in_err-state : goal.in_parts-returns-in_err-state
in_parts-returns-in_err-state t c =
    let e = c.from_residual.ensures.0 in
    let r = c.from_residual.result in
    record { belong = IfOk-from_err r _ e; walked = IfOk-from_err r _ e; variables = IfOk-from_err r _ e; grows = IfOk-from_err r _ e; known = IfOk-from_err r _ e; keeps = Keeps-trans c.args.store.now c.loop-part.store c.in_expression.new.store c.loop-part.invariant.walk.stays.keeps c.in_expression.ensures.keeps }

pub in_parts-returns-in_err-push : goal.in_parts-returns-in_err-push
in_parts-returns-in_err-push t c =
    let e = c.from_residual-in_err-push.ensures.0 in
    let r = c.from_residual-in_err-push.result in
    record { belong = IfOk-from_err r _ e; walked = IfOk-from_err r _ e; variables = IfOk-from_err r _ e; grows = IfOk-from_err r _ e; known = IfOk-from_err r _ e; keeps = Keeps-trans c.args.store.now c.loop-part.store c.in_expression.new.store c.loop-part.invariant.walk.stays.keeps c.in_expression.ensures.keeps }

pub in_arguments-returns-in_err-state : goal.in_arguments-returns-in_err-state
in_arguments-returns-in_err-state t c =
    let e = c.from_residual.ensures.0 in
    let r = c.from_residual.result in
    record { found = IfOk-from_err r _ e; variables = IfOk-from_err r _ e; grows = IfOk-from_err r _ e; known = IfOk-from_err r _ e; keeps = Keeps-trans c.args.store.now c.loop-number.store c.in_expression.new.store c.loop-number.invariant.walk.stays.keeps c.in_expression.ensures.keeps }

pub in_match-returns-in_err-found : goal.in_match-returns-in_err-found
in_match-returns-in_err-found t c =
    let e = c.from_residual-in_err-found.ensures.0 in
    let r = c.from_residual-in_err-found.result in
    record { belongs = IfOk-from_err r _ e; walked = IfOk-from_err r _ e; variables = IfOk-from_err r _ e; grows = IfOk-from_err r _ e; known = IfOk-from_err r _ e; keeps = Keeps-trans c.args.store.now c.loop-number.store c.in_clause.new.store c.loop-number.invariant.walk.stays.keeps c.in_clause.ensures.keeps }

pub in_match-returns-in_err-remaining : goal.in_match-returns-in_err-remaining
in_match-returns-in_err-remaining t c =
    let e = c.from_residual.ensures.0 in
    let r = c.from_residual.result in
    record { belongs = IfOk-from_err r _ e; walked = IfOk-from_err r _ e; variables = IfOk-from_err r _ e; grows = IfOk-from_err r _ e; known = IfOk-from_err r _ e; keeps = Keeps-same c.args.store.now }

pub in_match-returns-in_err-coming : goal.in_match-returns-in_err-coming
in_match-returns-in_err-coming t c =
    let e = c.from_residual-in_err-coming.ensures.0 in
    let r = c.from_residual-in_err-coming.result in
    record { belongs = IfOk-from_err r _ e; walked = IfOk-from_err r _ e; variables = IfOk-from_err r _ e; grows = IfOk-from_err r _ e; known = IfOk-from_err r _ e; keeps = c.loop-number.invariant.walk.stays.keeps }

pub in_match-returns-in_err-remaining-2 : goal.in_match-returns-in_err-remaining-2
in_match-returns-in_err-remaining-2 t c =
    let e = c.from_residual-in_err-remaining-2.ensures.0 in
    let r = c.from_residual-in_err-remaining-2.result in
    record { belongs = IfOk-from_err r _ e; walked = IfOk-from_err r _ e; variables = IfOk-from_err r _ e; grows = IfOk-from_err r _ e; known = IfOk-from_err r _ e; keeps = Keeps-trans c.args.store.now c.loop-number.store c.in_clause.new.store c.loop-number.invariant.walk.stays.keeps c.in_clause.ensures.keeps }

pub in_match-returns-in_err-left : goal.in_match-returns-in_err-left
in_match-returns-in_err-left t c =
    let e = c.from_residual-in_err-left.ensures.0 in
    let r = c.from_residual-in_err-left.result in
    record { belongs = IfOk-from_err r _ e; walked = IfOk-from_err r _ e; variables = IfOk-from_err r _ e; grows = IfOk-from_err r _ e; known = IfOk-from_err r _ e; keeps = c.loop-number.invariant.walk.stays.keeps }

pub in_match-returns-in_err-see_uncovered : goal.in_match-returns-in_err-see_uncovered
in_match-returns-in_err-see_uncovered t c =
    let e = c.from_residual-in_err-see_uncovered.ensures.0 in
    let r = c.from_residual-in_err-see_uncovered.result in
    record { belongs = IfOk-from_err r _ e; walked = IfOk-from_err r _ e; variables = IfOk-from_err r _ e; grows = IfOk-from_err r _ e; known = IfOk-from_err r _ e; keeps = Keeps-trans c.args.store.now c.loop-number.store c.see_uncovered.new.store c.loop-number.invariant.walk.stays.keeps c.see_uncovered.ensures.keeps }

pub in_match-returns-in_err-unite_states : goal.in_match-returns-in_err-unite_states
in_match-returns-in_err-unite_states t c =
    let e = c.from_residual-in_err-unite_states.ensures.0 in
    let r = c.from_residual-in_err-unite_states.result in
    record { belongs = IfOk-from_err r _ e; walked = IfOk-from_err r _ e; variables = IfOk-from_err r _ e; grows = IfOk-from_err r _ e; known = IfOk-from_err r _ e; keeps = Keeps-trans c.args.store.now c.loop-number.store c.see_uncovered.new.store c.loop-number.invariant.walk.stays.keeps c.see_uncovered.ensures.keeps }

pub in_arguments-returns-in_err-see_argument : goal.in_arguments-returns-in_err-see_argument
in_arguments-returns-in_err-see_argument t c =
    let e = c.from_residual-in_err-see_argument.ensures.0 in
    let r = c.from_residual-in_err-see_argument.result in
    record { found = IfOk-from_err r _ e; variables = IfOk-from_err r _ e; grows = IfOk-from_err r _ e; known = IfOk-from_err r _ e; keeps = Keeps-trans c.args.store.now c.loop-number.store c.see_argument.new.store c.loop-number.invariant.walk.stays.keeps (Keeps-trans c.loop-number.store c.in_expression.new.store c.see_argument.new.store c.in_expression.ensures.keeps c.see_argument.ensures.keeps) }

pub in_expression-returns-in_err-add_state-in-Empty : goal.in_expression-returns-in_err-add_state-in-Empty
in_expression-returns-in_err-add_state-in-Empty t c =
    let e = c.from_residual.ensures.0 in
    let r = c.from_residual.result in
    record { belongs = IfOk-from_err r _ e; walked = IfOk-from_err r _ e; variables = IfOk-from_err r _ e; grows = IfOk-from_err r _ e; known = IfOk-from_err r _ e; keeps = Keeps-same c.args.store.now }

pub in_expression-returns-in_err-text_state-in-Text : goal.in_expression-returns-in_err-text_state-in-Text
in_expression-returns-in_err-text_state-in-Text t c =
    let e = c.from_residual-in_err-text_state-in-Text.ensures.0 in
    let r = c.from_residual-in_err-text_state-in-Text.result in
    record { belongs = IfOk-from_err r _ e; walked = IfOk-from_err r _ e; variables = IfOk-from_err r _ e; grows = IfOk-from_err r _ e; known = IfOk-from_err r _ e; keeps = Keeps-same c.args.store.now }

pub in_expression-returns-in_err-variable_state-in-Var : goal.in_expression-returns-in_err-variable_state-in-Var
in_expression-returns-in_err-variable_state-in-Var t c =
    let e = c.from_residual-in_err-variable_state-in-Var.ensures.0 in
    let r = c.from_residual-in_err-variable_state-in-Var.result in
    record { belongs = IfOk-from_err r _ e; walked = IfOk-from_err r _ e; variables = IfOk-from_err r _ e; grows = IfOk-from_err r _ e; known = IfOk-from_err r _ e; keeps = Keeps-same c.args.store.now }

pub in_expression-returns-in_err-inside-in-Elem : goal.in_expression-returns-in_err-inside-in-Elem
in_expression-returns-in_err-inside-in-Elem t c =
    let e = c.from_residual-in_err-inside-in-Elem.ensures.0 in
    let r = c.from_residual-in_err-inside-in-Elem.result in
    record { belongs = IfOk-from_err r _ e; walked = IfOk-from_err r _ e; variables = IfOk-from_err r _ e; grows = IfOk-from_err r _ e; known = IfOk-from_err r _ e; keeps = c.in_expression.ensures.keeps }

pub in_expression-returns-in_err-wrap-in-Elem : goal.in_expression-returns-in_err-wrap-in-Elem
in_expression-returns-in_err-wrap-in-Elem t c =
    let e = c.from_residual-in_err-wrap-in-Elem.ensures.0 in
    let r = c.from_residual-in_err-wrap-in-Elem.result in
    record { belongs = IfOk-from_err r _ e; walked = IfOk-from_err r _ e; variables = IfOk-from_err r _ e; grows = IfOk-from_err r _ e; known = IfOk-from_err r _ e; keeps = c.in_expression.ensures.keeps }

pub in_expression-returns-in_err-states-in-Seq : goal.in_expression-returns-in_err-states-in-Seq
in_expression-returns-in_err-states-in-Seq t c =
    let e = c.from_residual-in_err-states-in-Seq.ensures.0 in
    let r = c.from_residual-in_err-states-in-Seq.result in
    record { belongs = IfOk-from_err r _ e; walked = IfOk-from_err r _ e; variables = IfOk-from_err r _ e; grows = IfOk-from_err r _ e; known = IfOk-from_err r _ e; keeps = c.in_parts.ensures.keeps }

pub in_expression-returns-in_err-join_states-in-Seq : goal.in_expression-returns-in_err-join_states-in-Seq
in_expression-returns-in_err-join_states-in-Seq t c =
    let e = c.from_residual-in_err-join_states-in-Seq.ensures.0 in
    let r = c.from_residual-in_err-join_states-in-Seq.result in
    record { belongs = IfOk-from_err r _ e; walked = IfOk-from_err r _ e; variables = IfOk-from_err r _ e; grows = IfOk-from_err r _ e; known = IfOk-from_err r _ e; keeps = c.in_parts.ensures.keeps }

pub in_expression-returns-in_err-in_call-in-Call : goal.in_expression-returns-in_err-in_call-in-Call
in_expression-returns-in_err-in_call-in-Call t c =
    let e = c.from_residual-in_err-in_call-in-Call.ensures.0 in
    let r = c.from_residual-in_err-in_call-in-Call.result in
    record { belongs = IfOk-from_err r _ e; walked = IfOk-from_err r _ e; variables = IfOk-from_err r _ e; grows = IfOk-from_err r _ e; known = IfOk-from_err r _ e; keeps = c.in_call.ensures.keeps }

pub in_expression-returns-in_err-state-in-Match : goal.in_expression-returns-in_err-state-in-Match
in_expression-returns-in_err-state-in-Match t c =
    let e = c.from_residual-in_err-state-in-Match.ensures.0 in
    let r = c.from_residual-in_err-state-in-Match.result in
    record { belongs = IfOk-from_err r _ e; walked = IfOk-from_err r _ e; variables = IfOk-from_err r _ e; grows = IfOk-from_err r _ e; known = IfOk-from_err r _ e; keeps = c.in_expression-in-Match.ensures.keeps }

pub in_clause-returns-in_err-found : goal.in_clause-returns-in_err-found
in_clause-returns-in_err-found t c =
    let e = c.from_residual.ensures.0 in
    let r = c.from_residual.result in
    record { belongs = IfOk-from_err r _ e; walked = IfOk-from_err r _ e; variables = IfOk-from_err r _ e; grows = IfOk-from_err r _ e; known = IfOk-from_err r _ e; keeps = c.bindings.ensures.keeps }

pub in_clause-returns-in_err-push : goal.in_clause-returns-in_err-push
in_clause-returns-in_err-push t c =
    let e = c.from_residual-in_err-push.ensures.0 in
    let r = c.from_residual-in_err-push.result in
    record { belongs = IfOk-from_err r _ e; walked = IfOk-from_err r _ e; variables = IfOk-from_err r _ e; grows = IfOk-from_err r _ e; known = IfOk-from_err r _ e; keeps = c.bindings.ensures.keeps }

pub in_clause-returns-in_err-bring_in : goal.in_clause-returns-in_err-bring_in
in_clause-returns-in_err-bring_in t c =
    let e = c.from_residual-in_err-bring_in.ensures.0 in
    let r = c.from_residual-in_err-bring_in.result in
    record { belongs = IfOk-from_err r _ e; walked = IfOk-from_err r _ e; variables = IfOk-from_err r _ e; grows = IfOk-from_err r _ e; known = IfOk-from_err r _ e; keeps = c.bindings.ensures.keeps }

pub in_call-returns-in_err-in_arguments-in-Some : goal.in_call-returns-in_err-in_arguments-in-Some
in_call-returns-in_err-in_arguments-in-Some t c =
    let e = c.from_residual.ensures.0 in
    let r = c.from_residual.result in
    record { belongs = IfOk-from_err r _ e; result = IfOk-from_err r _ e; found = IfOk-from_err r _ e; variables = IfOk-from_err r _ e; grows = IfOk-from_err r _ e; known = IfOk-from_err r _ e; keeps = c.in_arguments.ensures.keeps }

pub in_call-returns-in_err-in_arguments-in-None : goal.in_call-returns-in_err-in_arguments-in-None
in_call-returns-in_err-in_arguments-in-None t c =
    let e = c.from_residual-in_err-in_arguments-in-None.ensures.0 in
    let r = c.from_residual-in_err-in_arguments-in-None.result in
    record { belongs = IfOk-from_err r _ e; result = IfOk-from_err r _ e; found = IfOk-from_err r _ e; variables = IfOk-from_err r _ e; grows = IfOk-from_err r _ e; known = IfOk-from_err r _ e; keeps = c.in_arguments-in-None.ensures.keeps }

pub in_call-returns-in_err-add_state-in-None : goal.in_call-returns-in_err-add_state-in-None
in_call-returns-in_err-add_state-in-None t c =
    let e = c.from_residual-in_err-add_state-in-None.ensures.0 in
    let r = c.from_residual-in_err-add_state-in-None.result in
    record { belongs = IfOk-from_err r _ e; result = IfOk-from_err r _ e; found = IfOk-from_err r _ e; variables = IfOk-from_err r _ e; grows = IfOk-from_err r _ e; known = IfOk-from_err r _ e; keeps = c.in_arguments-in-None.ensures.keeps }

pub in_parts-loop-part-smaller : goal.in_parts-loop-part-smaller
in_parts-loop-part-smaller t c = falls (length c.args.parts.now) c.loop-part.part-index c.loop-part-test.true

pub in_arguments-loop-number-smaller : goal.in_arguments-loop-number-smaller
in_arguments-loop-number-smaller t c = falls (length c.args.arguments.now) c.loop-number.number c.loop-number-test.true

pub in_match-loop-number-smaller : goal.in_match-loop-number-smaller
in_match-loop-number-smaller t c = falls (length c.args.compiled.clauses.now) c.loop-number.number c.loop-number-test.true

pub in_clauses-in_match-requires : goal.in_clauses-in_match-requires
in_clauses-in_match-requires t c =
    let p : ProgramTable = c.args.self.now.sound in
    let a = c.args.auto.now in
    let own = c.in_ok-own.own in
    let fallen : 4 * ceiling (bodies (clause_numbers c.args.matched.clauses.now)) + 1 < t = omega arith in (
      fallen,
      (
        c.requires.ready,
        (
          compiled_as p a c.args.matched.clauses.now (patterns_among c.args.self.now.patterns own.own) c.among.result.now own.numbers.items c.numbers.result.now c.among.ensures c.numbers.ensures (c.in_ok-own.ensures a c.requires.ready.points),
          (c.requires.clauses, (c.requires.scrutinee, (c.requires.variables, c.requires.known))),
        ),
      ),
    )

pub in_clauses-returns-in_err-own : goal.in_clauses-returns-in_err-own
in_clauses-returns-in_err-own t c =
    let e = c.from_residual.ensures.0 in
    let r = c.from_residual.result in
    record { belongs = IfOk-from_err r _ e; walked = IfOk-from_err r _ e; variables = IfOk-from_err r _ e; grows = IfOk-from_err r _ e; known = IfOk-from_err r _ e; keeps = Keeps-same c.args.store.now }

pub in_match-loop-number-init : goal.in_match-loop-number-init
in_match-loop-number-init t c =
    let a = c.args.auto.now in
    let m : CompiledPatterns = c.args.compiled.patterns.now in
    let made = c.in_ok-remaining.ensures in
    record {
      walk = subst (λ ss. ClausesLoop c.args.self.now.sound m c.args.compiled.place a a c.args.variables.now c.args.variables.now c.args.store.now c.args.store.now (found_in c.args.findings.now) (found_in c.args.findings.now) c.args.compiled.clauses.now 0 ss c.args.scrutinee c.in_ok-remaining.remaining)
          (sym c.new-states.ensures.items)
          (clauses_loop_begin c.args.self.now.sound m c.args.compiled.place a c.args.variables.now c.args.store.now (found_in c.args.findings.now) c.args.compiled.clauses.now c.args.scrutinee c.in_ok-remaining.remaining c.requires.clauses (made.stands a m c.requires.scrutinee)
          (λ d. made.remains a m d));
      known = c.requires.known;
    }

pub in_match-bounds-compiled-number : goal.in_match-bounds-compiled-number
in_match-bounds-compiled-number t c =
    subst (λ n. c.loop-number.number < n) (paired_length (HasNumber c.args.compiled.patterns.now) c.args.compiled.clauses.now c.args.compiled.numbers.now c.requires.compiled.numbers) c.loop-number-test.true

pub in_match-coming_to-requires : goal.in_match-coming_to-requires
in_match-coming_to-requires t c =
    let m : CompiledPatterns = c.args.compiled.patterns.now in
    let x = c.pattern-pattern.result in
    let is : x.patterns.now ≡ m = c.pattern-pattern.ensures.patterns in
    let cs : List Clause = c.args.compiled.clauses.now in
    let n : ℕ = c.loop-number.number in
    let none : Clause = record { pattern = record { at = 0 }; body = record { at = 0 } } in
    let k : Clause = get_or cs n none in
    record {
      pattern = some_here c.args.self.now.sound c.args.auto.now cs m c.args.compiled.numbers.now c.requires.compiled n k x.patterns.now x.number c.loop-number-test.true (get_or_default cs n none k c.loop-number-test.true) is c.pattern-pattern.ensures.number;
      serve = subst (λ (y : CompiledPatterns). ServePoints c.loop-number.auto' y.states) (sym is) (c.requires.compiled.points c.loop-number.auto' c.loop-number.invariant.walk.stays.grows.extends);
      stands = subst (λ (y : CompiledPatterns). StandsIn c.loop-number.auto' y c.loop-number.remaining) (sym is) c.loop-number.invariant.walk.ahead.stands;
    }

pub in_match-in_clause-requires : goal.in_match-in_clause-requires
in_match-in_clause-requires t c =
    let p : ProgramTable = c.args.self.now.sound in
    let m : CompiledPatterns = c.args.compiled.patterns.now in
    let x = c.pattern-pattern.result in
    let is : x.patterns.now ≡ m = c.pattern-pattern.ensures.patterns in
    let cs : List Clause = c.args.compiled.clauses.now in
    let n : ℕ = c.loop-number.number in
    let none : Clause = record { pattern = record { at = 0 }; body = record { at = 0 } } in
    let k : Clause = get_or cs n none in
    let e : k ≡ get_or cs n k = get_or_default cs n none k c.loop-number-test.true in
    let h = clause_here p m c.loop-number.auto' cs n c.loop-number.remaining k c.loop-number.invariant.walk.ahead c.loop-number-test.true e in
    let w = h.0 in
    let st = c.loop-number.invariant.walk.stays in
    let a = c.in_ok-coming.ensures in
    let one : Grows c.loop-number.auto' c.coming_to.new.auto = record { extends = a.extends; keeps = a.accepting } in
    let g : Grows c.args.auto.now c.coming_to.new.auto = grows_then c.args.auto.now c.loop-number.auto' c.coming_to.new.auto st.grows one in
    let top = h.1 in
    let fallen : 4 * (k.body).at + 4 < t = omega arith in (
      fallen,
      (
        ready_kept c.args.self.now c.args.auto.now c.coming_to.new.auto g c.requires.ready,
        (
          w,
          (
            numbered_here p c.args.auto.now cs m c.args.compiled.numbers.now c.requires.compiled n k x.patterns.now x.number c.loop-number-test.true e is c.pattern-pattern.ensures.number,
            (
              subst (λ (y : CompiledPatterns). ServePoints c.coming_to.new.auto y.states) (sym is) (c.requires.compiled.points c.coming_to.new.auto g.extends),
              (
                a.belongs,
                (
                  states_again c.args.auto.now c.coming_to.new.auto g c.args.variables.now c.loop-number.variables st.variables c.requires.variables,
                  known_kept c.loop-number.auto' c.coming_to.new.auto c.loop-number.store c.loop-number.store c.loop-number.findings.known one (Keeps-same c.loop-number.store) c.loop-number.invariant.known,
                ),
              ),
            ),
          ),
        ),
      ),
    )

pub in_match-pass_found-requires : goal.in_match-pass_found-requires
in_match-pass_found-requires t c =
    let m : CompiledPatterns = c.args.compiled.patterns.now in
    let x = c.pattern-pattern.result in
    let is : x.patterns.now ≡ m = c.pattern-pattern.ensures.patterns in
    let cs : List Clause = c.args.compiled.clauses.now in
    let n : ℕ = c.loop-number.number in
    let none : Clause = record { pattern = record { at = 0 }; body = record { at = 0 } } in
    let k : Clause = get_or cs n none in
    record {
      pattern = some_here c.args.self.now.sound c.args.auto.now cs m c.args.compiled.numbers.now c.requires.compiled n k x.patterns.now x.number c.loop-number-test.true (get_or_default cs n none k c.loop-number-test.true) is c.pattern-pattern.ensures.number;
      waiting = c.in_ok-coming.ensures.stands.waiting;
    }

pub in_match-loop-number-preserved : goal.in_match-loop-number-preserved
in_match-loop-number-preserved t c =
    let p : ProgramTable = c.args.self.now.sound in
    let E = names_of (program_tree p) in
    let x = c.pattern-pattern.result in
    let is : x.patterns.now ≡ c.args.compiled.patterns.now = c.pattern-pattern.ensures.patterns in
    let m : CompiledPatterns = x.patterns.now in
    let cs : List Clause = c.args.compiled.clauses.now in
    let n : ℕ = c.loop-number.number in
    let none : Clause = record { pattern = record { at = 0 }; body = record { at = 0 } } in
    let k : Clause = get_or cs n none in
    let a = c.in_ok-coming.ensures in
    let f = c.in_ok-found.ensures in
    let w = c.in_ok-remaining-2.ensures in
    let b = c.coming_to.new.auto in
    let d = c.in_clause.new.auto in
    let one : Grows c.loop-number.auto' b = record { extends = a.extends; keeps = a.accepting } in
    let Q : PlacedTree = placed_at p.patterns (k.pattern).at in
    let made : IsNumbered E (unplaced Q) m x.number = subst (λ T. IsNumbered E T m x.number) (sym (unplaced_at p.patterns (k.pattern).at))
    (numbered_here p c.args.auto.now cs c.args.compiled.patterns.now c.args.compiled.numbers.now c.requires.compiled n k m x.number c.loop-number-test.true (get_or_default cs n none k c.loop-number-test.true) is c.pattern-pattern.ensures.number) in
    let before : ClausesLoop p m c.args.compiled.place c.args.auto.now c.loop-number.auto' c.args.variables.now c.loop-number.variables c.args.store.now c.loop-number.store (found_in c.args.findings.now) (found_in c.loop-number.findings) cs n c.loop-number.states.items c.args.scrutinee c.loop-number.remaining
    = subst (λ (y : CompiledPatterns). ClausesLoop p y c.args.compiled.place c.args.auto.now c.loop-number.auto' c.args.variables.now c.loop-number.variables c.args.store.now c.loop-number.store (found_in c.args.findings.now) (found_in c.loop-number.findings) cs n c.loop-number.states.items c.args.scrutinee c.loop-number.remaining) (sym is) c.loop-number.invariant.walk in
    record {
      walk = subst (λ (y : CompiledPatterns). ClausesLoop p y c.args.compiled.place c.args.auto.now d c.args.variables.now c.in_clause.new.variables c.args.store.now c.in_clause.new.store (found_in c.args.findings.now) (found_in c.in_clause.new.findings) cs (n + 1) c.pass_found.new.states.items c.args.scrutinee c.in_ok-remaining-2.remaining) is
          (clauses_loop_more p m c.args.compiled.place c.args.auto.now c.loop-number.auto' b d c.args.variables.now c.loop-number.variables c.in_clause.new.variables c.args.store.now c.loop-number.store c.in_clause.new.store
          (found_in c.args.findings.now) (found_in c.loop-number.findings) (found_in c.in_clause.new.findings) cs n c.loop-number.states.items c.pass_found.new.states.items c.args.scrutinee c.in_ok-coming.arriving c.loop-number.remaining c.in_ok-coming.coming c.in_ok-remaining-2.remaining k c.in_ok-found.found
          c.requires.variables before c.loop-number-test.true (get_or_default cs n none k c.loop-number-test.true) one a.stands a.remains (a.comes E Q made) f.walked f.variables f.grows f.keeps w.states f.belongs
          (w.stands d (stands_on b d m c.in_ok-coming.coming f.grows a.stands)) (w.remains E Q made d));
      known = f.known;
    }

pub in_match-left_over-requires : goal.in_match-left_over-requires
in_match-left_over-requires t c = record {
  universal = c.requires.compiled.patterns.universal;
  serve = c.requires.compiled.points c.loop-number.auto' c.loop-number.invariant.walk.stays.grows.extends;
  stands = c.loop-number.invariant.walk.ahead.stands;
}

pub in_match-returns : goal.in_match-returns
in_match-returns t c =
    let h = c.loop-number.invariant in
    let left = c.in_ok-left.ensures in
    let over : Grows c.loop-number.auto' c.left_over.new.auto = record { extends = left.extends; keeps = left.accepting } in
    let g = grows_then c.loop-number.auto' c.left_over.new.auto c.unite_states.new.auto over c.in_ok-unite_states.ensures.grows in
    record {
      belongs = c.in_ok-unite_states.ensures.belongs;
      walked =
          clauses_loop_end c.args.self.now.sound c.args.compiled.patterns.now c.args.compiled.place c.args.auto.now c.loop-number.auto' c.left_over.new.auto c.unite_states.new.auto c.args.variables.now c.loop-number.variables c.args.store.now c.loop-number.store c.see_uncovered.new.store
          (found_in c.args.findings.now) (found_in c.loop-number.findings) (found_in c.see_uncovered.new.findings) c.args.compiled.clauses.now c.loop-number.number c.loop-number.states.items c.args.scrutinee c.in_ok-left.left c.in_ok-unite_states.field-0 c.loop-number.remaining
          (drop_all c.loop-number.number c.args.compiled.clauses.now c.loop-number-test.false) h.walk over c.in_ok-unite_states.ensures.grows left.exact c.in_ok-see_uncovered.ensures.keeps c.in_ok-see_uncovered.ensures.lines c.in_ok-see_uncovered.ensures.met c.in_ok-unite_states.ensures.accepts;
      variables = h.walk.stays.variables;
      grows = grows_then c.args.auto.now c.loop-number.auto' c.unite_states.new.auto h.walk.stays.grows g;
      known = known_kept c.left_over.new.auto c.unite_states.new.auto c.see_uncovered.new.store c.see_uncovered.new.store c.see_uncovered.new.findings.known c.in_ok-unite_states.ensures.grows (Keeps-same c.see_uncovered.new.store) c.in_ok-see_uncovered.ensures.known;
      keeps = Keeps-trans c.args.store.now c.loop-number.store c.see_uncovered.new.store h.walk.stays.keeps c.in_ok-see_uncovered.ensures.keeps;
    }

pub in_expression-returns-in_err-meet_before-in-Match : goal.in_expression-returns-in_err-meet_before-in-Match
in_expression-returns-in_err-meet_before-in-Match t c =
    let e = c.from_residual-in_err-meet_before-in-Match.ensures.0 in
    let r = c.from_residual-in_err-meet_before-in-Match.result in
    record { belongs = IfOk-from_err r _ e; walked = IfOk-from_err r _ e; variables = IfOk-from_err r _ e; grows = IfOk-from_err r _ e; known = IfOk-from_err r _ e; keeps = c.in_ok-state-in-Match.ensures.keeps }
