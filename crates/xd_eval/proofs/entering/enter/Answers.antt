use Rattle.std.proofs.Common.{◌≡◌, ℕ, ◌+◌, ◌*◌, arith, List, get_or, map, ap, sym, subst, ◌∙◌, refl}
use Rattle.xd_doc.specs.Stored.{document_at}
use Rattle.xd_doc.specs.Document.{text, empty}
use Rattle.xd_doc.specs.declared.store.Seq.{Seq}
use Rattle.xd_syntax.specs.Expression.{Quoted, Variable, Called, Matched, joined, arguments_of}
use Rattle.xd_syntax.specs.ExpressionTable.{shape_expression, seq_shape, call_shape, match_shape, ExprCanFollow}
use Rattle.xd_syntax.specs.Exprs.{expr_numbers, clause_numbers, shape_of}
use Rattle.xd_syntax.specs.Kept.{program_tree}
use Rattle.xd_syntax.specs.PlacedTable.{placed_at}
use Rattle.xd_eval.specs.Waiting.{steps, all_steps}
use Rattle.xd_eval.specs.Machine.{PartsAreRunnable, expression_in, clauses_in, most_steps, ScopeStands, IsStep, Leads, IsMatch, found_in}
use Rattle.xd_eval.specs.Values.{World, value_at, value_of, world}
use Rattle.xd_eval.specs.declared.joins.Value.{Value}
use Rattle.xd_eval.proofs.ValueLemmas.{value_of-at, value_of-stands, world_kept, joins_kept}
use Rattle.xd_eval.specs.declared.frame.Frame.TheVariants.{Match}
use Rattle.xd_eval.specs.declared.frame.Control.TheVariants.{Evaluate, Give}
use Rattle.xd_eval.proofs.Entered.{gives_text, gives_variable, enters_sequence, enters_call, enters_match, match_waits, first_below, IsEntered}
use Rattle.xd_eval.proofs.Waits.{all_kept, frames_kept}
use Rattle.xd_eval.proofs.entering.enter.Goals as goal

pub returns-in_ok-seq-in-Text-clause-step : goal.returns-in_ok-seq-in-Text-clause-step
returns-in_ok-seq-in-Text-clause-step c =
    let p = c.args.sound.now in
    let n = c.args.machine.now.left in
    let js = c.args.machine.now.joins.items in
    let old : World = world c.args.store.now js in
    let new : World = world c.text_node.new.self js in
    let seq = c.in_ok-seq-in-Text.seq in
    let x : expression_in p c.args.id.at ≡ Quoted c.form_of.ensures.place c.in-Text.text =
    c.form_of.ensures.expression ∙ ap (λ f. shape_expression (placed_at p.patterns) (expression_in p) c.form_of.ensures.place (shape_of f)) c.in-Text.is in
    let s = ap steps x in
    let k = world_kept c.args.store.now c.text_node.new.self c.in_ok-seq-in-Text.ensures.keeps js c.requires.joins in
    let w = ap all_steps (all_kept old new k p c.args.machine.now.frames.items c.requires.frames) in
    let d : value_at new (value_of seq) ≡ text c.in-Text.text empty =
    value_of-at new seq ∙ c.in_ok-seq-in-Text.ensures.ok ∙ ap (λ t. text t (document_at c.args.store.now c.empty.result)) c.in_ok-share-in-Text.ensures
    ∙ ap (λ (e : Seq). text c.in-Text.text (document_at c.args.store.now e)) c.empty.ensures in
    let m = n * (most_steps (program_tree p).functions + 1) in
    subst (λ (v : Value). Leads p old c.args.machine.now.frames.items (Evaluate c.args.id c.args.scope) n new c.args.machine.now.frames.items n (Give v)) (sym c.of.ensures)
    record {
      same = gives_text p old c.args.machine.now.frames.items c.requires.frames c.args.id c.args.scope.bindings.value.items n new k
          c.form_of.ensures.place c.in-Text.text x (value_at new (value_of seq)) d;
      control = value_of-stands new seq c.in_ok-seq-in-Text.ensures.belongs;
      frames = frames_kept old new k p c.args.machine.now.frames.items c.requires.frames;
      less = omega arith;
    }

pub returns-in_ok-seq-in-Text-clause-joins : goal.returns-in_ok-seq-in-Text-clause-joins
returns-in_ok-seq-in-Text-clause-joins c = joins_kept c.args.store.now c.text_node.new.self c.in_ok-seq-in-Text.ensures.keeps c.args.machine.now.joins.items c.requires.joins

pub returns-in-Var-clause-step : goal.returns-in-Var-clause-step
returns-in-Var-clause-step c =
    let n = c.args.machine.now.left in
    let here : World = world c.args.store.now c.args.machine.now.joins.items in
    let p = c.args.sound.now in
    let x : expression_in p c.args.id.at ≡ Variable c.form_of.ensures.place c.in-Var.name =
    c.form_of.ensures.expression ∙ ap (λ f. shape_expression (placed_at p.patterns) (expression_in p) c.form_of.ensures.place (shape_of f)) c.in-Var.is in
    subst (IsStep p here c.args.machine.now.frames.items _ n here c.args.machine.now.frames.items n) (sym c.give.ensures)
    (gives_variable p here c.args.machine.now.frames.items c.requires.frames c.args.id c.args.scope n c.form_of.ensures.place c.in-Var.name x c.requires.scope
    c.looked_up.result (c.looked_up.ensures ∙ ap (λ bs. found_in bs c.in-Var.name) c.bindings.ensures))

pub returns-in_ok-push-in-Seq-clause-step : goal.returns-in_ok-push-in-Seq-clause-step
returns-in_ok-push-in-Seq-clause-step c =
    let n = c.args.machine.now.left in
    let here : World = world c.args.store.now c.args.machine.now.joins.items in
    let p = c.args.sound.now in
    let is : List ℕ = expr_numbers c.in-Seq.parts.items in
    let i = c.part_at-first.result.at in
    let g : (d : ℕ) → i ≡ get_or is 0 d = λ d. c.part_at-first.ensures d ∙ ap (λ ps. get_or (expr_numbers ps) 0 d) c.deref.ensures.value in
    let f : shape_of c.form_of.result.now ≡ seq_shape is = ap shape_of c.in-Seq.is in
    let x : expression_in p c.args.id.at ≡ joined c.form_of.ensures.place (map (expression_in p) is) =
    c.form_of.ensures.expression ∙ ap (shape_expression (placed_at p.patterns) (expression_in p) c.form_of.ensures.place) f in
    let nv = c.in_ok-no_values-in-Seq.ensures in
    let m = (subst (ExprCanFollow _) f c.form_of.ensures.merged).0 in
    let b = subst (PartsAreRunnable p) f c.form_of.ensures.parts in
    let e : IsEntered p here c.args.machine.now.frames.items c.push-in-Seq.new.self.items c.args.scope.bindings.value.items n (expression_in p c.args.id.at) (expression_in p i) =
    enters_sequence p here c.args.machine.now.frames.items c.push-in-Seq.new.self.items c.in_ok-no_values-in-Seq.field-0 c.args.id c.args.scope.bindings.value.items n
    c.form_of.ensures.place is i
    c.in_ok-push-in-Seq.ensures.items c.requires.frames c.requires.scope c.requires.id nv.0 nv.1 nv.2 (c.form_of.ensures.shape ∙ f) x m (g i) in
    let k = n * (most_steps (program_tree p).functions + 1) in
    let l = e.less in
    record { same = e.same; control = (first_below p is i (omega arith) b (g i), c.requires.scope); frames = e.stand; less = omega arith }

pub returns-in_ok-push-in-Call-clause-step : goal.returns-in_ok-push-in-Call-clause-step
returns-in_ok-push-in-Call-clause-step c =
    let n = c.args.machine.now.left in
    let here : World = world c.args.store.now c.args.machine.now.joins.items in
    let p = c.args.sound.now in
    let is : List ℕ = expr_numbers c.in-Call.arguments.items in
    let i = c.part_at-first-in-Call.result.at in
    let g : (d : ℕ) → i ≡ get_or is 0 d = λ d. c.part_at-first-in-Call.ensures d ∙ ap (λ ps. get_or (expr_numbers ps) 0 d) c.deref-in-Call.ensures.value in
    let f : shape_of c.form_of.result.now ≡ call_shape c.in-Call.field-0 is = ap shape_of c.in-Call.is in
    let x : expression_in p c.args.id.at ≡ Called c.form_of.ensures.place c.in-Call.field-0 (arguments_of (map (expression_in p) is)) =
    c.form_of.ensures.expression ∙ ap (shape_expression (placed_at p.patterns) (expression_in p) c.form_of.ensures.place) f in
    let nv = c.in_ok-no_values-in-Call.ensures in
    let m = (subst (ExprCanFollow _) f c.form_of.ensures.merged).0 in
    let b = subst (PartsAreRunnable p) f c.form_of.ensures.parts in
    let e : IsEntered p here c.args.machine.now.frames.items c.push-in-Call.new.self.items c.args.scope.bindings.value.items n (expression_in p c.args.id.at) (expression_in p i) =
    enters_call p here c.args.machine.now.frames.items c.push-in-Call.new.self.items c.in_ok-no_values-in-Call.field-0 c.args.id c.args.scope.bindings.value.items n
    c.form_of.ensures.place c.in-Call.field-0 is i
    c.in_ok-push-in-Call.ensures.items c.requires.frames c.requires.scope c.requires.id nv.0 nv.1 nv.2 (c.form_of.ensures.shape ∙ f) x m (g i) in
    let k = n * (most_steps (program_tree p).functions + 1) in
    let l = e.less in
    record { same = e.same; control = (first_below p is i m b (g i), c.requires.scope); frames = e.stand; less = omega arith }

pub returns-in_ok-push-in-Match-clause-step : goal.returns-in_ok-push-in-Match-clause-step
returns-in_ok-push-in-Match-clause-step c =
    let n = c.args.machine.now.left in
    let here : World = world c.args.store.now c.args.machine.now.joins.items in
    let p = c.args.sound.now in
    let i = c.in-Match.scrutinee.at in
    let cs : List (ℕ × ℕ) = clause_numbers c.in-Match.field-1.items in
    let f : shape_of c.form_of.result.now ≡ match_shape i cs = ap shape_of c.in-Match.is in
    let h = c.form_of.ensures.shape ∙ f in
    let x : expression_in p c.args.id.at ≡ Matched c.form_of.ensures.place (expression_in p i) (clauses_in p cs) =
    c.form_of.ensures.expression ∙ ap (shape_expression (placed_at p.patterns) (expression_in p) c.form_of.ensures.place) f in
    let b = subst (PartsAreRunnable p) f c.form_of.ensures.parts in
    let s = c.in_ok-share-in-Match.ensures in
    let e : IsEntered p here c.args.machine.now.frames.items c.push-in-Match.new.self.items c.args.scope.bindings.value.items n (expression_in p c.args.id.at) (expression_in p i) =
    enters_match p here c.args.machine.now.frames.items c.push-in-Match.new.self.items (Match c.args.id c.in_ok-share-in-Match.field-0) c.args.id c.args.scope.bindings.value.items n
    c.form_of.ensures.place i cs c.in_ok-push-in-Match.ensures.items c.requires.frames
    (c.requires.id, (i, subst (IsMatch i) (sym h) refl), subst (ScopeStands here) (sym s) c.requires.scope)
    (match_waits p here c.args.id c.in_ok-share-in-Match.field-0 c.args.scope.bindings.value.items i cs s h) x in
    let k = n * (most_steps (program_tree p).functions + 1) in
    let l = e.less in
    record { same = e.same; control = (b.0, c.requires.scope); frames = e.stand; less = omega arith }
