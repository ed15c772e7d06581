use Rattle.std.proofs.Common.{◌≡◌, ◌∷◌, ◌++◌, ◌-◌, Some, None, refl, ap, sym, ◌∙◌, subst, arith, map}
use Rattle.xd_doc.specs.Document.{Document, join}
use Rattle.xd_syntax.specs.PlacedTable.{the_start}
use Rattle.xd_syntax.specs.Expression.{Tagged, Joined, Called, Matched, argument, clause}
use Rattle.xd_meaning.specs.Meaning as on_fuel
use Rattle.xd_meaning.specs.Meaning.{value_by}
use Rattle.xd_plain.specs.PlainDocuments.{document_of}
use Rattle.xd_plain.specs.PlainTrees.{map_option}
use Rattle.xd_plain.specs.PlainWays.{bindings_of}
use Rattle.xd_plain.specs.PlainPrograms.{placed_of, expression_of, arguments_of, clauses_of, parameter_of, function_definition_of, program_of}
use Rattle.xd_plain.specs.PlainMeaning.{AreAnswers, all_done, chosen_of, done, documents_of, matches_of, value_of, values_of}
use Rattle.xd_plain.proofs.PlainMeaningLemmas.{ended, goes_on, same_answer, clause_passed, clause_taken, first_match, call_taken}
use Rattle.xd_plain.proofs.evaluate.+value.Goals as goal

pub value_within-returns-in-Elem : goal.value_within-returns-in-Elem
value_within-returns-in-Elem t c =
    let x : Tagged the_start c.in-Elem.label (expression_of c.deref.result.now) ≡ expression_of c.args.expression.now = rw (c.deref.ensures, c.in-Elem.is) refl in
    same_answer c.tagged_within.result c.tagged_within.ensures (ap (value_of c.args.run.program.now c.args.run.unfoldings c.args.deep c.args.calls c.args.variables.now) x)

pub value_within-returns-in-Seq : goal.value_within-returns-in-Seq
value_within-returns-in-Seq t c =
    let x : Joined the_start (expression_of c.deref-in-Seq.result.now) (expression_of c.deref-in-Seq-2.result.now) ≡ expression_of c.args.expression.now = rw (c.deref-in-Seq.ensures, c.deref-in-Seq-2.ensures, c.in-Seq.is) refl in
    same_answer c.joined_within.result c.joined_within.ensures (ap (value_of c.args.run.program.now c.args.run.unfoldings c.args.deep c.args.calls c.args.variables.now) x)

pub value_within-returns-in-Call : goal.value_within-returns-in-Call
value_within-returns-in-Call t c =
    let x : Called the_start c.in-Call.function (arguments_of c.deref-in-Call.result.now) ≡ expression_of c.args.expression.now = rw (c.deref-in-Call.ensures, c.in-Call.is) refl in
    same_answer c.called_within.result c.called_within.ensures (ap (value_of c.args.run.program.now c.args.run.unfoldings c.args.deep c.args.calls c.args.variables.now) x)

pub value_within-returns-in-Match : goal.value_within-returns-in-Match
value_within-returns-in-Match t c =
    let x : Matched the_start (expression_of c.deref-in-Match.result.now) (clauses_of c.deref-in-Match-2.result.now) ≡ expression_of c.args.expression.now = rw (c.deref-in-Match.ensures, c.deref-in-Match-2.ensures, c.in-Match.is) refl in
    same_answer c.matched_within.result c.matched_within.ensures (ap (value_of c.args.run.program.now c.args.run.unfoldings c.args.deep c.args.calls c.args.variables.now) x)

pub tagged_within-returns-in_err-content : goal.tagged_within-returns-in_err-content
tagged_within-returns-in_err-content t c = ended done c.from_residual.result _ _ _ c.from_residual.ensures.1 c.in_err-content.ensures

pub tagged_within-returns : goal.tagged_within-returns
tagged_within-returns t c = goes_on _ _ _ _ c.in_ok-content.ensures ∙ ap (λ d. on_fuel.Done d c.in_ok-content.content.left) (sym c.in_ok-document.ensures)

pub joined_within-returns-in_err-front : goal.joined_within-returns-in_err-front
joined_within-returns-in_err-front t c = ended done c.from_residual.result _ _ _ c.from_residual.ensures.1 c.in_err-front.ensures

pub joined_within-returns-in_err-back : goal.joined_within-returns-in_err-back
joined_within-returns-in_err-back t c =
    same_answer c.from_residual-in_err-back.result (ended done c.from_residual-in_err-back.result _ (λ d m. on_fuel.Done (join (document_of c.in_ok-front.front.document) d) m) _ c.from_residual-in_err-back.ensures.1 c.in_err-back.ensures)
    (sym (goes_on _ _ _ _ c.in_ok-front.ensures))

pub joined_within-returns : goal.joined_within-returns
joined_within-returns t c =
    same_answer c.joined.result c.joined.ensures
    (sym (goes_on _ _ _ _ c.in_ok-front.ensures ∙ goes_on _ (λ d m. on_fuel.Done (join (document_of c.in_ok-front.front.document) d) m) _ _ c.in_ok-back.ensures))

pub called_within-returns-in_err-given : goal.called_within-returns-in_err-given
called_within-returns-in_err-given t c = ended done c.from_residual.result _ _ _ c.from_residual.ensures.1 c.in_err-given.ensures

pub called_within-returns : goal.called_within-returns
called_within-returns t c =
    let C = on_fuel.call_within (matches_of c.args.run.program.now c.args.run.unfoldings) (program_of c.args.run.program.now) c.args.deep in
    same_answer c.call_within.result c.call_within.ensures (ap (λ ds. C c.in_ok-given.given.left c.args.function.now (documents_of ds)) c.deref.ensures.value ∙ sym (goes_on _ _ _ _ c.in_ok-given.ensures))

pub matched_within-returns-in_err-matched : goal.matched_within-returns-in_err-matched
matched_within-returns-in_err-matched t c = ended done c.from_residual.result _ _ _ c.from_residual.ensures.1 c.in_err-matched.ensures

pub matched_within-returns : goal.matched_within-returns
matched_within-returns t c = same_answer c.chosen_within.result c.chosen_within.ensures (sym (goes_on _ _ _ _ c.in_ok-matched.ensures))

pub values_within-returns-in_err-first-in-Argument : goal.values_within-returns-in_err-first-in-Argument
values_within-returns-in_err-first-in-Argument t c =
    let x : argument (expression_of c.deref.result.now) (arguments_of c.in-Argument.others.value) ≡ arguments_of c.args.arguments.now = rw (c.deref.ensures, c.in-Argument.is) refl in
    subst (λ es. AreAnswers c.from_residual.result (values_of c.args.run.program.now c.args.run.unfoldings c.args.deep c.args.calls c.args.variables.now es)) x
    (ended all_done c.from_residual.result _ _ _ c.from_residual.ensures.1 c.in_err-first-in-Argument.ensures)

pub values_within-returns-in_err-others-in-Argument : goal.values_within-returns-in_err-others-in-Argument
values_within-returns-in_err-others-in-Argument t c =
    let r = c.from_residual-in_err-others-in-Argument.result in
    let x : argument (expression_of c.deref.result.now) (arguments_of c.deref-in-Argument.result.now) ≡ arguments_of c.args.arguments.now = rw (c.deref.ensures, c.deref-in-Argument.ensures, c.in-Argument.is) refl in
    subst (AreAnswers r) (sym (goes_on _ _ _ _ c.in_ok-first-in-Argument.ensures) ∙ ap (values_of c.args.run.program.now c.args.run.unfoldings c.args.deep c.args.calls c.args.variables.now) x)
    (ended all_done r _ (λ ds m. on_fuel.Done (document_of c.in_ok-first-in-Argument.first.document ∷ ds) m) _ c.from_residual-in_err-others-in-Argument.ensures.1 c.in_err-others-in-Argument.ensures)

pub values_within-returns-in_ok-documents-in-Argument : goal.values_within-returns-in_ok-documents-in-Argument
values_within-returns-in_ok-documents-in-Argument t c =
    let x : argument (expression_of c.deref.result.now) (arguments_of c.deref-in-Argument.result.now) ≡ arguments_of c.args.arguments.now = rw (c.deref.ensures, c.deref-in-Argument.ensures, c.in-Argument.is) refl in
    ap (values_of c.args.run.program.now c.args.run.unfoldings c.args.deep c.args.calls c.args.variables.now) (sym x)
    ∙ goes_on _ _ _ _ c.in_ok-first-in-Argument.ensures
    ∙ goes_on _ (λ ds m. on_fuel.Done (document_of c.in_ok-first-in-Argument.first.document ∷ ds) m) _ _ c.in_ok-others-in-Argument.ensures
    ∙ ap (λ ds. on_fuel.Done (documents_of ds) c.in_ok-others-in-Argument.others.left) (sym c.in_ok-documents-in-Argument.ensures)

pub call_within-returns : goal.call_within-returns
call_within-returns t c =
    let P = program_of c.args.run.program.now in
    let W = matches_of c.args.run.program.now c.args.run.unfoldings in
    let f = c.in-Some.function.now in
    let ds = documents_of c.args.documents.now in
    let g = rw c.deref.ensures.value at c.in-Some.ensures in
    let vs : bindings_of c.deref-3.result.now ≡ on_fuel.bound (map parameter_of f.parameters.items) ds
    = ap bindings_of c.deref-3.ensures.value ∙ c.in_ok-variables.ensures ∙ ap (λ ps. on_fuel.bound (map parameter_of ps) ds) c.deref-2.ensures.value in
    same_answer c.value_within.result c.value_within.ensures
    (ap (λ env. value_by W (on_fuel.call_within W P (c.args.deep - 1)) (c.args.calls - 1) env (expression_of f.body)) vs
    ∙ call_taken W P c.args.deep c.args.calls c.args.name.now ds (function_definition_of f) (omega arith) (omega arith) (sym g))

pub chosen_within-returns-in-None : goal.chosen_within-returns-in-None
chosen_within-returns-in-None t c =
    let W = matches_of c.args.run.program.now c.args.run.unfoldings in
    let C = on_fuel.call_within W (program_of c.args.run.program.now) c.args.deep in
    let d : Document = document_of c.args.document.now in
    let b = expression_of c.in-Clause.body.value in
    let cs = clauses_of c.deref-in-None.result.now in
    let found = first_match c.args.run.program.now c.args.run.unfoldings c.in-Clause.pattern d c.deref.result.now _ None c.deref.ensures.value c.requires c.in_ok-first_within-in-Clause.ensures.within (ap (λ o. map_option (λ bindings. bindings_of bindings.items) o) c.in-None.is) in
    let x : clause (placed_of c.in-Clause.pattern) b cs ≡ clauses_of c.args.clauses.now = rw (c.deref-in-None.ensures, c.in-Clause.is) refl in
    same_answer c.chosen_within.result c.chosen_within.ensures
    (clause_passed W C c.args.calls (bindings_of c.args.variables.now) c.in-Clause.pattern b cs d found ∙ ap (chosen_of c.args.run.program.now c.args.run.unfoldings c.args.deep c.args.calls c.args.variables.now d) x)

pub chosen_within-returns-in_ok-inner-in-Some : goal.chosen_within-returns-in_ok-inner-in-Some
chosen_within-returns-in_ok-inner-in-Some t c =
    let W = matches_of c.args.run.program.now c.args.run.unfoldings in
    let C = on_fuel.call_within W (program_of c.args.run.program.now) c.args.deep in
    let env = bindings_of c.args.variables.now in
    let d : Document = document_of c.args.document.now in
    let b = expression_of c.deref-in-Some-2.result.now in
    let cs = clauses_of c.in-Clause.others.value in
    let taken = bindings_of c.in-Some.bindings.items in
    let found = first_match c.args.run.program.now c.args.run.unfoldings c.in-Clause.pattern d c.deref.result.now _ (Some taken) c.deref.ensures.value c.requires c.in_ok-first_within-in-Clause.ensures.within (ap (λ o. map_option (λ bindings. bindings_of bindings.items) o) c.in-Some.is) in
    let x : clause (placed_of c.in-Clause.pattern) b cs ≡ clauses_of c.args.clauses.now = rw (c.deref-in-Some-2.ensures, c.in-Clause.is) refl in
    let inner : bindings_of c.deref-in-Some.result.now ≡ taken ++ env = ap bindings_of c.deref-in-Some.ensures.value ∙ c.in_ok-inner-in-Some.ensures in
    same_answer c.value_within.result c.value_within.ensures
    (ap (λ vs. value_by W C c.args.calls vs b) inner ∙ clause_taken W C c.args.calls env c.in-Clause.pattern b cs d taken found
    ∙ ap (chosen_of c.args.run.program.now c.args.run.unfoldings c.args.deep c.args.calls c.args.variables.now d) x)
