use Rattle.std.proofs.Common.{ℕ, List, ◌++◌, Some, get_or, ap, sym, ◌∙◌}
use Rattle.xd_doc.specs.Stored.{document_at}
use Rattle.xd_doc.proofs.StoredLemmas.{Keeps-trans}
use Rattle.xd_syntax.specs.PlacedTable.{placed_at}
use Rattle.xd_syntax.specs.Placed.{unplaced}
use Rattle.xd_doc.proofs.Lists.{all_at, same_at}
use Rattle.xd_syntax.specs.declared.exprs.Clause.{Clause}
use Rattle.xd_doc.specs.declared.store.Seq.{Seq}
use Rattle.xd_eval.specs.Machine.{IsOfClause, IsRunnable, World, as_values, matcher, world}
use Rattle.xd_eval.proofs.ClausesStandLemmas.{as_values-environment, as_values-stand, bound_are, is_body}
use Rattle.xd_eval.proofs.ValueLemmas.{world_kept}
use Rattle.xd_eval.proofs.resuming.choose.Goals as goal

pub first_match-requires-clause-pattern : goal.first_match-requires-clause-pattern
first_match-requires-clause-pattern g c =
    let p = c.args.sound.now in
    let d : Clause = record { pattern = record { at = 0 }; body = record { at = 0 } } in
    (all_at (λ (x : Clause). IsOfClause p x.pattern.at × IsRunnable p x.body.at) c.args.clauses.now c.requires.clauses c.loop-clause.clause-index d c.loop-clause-test.true).0.there

pub first_match-requires-clause-linear : goal.first_match-requires-clause-linear
first_match-requires-clause-linear g c =
    let p = c.args.sound.now in
    let d : Clause = record { pattern = record { at = 0 }; body = record { at = 0 } } in
    (all_at (λ (x : Clause). IsOfClause p x.pattern.at × IsRunnable p x.body.at) c.args.clauses.now c.requires.clauses c.loop-clause.clause-index d c.loop-clause-test.true).0.linear

pub returns-in-Some-clause-chosen : goal.returns-in-Some-clause-chosen
returns-in-Some-clause-chosen g c js stand scope =
    let p = c.args.sound.now in
    let v = c.loop-clause.invariant in
    let new = c.first_match.new.store in
    let here : World = world new js in
    let bs = c.in-Some.bindings.items in
    let clause = get_or c.args.clauses.now c.loop-clause.clause-index record { pattern = record { at = 0 }; body = record { at = 0 } } in
    let a = bound_are new _ c.in_ok-found.found c.in-Some.bindings c.in_ok-found.ensures.found c.in-Some.is in
    let k = world_kept c.args.store.now new (Keeps-trans c.args.store.now c.loop-clause.store new v.keeps c.in_ok-found.ensures.keeps) js stand in
    is_body p (world c.args.store.now js) here k c.args.scope.now.bindings.value.items scope (document_at c.args.store.now c.args.seq) c.args.clauses.now c.requires.clauses
    c.loop-clause.clause-index clause c.loop-clause-test.true (same_at c.args.clauses.now c.loop-clause.clause-index _ clause c.loop-clause-test.true) (as_values bs)
    (ap (matcher p (unplaced (placed_at p.patterns clause.pattern.at))) (sym (v.keeps.same c.args.seq c.requires.seq)) ∙ a.0 ∙ ap Some (sym (as_values-environment here bs)))
    (as_values-stand here bs a.1) c.in_ok-inner.inner (c.in_ok-inner.ensures ∙ ap (λ (xs : List (List ℕ × Seq)). as_values xs ++ c.args.scope.now.bindings.value.items) c.deref.ensures.value) v.same v.less
