use Rattle.std.proofs.Common.{Ok, [], ap, refl, subst}
use Rattle.std.specs.Option.{IfSome}
use Rattle.xd_doc.proofs.StoredLemmas.{Keeps-same}
use Rattle.xd_least.proofs.KnownLemmas.{stays_known}
use Rattle.xd_syntax.specs.May.{IsLive}
use Rattle.xd_syntax.specs.Placed.{PlacedTree, unplaced}
use Rattle.xd_syntax.specs.Tree.{Definitions}
use Rattle.xd_clauses.specs.Clauses.{Accepted}
use Rattle.xd_clauses.specs.Compiled.{IsNumbered}
use Rattle.xd_clauses.proofs.Givens.{all_nothing}
use Rattle.xd_check_steps.proofs.GrowsLemmas.{grows_by, grows_then}
use Rattle.xd_variables.specs.Bound.{reading_of}
use Rattle.xd_variables.proofs.ReadingLemmas.{gives_nothing}
use Rattle.xd_variables.proofs.reader.Reader.givens.Goals as goal

pub returns-in_ok-givens-in-None-clause-givens : goal.returns-in_ok-givens-in-None-clause-givens
returns-in_ok-givens-in-None-clause-givens c = λ E P i.
    let A = Accepted c.args.auto.now c.args.coming in
    let w = c.args.self.now.ways in
    let dead : IsLive E A [] P → ⊥ = c.in_ok-bound.ensures.dead (ap (λ o. Ok o) c.in-None.is) E P i in
    all_nothing (reading_of w E A [] P) (λ x d m. gives_nothing w E A P dead x d m) c.given_nothing.new.auto P c.variables.result.now c.in_ok-givens-in-None.givens.items (c.variables.ensures E (unplaced P) i) c.in_ok-givens-in-None.ensures.givens

pub returns-in_ok-givens-in-None-clause-grows : goal.returns-in_ok-givens-in-None-clause-grows
returns-in_ok-givens-in-None-clause-grows c =
    grows_then c.args.auto.now c.bindings.new.auto c.given_nothing.new.auto c.in_ok-bound.ensures.grows
    (grows_by c.bindings.new.auto c.given_nothing.new.auto c.in_ok-givens-in-None.ensures.extends c.in_ok-givens-in-None.ensures.accepting)

pub returns-in_ok-givens-in-None-clause-known : goal.returns-in_ok-givens-in-None-clause-known
returns-in_ok-givens-in-None-clause-known c =
    let ds = c.bindings.new.found.store in
    stays_known c.bindings.new.found.inhabitants c.bindings.new.auto c.given_nothing.new.auto ds ds c.in_ok-givens-in-None.ensures.extends (Keeps-same ds) c.in_ok-bound.ensures.known

pub returns-in-Some-clause-live : goal.returns-in-Some-clause-live
returns-in-Some-clause-live c = λ E P i.
    let m = c.args.pattern.patterns.now in
    let n = c.args.pattern.number in
    let C = Accepted c.args.auto.now c.args.coming in
    let live = subst (λ o. IfSome o (λ gs. (E' : Definitions) (P' : PlacedTree) → IsNumbered E' (unplaced P') m n → IsLive E' C [] P')) c.in-Some.is c.in_ok-bound.ensures.live in
    ((λ e. live E P i), (λ l. refl))

pub returns-in_ok-givens-in-None-clause-live : goal.returns-in_ok-givens-in-None-clause-live
returns-in_ok-givens-in-None-clause-live c = λ E P i. ((λ e. absurd (cc)), (λ l. absurd (c.in_ok-bound.ensures.dead (ap (λ o. Ok o) c.in-None.is) E P i l)))
