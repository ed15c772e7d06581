use Rattle.std.proofs.Common.{false, []}
use Rattle.xd_auto.proofs.ExtendsLemmas.{keeps}
use Rattle.xd_syntax.specs.Tree.{Definitions}
use Rattle.xd_syntax.specs.Placed.{PlacedTree, unplaced}
use Rattle.xd_clauses.specs.Clauses.{Accepted, AreMayGivens}
use Rattle.xd_clauses.specs.Compiled.{AreRunsGivens, IsNumbered}
use Rattle.xd_clauses.proofs.Givens.{if_some_map}
use Rattle.xd_clauses.proofs.NumberedLemmas.{all_may_bind, found_live, none_comes}
use Rattle.xd_clauses.proofs.numbered.NumberedPattern.bindings.Goals as goal

pub returns-clause-accepting : goal.returns-clause-accepting
returns-clause-accepting c = keeps c.args.auto.now c.given_by.new.auto c.len-states.ensures.closed c.given_by.ensures.extends

pub returns-clause-dead : goal.returns-clause-dead
returns-clause-dead c = λ e E P i. none_comes E P c.args.self.patterns.now c.args.self.number i c.args.auto.now c.args.arriving (c.in_ok-found.ensures.none e)

pub returns-clause-live : goal.returns-clause-live
returns-clause-live c = found_live c.args.self.patterns.now c.args.self.number c.args.auto.now c.args.arriving c.in_ok-found.found c.in_ok-found.ensures.shared

pub returns-clause-bindings : goal.returns-clause-bindings
returns-clause-bindings c =
    let m = c.args.self.patterns.now in
    let n = c.args.self.number in
    let q = c.args.auto.now in
    let t = c.args.arriving in
    let made = c.given_by.new.auto in
    if_some_map (λ gs. AreRunsGivens false q m n t made gs.items) (λ gs. (E : Definitions) (P : PlacedTree) → IsNumbered E (unplaced P) m n → AreMayGivens E (Accepted q t) [] P made gs.items) c.in_ok-found.found
    (λ gs are E P i. all_may_bind E P m n i q t made gs.items are) c.in_ok-found.ensures.givens
