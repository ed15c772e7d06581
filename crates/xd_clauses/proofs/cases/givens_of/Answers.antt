use Rattle.std.proofs.Common.{Ok, [], ap}
use Rattle.xd_syntax.specs.May.{IsLive, MayBind}
use Rattle.xd_syntax.specs.Placed.{unplaced}
use Rattle.xd_clauses.specs.Clauses.{Accepted}
use Rattle.xd_clauses.proofs.Givens.{all_nothing}
use Rattle.xd_clauses.proofs.cases.givens_of.Goals as goal

pub bindings-requires-clause-known : goal.bindings-requires-clause-known
bindings-requires-clause-known c = c.new-known.ensures c.args.auto.now c.new-store.result

pub returns : goal.returns
returns c E P p =
    let A = Accepted c.args.auto.now c.args.arriving in
    let dead : IsLive E A [] P → ⊥ = c.in_ok-givens.ensures.dead (ap (λ o. Ok o) c.in-None.is) E P p in
    all_nothing (MayBind E A [] P) (λ x d m. dead (m.0, m.2, (m.1, m.3))) c.given_nothing.new.auto P c.variables.result.now c.in_ok-givens-in-None.givens.items (c.variables.ensures E (unplaced P) p)
    c.in_ok-givens-in-None.ensures.givens
