use Rattle.xd_auto.proofs.ExtendsLemmas.{keeps}
use Rattle.xd_clauses.proofs.NumberedLemmas.{found_live, none_comes}
use Rattle.xd_clauses.proofs.numbered.NumberedPattern.first_bindings.Goals as goal

pub returns-clause-accepting : goal.returns-clause-accepting
returns-clause-accepting c = keeps c.args.auto.now c.given_by.new.auto c.len-states.ensures.closed c.given_by.ensures.extends

pub returns-clause-dead : goal.returns-clause-dead
returns-clause-dead c = λ e E P i. none_comes E P c.args.self.patterns.now c.args.self.number i c.args.auto.now c.args.arriving (c.in_ok-found.ensures.none e)

pub returns-clause-live : goal.returns-clause-live
returns-clause-live c = found_live c.args.self.patterns.now c.args.self.number c.args.auto.now c.args.arriving c.in_ok-found.found c.in_ok-found.ensures.shared
