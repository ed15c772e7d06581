use Rattle.std.proofs.Common.{◌≡◌, [], List, length, arith, refl, ap, sym, ◌∙◌}
use Rattle.std.proofs.lemmas.Bool.Decides.{nat_tests}
use Rattle.std.proofs.lemmas.List.{nil_from_length}
use Rattle.xd_auto.specs.declared.auto.State.{State}
use Rattle.xd_auto.specs.Automaton.{accepts}
use Rattle.xd_auto.proofs.ExtendsLemmas.{extends_then}
use Rattle.xd_auto.proofs.Universals.{accepts_all}
use Rattle.xd_boole.specs.Meaning.{any_accepts}
use Rattle.xd_clauses.proofs.Leaving.{alone_left, and_all}
use Rattle.xd_clauses.proofs.compiled.CompiledPatterns.take_away.Goals as goal

pub returns-then-is_empty-clause-exact : goal.returns-then-is_empty-clause-exact
returns-then-is_empty-clause-exact c = λ d.
    let rights = c.args.rights.now in
    let b = c.args.self.now.states.auto in
    let is = sym c.is_empty.ensures ∙ c.if-is_empty.true in
    let count : length rights ≡ 0 = grind (arith, nat_tests) in
    let none : rights ≡ [] = nil_from_length rights count in
    sym (and_all (accepts c.args.auto.now d c.args.state) (any_accepts b rights d) (ap (λ (ss : List State). any_accepts b ss d) none))

pub accept-requires-clause-table : goal.accept-requires-clause-table
accept-requires-clause-table c = c.new-table.ensures.table c.args.auto.now c.args.self.now.states

pub returns-clause-exact : goal.returns-clause-exact
returns-clause-exact c = λ d.
    let m = c.args.self.now in
    let w = any_accepts m.states.auto c.args.rights.now d in
    c.in_ok-made.ensures.exact d ∙ c.in_ok-found.ensures.exact d
    ∙ alone_left (accepts c.args.auto.now d c.args.state) (accepts m.states.auto d m.all) w w (accepts_all m.states.auto m.all c.requires.universal d) refl

pub returns-clause-extends : goal.returns-clause-extends
returns-clause-extends c = extends_then c.args.auto.now c.accept.new.auto c.found_or_nothing.new.auto c.in_ok-found.ensures.extends c.found_or_nothing.ensures.extends

pub returns-in_err-made-clause-extends : goal.returns-in_err-made-clause-extends
returns-in_err-made-clause-extends c = extends_then c.args.auto.now c.accept.new.auto c.found_or_nothing.new.auto c.in_ok-found.ensures.extends c.found_or_nothing.ensures.extends
