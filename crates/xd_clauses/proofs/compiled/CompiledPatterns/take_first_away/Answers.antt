use Rattle.std.proofs.Common.{◌≡◌, ◌≤◌, List, length, take, ap, arith, sym}
use Rattle.std.proofs.lemmas.List.{length-take-le}
use Rattle.xd_auto.specs.declared.auto.State.{State}
use Rattle.xd_auto.specs.Automaton.{accepts}
use Rattle.xd_patterns.specs.CompiledProgram.{pattern_states}
use Rattle.xd_clauses.proofs.NumberedLemmas.{as_many_states, firsts_there, left_by_firsts}
use Rattle.xd_clauses.proofs.compiled.CompiledPatterns.take_first_away.Goals as goal

pub slice_bounds-firsts-end : goal.slice_bounds-firsts-end
slice_bounds-firsts-end c =
    let p = c.requires.patterns in
    let many : length c.args.self.now.ids.items ≡ length (pattern_states c.args.self.now.compiled) = as_many_states p.0 p.1 c.args.self.now p.2 in
    let own : length c.patterns.result.now ≡ length (pattern_states c.args.self.now.compiled) = ap (λ (ss : List State). length ss) c.patterns.ensures in
    let within : c.args.count ≤ length c.patterns.result.now = omega (arith, c.requires.count) in
    sym (length-take-le c.args.count c.patterns.result.now within)

pub take_away-requires-clause-universal : goal.take_away-requires-clause-universal
take_away-requires-clause-universal c = c.requires.patterns.2.universal

pub take_away-requires-clause-rights : goal.take_away-requires-clause-rights
take_away-requires-clause-rights c =
    let p = c.requires.patterns in
    firsts_there p.0 p.1 c.args.self.now p.2 c.args.count (take c.args.count c.patterns.result.now) (ap (λ (ss : List State). take c.args.count ss) c.patterns.ensures)

pub returns-clause-exact : goal.returns-clause-exact
returns-clause-exact c = λ E rows are d.
    let m = c.args.self.now in
    left_by_firsts E rows m are c.args.count (take c.args.count c.patterns.result.now) (ap (λ (ss : List State). take c.args.count ss) c.patterns.ensures) (accepts c.take_away.new.auto d c.in_ok-left.left) (accepts c.args.auto.now d c.args.state) d
    (c.in_ok-left.ensures.exact d)
