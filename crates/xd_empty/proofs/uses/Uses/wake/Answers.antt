use Rattle.std.proofs.Common.{◌≡◌, ◌<◌, ◌-◌, ◌∙◌, ◌++◌, ap, arith, length, set, sym}
use Rattle.xd_auto.specs.Automaton.{state_number}
use Rattle.xd_empty.specs.Uses.{lists_by_state, uses_at}
use Rattle.xd_empty.proofs.UsesLemmas.{list_at, list_set}
use Rattle.xd_empty.proofs.uses.Uses.wake.Goals as goal

pub returns-clause-lists : goal.returns-clause-lists
returns-clause-lists c =
    let uses = c.args.self.now in
    let n = state_number c.args.found in
    let place : c.number.result - uses.first ≡ n - uses.first = ap (λ k. k - uses.first) c.number.ensures in
    list_set uses.first uses.lists.items (c.number.result - uses.first) n place c.requires.from c.append.new.other
    ∙ ap (λ w. set (lists_by_state uses) n w) c.in_ok-append.ensures.other_items

pub returns-clause-waiting : goal.returns-clause-waiting
returns-clause-waiting c =
    let uses = c.args.self.now in
    let n = state_number c.args.found in
    let place : c.number.result - uses.first ≡ n - uses.first = ap (λ k. k - uses.first) c.number.ensures in
    let below : c.number.result - uses.first < length uses.lists.items = omega (arith, c.number.ensures, c.requires.from, c.requires.below) in
    let old : uses_at (lists_by_state uses) c.args.found ≡ c.index_mut.result.now.items = list_at uses.first uses.lists.items (c.number.result - uses.first) n place c.requires.from c.index_mut.result.now below c.index_mut.ensures.value in
    c.in_ok-append.ensures.items ∙ ap (λ w. uses.waiting.items ++ w) (sym old)
