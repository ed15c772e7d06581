use Rattle.std.proofs.Common.{◌≡◌, ◌<◌, ◌-◌, ◌∙◌, ◌++◌, ◌∷◌, [], ap, arith, length, set, sym}
use Rattle.xd_auto.specs.Automaton.{state_number}
use Rattle.xd_empty.specs.Uses.{lists_by_state, uses_at}
use Rattle.xd_empty.proofs.UsesLemmas.{list_at, list_set}
use Rattle.xd_empty.proofs.uses.Uses.list.Goals as goal

pub returns-clause-ok : goal.returns-clause-ok
returns-clause-ok c =
    let uses = c.args.self.now in
    let n = state_number c.args.under in
    let place : c.number.result - uses.first ≡ n - uses.first = ap (λ k. k - uses.first) c.number.ensures in
    let below : c.number.result - uses.first < length uses.lists.items = omega (arith, c.number.ensures, c.requires.from, c.requires.below) in
    let old : uses_at (lists_by_state uses) c.args.under ≡ c.index_mut.result.now.items = list_at uses.first uses.lists.items (c.number.result - uses.first) n place c.requires.from c.index_mut.result.now below c.index_mut.ensures.value in
    list_set uses.first uses.lists.items (c.number.result - uses.first) n place c.requires.from c.push.new.self
    ∙ ap (λ w. set (lists_by_state uses) n w) (c.in_ok-push.ensures.items ∙ ap (λ w. w ++ c.args.step ∷ []) (sym old))
