use Rattle.std.proofs.Common.{ℕ, ◌∙◌, ap, sym}
use Rattle.std.specs.Prelude.{◌==◌}
use Rattle.std.specs.List.{list_any}
use Rattle.std.proofs.lemmas.List.{take_all}
use Rattle.std.proofs.lemmas.List.Sorted.{IsNonDecreasingBy-from_sort, list_any-IsPermutation}
use Rattle.xd_auto.specs.Automaton.{state_number}
use Rattle.xd_stream.specs.Pairs.{ends_in}
use Rattle.xd_stream.proofs.pairs.ended_firsts.Goals as goal

pub returns-clause-order : goal.returns-clause-order
returns-clause-order c = IsNonDecreasingBy-from_sort (λ (n : ℕ). n) _ c.sort_unstable.ensures.sorted

pub returns-clause-ended : goal.returns-clause-ended
returns-clause-ended c = λ s.
    sym (list_any-IsPermutation (λ (n : ℕ). n == state_number s) c.loop-pair.into.items _ c.sort_unstable.ensures.permutation)
    ∙ c.loop-pair.invariant s
    ∙ ap (list_any (ends_in c.args.auto.now s)) (take_all c.loop-pair.pair-index c.args.pairs.now c.loop-pair-test.false)
