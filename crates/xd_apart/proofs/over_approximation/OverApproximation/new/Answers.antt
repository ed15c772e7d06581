use Rattle.std.proofs.Common.{◌≡◌, ◌<◌, ℕ, [], arith, length, subst, sym}
use Rattle.std.proofs.lemmas.List.{take_all}
use Rattle.xd_auto.specs.Automaton.{Automaton}
use Rattle.xd_boole.specs.Meaning.{less}
use Rattle.xd_boole.specs.Points.{point_at, state_at}
use Rattle.xd_apart.specs.OverApproximation.{Approximates}
use Rattle.xd_apart.proofs.StepLemmas.{nothing_found, start_approximates}
use Rattle.xd_apart.proofs.over_approximation.OverApproximation.new.Goals as goal

pub returns-clause-approximation : goal.returns-clause-approximation
returns-clause-approximation c = λ b.
    let a : Automaton = c.args.lefts in
    let points = c.loop-number.points.items in
    let all : c.loop-number.number ≡ length a = omega (arith, c.len-number-end.ensures.value, c.loop-number.auto.number-end, c.loop-number-test.false) in
    let count : length points ≡ length a = omega (arith, all, c.loop-number.invariant.count) in
    let each : (i : ℕ) → i < length a → point_at points i ≡ less (state_at i) [] = λ i lt. c.loop-number.invariant.each i (omega (arith, lt, all)) in
    record {
      within = omega (arith, c.len.ensures.value);
      approximates = subst (λ (x : Automaton). Approximates x b a points) (sym (take_all c.len.result a (omega (arith, c.len.ensures.value)))) (start_approximates a b points c.len.ensures.closed count each);
      only = λ key i at. absurd (nothing_found c.new-2.result c.new-2.ensures.empty key i at);
    }
