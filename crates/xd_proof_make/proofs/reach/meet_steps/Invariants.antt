use Rattle.std.proofs.Common.{◌≡◌, ℕ, Bool, true, take}
use Rattle.std.specs.List.{AllByRecursion}
use Rattle.xd_proof_make.specs.Met.{AllPass, IsMet, IsStepTo, MeetsMore}
use Rattle.xd_proof_make.proofs.reach.meet_steps.Given as goal

abbrev pub invariant-loop-step : goal.invariant-loop-step
invariant-loop-step l = record {
  more : MeetsMore l.initial.met.order.items l.initial.met.numbers.items l.met.order.items l.met.numbers.items;
  ok : AllByRecursion (IsStepTo (IsMet l.met.numbers.items)) (take l.step-index l.steps);
  only : (p : ℕ → Bool) → AllByRecursion (IsStepTo (λ g. p g ≡ true)) l.steps → AllPass p l.initial.met.order.items → AllPass p l.met.order.items;
}
