use Rattle.std.proofs.Common.{◌≡◌, ℕ, Bool, true, take}
use Rattle.std.specs.List.{AllByRecursion}
use Rattle.xd_proof_make.specs.Met.{AllPass, IsMet, LeadsTo, MeetsMore}
use Rattle.xd_proof_make.proofs.reach.meet_choices.Given as goal

abbrev pub invariant-loop-choice : goal.invariant-loop-choice
invariant-loop-choice l = record {
  more : MeetsMore l.initial.met.order.items l.initial.met.numbers.items l.met.order.items l.met.numbers.items;
  ok : AllByRecursion (LeadsTo l.table.nodes (IsMet l.met.numbers.items)) (take l.choice-index l.choices);
  only : (p : ℕ → Bool) → AllByRecursion (LeadsTo l.table.nodes (λ g. p g ≡ true)) l.choices → AllPass p l.initial.met.order.items → AllPass p l.met.order.items;
}
