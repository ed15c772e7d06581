use Rattle.std.proofs.Common.{◌≡◌, ℕ, length}
use Rattle.xd_proof_make.specs.Met.{IsMet}
use Rattle.xd_proof_make.proofs.reach.none_met.Given as goal

abbrev pub invariant-loop : goal.invariant-loop
invariant-loop l = record {
  sized : length l.numbers.items ≡ l.counter;
  none : (g : ℕ) → IsMet l.numbers.items g → ⊥;
}
