use Rattle.std.proofs.Common.{◌≡◌, ℕ, [], Vec, Global, map, vec_len}
use Rattle.xd_sound.specs.Graph.{successors}
use Rattle.xd_sound.proofs.graph.Graph.new.Given as goal

abbrev pub invariant-loop : goal.invariant-loop
invariant-loop l = record {
  count : vec_len l.targets ≡ l.counter;
  bare : (v : ℕ) → successors (map (λ (t : Vec ℕ Global). t.items) l.targets.items) v ≡ [];
}
