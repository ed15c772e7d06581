use Rattle.std.proofs.Common.{◌≡◌, ℕ, ◌<◌, []}
use Rattle.xd_rec.specs.Components.{IsSearched, standing_of}
use Rattle.xd_rec.specs.declared.components.Standing.TheVariants.{Unseen}
use Rattle.xd_rec.proofs.components.components.Given as goal

abbrev pub invariant-loop-node : goal.invariant-loop-node
invariant-loop-node l = record {
  searched : IsSearched l.graph l.search.standing.items l.search.path.items l.search.todo.items l.search.segments.items l.search.finished;
  idle : l.search.segments.items ≡ [];
  seen : (v : ℕ) → v < l.node → standing_of l.search.standing.items v ≡ Unseen → ⊥;
}
