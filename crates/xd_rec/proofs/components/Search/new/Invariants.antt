use Rattle.std.proofs.Common.{◌≡◌, ℕ, vec_len}
use Rattle.xd_rec.specs.Components.{standing_of, unseen}
use Rattle.xd_rec.specs.declared.components.Standing.TheVariants.{Unseen}
use Rattle.xd_rec.proofs.components.Search.new.Given as goal

abbrev pub invariant-loop : goal.invariant-loop
invariant-loop l = record {
  count : vec_len l.standing ≡ l.counter;
  none : (v : ℕ) → standing_of l.standing.items v ≡ Unseen;
  all : unseen l.standing.items ≡ l.counter;
}
