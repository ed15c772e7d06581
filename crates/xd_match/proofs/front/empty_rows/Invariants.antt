use Rattle.std.proofs.Common.{ℕ, ◌≡◌, ◌<◌, [], length, get_or, Vec, Global}
use Rattle.xd_match.specs.declared.binding.Piece.{Piece}
use Rattle.xd_match.proofs.front.empty_rows.Given as goal

abbrev pub invariant-loop : goal.invariant-loop
invariant-loop l = record {
  count : length l.rows.items ≡ l.counter;
  bare : (x : ℕ) (e : Vec Piece Global) → x < l.counter → (get_or l.rows.items x e).items ≡ [];
}
