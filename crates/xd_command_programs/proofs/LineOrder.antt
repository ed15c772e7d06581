-- Lines in order are so that none comes before an earlier one.
use Rattle.std.proofs.Common.{◌≡◌, ℕ, Bool, true, false, ◌&&◌, ◌||◌, nat_lt, nat_eq, List, [], arith}
use Rattle.std.specs.Cmp.{IsStrictWeakOrder}
use Rattle.std.proofs.lemmas.Bool.Decides.{nat_tests}
use Rattle.xd_syntax.specs.CheckFaults.{Line, rank, line_precedes, lines_in_order}
use Rattle.xd_syntax.proofs.OrderedLemmas.{IsUp, put_all_up}

abbrev before : ℕ → ℕ → ℕ → ℕ → ℕ → ℕ → Bool
before a b m c d n = (nat_lt a c || (nat_eq a c && nat_lt b d)) || ((nat_eq a c && nat_eq b d) && nat_lt m n)

one_way : (a b m c d n : ℕ) → before a b m c d n ≡ true → before c d n a b m ≡ false
one_way a b m c d n e = grind (arith, nat_tests, e)

chain : (a b m c d n e f k : ℕ) → before a b m c d n ≡ false → before c d n e f k ≡ false → before a b m e f k ≡ false
chain a b m c d n e f k p q = grind (arith, nat_tests, p, q)

lines_weak : IsStrictWeakOrder line_precedes
lines_weak = record {
  one_way = λ l m e. one_way l.place.line l.place.column (rank l.kind) m.place.line m.place.column (rank m.kind) e;
  chain = λ l m k p q. chain l.place.line l.place.column (rank l.kind) m.place.line m.place.column (rank m.kind) k.place.line k.place.column (rank k.kind) p q;
}

pub lines_up : (found : List Line) → IsUp line_precedes (lines_in_order found)
lines_up found = put_all_up line_precedes lines_weak [] found tt
