use Rattle.std.proofs.Common.{◌≡◌, true, take, Contains}
use Rattle.std.specs.List.{list_any}
use Rattle.std.specs.Ordering.{is_eq}
use Rattle.xd_auto.specs.Index.{AddsTo, numbers_at}
use Rattle.xd_auto.proofs.auto.index.put_each.Given as goal

abbrev pub invariant-loop-name : goal.invariant-loop-name
invariant-loop-name g l = record {
  adds : (q : g.row.N.Denot) → AddsTo l.number (numbers_at g.N.Ord.cmp l.initial.named q) (numbers_at g.N.Ord.cmp l.named q);
  stands : (q : g.row.N.Denot) → list_any (λ name. is_eq (g.N.Ord.cmp name q)) (take l.name-index l.names) ≡ true → Contains (numbers_at g.N.Ord.cmp l.named q) l.number;
}
