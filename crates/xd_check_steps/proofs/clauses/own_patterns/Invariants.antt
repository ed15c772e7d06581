use Rattle.std.proofs.Common.{◌≡◌, ℕ, Some, map, take}
use Rattle.std.specs.List.{slice_get}
use Rattle.xd_syntax.specs.declared.exprs.Clause.{Clause}
use Rattle.xd_meaning.specs.KeptFaults.{AllPaired}
use Rattle.xd_check_steps.proofs.clauses.own_patterns.Given as goal

abbrev pub invariant-loop-number : goal.invariant-loop-number
invariant-loop-number l = record {
  ids : l.ids.items ≡ map (λ (k : Clause). k.pattern) (take l.number l.clauses);
  numbers : AllPaired (λ (k : Clause) (n : ℕ). slice_get (map (λ (j : Clause). j.pattern) l.clauses) n ≡ Some k.pattern) (take l.number l.clauses) l.numbers.items;
}
