use Rattle.std.proofs.Common.{◌≡◌, ◌++◌, drop}
use Rattle.xd_variables.specs.Read.{placed_givens}
use Rattle.xd_variables.proofs.reader.push_variables.Given as goal

abbrev pub invariant-loop-number : goal.invariant-loop-number
invariant-loop-number l = l.variables.items ++ placed_givens (drop l.number l.places) (drop l.number l.givens) ≡ l.initial.variables.items ++ placed_givens l.places l.givens
