use Rattle.std.proofs.Common.{◌≡◌, drop}
use Rattle.xd_grammar.specs.Tests.{without_tests}
use Rattle.xd_grammar.proofs.machine.tests_len.Given as goal

abbrev pub invariant-loop-symbol : goal.invariant-loop-symbol
invariant-loop-symbol l = record { counted : l.len ≡ l.symbol-index; tests : without_tests (drop l.symbol-index l.row) ≡ without_tests l.row }
