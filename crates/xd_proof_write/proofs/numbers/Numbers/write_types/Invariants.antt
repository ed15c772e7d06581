use Rattle.std.proofs.Common.{◌≡◌, ◌++◌, take, map}
use Rattle.xd_proof_write.specs.Written.{type_lines}
use Rattle.xd_proof_write.proofs.numbers.Numbers.write_types.Given as goal

abbrev pub invariant-loop-i : goal.invariant-loop-i
invariant-loop-i l = l.out.items ≡ l.fn.out.items ++ type_lines 1 (map (λ text. text.items) (take l.i l.texts))
