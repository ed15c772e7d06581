use Rattle.std.proofs.Common.{◌≡◌, ◌++◌, take, flat_map}
use Rattle.xd_proof_write.specs.Written.{case_line}
use Rattle.xd_proof_write.proofs.lines.write_cases.Given as goal

abbrev pub invariant-loop-case : goal.invariant-loop-case
invariant-loop-case l = l.out.items ≡ l.fn.out.items ++ flat_map case_line (take l.case-index l.cases)
