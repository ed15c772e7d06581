use Rattle.std.proofs.Common.{◌≡◌, ◌++◌, take}
use Rattle.xd_moves.proofs.codes.push_bytes.Given as goal

abbrev pub invariant-loop-byte : goal.invariant-loop-byte
invariant-loop-byte l = record { bytes : l.byte-items ≡ l.name; code : l.code.items ≡ l.initial.code.items ++ take l.byte-index l.name }
