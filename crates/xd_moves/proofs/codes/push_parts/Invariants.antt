use Rattle.std.proofs.Common.{◌≡◌, ◌++◌, map, take}
use Rattle.xd_syntax.specs.Types.{type_numbers}
use Rattle.xd_moves.specs.Codes.{number_at}
use Rattle.xd_moves.proofs.codes.push_parts.Given as goal

abbrev pub invariant-loop-part : goal.invariant-loop-part
invariant-loop-part l = l.code.items ≡ l.initial.code.items ++ map (number_at l.numbers) (type_numbers (take l.part-index l.parts))
