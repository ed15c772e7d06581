use Rattle.std.proofs.Common.{◌≡◌, ◌++◌, map, take}
use Rattle.xd_patterns.specs.Starting.{pattern_piece, type_piece}
use Rattle.xd_patterns.proofs.compiled.pieces_of.Given as goal

abbrev pub invariant-loop-id : goal.invariant-loop-id
invariant-loop-id l = l.pieces.items ≡ map type_piece (take l.id-index l.types)

abbrev pub invariant-loop-id-2 : goal.invariant-loop-id-2
invariant-loop-id-2 l = l.pieces.items ≡ map type_piece l.types ++ map pattern_piece (take l.id-index l.patterns)
