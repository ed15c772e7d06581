use Rattle.std.proofs.Common.{◌≡◌, map, take}
use Rattle.xd_heads.specs.Compiled.{is_on_text}
use Rattle.xd_heads.proofs.compile.sorts_of.Given as goal

abbrev pub invariant-loop-one : goal.invariant-loop-one
invariant-loop-one l = l.sorts.items ≡ map (is_on_text l.types) (take l.one-index l.found)
