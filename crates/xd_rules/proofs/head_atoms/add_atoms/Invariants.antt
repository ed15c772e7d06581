use Rattle.std.proofs.Common.{◌≡◌, ◌++◌, map, take}
use Rattle.std.specs.List.{filter}
use Rattle.xd_rules.proofs.head_atoms.add_atoms.Given as goal

abbrev pub invariant-loop-name : goal.invariant-loop-name
invariant-loop-name g l = l.atoms.items ≡ l.initial.atoms.items ++ map g.C.Names.named (filter (g.C.Names.has_name l.class) (take l.name-index l.names))
