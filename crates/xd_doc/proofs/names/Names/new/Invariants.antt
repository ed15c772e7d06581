use Rattle.std.proofs.Common.{◌≡◌, true, drop}
use Rattle.std.specs.List.{AllByRecursion}
use Rattle.xd_doc.proofs.names.Names.new.Given as goal

abbrev pub invariant-loop-name : goal.invariant-loop-name
invariant-loop-name g l = AllByRecursion (λ n. g.N.Name.is_name n ≡ true) (drop l.name-index l.name-items) → AllByRecursion (λ n. g.N.Name.is_name n ≡ true) l.name-items
