use Rattle.std.proofs.Common.{◌≡◌, ◌++◌, take, map}
use Rattle.std.proofs.Common.{reverse}
use Rattle.xd_syntax.specs.Kept.{type_definition}
use Rattle.xd_rec.specs.Uses.{AllBelong, parts_uses, sizes, test_of, uses_from}
use Rattle.xd_rec.proofs.UseLemmas.{definition_parts}
use Rattle.xd_rec.proofs.uses.top_uses.Given as goal

abbrev pub invariant-loop-owner : goal.invariant-loop-owner
invariant-loop-owner l = record { listed : l.parts.items ≡ definition_parts 0 (take l.owner l.defs) }

abbrev pub invariant-loop-part : goal.invariant-loop-part
invariant-loop-part l = record {
  belong : AllBelong l.types l.parts.items;
  listed : parts_uses (test_of l.marks l.defs) l.types l.parts.items ++ reverse l.uses.items ≡ uses_from (test_of l.marks l.defs) 0 (map (type_definition l.types) l.defs);
}

abbrev pub decreases-loop-part : goal.decreases-loop-part
decreases-loop-part l = sizes l.types l.parts.items
