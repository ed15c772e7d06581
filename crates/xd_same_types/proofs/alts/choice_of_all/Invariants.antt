use Rattle.std.proofs.Common.{◌≡◌, ◌<◌, ◌⊎◌, ◌∷◌, true, take, length}
use Rattle.xd_same_types.specs.Grown.{GrowsTypes}
use Rattle.xd_syntax.specs.TreeForms.{alt_of}
use Rattle.xd_syntax.specs.Types.{tree}
use Rattle.xd_same_types.specs.Same.{AreAltParts, IsChoice, trees}
use Rattle.xd_same_types.proofs.alts.choice_of_all.Given as goal

abbrev pub invariant-loop-id : goal.invariant-loop-id
invariant-loop-id l = record {
  keeps : GrowsTypes l.fn.pool.types l.pool.types;
  parts : AreAltParts l.pool.types l.some.parts.items;
  some : (0 < length l.some.parts.items) ⊎ (l.empty ≡ true);
  choice : IsChoice (alt_of (tree l.fn.pool.types l.fn.first ∷ trees l.fn.pool.types (take l.id-index l.more))) (trees l.pool.types l.some.parts.items) l.empty;
}
