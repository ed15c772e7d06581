use Rattle.std.proofs.Common.{Option, take}
use Rattle.xd_same_types.specs.Grown.{GrowsTypes}
use Rattle.xd_syntax.specs.Tree.{Tree}
use Rattle.xd_show_solve.specs.Bundles.{bundles_in}
use Rattle.xd_show_solve.specs.Equations.{SameSide, TermsStand, products}
use Rattle.xd_show_solve.proofs.SideLaws.{a_side}
use Rattle.xd_show_solve.proofs.bundles.terms_of.Given as goal

abbrev pub invariant-loop-bundle : goal.invariant-loop-bundle
invariant-loop-bundle l = record {
  keeps : GrowsTypes l.fn.pool.types l.pool.types;
  stand : TermsStand l.pool.types l.terms.items;
  same : (o : Option Tree) → SameSide (a_side (bundles_in l.fn.pool.types (take l.bundle-index l.bundles)) o) (a_side (products l.pool.types l.terms.items) o);
}
