use Rattle.std.proofs.Common.{List, Option, take}
use Rattle.xd_syntax.specs.Table.{Row}
use Rattle.xd_syntax.specs.Tree.{Tree}
use Rattle.xd_show_solve.specs.Bundles.{BundlesStand, bundles_in}
use Rattle.xd_show_solve.specs.Equations.{SameSide, TermsStand, products}
use Rattle.xd_show_solve.proofs.SideLaws.{a_side}
use Rattle.xd_show_solve.proofs.bundles.bundled.Given as goal

abbrev pub invariant-loop-term : goal.invariant-loop-term
invariant-loop-term l = record {
  same : (types : List Row) (o : Option Tree) → SameSide (a_side (products types (take l.term-index l.terms)) o) (a_side (bundles_in types l.bundles.items) o);
  stand : (types : List Row) → TermsStand types (take l.term-index l.terms) → BundlesStand types l.bundles.items;
}
