-- Terms gathered by their unknowns.
use Rattle.std.specs.Prelude.{◌≡◌, ◌<◌, ℕ, List, ◌∷◌, map, length, get_or}
use Rattle.std.specs.List.{AllByRecursion}
use Rattle.xd_syntax.specs.Table.{Row, tree_at}
use Rattle.xd_syntax.specs.TreeForms.{alt_of}
use Rattle.xd_syntax.specs.Types.{BelongsTo}
use Rattle.xd_same_types.specs.Same.{trees}
use Rattle.xd_show_solve.specs.Equations.{Product}
use Rattle.xd_show_solve.specs.declared.bundles.Bundle.{Bundle}

-- one of the types of a bundle in front of its unknown
abbrev pub bundle_in : List Row → Bundle → Product
bundle_in types b = record { by = alt_of (tree_at types b.first.at ∷ trees types b.more.items); to = b.to }

abbrev pub bundles_in : List Row → List Bundle → List Product
bundles_in types bs = map (bundle_in types) bs

-- the types that the bundles name are there
pub record BundleStands (types : List Row) (b : Bundle) : Type 0 where
  pub first : BelongsTo types b.first
  pub more : AllByRecursion (BelongsTo types) b.more.items

abbrev pub BundlesStand : List Row → List Bundle → Type 0
BundlesStand types bs = AllByRecursion (BundleStands types) bs

-- a bundle of the unknown stands at the place
pub record IsBundleOf (to : ℕ) (bs : List Bundle) (k : ℕ) : Type 0 where
  pub within : k < length bs
  pub right : (b : Bundle) → b ≡ get_or bs k b → b.to ≡ to
