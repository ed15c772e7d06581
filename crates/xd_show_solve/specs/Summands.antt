-- Summands that aren't put together yet.
use Rattle.std.specs.Prelude.{⊤, List, ◌∷◌, Option, Some, None}
use Rattle.std.specs.List.{AllByRecursion}
use Rattle.std.specs.Option.{IfSome}
use Rattle.xd_syntax.specs.Tree.{Tree}
use Rattle.xd_syntax.specs.TreeForms.{alt_of}
use Rattle.xd_syntax.specs.Table.{Row, tree_at}
use Rattle.xd_syntax.specs.Types.{BelongsTo}
use Rattle.xd_syntax.specs.declared.types.TypeId.{TypeId}
use Rattle.xd_same_types.specs.Same.{MeansSame, trees}
use Rattle.xd_show_solve.specs.Equations.{Side, TermsStand, products}
use Rattle.xd_show_solve.specs.declared.summands.Summands.{Summands}

-- one of several types, if there is a first one
abbrev pub one_in : List Row → Option TypeId → List TypeId → Option Tree
one_in types None more = None
one_in types (Some first) more = Some (alt_of (tree_at types first.at ∷ trees types more))

-- the right side that summands over a table of types stand for
abbrev pub summands_in : List Row → Summands → Side
summands_in types s = record { products = products types s.terms.items; constant = one_in types s.first s.more.items }

-- the types that summands name are there
pub record SummandsStand (types : List Row) (s : Summands) : Type 0 where
  pub terms : TermsStand types s.terms.items
  pub first : IfSome s.first (BelongsTo types)
  pub more : AllByRecursion (BelongsTo types) s.more.items

-- the second type means what the first does; there is none where there is none
abbrev pub MeansOne : Option Tree → Option Tree → Type 0
MeansOne None None = ⊤
MeansOne (Some T) (Some U) = MeansSame U T
MeansOne None (Some U) = ⊥
MeansOne (Some T) None = ⊥
