-- Tables to which rows were added, and tables of programs.
use Rattle.std.proofs.Common.{◌≡◌, ℕ, ◌<◌, ◌≤◌, arith, List, length, length-append, ap, sym, subst, ◌∙◌}
use Rattle.std.specs.List.{AllByRecursion}
use Rattle.xd_doc.proofs.Lists.{all_more}
use Rattle.xd_syntax.specs.Kept.{ProgramStands, ProgramTable, TypeDefStands}
use Rattle.xd_syntax.specs.Table.{Row, KeepsRows, tree_at}
use Rattle.xd_syntax.specs.declared.types.TypeDef.{TypeDef}
use Rattle.xd_syntax.proofs.Trees.{tree_kept}

module _ (old new : List Row) (k : KeepsRows old new) where
  pub tree_stays : (i : ℕ) → i < length old → tree_at new i ≡ tree_at old i
  tree_stays i h = ap (λ rs. tree_at rs i) k.grown ∙ tree_kept old k.more i h

  pub more_rows : length old ≤ length new
  more_rows = let e = ap length k.grown in omega (arith, length-append old k.more)

-- types and definitions that are those of a program
pub bodies_stand : (p : ProgramTable) → ProgramStands p → AllByRecursion (λ (d : TypeDef). d.body.at < length p.types) p.type_defs
bodies_stand p s = all_more (TypeDefStands p.types) (λ d. d.body.at < length p.types) p.type_defs (λ d t. t.body) s.type_defs
