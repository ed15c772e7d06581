-- Tables of types that grow, and what names stand for in them.
use Rattle.std.proofs.Common.{ℕ, ◌≡◌, ◌<◌, arith, List, [], ◌∷◌, map, length, refl, ap, ◌∙◌}
use Rattle.std.specs.List.{AllByRecursion}
use Rattle.xd_doc.specs.Classes.{LabelClass}
use Rattle.xd_syntax.specs.Words.{any_word}
use Rattle.xd_syntax.specs.Tree.{Tree, Name, Elem, Text, Definitions, all_labels, any_type}
use Rattle.xd_syntax.specs.Table.{Row, KeepsRows, tree_at}
use Rattle.xd_syntax.specs.Placed.{PlacedTree, unplaced}
use Rattle.xd_syntax.specs.PlacedTable.{placed_at}
use Rattle.xd_syntax.specs.Program.{TypeDefinition}
use Rattle.xd_syntax.specs.Kept.{ProgramTable, ProgramStands, TypeDefStands, type_definition}
use Rattle.xd_syntax.specs.declared.types.TypeDef.{TypeDef}
use Rattle.xd_syntax.proofs.PlacedTrees.{placed_kept}
use Rattle.xd_syntax.proofs.TableRows.{KeepsRows-length, KeepsRows-tree}
use Rattle.xd_sound.proofs.EmptyLemmas.{bodies_below}
use Rattle.xd_sound.specs.TypeNames.{AreNumbered}
use Rattle.xd_continuations.proofs.Bodied.{are_bodies}
use Rattle.xd_match.specs.Meanings.{Means}
use Rattle.xd_match.specs.declared.meanings.Meanings.{Meanings}

-- the element and the text in the table that has both
pub part_trees : (t1 t2 t3 : List Row) (n e x : ℕ) (w : List ℕ) (k : LabelClass) → KeepsRows t2 t3 → e < length t2 → tree_at t1 n ≡ Name w → w ≡ any_word → k ≡ all_labels →
    tree_at t2 e ≡ Elem k (tree_at t1 n) → tree_at t3 x ≡ Text → (tree_at t3 e ≡ Elem all_labels (Name any_word)) × (tree_at t3 x ≡ Text) × (e < length t3)
part_trees t1 t2 t3 n e x w k keeps h name word all element text =
    let l = KeepsRows-length t2 t3 keeps in
    (KeepsRows-tree t2 t3 keeps e h ∙ element ∙ ap (λ T. Elem k T) (name ∙ ap Name word) ∙ ap (λ (c : LabelClass). Elem c (Name any_word)) all, text, omega arith)

abbrev pair : TypeDefinition → List ℕ × Tree
pair t = (t.name, unplaced t.body)

definitions_stay : (old new : List Row) → KeepsRows old new → (ds : List TypeDef) → AllByRecursion (TypeDefStands old) ds →
    map pair (map (type_definition new) ds) ≡ map pair (map (type_definition old) ds)
definitions_stay old new k [] s = refl
definitions_stay old new k (d ∷ ds) s =
    ap (λ (A : PlacedTree). (d.name, unplaced A) ∷ map pair (map (type_definition new) ds)) (ap (λ rs. placed_at rs d.body.at) k.grown ∙ placed_kept old k.more d.body.at s.0.body)
    ∙ ap (λ (E : Definitions). (d.name, unplaced (placed_at old d.body.at)) ∷ E) (definitions_stay old new k ds s.1)

pub means : (p : ProgramTable) (m : Meanings) → KeepsRows p.types m.types → ProgramStands p → AreNumbered m.bodies.names p.type_defs → m.bodies.any < length m.types → tree_at m.types m.bodies.any ≡ any_type → Means p m
means p m k stands numbered there is = record {
  names = ap (λ (E : Definitions). (any_word, any_type) ∷ E) (definitions_stay p.types m.types k p.type_defs stands.type_defs);
  bodies = are_bodies m.types p.type_defs m.bodies (bodies_below p.types (length m.types) (KeepsRows-length p.types m.types k) p.type_defs stands.type_defs) numbered there is;
}
