-- What reading two types and comparing them gives together.
use Rattle.std.proofs.Common.{◌≡◌, ℕ, ◌≤◌, List, [], Option, Some, refl, ap, sym, subst, arith, ◌∙◌}
use Rattle.std.specs.Prelude.{is_some}
use Rattle.std.specs.Option.{IfSome}
use Rattle.xd_doc.specs.Document.{Document}
use Rattle.xd_syntax.specs.Tree.{uses_only}
use Rattle.xd_syntax.specs.NameFaults.{known_types}
use Rattle.xd_syntax.specs.PlacedTable.{placed_at}
use Rattle.xd_syntax.specs.Program.{ProgramTree}
use Rattle.xd_syntax.specs.ShallowTables.{AddsWithin}
use Rattle.xd_syntax.specs.Shallow.{nesting_limit}
use Rattle.xd_syntax.specs.SoundTables.{IsTypeAt}
use Rattle.xd_syntax.specs.Table.{Row, KeepsRows}
use Rattle.xd_syntax.specs.TypeDepth.{depth}
use Rattle.xd_syntax.specs.Types.{BelongsTo, tree}
use Rattle.xd_syntax.specs.declared.types.TypeId.{TypeId}
use Rattle.xd_syntax.proofs.PlacedTrees.{unplaced_at}
use Rattle.xd_sound.proofs.AdoptLaws.{type_kept}
use Rattle.xd_parse_trees.specs.Means.{IsProgramText, IsTypeText}
use Rattle.xd_proof.specs.TypeTexts.{SpellsType}
use Rattle.xd_inclusion.specs.Compared.{IsInclusion}
use Rattle.xd_inclusion.specs.declared.compare.Inclusion.{Inclusion}
use Rattle.xd_uses.specs.Comparison.{Compares, IsReadType}

-- a type of a table that began empty is no deeper than its text
pub within_limit : (types : List Row) (id : TypeId) → AddsWithin nesting_limit [] types → BelongsTo types id → depth (tree types id) ≤ nesting_limit
within_limit types id a b = a id.at (omega arith) b

-- what was read and adopted is the type of the text
pub type_read : (P : ProgramTree) (new types : List Row) (bytes : List ℕ) (id : TypeId) (adopted : Option TypeId) (made : TypeId) → IsTypeText bytes (placed_at types id.at) →
    is_some adopted ≡ uses_only (known_types P) (tree types id) → IfSome adopted (IsTypeAt new (tree types id)) → adopted ≡ Some made → IsReadType P new bytes made
type_read P new types bytes id adopted made text known found e =
    let at : IsTypeAt new (tree types id) made = subst (λ (o : Option TypeId). IfSome o (IsTypeAt new (tree types id))) e found in (
      at.belongs,
      record {
        placed = placed_at types id.at;
        text = text;
        same = unplaced_at types id.at ∙ sym at.same;
        known_names = ap (uses_only (known_types P)) at.same ∙ (sym known ∙ ap is_some e);
      },
    )

-- it stays while types are added
pub read_kept : (P : ProgramTree) (old new : List Row) (bytes : List ℕ) (id : TypeId) → KeepsRows old new → IsReadType P old bytes id → IsReadType P new bytes id
read_kept P old new bytes id k r =
    let at = type_kept old new (tree old id) id k (record { belongs = r.0; same = refl }) in
    (at.belongs, subst (SpellsType (known_types P) bytes) (sym at.same) r.1)

-- a decision between types that were read is one between the types of the texts
pub compared : (P : ProgramTree) (types : List Row) (definitions left right : List ℕ) (one other : TypeId) (ds : List Document) (i : Inclusion) → IsProgramText definitions P →
    IsReadType P types left one → IsReadType P types right other → IsInclusion P (tree types one) (tree types other) ds i → Compares definitions left right ds i
compared P types definitions left right one other ds i p l r d = record {
  program = P;
  L = tree types one;
  R = tree types other;
  defined = p;
  left_spelled = l.1;
  right_spelled = r.1;
  decided = d;
}
