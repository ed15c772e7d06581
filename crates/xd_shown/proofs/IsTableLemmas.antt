-- The text of a program's definitions of types reads back.
use Rattle.std.proofs.Common.{false, List, [], ◌∷◌, map, sym, subst}
use Rattle.std.specs.List.{AllByRecursion}
use Rattle.xd_syntax.specs.Table.{Row}
use Rattle.xd_syntax.specs.Placed.{unplaced}
use Rattle.xd_syntax.specs.Program.{TypeDefinition}
use Rattle.xd_syntax.specs.Kept.{ProgramTable, TypeDefStands, type_definition, program_tree}
use Rattle.xd_syntax.specs.Proper.{IsProperDefinition, IsProperProgram}
use Rattle.xd_syntax.specs.ProperTables.{IsTable}
use Rattle.xd_syntax.specs.declared.types.TypeDef.{TypeDef}
use Rattle.xd_syntax.proofs.PlacedTrees.{unplaced_at}
use Rattle.xd_type_laws.specs.DefinitionsText.{type_definitions}
use Rattle.xd_type_laws.specs.ReadBackLaws.{IsMerged, IsDefinition, ReadsWithin}
use Rattle.xd_type_laws.specs.ReadsBack.{AreReadBack}
use Rattle.xd_type_laws.proofs.Defined.{definitions_read_back}
use Rattle.xd_type_laws.proofs.Tables.{merged_node}

are_definitions : (types : List Row) → IsTable false types → (ds : List TypeDef) → AllByRecursion (TypeDefStands types) ds → AllByRecursion IsProperDefinition (map (type_definition types) ds) →
    AllByRecursion IsDefinition (map (λ (t : TypeDefinition). (t.name, unplaced t.body)) (map (type_definition types) ds))
are_definitions types table [] s p = tt
are_definitions types table (d ∷ ds) s p = (
  record {
    word = (p.0).name;
    plain = (s.0).name;
    merged = subst IsMerged (sym (unplaced_at types d.body.at)) (merged_node types table d.body.at (s.0).body);
    proper = (p.0).body;
  },
  are_definitions types table ds s.1 p.1,
)

pub reads_back : (p : ProgramTable) → IsTable false p.types → AllByRecursion (TypeDefStands p.types) p.type_defs → IsProperProgram (program_tree p) →
    AreReadBack (type_definitions (program_tree p)) × ReadsWithin (type_definitions (program_tree p))
reads_back p table stands proper =
    definitions_read_back (type_definitions (program_tree p)) (are_definitions p.types table p.type_defs stands proper.types)
