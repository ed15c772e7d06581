use Rattle.std.proofs.Common.{◌≡◌, ℕ, List, ◌++◌, map, flat_map, ap, sym, ◌∙◌, append_assoc}
use Rattle.std.proofs.lemmas.List.Folds.{flat_map-map}
use Rattle.std.proofs.lemmas.Result.{on_ok_weaker}
use Rattle.xd_syntax.specs.Table.{Row}
use Rattle.xd_syntax.specs.PlacedTable.{placed_at}
use Rattle.xd_syntax.specs.Program.{TypeDefinition, ProgramTree}
use Rattle.xd_syntax.specs.FunctionRow.{FunctionRow}
use Rattle.xd_syntax.specs.Kept.{ProgramTable, type_definition, function_definition}
use Rattle.xd_syntax.specs.NameFaults.{known_types, unknown_types, duplicate_names, function_faults}
use Rattle.xd_syntax.specs.declared.types.TypeDef.{TypeDef}
use Rattle.xd_syntax.specs.declared.fault.Fault.{Fault}
use Rattle.xd_names.specs.Knows.{whole}
use Rattle.xd_names.proofs.ProgramLemmas.{body_uses}
use Rattle.xd_names.proofs.program.in_program.Goals as goal

pub returns : goal.returns
unfolding whole
returns c =
    let p : ProgramTable = c.args.program.now in
    let W : ProgramTree = whole p in
    let K : List (List ℕ) = c.args.names.now.types in
    let old : List Fault = c.args.faults.now.items in
    let d : List Fault = duplicate_names W in
    let u : List Fault = flat_map (λ (t : TypeDefinition). unknown_types (known_types W) t.body) (map (type_definition p.types) p.type_defs) in
    let v : List Fault = flat_map (function_faults W) (map (function_definition p) p.functions) in
    let second : c.in_type_defs.new.faults.items ≡ (old ++ d) ++ u
    = c.in_ok-in_type_defs.ensures
    ∙ ap (λ fs. fs ++ flat_map (λ (t : TypeDef). unknown_types K (placed_at c.types-types.result.now t.body.at)) c.type_defs.result.now) c.in_ok-duplicated.ensures
    ∙ ap (λ fs. (old ++ d) ++ fs)
    (ap (λ (types : List Row). flat_map (λ (t : TypeDef). unknown_types K (placed_at types t.body.at)) c.type_defs.result.now) c.types-types.ensures.types
    ∙ ap (λ (defs : List TypeDef). flat_map (λ (t : TypeDef). unknown_types K (placed_at p.types t.body.at)) defs) c.type_defs.ensures.type_defs
    ∙ body_uses K (known_types W) c.requires.types p.types p.type_defs) in
    on_ok_weaker c.in_bodies.result
    (λ e. e
    ∙ ap (λ fs. fs ++ flat_map (λ (f : FunctionRow). function_faults W (function_definition p f)) p.functions) second
    ∙ ap (λ fs. ((old ++ d) ++ u) ++ fs) (sym (flat_map-map (function_faults W) (function_definition p) p.functions))
    ∙ ap (λ fs. fs ++ v) (append_assoc old d u)
    ∙ append_assoc old (d ++ u) v)
    c.in_bodies.ensures
