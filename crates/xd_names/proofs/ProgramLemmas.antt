-- A program's definitions as they are kept and as they are.
use Rattle.std.proofs.Common.{◌≡◌, ℕ, List, [], ◌∷◌, ◌++◌, map, flat_map, refl, ap, ◌∙◌}
use Rattle.xd_syntax.specs.Table.{Row}
use Rattle.xd_syntax.specs.PlacedTable.{placed_at}
use Rattle.xd_syntax.specs.Program.{TypeDefinition, Parameter, FunctionDefinition}
use Rattle.xd_syntax.specs.FunctionRow.{FunctionRow}
use Rattle.xd_syntax.specs.Kept.{ProgramTable, type_definition, parameter, function_definition}
use Rattle.xd_syntax.specs.NameFaults.{Spot, duplicates, parameter_spots, unknown_types}
use Rattle.xd_syntax.specs.declared.types.TypeDef.{TypeDef}
use Rattle.xd_syntax.specs.declared.program.Param.{Param}
use Rattle.xd_names.specs.Spots.{type_spot, function_spot, param_spot}
use Rattle.xd_names.proofs.LinearLemmas.{Same}
use Rattle.xd_names.proofs.NameLemmas.{unknown-same}

abbrev pub definition_spot : TypeDefinition → Spot
definition_spot t = record { word = t.name; place = t.place }

abbrev pub of_function : FunctionDefinition → Spot
of_function f = record { word = f.name; place = f.place }

pub spots_types : (types : List Row) (defs : List TypeDef) → map type_spot defs ≡ map definition_spot (map (type_definition types) defs)
spots_types types [] = refl
spots_types types (t ∷ ts) = ap (λ ss. type_spot t ∷ ss) (spots_types types ts)

pub spots_functions : (p : ProgramTable) (fs : List FunctionRow) → map function_spot fs ≡ map of_function (map (function_definition p) fs)
spots_functions p [] = refl
spots_functions p (f ∷ fs) = ap (λ ss. function_spot f ∷ ss) (spots_functions p fs)

spots_params : (types : List Row) (ps : List Param) → map param_spot ps ≡ parameter_spots (map (parameter types) ps)
spots_params types [] = refl
spots_params types (q ∷ qs) = ap (λ ss. param_spot q ∷ ss) (spots_params types qs)

pub params_twice : (p : ProgramTable) (fs : List FunctionRow) →
    flat_map (λ (f : FunctionRow). duplicates [] (map param_spot f.params)) fs ≡ flat_map (λ (g : FunctionDefinition). duplicates [] (parameter_spots g.parameters)) (map (function_definition p) fs)
params_twice p [] = refl
params_twice p (f ∷ fs) =
    ap (λ ds. ds ++ flat_map (λ (g : FunctionRow). duplicates [] (map param_spot g.params)) fs) (ap (duplicates []) (spots_params p.types f.params))
    ∙ ap (λ ds. duplicates [] (parameter_spots (map (parameter p.types) f.params)) ++ ds) (params_twice p fs)

pub declared_faults : (k l : List (List ℕ)) → Same k l → (types : List Row) (ps : List Param) →
    flat_map (λ (q : Param). unknown_types k (placed_at types q.body.at)) ps ≡ flat_map (λ (q : Parameter). unknown_types l q.declared) (map (parameter types) ps)
declared_faults k l h types [] = refl
declared_faults k l h types (q ∷ qs) =
    ap (λ fs. fs ++ flat_map (λ (r : Param). unknown_types k (placed_at types r.body.at)) qs) (unknown-same k l (placed_at types q.body.at) h)
    ∙ ap (λ fs. unknown_types l (placed_at types q.body.at) ++ fs) (declared_faults k l h types qs)

pub body_uses : (k l : List (List ℕ)) → Same k l → (types : List Row) (defs : List TypeDef) →
    flat_map (λ (t : TypeDef). unknown_types k (placed_at types t.body.at)) defs ≡ flat_map (λ (t : TypeDefinition). unknown_types l t.body) (map (type_definition types) defs)
body_uses k l h types [] = refl
body_uses k l h types (t ∷ ts) =
    ap (λ fs. fs ++ flat_map (λ (u : TypeDef). unknown_types k (placed_at types u.body.at)) ts) (unknown-same k l (placed_at types t.body.at) h)
    ∙ ap (λ fs. unknown_types l (placed_at types t.body.at) ++ fs) (body_uses k l h types ts)

pub names_params : (types : List Row) (ps : List Param) → map (λ (q : Param). q.name) ps ≡ map (λ (q : Parameter). q.name) (map (parameter types) ps)
names_params types [] = refl
names_params types (q ∷ qs) = ap (λ ws. q.name ∷ ws) (names_params types qs)
