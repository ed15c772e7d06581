use Rattle.std.proofs.Common.{◌≡◌, ℕ, List, [], ◌∷◌, ◌++◌, map, flat_map, ap, ◌∙◌, append_assoc}
use Rattle.std.proofs.lemmas.Result.{on_ok_weaker}
use Rattle.xd_syntax.specs.Words.{any_word, string_word}
use Rattle.xd_syntax.specs.FunctionRow.{FunctionRow}
use Rattle.xd_syntax.specs.Kept.{ProgramTable, type_definition, function_definition}
use Rattle.xd_syntax.specs.NameFaults.{duplicates}
use Rattle.xd_syntax.specs.declared.types.TypeDef.{TypeDef}
use Rattle.xd_syntax.specs.declared.fault.Fault.{Fault}
use Rattle.xd_names.specs.Knows.{whole}
use Rattle.xd_names.specs.Spots.{type_spot, function_spot, param_spot}
use Rattle.xd_names.proofs.ProgramLemmas.{definition_spot, of_function, spots_types, spots_functions, params_twice}
use Rattle.xd_names.proofs.program.duplicated.Goals as goal

pub returns : goal.returns
unfolding whole
returns c =
    let p : ProgramTable = c.args.program.now in
    let old : List Fault = c.args.faults.now.items in
    let taken : List (List ℕ) = string_word ∷ (any_word ∷ []) in
    let s1 = map definition_spot (map (type_definition p.types) p.type_defs) in
    let s2 = map of_function (map (function_definition p) p.functions) in
    let d1 : List Fault = duplicates taken (map type_spot p.type_defs) in
    let d2 : List Fault = duplicates [] (map function_spot p.functions) in
    let d3 : List Fault = flat_map (λ (f : FunctionRow). duplicates [] (map param_spot f.params)) p.functions in
    let first : c.duplicated_types.new.faults.items ≡ old ++ d1
    = c.in_ok-duplicated_types.ensures ∙ ap (λ (defs : List TypeDef). old ++ duplicates taken (map type_spot defs)) c.type_defs.ensures.type_defs in
    let second : c.duplicated_functions.new.faults.items ≡ (old ++ d1) ++ d2
    = c.in_ok-duplicated_functions.ensures
    ∙ ap (λ fs. fs ++ duplicates [] (map function_spot c.functions.result.now)) first
    ∙ ap (λ (fs : List FunctionRow). (old ++ d1) ++ duplicates [] (map function_spot fs)) c.functions.ensures.functions in
    on_ok_weaker c.duplicated_params.result
    (λ e. e
    ∙ ap (λ fs. fs ++ flat_map (λ (f : FunctionRow). duplicates [] (map param_spot f.params)) c.functions-2.result.now) second
    ∙ ap (λ (fs : List FunctionRow). ((old ++ d1) ++ d2) ++ flat_map (λ (f : FunctionRow). duplicates [] (map param_spot f.params)) fs) c.functions-2.ensures.functions
    ∙ ap (λ fs. fs ++ d3) (append_assoc old d1 d2)
    ∙ append_assoc old (d1 ++ d2) d3
    ∙ ap (λ ss. old ++ ((duplicates taken ss ++ d2) ++ d3)) (spots_types p.types p.type_defs)
    ∙ ap (λ ss. old ++ ((duplicates taken s1 ++ duplicates [] ss) ++ d3)) (spots_functions p p.functions)
    ∙ ap (λ ds. old ++ ((duplicates taken s1 ++ duplicates [] s2) ++ ds)) (params_twice p p.functions))
    c.duplicated_params.ensures
