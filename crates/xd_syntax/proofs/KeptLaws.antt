-- A program whose tables have grown by types is the same program.
use Rattle.std.proofs.Common.{◌≡◌, ℕ, ◌<◌, arith, List, [], ◌∷◌, ◌++◌, map, length, length-append, refl, Some, subst, sym}
use Rattle.std.specs.List.{AllByRecursion}
use Rattle.xd_syntax.specs.Table.{Row}
use Rattle.xd_syntax.specs.Types.{BelongsTo}
use Rattle.xd_syntax.specs.ExpressionTable.{ExprRow}
use Rattle.xd_syntax.specs.FunctionRow.{FunctionRow}
use Rattle.xd_syntax.specs.Kept.{ProgramTable, TypeDefStands, FunctionStands, ProgramStands, type_definition, parameter, function_definition, program_tree}
use Rattle.xd_syntax.specs.declared.types.TypeDef.{TypeDef}
use Rattle.xd_syntax.specs.declared.program.Param.{Param}
use Rattle.xd_syntax.proofs.PlacedTrees.{placed_kept}
use Rattle.xd_syntax.specs.SoundTables.{only_parameter}
use Rattle.xd_syntax.specs.declared.types.TypeId.{TypeId}

belongs_more : (types more : List Row) (i : ℕ) → i < length types → i < length (types ++ more)
belongs_more types more i h = omega (arith, length-append types more)

defs_more : (types more : List Row) (defs : List TypeDef) → AllByRecursion (TypeDefStands types) defs → AllByRecursion (TypeDefStands (types ++ more)) defs
defs_more types more [] a = tt
defs_more types more (def ∷ defs) a =
    (record { name = (a.0).name; body = belongs_more types more def.body.at (a.0).body }, defs_more types more defs a.1)

params_more : (types more : List Row) (ps : List Param) → AllByRecursion (λ (q : Param). BelongsTo types q.body) ps → AllByRecursion (λ (q : Param). BelongsTo (types ++ more) q.body) ps
params_more types more [] a = tt
params_more types more (q ∷ ps) a = (belongs_more types more q.body.at a.0, params_more types more ps a.1)

functions_more : (types more : List Row) (exprs : List ExprRow) (fs : List FunctionRow) → AllByRecursion (FunctionStands types exprs) fs →
    AllByRecursion (FunctionStands (types ++ more) exprs) fs
functions_more types more exprs [] a = tt
functions_more types more exprs (f ∷ fs) a = (
  record { params = params_more types more f.params (a.0).params; declared = belongs_more types more f.declared.at (a.0).declared; body = (a.0).body },
  functions_more types more exprs fs a.1,
)

abbrev pub grown : ProgramTable → List Row → ProgramTable
grown p more = record { types = p.types ++ more; patterns = p.patterns; exprs = p.exprs; type_defs = p.type_defs; functions = p.functions }

same_defs : (types more : List Row) (defs : List TypeDef) → AllByRecursion (TypeDefStands types) defs → map (type_definition (types ++ more)) defs ≡ map (type_definition types) defs
same_defs types more [] a = refl
same_defs types more (def ∷ defs) a =
    let i = placed_kept types more def.body.at (a.0).body in let k = same_defs types more defs a.1 in cc

same_params : (types more : List Row) (ps : List Param) → AllByRecursion (λ (q : Param). BelongsTo types q.body) ps → map (parameter (types ++ more)) ps ≡ map (parameter types) ps
same_params types more [] a = refl
same_params types more (q ∷ ps) a =
    let i = placed_kept types more q.body.at a.0 in let k = same_params types more ps a.1 in cc

same_functions : (p : ProgramTable) (more : List Row) (fs : List FunctionRow) → AllByRecursion (FunctionStands p.types p.exprs) fs →
    map (function_definition (grown p more)) fs ≡ map (function_definition p) fs
same_functions p more [] a = refl
same_functions p more (f ∷ fs) a =
    let i = same_params p.types more f.params (a.0).params in
    let j = placed_kept p.types more f.declared.at (a.0).declared in
    let k = same_functions p more fs a.1 in cc

pub program_tree-grown : (p : ProgramTable) (more : List Row) → ProgramStands p → program_tree (grown p more) ≡ program_tree p
program_tree-grown p more s =
    let i = same_defs p.types more p.type_defs s.type_defs in
    let j = same_functions p more p.functions s.functions in cc

pub only_belongs : (types : List Row) (ps : List Param) (id : TypeId) → AllByRecursion (λ (q : Param). BelongsTo types q.body) ps → only_parameter ps ≡ Some id → BelongsTo types id
only_belongs types [] id a e = absurd (cc)
only_belongs types (q ∷ []) id a e = let s : q.body ≡ id = cc in subst (BelongsTo types) s a.0
only_belongs types (q ∷ (r ∷ qs)) id a e = absurd (cc)

pub along : (p : ProgramTable) (types : List Row) (ds : List TypeDef) (Q : List Row → List TypeDef → Type 0) → types ≡ p.types → ds ≡ p.type_defs → Q p.types p.type_defs → Q types ds
along p types ds Q e f q = subst (λ d. Q types d) (sym f) (subst (λ t. Q t p.type_defs) (sym e) q)

pub back_along : (p : ProgramTable) (types : List Row) (ds : List TypeDef) (Q : List Row → List TypeDef → Type 0) → types ≡ p.types → ds ≡ p.type_defs → Q types ds → Q p.types p.type_defs
back_along p types ds Q e f q = subst (λ d. Q p.types d) f (subst (λ t. Q t ds) e q)
