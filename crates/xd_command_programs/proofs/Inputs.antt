-- The input type of a program as it is kept.
use Rattle.std.proofs.Common.{◌≡◌, Bool, true, false, cond, List, [], ◌∷◌, map, Option, Some, None, refl, ap, sym, subst, ◌∙◌}
use Rattle.std.specs.List.{AllByRecursion}
use Rattle.std.specs.Str.{bytes_eq}
use Rattle.xd_doc.specs.Document.{Document}
use Rattle.xd_syntax.specs.Words.{main_word}
use Rattle.xd_syntax.specs.Tree.{Tree}
use Rattle.xd_syntax.specs.Table.{Row}
use Rattle.xd_syntax.specs.Types.{BelongsTo, tree}
use Rattle.xd_syntax.specs.Fits.{Fits}
use Rattle.xd_syntax.specs.Program.{function_of, names_of}
use Rattle.xd_syntax.specs.Kept.{ProgramTable, FunctionStands, function_definition, parameter, program_tree}
use Rattle.xd_syntax.specs.FunctionRow.{FunctionRow}
use Rattle.xd_syntax.specs.ExpressionTable.{ExprRow}
use Rattle.xd_syntax.specs.SoundTables.{main_parameter, only_parameter}
use Rattle.xd_syntax.specs.declared.program.Param.{Param}
use Rattle.xd_syntax.specs.declared.types.TypeId.{TypeId}
use Rattle.xd_syntax.proofs.PlacedTrees.{unplaced_at}
use Rattle.xd_syntax.proofs.KeptLaws.{only_belongs}
use Rattle.xd_eval.specs.Evaluation.{IsInput, FitsParameter}
use Rattle.xd_command_programs.specs.Run.{only_declared, declared_input, input_type}

-- the tree of an id, if there is one
abbrev pub tree_of : List Row → Option TypeId → Option Tree
tree_of types None = None
tree_of types (Some id) = Some (tree types id)

only_is : (types : List Row) (ps : List Param) → only_declared (map (parameter types) ps) ≡ tree_of types (only_parameter ps)
only_is types [] = refl
only_is types (q ∷ []) = ap (λ T. Some T) (unplaced_at types q.body.at)
only_is types (q ∷ (r ∷ qs)) = refl

functions_is : (p : ProgramTable) (fs : List FunctionRow) → declared_input (function_of (map (function_definition p) fs) main_word) ≡ tree_of p.types (main_parameter fs)
functions_is p [] = refl
functions_is p (f ∷ fs) = by (bytes_eq f.name main_word) (functions_is p fs)
  where
    by : (b : Bool) → declared_input (function_of (map (function_definition p) fs) main_word) ≡ tree_of p.types (main_parameter fs) →
        declared_input (cond b (Some (function_definition p f)) (function_of (map (function_definition p) fs) main_word)) ≡ tree_of p.types (cond b (only_parameter f.params) (main_parameter fs))
    by true h = only_is p.types f.params
    by false h = h

-- the input type is the tree of the parameter's type
pub input_is : (p : ProgramTable) → input_type (program_tree p) ≡ tree_of p.types (main_parameter p.functions)
input_is p = functions_is p p.functions

-- and it is there
pub input_belongs : (types : List Row) (exprs : List ExprRow) (fs : List FunctionRow) (id : TypeId) → AllByRecursion (FunctionStands types exprs) fs → main_parameter fs ≡ Some id → BelongsTo types id
input_belongs types exprs [] id a e = absurd (cc)
input_belongs types exprs (f ∷ fs) id a e = by (bytes_eq f.name main_word) e (λ h. input_belongs types exprs fs id a.1 h)
  where
    by : (b : Bool) → cond b (only_parameter f.params) (main_parameter fs) ≡ Some id → (main_parameter fs ≡ Some id → BelongsTo types id) → BelongsTo types id
    by true h r = only_belongs types f.params id (a.0).params h
    by false h r = r h

-- a document that fits the input type is an input
pub fits_is_input : (p : ProgramTable) (T : Tree) (d : Document) → input_type (program_tree p) ≡ Some T → Fits (names_of (program_tree p)) T d → IsInput p d
fits_is_input p T d e f = by (main_parameter p.functions) (sym (input_is p) ∙ e)
  where
    by : (o : Option TypeId) → tree_of p.types o ≡ Some T → FitsParameter p d o
    by None h = absurd (cc)
    by (Some id) h = let s : tree p.types id ≡ T = cc in subst (λ U. Fits (names_of (program_tree p)) U d) (sym s) f
