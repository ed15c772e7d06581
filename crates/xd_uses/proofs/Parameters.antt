-- The type of the parameter of `main`.
use Rattle.std.proofs.Common.{◌≡◌, Bool, true, false, cond, List, [], ◌∷◌, Some}
use Rattle.std.specs.List.{AllByRecursion}
use Rattle.std.specs.Str.{bytes_eq}
use Rattle.xd_syntax.specs.Words.{main_word}
use Rattle.xd_syntax.specs.ExpressionTable.{ExprRow}
use Rattle.xd_syntax.specs.FunctionRow.{FunctionRow}
use Rattle.xd_syntax.specs.Kept.{FunctionStands}
use Rattle.xd_syntax.specs.SoundTables.{main_parameter, only_parameter}
use Rattle.xd_syntax.specs.Table.{Row}
use Rattle.xd_syntax.specs.Types.{BelongsTo}
use Rattle.xd_syntax.specs.declared.types.TypeId.{TypeId}
use Rattle.xd_syntax.proofs.KeptLaws.{only_belongs}

-- the type of the parameter of `main` is a type of the program
pub parameter_belongs : (types : List Row) (exprs : List ExprRow) (fs : List FunctionRow) (id : TypeId) → AllByRecursion (FunctionStands types exprs) fs → main_parameter fs ≡ Some id → BelongsTo types id
parameter_belongs types exprs [] id a e = absurd (cc)
parameter_belongs types exprs (f ∷ fs) id a e = by (bytes_eq f.name main_word) e (λ h. parameter_belongs types exprs fs id a.1 h)
  where
    by : (b : Bool) → cond b (only_parameter f.params) (main_parameter fs) ≡ Some id → (main_parameter fs ≡ Some id → BelongsTo types id) → BelongsTo types id
    by true h r = only_belongs types f.params id (a.0).params h
    by false h r = r h
