-- Types of a program by their ids.
use Rattle.std.specs.Prelude.{◌≡◌, ℕ, cond, List, [], ◌∷◌, Option, Some, None}
use Rattle.std.specs.Str.{bytes_eq}
use Rattle.xd_syntax.specs.Words.{main_word}
use Rattle.xd_syntax.specs.Tree.{Tree}
use Rattle.xd_syntax.specs.Table.{Row}
use Rattle.xd_syntax.specs.Types.{BelongsTo, tree}
use Rattle.xd_syntax.specs.FunctionRow.{FunctionRow}
use Rattle.xd_syntax.specs.declared.program.Param.{Param}
use Rattle.xd_syntax.specs.declared.types.TypeId.{TypeId}
use Rattle.xd_syntax.specs.declared.types.TypeDef.{TypeDef}

-- the id is that of this type
pub record IsTypeAt (types : List Row) (T : Tree) (id : TypeId) : Type 0 where
  pub belongs : BelongsTo types id
  pub same : tree types id ≡ T

abbrev pub only_parameter : List Param → Option TypeId
only_parameter (q ∷ []) = Some q.body
only_parameter _ = None

-- the declared type of the parameter of the first function called `main`, if it has one parameter
abbrev pub main_parameter : List FunctionRow → Option TypeId
main_parameter [] = None
main_parameter (f ∷ fs) = cond (bytes_eq f.name main_word) (only_parameter f.params) (main_parameter fs)

-- the first definition of a name
abbrev pub definition_of : List TypeDef → List ℕ → Option TypeDef
definition_of [] w = None
definition_of (d ∷ ds) w = cond (bytes_eq d.name w) (Some d) (definition_of ds w)
