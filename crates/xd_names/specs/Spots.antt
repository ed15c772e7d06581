-- Names that are defined, each with its place.
use Rattle.xd_syntax.specs.NameFaults.{Spot}
use Rattle.xd_syntax.specs.FunctionRow.{FunctionRow}
use Rattle.xd_syntax.specs.declared.types.TypeDef.{TypeDef}
use Rattle.xd_syntax.specs.declared.program.Param.{Param}

abbrev pub type_spot : TypeDef → Spot
type_spot t = record { word = t.name; place = t.place }

abbrev pub function_spot : FunctionRow → Spot
function_spot f = record { word = f.name; place = f.place }

abbrev pub param_spot : Param → Spot
param_spot q = record { word = q.name; place = q.place }
