-- A program as it is kept: tables of nodes, and the definitions that name them.
use Rattle.std.specs.Prelude.{◌≡◌, true, false, List, map, length}
use Rattle.std.specs.List.{AllByRecursion}
use Rattle.xd_doc.specs.Word.{is_word}
use Rattle.xd_syntax.specs.Words.{has_word}
use Rattle.xd_syntax.specs.Keywords.{keywords}
use Rattle.xd_syntax.specs.Table.{Row, KeepsRows}
use Rattle.xd_syntax.specs.Types.{BelongsTo}
use Rattle.xd_syntax.specs.PlacedTable.{placed_at}
use Rattle.xd_syntax.specs.ExpressionTable.{ExprRow, PatternsBelong}
use Rattle.xd_syntax.specs.Exprs.{IsExpr, expression}
use Rattle.xd_syntax.specs.Program.{TypeDefinition, Parameter, FunctionDefinition, ProgramTree}
use Rattle.xd_syntax.specs.ProperTables.{IsTable, IsExprTable}
use Rattle.xd_syntax.specs.FunctionRow.{FunctionRow, HasProperNames}
use Rattle.xd_syntax.specs.declared.types.TypeDef.{TypeDef}
use Rattle.xd_syntax.specs.declared.program.Param.{Param}

pub record ProgramTable : Type 0 where
  pub types : List Row
  pub patterns : List Row
  pub exprs : List ExprRow
  pub type_defs : List TypeDef
  pub functions : List FunctionRow

-- the name is no keyword, and the type is there
pub record TypeDefStands (types : List Row) (def : TypeDef) : Type 0 where
  pub name : has_word keywords def.name ≡ false
  pub body : BelongsTo types def.body

-- the declared types and the body are there
pub record FunctionStands (types : List Row) (exprs : List ExprRow) (f : FunctionRow) : Type 0 where
  pub params : AllByRecursion (λ (q : Param). BelongsTo types q.body) f.params
  pub declared : BelongsTo types f.declared
  pub body : IsExpr exprs f.body

-- what clauses and definitions name is there
pub record ProgramStands (p : ProgramTable) : Type 0 where
  pub clauses : PatternsBelong (length p.patterns) p.exprs
  pub type_defs : AllByRecursion (TypeDefStands p.types) p.type_defs
  pub functions : AllByRecursion (FunctionStands p.types p.exprs) p.functions

-- its words are words, its texts have characters that UTF-8 can spell, and its classes are as they
-- are built
pub record IsProperTable (p : ProgramTable) : Type 0 where
  pub types : IsTable false p.types
  pub patterns : IsTable true p.patterns
  pub exprs : IsExprTable p.exprs
  pub type_defs : AllByRecursion (λ (d : TypeDef). is_word d.name ≡ true) p.type_defs
  pub functions : AllByRecursion HasProperNames p.functions

-- what is so of every program
pub record IsKept (p : ProgramTable) : Type 0 where
  pub stands : ProgramStands p
  pub proper : IsProperTable p

abbrev pub type_definition : List Row → TypeDef → TypeDefinition
type_definition types def = record { name = def.name; place = def.place; body = placed_at types def.body.at }

abbrev pub parameter : List Row → Param → Parameter
parameter types q = record { name = q.name; place = q.place; declared = placed_at types q.body.at }

abbrev pub function_definition : ProgramTable → FunctionRow → FunctionDefinition
function_definition p f =
    record { name = f.name; place = f.place; parameters = map (parameter p.types) f.params; declared = placed_at p.types f.declared.at; body = expression p.patterns p.exprs f.body }

-- the program that is kept so
abbrev pub program_tree : ProgramTable → ProgramTree
program_tree p = record { types = map (type_definition p.types) p.type_defs; functions = map (function_definition p) p.functions }

-- types alone are added
pub record AddsTypes (old new : ProgramTable) : Type 0 where
  pub types : KeepsRows old.types new.types
  pub patterns : new.patterns ≡ old.patterns
  pub exprs : new.exprs ≡ old.exprs
  pub type_defs : new.type_defs ≡ old.type_defs
  pub functions : new.functions ≡ old.functions
