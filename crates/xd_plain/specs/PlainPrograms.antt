-- What plain expressions and programs stand for. Each node stands at the start.
use Rattle.std.specs.Prelude.{◌≡◌, List, [], ◌∷◌, map}
use Rattle.xd_syntax.specs.Placed.{PlacedTree, Empty_at, Text_at, Words_at, Name_at, Elem_at, Seq_at, Alt_at, Star_at, Plus_at, Opt_at, Val_at}
use Rattle.xd_syntax.specs.PlacedTable.{the_start}
use Rattle.xd_syntax.specs.Expression as E
use Rattle.xd_syntax.specs.Expression.{Expression, Arguments, Clauses}
use Rattle.xd_syntax.specs.Program.{TypeDefinition, Parameter, FunctionDefinition, ProgramTree, names_of}
use Rattle.xd_plain.specs.PlainTrees.{definitions_of}
use Rattle.xd_plain.specs.declared.tree.PlainTree.{PlainTree}
use Rattle.xd_plain.specs.declared.tree.PlainTree.TheVariants as T
use Rattle.xd_plain.specs.declared.tree.PlainDefinition.{PlainDefinition}
use Rattle.xd_plain.specs.declared.program.PlainExpression.{PlainExpression}
use Rattle.xd_plain.specs.declared.program.PlainExpression.TheVariants.{Empty, Text, Variable, Elem', Seq', Call', Match'}
use Rattle.xd_plain.specs.declared.program.PlainArguments.{PlainArguments}
use Rattle.xd_plain.specs.declared.program.PlainArguments.TheVariants.{NoArgument, Argument'}
use Rattle.xd_plain.specs.declared.program.PlainClauses.{PlainClauses}
use Rattle.xd_plain.specs.declared.program.PlainClauses.TheVariants.{NoClause, Clause'}
use Rattle.xd_plain.specs.declared.program.PlainParameter.{PlainParameter}
use Rattle.xd_plain.specs.declared.program.PlainFunction.{PlainFunction}
use Rattle.xd_plain.specs.declared.program.PlainProgram.{PlainProgram}

abbrev pub placed_of : PlainTree → PlacedTree
placed_of T.Empty = Empty_at the_start
placed_of T.Text = Text_at the_start
placed_of (T.Words w) = Words_at the_start w
placed_of (T.Name x) = Name_at the_start x
placed_of (T.Elem' c p t) = Elem_at the_start c (placed_of t)
placed_of (T.Seq' p t q u) = Seq_at the_start (placed_of t) (placed_of u)
placed_of (T.Alt' p t q u) = Alt_at the_start (placed_of t) (placed_of u)
placed_of (T.Star' p t) = Star_at the_start (placed_of t)
placed_of (T.Plus' p t) = Plus_at the_start (placed_of t)
placed_of (T.Opt' p t) = Opt_at the_start (placed_of t)
placed_of (T.Val' x p t) = Val_at the_start x the_start (placed_of t)

abbrev mutual
  pub expression_of : PlainExpression → Expression
  expression_of Empty = E.Nothing the_start
  expression_of (Text s) = E.Quoted the_start s
  expression_of (Variable x) = E.Variable the_start x
  expression_of (Elem' l p e) = E.Tagged the_start l (expression_of e)
  expression_of (Seq' p e q f) = E.Joined the_start (expression_of e) (expression_of f)
  expression_of (Call' f p es) = E.Called the_start f (arguments_of es)
  expression_of (Match' p e q cs) = E.Matched the_start (expression_of e) (clauses_of cs)

  pub arguments_of : PlainArguments → Arguments
  arguments_of NoArgument = E.no_argument
  arguments_of (Argument' p e q es) = E.argument (expression_of e) (arguments_of es)

  pub clauses_of : PlainClauses → Clauses
  clauses_of NoClause = E.no_clause
  clauses_of (Clause' t p e q cs) = E.clause (placed_of t) (expression_of e) (clauses_of cs)

abbrev pub type_definition_of : PlainDefinition → TypeDefinition
type_definition_of d = record { name = d.name; place = the_start; body = placed_of d.body }

abbrev pub parameter_of : PlainParameter → Parameter
parameter_of p = record { name = p.name; place = the_start; declared = placed_of p.declared }

abbrev pub function_definition_of : PlainFunction → FunctionDefinition
function_definition_of f = record {
  name = f.name;
  place = the_start;
  parameters = map parameter_of f.parameters.items;
  declared = placed_of f.declared;
  body = expression_of f.body;
}

abbrev pub behind_first : List PlainDefinition → List PlainDefinition
behind_first [] = []
behind_first (d ∷ ds) = ds

-- the program, whose first definition is that of `Any`
abbrev pub program_of : PlainProgram → ProgramTree
program_of p = record {
  types = map type_definition_of (behind_first p.definitions.items);
  functions = map function_definition_of p.functions.items;
}

abbrev pub AnyIsFirst : PlainProgram → Type 0
AnyIsFirst p = definitions_of p.definitions.items ≡ names_of (program_of p)
