-- Programs: definitions of types and functions.
use Rattle.std.specs.Prelude.{ℕ, cond, List, [], ◌∷◌, map, Option, Some, None}
use Rattle.std.specs.Str.{bytes_eq}
use Rattle.xd_base.specs.declared.Place.{Place}
use Rattle.xd_syntax.specs.Tree.{Definitions, environment}
use Rattle.xd_syntax.specs.Placed.{PlacedTree, unplaced}
use Rattle.xd_syntax.specs.Expression.{Expression}

-- `type NAME = TYPE`, with the place of the name
pub record TypeDefinition : Type 0 where
  pub name : List ℕ
  pub place : Place
  pub body : PlacedTree

-- `NAME as TYPE`, with the place of the name
pub record Parameter : Type 0 where
  pub name : List ℕ
  pub place : Place
  pub declared : PlacedTree

-- a function with its parameters, the type that its result has to fit, and its body
pub record FunctionDefinition : Type 0 where
  pub name : List ℕ
  pub place : Place
  pub parameters : List Parameter
  pub declared : PlacedTree
  pub body : Expression

-- the definitions of types and those of functions, each in order
pub record ProgramTree : Type 0 where
  pub types : List TypeDefinition
  pub functions : List FunctionDefinition

-- what the names of types stand for, `Any` among them
abbrev pub names_of : ProgramTree → Definitions
names_of p = environment (map (λ t. (t.name, unplaced t.body)) p.types)

-- the first function of a name
abbrev pub function_of : List FunctionDefinition → List ℕ → Option FunctionDefinition
function_of [] x = None
function_of (f ∷ fs) x = cond (bytes_eq f.name x) (Some f) (function_of fs x)
