-- A function as the program keeps it.
use Rattle.std.specs.Prelude.{◌≡◌, ℕ, true, List}
use Rattle.std.specs.List.{AllByRecursion}
use Rattle.xd_base.specs.declared.Place.{Place}
use Rattle.xd_doc.specs.Word.{is_word}
use Rattle.xd_syntax.specs.declared.types.TypeId.{TypeId}
use Rattle.xd_syntax.specs.declared.exprs.ExprId.{ExprId}
use Rattle.xd_syntax.specs.declared.program.Param.{Param}

pub record FunctionRow : Type 0 where
  pub name : List ℕ
  pub place : Place
  pub params : List Param
  pub declared : TypeId
  pub body : ExprId

-- its name and those of its parameters are words
pub record HasProperNames (f : FunctionRow) : Type 0 where
  pub name : is_word f.name ≡ true
  pub params : AllByRecursion (λ (q : Param). is_word q.name ≡ true) f.params
