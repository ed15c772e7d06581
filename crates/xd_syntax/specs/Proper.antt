-- Types, patterns and programs whose words are spelled as words, whose texts have characters that
-- UTF-8 can spell, and whose classes are as they are built. Where a law needs that, it says so.
use Rattle.std.specs.Prelude.{◌≡◌, Bool, true, false}
use Rattle.std.specs.Str.{is_utf8}
use Rattle.std.specs.List.{AllByRecursion}
use Rattle.xd_doc.specs.Word.{is_word}
use Rattle.xd_doc.specs.ClassForms.{IsClass, IsTextClass}
use Rattle.xd_syntax.specs.Tree.{Tree, Words, Name, Elem, Seq, Alt, Star, Plus, Opt, Val}
use Rattle.xd_syntax.specs.Placed.{PlacedTree, unplaced}
use Rattle.xd_syntax.specs.Expression.{Expression, Nothing, Quoted, Variable, Tagged, Joined, Called, Matched, Arguments, no_argument, argument, Clauses, no_clause, clause}
use Rattle.xd_syntax.specs.Program.{TypeDefinition, Parameter, FunctionDefinition, ProgramTree}

-- a type; or a pattern, where binders are allowed
abbrev pub IsProperTree : (binders : Bool) → Tree → Type 0
IsProperTree b (Words w) = IsTextClass w
IsProperTree b (Name x) = is_word x ≡ true
IsProperTree b (Elem c T) = IsClass c × IsProperTree b T
IsProperTree b (Seq T U) = IsProperTree b T × IsProperTree b U
IsProperTree b (Alt T U) = IsProperTree b T × IsProperTree b U
IsProperTree b (Star T) = IsProperTree b T
IsProperTree b (Plus T) = IsProperTree b T
IsProperTree b (Opt T) = IsProperTree b T
IsProperTree b (Val x T) = (b ≡ true) × (is_word x ≡ true) × IsProperTree b T
IsProperTree b _ = Unit {0}

abbrev pub IsProperType : PlacedTree → Type 0
IsProperType T = IsProperTree false (unplaced T)

abbrev pub IsProperPattern : PlacedTree → Type 0
IsProperPattern Q = IsProperTree true (unplaced Q)

abbrev mutual
  pub IsProperExpression : Expression → Type 0
  IsProperExpression (Nothing p) = Unit {0}
  IsProperExpression (Quoted p s) = is_utf8 s ≡ true
  IsProperExpression (Variable p x) = is_word x ≡ true
  IsProperExpression (Tagged p l e) = (is_word l ≡ true) × IsProperExpression e
  IsProperExpression (Joined p e f) = IsProperExpression e × IsProperExpression f
  IsProperExpression (Called p f es) = (is_word f ≡ true) × AreProperArguments es
  IsProperExpression (Matched p e cs) = IsProperExpression e × AreProperClauses cs

  pub AreProperArguments : Arguments → Type 0
  AreProperArguments no_argument = Unit {0}
  AreProperArguments (argument e es) = IsProperExpression e × AreProperArguments es

  pub AreProperClauses : Clauses → Type 0
  AreProperClauses no_clause = Unit {0}
  AreProperClauses (clause Q e cs) = IsProperPattern Q × IsProperExpression e × AreProperClauses cs

pub record IsProperDefinition (t : TypeDefinition) : Type 0 where
  pub name : is_word t.name ≡ true
  pub body : IsProperType t.body

pub record IsProperParameter (q : Parameter) : Type 0 where
  pub name : is_word q.name ≡ true
  pub declared : IsProperType q.declared

pub record IsProperFunction (f : FunctionDefinition) : Type 0 where
  pub name : is_word f.name ≡ true
  pub parameters : AllByRecursion IsProperParameter f.parameters
  pub declared : IsProperType f.declared
  pub body : IsProperExpression f.body

pub record IsProperProgram (P : ProgramTree) : Type 0 where
  pub types : AllByRecursion IsProperDefinition P.types
  pub functions : AllByRecursion IsProperFunction P.functions
