-- The meaning of an expression on fuel (Hosoya and Pierce, TOIT 2003: evaluation; fuel is this
-- project's own).
use Rattle.std.specs.Prelude.{ℕ, suc, zero, cond, List, [], ◌∷◌, ◌++◌, Option, Some, None}
use Rattle.std.specs.Str.{bytes_eq}
use Rattle.xd_doc.specs.Document.{Document, empty, text, element, join}
use Rattle.xd_syntax.specs.Words.{main_word}
use Rattle.xd_syntax.specs.Tree.{Tree}
use Rattle.xd_syntax.specs.Placed.{unplaced}
use Rattle.xd_meaning.specs.FirstMatch.{first}
use Rattle.xd_syntax.specs.Expression.{Expression, Nothing, Quoted, Variable, Tagged, Joined, Called, Matched, Arguments, no_argument, argument, Clauses, no_clause, clause}
use Rattle.xd_syntax.specs.Program.{Parameter, FunctionDefinition, ProgramTree, names_of, function_of}

-- a value, and the calls that are left; more calls are needed; no clause takes the document, or a
-- name is unknown
pub data Outcome (A : Type 0) : Type 0 where
  Done : (value : A) (left : ℕ) → Outcome A
  Spent : Outcome A
  Stuck : Outcome A

-- what variables have, the newest first
abbrev pub Environment : Type 0
Environment = List (List ℕ × Document)

-- the newest document of a variable
abbrev pub looked_up : Environment → List ℕ → Option Document
looked_up [] x = None
looked_up (v ∷ vs) x = cond (bytes_eq v.0 x) (Some v.1) (looked_up vs x)

-- what follows a value, with the calls that are left
abbrev pub and_then : {A B : Type 0} → Outcome A → (A → ℕ → Outcome B) → Outcome B
and_then (Done a m) k = k a m
and_then Spent k = Spent
and_then Stuck k = Stuck

-- a variable's document; a name that nothing has is stuck
abbrev pub done_or_stuck : Option Document → ℕ → Outcome Document
done_or_stuck (Some d) n = Done d n
done_or_stuck None n = Stuck

-- the value where the pattern took the document, else that of the clauses after it
abbrev pub or_else :
    Option Environment → (Environment → Outcome Document) → Outcome Document → Outcome Document
or_else (Some vs) taken other = taken vs
or_else None taken other = other

-- parameters and their documents, in order
abbrev pub bound : List Parameter → List Document → Environment
bound [] ds = []
bound (p ∷ ps) [] = []
bound (p ∷ ps) (d ∷ ds) = (p.name, d) ∷ bound ps ds

-- the value of a call of a function on documents, with so many calls left
abbrev pub Caller : Type 0
Caller = ℕ → List ℕ → List Document → Outcome Document

-- what a pattern's first match binds, if the pattern takes the document
abbrev pub Matcher : Type 0
Matcher = Tree → Document → Option Environment

-- the value of an expression with n calls left, where M gives first matches and C the value of a
-- call with the calls left
abbrev mutual
  pub value_by : Matcher → Caller → ℕ → Environment → Expression → Outcome Document
  value_by M C n env (Nothing p) = Done empty n
  value_by M C n env (Quoted p s) = Done (text s empty) n
  value_by M C n env (Variable p x) = done_or_stuck (looked_up env x) n
  value_by M C n env (Tagged p l e) = and_then (value_by M C n env e) (λ d m. Done (element l d empty) m)
  value_by M C n env (Joined p e f) =
      and_then (value_by M C n env e) (λ d m. and_then (value_by M C m env f) (λ c k. Done (join d c) k))
  value_by M C n env (Called p f es) = and_then (values_by M C n env es) (λ ds m. C m f ds)
  value_by M C n env (Matched p e cs) = and_then (value_by M C n env e) (λ d m. chosen_by M C m env d cs)

  -- of arguments, from left to right
  pub values_by : Matcher → Caller → ℕ → Environment → Arguments → Outcome (List Document)
  values_by M C n env no_argument = Done [] n
  values_by M C n env (argument e es) =
      and_then (value_by M C n env e) (λ d m. and_then (values_by M C m env es) (λ ds k. Done (d ∷ ds) k))

  -- of the first clause whose pattern takes the document
  pub chosen_by : Matcher → Caller → ℕ → Environment → Document → Clauses → Outcome Document
  chosen_by M C n env d no_clause = Stuck
  chosen_by M C n env d (clause P e cs) =
      or_else (M (unplaced P) d) (λ vs. value_by M C n (vs ++ env) e) (chosen_by M C n env d cs)

-- the function's body, with its parameters bound
abbrev pub body_by :
    (Environment → Expression → Outcome Document) → Option FunctionDefinition → List Document →
    Outcome Document
body_by V None ds = Stuck
body_by V (Some f) ds = V (bound f.parameters ds) f.body

-- a call with n calls left, where calls stand within one another at most so deep
abbrev pub call_within : Matcher → ProgramTree → (deep : ℕ) → ℕ → List ℕ → List Document → Outcome Document
call_within M P zero n f ds = Spent
call_within M P (suc k) zero f ds = Spent
call_within M P (suc k) (suc n) f ds =
    body_by (value_by M (call_within M P k) n) (function_of P.functions f) ds

-- With the first matches of the program's patterns. Each call takes one of the calls left, so calls
-- stand within one another at most as deep as calls are left.

-- the value of a call of the program's function
abbrev pub call : ProgramTree → ℕ → List ℕ → List Document → Outcome Document
call P n f ds = call_within (first (names_of P)) P n n f ds

-- the value of an expression, where variables have these documents
abbrev pub value : ProgramTree → ℕ → Environment → Expression → Outcome Document
value P n env e = value_by (first (names_of P)) (call_within (first (names_of P)) P n) n env e

-- the call of `main` on a document, with n calls left
abbrev pub meaning : ProgramTree → ℕ → Document → Outcome Document
meaning P n d = call P n main_word (d ∷ [])
