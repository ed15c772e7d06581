-- An accepted program never gets stuck, and its values are what its types and matches let them be.
use Rattle.std.specs.Prelude.{◌≡◌, ℕ, true, List, [], ◌∷◌, Some}
use Rattle.xd_doc.specs.Document.{Document, is_proper, size}
use Rattle.xd_syntax.specs.Words.{has_word, main_word}
use Rattle.xd_syntax.specs.Tree.{Definitions}
use Rattle.xd_syntax.specs.Placed.{PlacedTree, unplaced}
use Rattle.xd_syntax.specs.Fits.{Fits}
use Rattle.xd_syntax.specs.Expression.{Expression}
use Rattle.xd_syntax.specs.Program.{Parameter, FunctionDefinition, ProgramTree, names_of, function_of}
use Rattle.xd_syntax.specs.Proper.{IsProperExpression, IsProperProgram}
use Rattle.xd_syntax.specs.NameFaults.{expression_faults}
use Rattle.xd_syntax.specs.RecursionFaults.{IsSound}
use Rattle.xd_syntax.specs.May.{Scope, Allows, May}
use Rattle.xd_syntax.specs.CheckFaults.{Line, LinesOf, faults_among, IsAccepted}
use Rattle.xd_meaning.specs.Meaning.{Outcome, Done, Spent, Stuck, Environment, looked_up, call, value, meaning}

-- It is not stuck; and where it is done, the value meets the fact.
abbrev pub Meets : {A : Type 0} → (A → Type 0) → Outcome A → Type 0
Meets R (Done a m) = R a
Meets R Spent = Unit {0}
Meets R Stuck = ⊥

-- a proper document that fits the type
abbrev pub IsValueOf : Definitions → PlacedTree → Document → Type 0
IsValueOf E T d = (is_proper d ≡ true) × Fits E (unplaced T) d

-- one value for each parameter, of its declared type
abbrev pub AreValuesOf : Definitions → List Parameter → List Document → Type 0
AreValuesOf E [] [] = Unit {0}
AreValuesOf E [] (d ∷ ds) = ⊥
AreValuesOf E (q ∷ qs) [] = ⊥
AreValuesOf E (q ∷ qs) (d ∷ ds) = IsValueOf E q.declared d × AreValuesOf E qs ds

-- Each of these variables has a document; and what a variable has is proper, and allowed in the
-- scope.
pub record Suits (P : ProgramTree) (S : Scope) (known : List (List ℕ)) (env : Environment) : Type 0 where
  pub has : (x : List ℕ) → has_word known x ≡ true → (d : Document) × (looked_up env x ≡ Some d)
  pub allowed : (x : List ℕ) (d : Document) → looked_up env x ≡ Some d → (is_proper d ≡ true) × Allows P S x d

-- a proper document that the expression may be
abbrev pub IsAllowed : ProgramTree → Scope → Expression → Document → Type 0
IsAllowed P S e d = (is_proper d ≡ true) × May P S e d

-- In an accepted program the value of an expression without faults is what the expression may be,
-- in a scope that the environment suits.
abbrev pub ValuesAreAllowed : Type 0
ValuesAreAllowed = (P : ProgramTree) → IsProperProgram P → IsSound P → IsAccepted P →
    (S : Scope) (known : List (List ℕ)) (env : Environment) → Suits P S known env →
    (e : Expression) → IsProperExpression e → expression_faults P known e ≡ [] → (ls : List Line) → LinesOf size P S e ls → faults_among ls ≡ [] →
    (n : ℕ) → Meets (IsAllowed P S e) (value P n env e)

-- A call of a function on values of its parameters' types is a value of its declared result type.
abbrev pub CallsAreSafe : Type 0
CallsAreSafe = (P : ProgramTree) → IsProperProgram P → IsSound P → IsAccepted P →
    (x : List ℕ) (f : FunctionDefinition) → function_of P.functions x ≡ Some f → (ds : List Document) → AreValuesOf (names_of P) f.parameters ds →
    (n : ℕ) → Meets (IsValueOf (names_of P) f.declared) (call P n x ds)

-- On a value of the declared type of its one parameter, `main` is never stuck, and what it is done
-- with is a value of its declared result type.
abbrev pub IsSafe : ProgramTree → Type 0
IsSafe P = (main : FunctionDefinition) (input : Parameter) → function_of P.functions main_word ≡ Some main → main.parameters ≡ input ∷ [] →
    (d : Document) → IsValueOf (names_of P) input.declared d → (n : ℕ) → Meets (IsValueOf (names_of P) main.declared) (meaning P n d)

abbrev pub AcceptedProgramsAreSafe : Type 0
AcceptedProgramsAreSafe = (P : ProgramTree) → IsProperProgram P → IsSound P → IsAccepted P → IsSafe P
