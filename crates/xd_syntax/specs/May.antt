-- What an expression may be: the documents that its declared types and its matches let it be. (This
-- project's own rule.) Between the clauses of a match the first that takes a document counts;
-- inside a pattern every whole way counts.
use Rattle.std.specs.Prelude.{◌≡◌, ℕ, Bool, true, false, ◌⊎◌, List, [], ◌∷◌, map, Option, Some, None}
use Rattle.std.specs.Str.{bytes_eq}
use Rattle.xd_doc.specs.Document.{Document, empty, text, element, is_proper}
use Rattle.xd_doc.specs.Members.{IsOneOf}
use Rattle.xd_syntax.specs.Words.{has_word}
use Rattle.xd_syntax.specs.Tree.{Definitions}
use Rattle.xd_syntax.specs.Placed.{PlacedTree, unplaced, variables}
use Rattle.xd_syntax.specs.Fits.{Fits, Split}
use Rattle.xd_syntax.specs.Ways.{Way, IsWholeWay, Takes}
use Rattle.xd_syntax.specs.Expression.{Expression, Nothing, Quoted, Variable, Tagged, Joined, Called, Matched, Clauses, no_clause, clause}
use Rattle.xd_syntax.specs.Program.{Parameter, FunctionDefinition, ProgramTree, names_of, function_of}

-- What is in scope: a parameter with its declared type, or the variables of a clause, which has the
-- scrutinee of its match, the patterns before it, the last one first, and its own.
pub data Entry : Type 0 where
  parameter_entry : (name : List ℕ) (declared : PlacedTree) → Entry
  clause_entry : (scrutinee : Expression) (earlier : List PlacedTree) (pattern : PlacedTree) → Entry

-- the newest entry first
abbrev pub Scope : Type 0
Scope = List Entry

-- what each variable may be
abbrev pub Allowance : Type 1
Allowance = List ℕ → Document → Type 0

-- the document is one element of the label, with a content that meets the fact
abbrev pub IsTagged : List ℕ → (Document → Type 0) → Document → Type 0
IsTagged l A empty = ⊥
IsTagged l A (text s r) = ⊥
IsTagged l A (element k c r) = (k ≡ l) × (r ≡ empty) × A c

-- none of the patterns takes the document
abbrev pub NoneTakes : Definitions → List PlacedTree → Document → Type 0
NoneTakes E [] d = Unit {0}
NoneTakes E (P ∷ Ps) d = (Takes E (unplaced P) d → ⊥) × NoneTakes E Ps d

-- a document that the scrutinee may be comes to a clause after these patterns
abbrev pub Arrives : Definitions → (Document → Type 0) → List PlacedTree → Document → Type 0
Arrives E A earlier d = (is_proper d ≡ true) × A d × NoneTakes E earlier d

-- some document comes to the clause, and its pattern takes it
abbrev pub IsLive : Definitions → (Document → Type 0) → List PlacedTree → PlacedTree → Type 0
IsLive E A earlier P = (d : Document) × Arrives E A earlier d × Takes E (unplaced P) d

-- some whole way of the pattern, on a document that comes to the clause, binds the variable to the
-- document
abbrev pub MayBind :
    Definitions → (Document → Type 0) → List PlacedTree → PlacedTree → List ℕ → Document → Type 0
MayBind E A earlier P x d =
    (whole : Document) × (way : Way)
    × Arrives E A earlier whole × IsWholeWay E (unplaced P) whole way × IsOneOf (x, d) way.bindings

-- the first fact where the test holds, else the second
abbrev pub WhereTrue : Bool → Type 0 → Type 0 → Type 0
WhereTrue true A B = A
WhereTrue false A B = B

-- Inside a clause the pattern's variables are what it may bind them to, and hide those around.
abbrev pub in_clause :
    Definitions → (Document → Type 0) → List PlacedTree → PlacedTree → Allowance → Allowance
in_clause E A earlier P V x d = WhereTrue (has_word (variables P) x) (MayBind E A earlier P x d) (V x d)

-- what the declared type of a function lets its results be; a function that isn't there has none
abbrev pub FitsResult : Definitions → Option FunctionDefinition → Document → Type 0
FitsResult E None d = ⊥
FitsResult E (Some f) d = Fits E (unplaced f.declared) d

-- what an expression may be, where its variables may be what V allows
abbrev mutual
  pub MayBy : ProgramTree → Allowance → Expression → Document → Type 0
  MayBy P V (Nothing p) d = d ≡ empty
  MayBy P V (Quoted p s) d = d ≡ text s empty
  MayBy P V (Variable p x) d = V x d
  MayBy P V (Tagged p l e) d = IsTagged l (MayBy P V e) d
  MayBy P V (Joined p e f) d = Split (MayBy P V e) (MayBy P V f) d
  MayBy P V (Called p f es) d = FitsResult (names_of P) (function_of P.functions f) d
  MayBy P V (Matched p e cs) d = MayByClauses P V (MayBy P V e) [] cs d

  -- what the body of a live clause may be, where the scrutinee may be A and these patterns stand
  -- before
  pub MayByClauses :
      ProgramTree → Allowance → (Document → Type 0) → List PlacedTree → Clauses → Document → Type 0
  MayByClauses P V A earlier no_clause d = ⊥
  MayByClauses P V A earlier (clause Q e cs) d =
      (IsLive (names_of P) A earlier Q × MayBy P (in_clause (names_of P) A earlier Q V) e d)
      ⊎ MayByClauses P V A (Q ∷ earlier) cs d

-- What a variable may be: its newest entry decides; a parameter is what fits its type. The entry of
-- a clause allows what `MayByClauses` counts on in its body: with `V = Allows P S`,
-- `in_clause (names_of P) (MayBy P V e) earlier Q V` is `Allows P (clause_entry e earlier Q ∷ S)`.
abbrev pub Allows : ProgramTree → Scope → Allowance
Allows P [] x d = ⊥
Allows P (parameter_entry y T ∷ S) x d =
    WhereTrue (bytes_eq y x) (Fits (names_of P) (unplaced T) d) (Allows P S x d)
Allows P (clause_entry e earlier Q ∷ S) x d =
    in_clause (names_of P) (MayBy P (Allows P S) e) earlier Q (Allows P S) x d

-- what an expression may be
abbrev pub May : ProgramTree → Scope → Expression → Document → Type 0
May P S e d = MayBy P (Allows P S) e d

-- the scope of a function
abbrev pub parameters_scope : List Parameter → Scope
parameters_scope ps = map (λ q. parameter_entry q.name q.declared) ps
