-- Faults of matches, arguments and results, and warnings. (This project's own rule.)
use Rattle.std.specs.Prelude.{◌≡◌, ℕ, Bool, true, false, cond, ◌||◌, ◌&&◌, nat_lt, ◌⊎◌, List, [], ◌∷◌, Option, Some, None}
use Rattle.xd_base.specs.declared.Place.{Place}
use Rattle.xd_doc.specs.Document.{Document, is_proper, size}
use Rattle.xd_doc.specs.Least.{IsLeastBy}
use Rattle.xd_syntax.specs.Placed.{PlacedTree, unplaced, place_of}
use Rattle.xd_syntax.specs.Fits.{Fits}
use Rattle.xd_syntax.specs.Order.{InTurn, is_earlier, is_same_place, ordered}
use Rattle.xd_syntax.specs.May.{Scope, clause_entry, May, Arrives, IsLive, parameters_scope}
use Rattle.xd_syntax.specs.Expression.{Expression, Tagged, Joined, Called, Matched, Arguments, no_argument, argument, Clauses, no_clause, clause, place_of_expression}
use Rattle.xd_syntax.specs.Program.{Parameter, FunctionDefinition, ProgramTree, names_of, function_of}

-- what a line says
pub data LineKind : Type 0 where
  not_exhaustive : LineKind
  wrong_argument : LineKind
  wrong_result : LineKind
  dead_clause : LineKind

-- a line of the report: its place, what it says, and the document that it carries; a dead clause
-- carries none
pub record Line : Type 0 where
  pub place : Place
  pub kind : LineKind
  pub document : Option Document

-- the order of lines of one place: faults by their numbers, then a warning
abbrev pub rank : LineKind → ℕ
rank not_exhaustive = 0
rank wrong_argument = 1
rank wrong_result = 2
rank dead_clause = 3

-- the earlier place comes first, and at one place the lower rank
abbrev pub line_precedes : Line → Line → Bool
line_precedes l m =
    is_earlier l.place m.place || (is_same_place l.place m.place && nat_lt (rank l.kind) (rank m.kind))

-- lines in order
abbrev pub lines_in_order : List Line → List Line
lines_in_order ls = ordered line_precedes ls

-- the expression may be a document that does not fit the type
abbrev pub Misfits : ProgramTree → Scope → Expression → PlacedTree → Document → Type 0
Misfits P S e T d = May P S e d × (Fits (names_of P) (unplaced T) d → ⊥)

-- the parameters of a function, if there is one
abbrev pub parameters_of : Option FunctionDefinition → List Parameter
parameters_of None = []
parameters_of (Some f) = f.parameters

-- the scrutinee may be this document, and none of these patterns takes it
abbrev pub Comes : ProgramTree → Scope → Expression → List PlacedTree → Document → Type 0
Comes P S e earlier d = Arrives (names_of P) (May P S e) earlier d

-- some such document is taken by the clause's pattern
abbrev pub IsLiveIn : ProgramTree → Scope → Expression → List PlacedTree → PlacedTree → Type 0
IsLiveIn P S e earlier Q = IsLive (names_of P) (May P S e) earlier Q

-- a proper document that meets the fact
pub record IsProperWith (A : Document → Type 0) (d : Document) : Type 0 where
  pub proper : is_proper d ≡ true
  pub meets : A d

-- Of the documents that it may carry, a fault carries a least one by this measure. That of the
-- faults is the size of documents; another tells fewer of them apart, as sizes up to a limit do.
module _ (measure : Document → ℕ) where
  -- one line with a least document of those that meet the fact, or no line where none does
  abbrev pub LineWhere : Place → LineKind → (Document → Type 0) → List Line → Type 0
  LineWhere p k A ls =
      ((d : Document) × IsLeastBy measure (IsProperWith A) d
      × (ls ≡ record { place = p; kind = k; document = Some d } ∷ []))
      ⊎ (((d : Document) → is_proper d ≡ true → A d → ⊥) × (ls ≡ []))

  -- The lines inside an expression: the second of two parts' lines come after the first's. In
  -- `match e with P -> f | Q -> g` these are the lines inside `e`; those inside `f`, or the warning
  -- that no document comes to `P`; those inside `g`, or the warning at `Q`; and the line that some
  -- document that `e` may be is taken by neither.
  abbrev mutual
    pub LinesOf : ProgramTree → Scope → Expression → List Line → Type 0
    LinesOf P S (Tagged p l e) ls = LinesOf P S e ls
    LinesOf P S (Joined p e f) ls = InTurn (LinesOf P S e) (LinesOf P S f) ls
    LinesOf P S (Called p f es) ls = LinesOfArguments P S (parameters_of (function_of P.functions f)) es ls
    LinesOf P S (Matched p e cs) ls = InTurn (LinesOf P S e) (LinesOfClauses P S p e [] cs) ls
    LinesOf P S _ ls = ls ≡ []

    -- an argument that may be a document that does not fit its parameter's type has a line
    pub LinesOfArguments : ProgramTree → Scope → List Parameter → Arguments → List Line → Type 0
    LinesOfArguments P S ps no_argument ls = ls ≡ []
    LinesOfArguments P S [] (argument e es) ls = InTurn (LinesOf P S e) (LinesOfArguments P S [] es) ls
    LinesOfArguments P S (q ∷ qs) (argument e es) ls =
        InTurn (LinesOf P S e)
        (InTurn (LineWhere (place_of_expression e) wrong_argument (Misfits P S e q.declared))
        (LinesOfArguments P S qs es)) ls

    -- The lines of clauses of a match at this place, with this scrutinee, after these patterns. A
    -- clause that is live has the lines of its body; one that is not has a warning and nothing
    -- else. After the last a document that comes there has a line at the match.
    pub LinesOfClauses :
        ProgramTree → Scope → Place → Expression → List PlacedTree → Clauses → List Line → Type 0
    LinesOfClauses P S p e earlier no_clause ls = LineWhere p not_exhaustive (Comes P S e earlier) ls
    LinesOfClauses P S p e earlier (clause Q f cs) ls =
        InTurn
        (λ ms.
        (IsLiveIn P S e earlier Q × LinesOf P (clause_entry e earlier Q ∷ S) f ms)
        ⊎ ((IsLiveIn P S e earlier Q → ⊥)
        × (ms ≡ record { place = place_of Q; kind = dead_clause; document = None } ∷ [])))
        (LinesOfClauses P S p e (Q ∷ earlier) cs) ls

  -- the lines of a function are those inside its body, where its parameters are in scope, and that
  -- of its result
  abbrev pub LinesOfFunction : ProgramTree → FunctionDefinition → List Line → Type 0
  LinesOfFunction P f ls =
      let S : Scope = parameters_scope f.parameters in
      InTurn (LinesOf P S f.body)
      (LineWhere (place_of_expression f.body) wrong_result (Misfits P S f.body f.declared)) ls

  -- those of each function, in order
  abbrev pub LinesOfFunctions : ProgramTree → List FunctionDefinition → List Line → Type 0
  LinesOfFunctions P [] ls = ls ≡ []
  LinesOfFunctions P (f ∷ fs) ls = InTurn (LinesOfFunction P f) (LinesOfFunctions P fs) ls

  -- all the faults of matches, arguments and results, and all warnings, in order
  pub record AreLinesBy (P : ProgramTree) (ls : List Line) : Type 0 where
    pub found : List Line
    pub all : LinesOfFunctions P P.functions found
    pub ordered : ls ≡ lines_in_order found

-- These are all the faults of matches, arguments and results, and all warnings, in order. Each
-- fault carries a least document of those that it may carry.
abbrev pub AreLines : ProgramTree → List Line → Type 0
AreLines = AreLinesBy size

-- a line that is no fault
abbrev pub is_warning : LineKind → Bool
is_warning dead_clause = true
is_warning _ = false

-- the lines that are faults
abbrev pub faults_among : List Line → List Line
faults_among [] = []
faults_among (l ∷ ls) = cond (is_warning l.kind) (faults_among ls) (l ∷ faults_among ls)

-- no fault of matches, arguments and results
abbrev pub IsAccepted : ProgramTree → Type 0
IsAccepted P = (ls : List Line) × AreLines P ls × (faults_among ls ≡ [])
