-- What the walk of an expression gives: a state for what the expression may be, and the lines and
-- the matches inside it.
use Rattle.xd_check_steps.specs.States.{AcceptsJust, IsMisfit}
use Rattle.std.specs.Prelude.{◌≡◌, true, ◌↔◌, ◌⊎◌, List, [], ◌∷◌, Option, Some, None}
use Rattle.xd_base.specs.declared.Place.{Place}
use Rattle.xd_doc.specs.Document.{Document, is_proper}
use Rattle.xd_auto.specs.declared.auto.State.{State}
use Rattle.xd_auto.specs.Automaton.{Automaton}
use Rattle.xd_syntax.specs.Placed.{PlacedTree, place_of, unplaced}
use Rattle.xd_syntax.specs.Ways.{Takes}
use Rattle.xd_syntax.specs.Expression.{Arguments, Expression, Clauses}
use Rattle.xd_syntax.specs.Kept.{ProgramTable, program_tree}
use Rattle.xd_syntax.specs.Program.{FunctionDefinition, Parameter, ProgramTree, names_of}
use Rattle.xd_syntax.specs.May.{Scope, May, NoneTakes, clause_entry}
use Rattle.xd_laws.specs.Scopes.{MayClauses}
use Rattle.xd_syntax.specs.CheckFaults.{Line, LineWhere, LinesOf, LinesOfArguments, LinesOfClauses, LinesOfFunction, LinesOfFunctions, IsLiveIn, dead_clause, wrong_argument}
use Rattle.xd_syntax.specs.Matches.{MatchesOf, MatchesOfArguments, MatchesOfClauses, MatchesOfFunction, MatchesOfFunctions}
use Rattle.xd_meaning.specs.KeptFaults.{AllPaired}
use Rattle.xd_check_steps.specs.Found.{AddsFound, Found, InOrder, JustLines, Seen, none_seen}
use Rattle.xd_check_steps.specs.FoundLines.{told_size}
use Rattle.xd_check_steps.specs.InScope.{AcceptedBy}

-- the lines and the matches inside an expression
abbrev pub SeenIn : ProgramTree → Scope → Expression → Seen → Type 0
SeenIn P S e s = LinesOf told_size P S e s.lines × MatchesOf P S e s.matches

pub record IsWalked (p : ProgramTable) (S : Scope) (e : Expression) (a : Automaton) (ds : List Document) (old new : Found) (s : State) : Type 0 where
  pub may : AcceptsJust a s (May (program_tree p) S e)
  pub found : AddsFound p a ds (SeenIn (program_tree p) S e) old new

-- those of expressions, one after the other
abbrev pub SeenInParts : ProgramTree → Scope → List Expression → Seen → Type 0
SeenInParts P S [] s = s ≡ none_seen
SeenInParts P S (e ∷ es) s = InOrder (SeenIn P S e) (SeenInParts P S es) s

-- the same of expressions one after the other, with a state for each
pub record ArePartsWalked (p : ProgramTable) (S : Scope) (es : List Expression) (a : Automaton) (ds : List Document) (old new : Found) (ss : List State) : Type 0 where
  pub may : AllPaired (λ (e : Expression) (s : State). AcceptsJust a s (May (program_tree p) S e)) es ss
  pub found : AddsFound p a ds (SeenInParts (program_tree p) S es) old new

abbrev pub SeenInArguments : ProgramTree → Scope → List Parameter → Arguments → Seen → Type 0
SeenInArguments P S qs es s = LinesOfArguments told_size P S qs es s.lines × MatchesOfArguments P S es s.matches

-- the proper documents of C are those that the scrutinee may be and that none of these patterns
-- takes
abbrev pub ComesBehind : ProgramTree → Scope → Expression → List PlacedTree → (Document → Type 0) → Type 0
ComesBehind P S e earlier C = (d : Document) → is_proper d ≡ true → C d ↔ (May P S e d × NoneTakes (names_of P) earlier d)

-- of the proper documents that a further pattern takes those of C are just these
abbrev pub ComesTo : ProgramTree → Scope → Expression → List PlacedTree → PlacedTree → (Document → Type 0) → Type 0
ComesTo P S e earlier Q C = (d : Document) → is_proper d ≡ true → Takes (names_of P) (unplaced Q) d → C d ↔ (May P S e d × NoneTakes (names_of P) earlier d)

-- those of a clause, its body's where it is live, else its warning
abbrev pub SeenInClause : ProgramTree → Scope → Expression → List PlacedTree → PlacedTree → Expression → Seen → Type 0
SeenInClause P S e earlier Q f s =
    (IsLiveIn P S e earlier Q × SeenIn P (clause_entry e earlier Q ∷ S) f s)
    ⊎ ((IsLiveIn P S e earlier Q → ⊥) × JustLines (λ (ls : List Line). ls ≡ record { place = place_of Q; kind = dead_clause; document = None } ∷ []) s)

-- The same of a clause of a match: there is a state where the clause is live.
pub record IsClauseWalked (p : ProgramTable) (S : Scope) (e : Expression) (earlier : List PlacedTree) (Q : PlacedTree) (f : Expression) (a : Automaton) (ds : List Document) (old new : Found) (o : Option State) : Type 0 where
  pub may : (d : Document) → is_proper d ≡ true → AcceptedBy a o d ↔ (IsLiveIn (program_tree p) S e earlier Q × May (program_tree p) (clause_entry e earlier Q ∷ S) f d)
  pub found : AddsFound p a ds (SeenInClause (program_tree p) S e earlier Q f) old new
  pub dead : o ≡ None → IsLiveIn (program_tree p) S e earlier Q → ⊥

abbrev pub SeenInClauses : ProgramTree → Scope → Place → Expression → List PlacedTree → Clauses → Seen → Type 0
SeenInClauses P S q e earlier cs s = LinesOfClauses told_size P S q e earlier cs s.lines × MatchesOfClauses P S e earlier cs s.matches

-- the same of all clauses of a match at a place
pub record AreClausesWalked (p : ProgramTable) (S : Scope) (q : Place) (e : Expression) (cs : Clauses) (a : Automaton) (ds : List Document) (old new : Found) (s : State) : Type 0 where
  pub may : AcceptsJust a s (MayClauses (program_tree p) S e [] cs)
  pub found : AddsFound p a ds (SeenInClauses (program_tree p) S q e [] cs) old new

-- the line of an argument at a place, where its parameter has a state and it may be a misfit
abbrev pub LinesOfArgument : Automaton → Place → State → Option State → List Line → Type 0
LinesOfArgument a p s None ls = ls ≡ []
LinesOfArgument a p s (Some t) ls = LineWhere told_size p wrong_argument (IsMisfit a s t) ls

abbrev pub SeenInFunction : ProgramTree → FunctionDefinition → Seen → Type 0
SeenInFunction P f s = LinesOfFunction told_size P f s.lines × MatchesOfFunction P f s.matches

abbrev pub SeenInFunctions : ProgramTree → List FunctionDefinition → Seen → Type 0
SeenInFunctions P fs s = LinesOfFunctions told_size P fs s.lines × MatchesOfFunctions P fs s.matches
