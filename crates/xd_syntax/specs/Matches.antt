-- The matches of a program, each with what is in scope there, and the variables of their clauses.
-- (This project's own rule.)
use Rattle.std.specs.Prelude.{◌≡◌, Bool, not, ◌⊎◌, List, [], ◌∷◌, ◌++◌, filter}
use Rattle.std.specs.Str.{bytes_eq}
use Rattle.xd_base.specs.declared.Place.{Place}
use Rattle.xd_syntax.specs.Placed.{PlacedTree, Empty_at, Text_at, Words_at, Name_at, Elem_at, Seq_at, Alt_at, Star_at, Plus_at, Opt_at, Val_at}
use Rattle.xd_syntax.specs.NameFaults.{Spot, spot}
use Rattle.xd_syntax.specs.Order.{InTurn, is_earlier, ordered}
use Rattle.xd_syntax.specs.May.{Scope, clause_entry, parameters_scope}
use Rattle.xd_syntax.specs.CheckFaults.{IsLiveIn}
use Rattle.xd_syntax.specs.Expression.{Expression, Nothing, Quoted, Variable, Tagged, Joined, Called, Matched, Arguments, no_argument, argument, Clauses, no_clause, clause}
use Rattle.xd_syntax.specs.Program.{FunctionDefinition, ProgramTree}

-- a match, with what is in scope where it stands
pub record SeenMatch : Type 0 where
  pub place : Place
  pub scope : Scope
  pub scrutinee : Expression
  pub clauses : Clauses

-- the matches inside an expression, but for those inside the bodies of clauses that aren't live
abbrev mutual
  pub MatchesOf : ProgramTree → Scope → Expression → List SeenMatch → Type 0
  MatchesOf P S (Tagged p l e) ms = MatchesOf P S e ms
  MatchesOf P S (Joined p e f) ms = InTurn (MatchesOf P S e) (MatchesOf P S f) ms
  MatchesOf P S (Called p f es) ms = MatchesOfArguments P S es ms
  MatchesOf P S (Matched p e cs) ms =
      InTurn (λ ns. ns ≡ record { place = p; scope = S; scrutinee = e; clauses = cs } ∷ [])
      (InTurn (MatchesOf P S e) (MatchesOfClauses P S e [] cs)) ms
  MatchesOf P S _ ms = ms ≡ []

  pub MatchesOfArguments : ProgramTree → Scope → Arguments → List SeenMatch → Type 0
  MatchesOfArguments P S no_argument ms = ms ≡ []
  MatchesOfArguments P S (argument e es) ms = InTurn (MatchesOf P S e) (MatchesOfArguments P S es) ms

  -- those in the bodies of clauses of a scrutinee, after these patterns
  pub MatchesOfClauses :
      ProgramTree → Scope → Expression → List PlacedTree → Clauses → List SeenMatch → Type 0
  MatchesOfClauses P S e earlier no_clause ms = ms ≡ []
  MatchesOfClauses P S e earlier (clause Q f cs) ms =
      InTurn
      (λ ns.
      (IsLiveIn P S e earlier Q × MatchesOf P (clause_entry e earlier Q ∷ S) f ns)
      ⊎ ((IsLiveIn P S e earlier Q → ⊥) × (ns ≡ [])))
      (MatchesOfClauses P S e (Q ∷ earlier) cs) ms

-- those of a function are those of its body, where its parameters are in scope
abbrev pub MatchesOfFunction : ProgramTree → FunctionDefinition → List SeenMatch → Type 0
MatchesOfFunction P f ms = MatchesOf P (parameters_scope f.parameters) f.body ms

-- those of each function, in order
abbrev pub MatchesOfFunctions : ProgramTree → List FunctionDefinition → List SeenMatch → Type 0
MatchesOfFunctions P [] ms = ms ≡ []
MatchesOfFunctions P (f ∷ fs) ms = InTurn (MatchesOfFunction P f) (MatchesOfFunctions P fs) ms

-- the earlier place comes first
abbrev pub match_precedes : SeenMatch → SeenMatch → Bool
match_precedes m n = is_earlier m.place n.place

-- these are the matches of the program that don't stand inside the body of a clause that isn't
-- live, in order of place
pub record AreMatches (P : ProgramTree) (ms : List SeenMatch) : Type 0 where
  pub found : List SeenMatch
  pub all : MatchesOfFunctions P P.functions found
  pub ordered : ms ≡ ordered match_precedes found

-- the variables of a pattern, each with the place of its word, in order
abbrev pub variable_spots : PlacedTree → List Spot
variable_spots (Elem_at p c T) = variable_spots T
variable_spots (Seq_at p T U) = variable_spots T ++ variable_spots U
variable_spots (Alt_at p T U) = variable_spots T ++ variable_spots U
variable_spots (Star_at p T) = variable_spots T
variable_spots (Plus_at p T) = variable_spots T
variable_spots (Opt_at p T) = variable_spots T
variable_spots (Val_at p x q T) = spot x q ∷ variable_spots T
variable_spots _ = []

-- of each variable the first occurrence, in order
abbrev pub first_spots : List Spot → List Spot
first_spots [] = []
first_spots (s ∷ ss) = s ∷ filter (λ (t : Spot). not (bytes_eq s.word t.word)) (first_spots ss)
