-- The variables of a program's clauses, each with what it takes to say what it may be. (This
-- project's own rule.)
use Rattle.std.specs.Prelude.{◌≡◌, ℕ, Bool, List, [], ◌∷◌, ◌++◌, flat_map, map}
use Rattle.xd_base.specs.declared.Place.{Place}
use Rattle.xd_doc.specs.Document.{Document}
use Rattle.xd_syntax.specs.Tree.{Definitions}
use Rattle.xd_syntax.specs.Placed.{PlacedTree}
use Rattle.xd_syntax.specs.Expression.{Expression, Clauses, no_clause, clause}
use Rattle.xd_syntax.specs.Program.{ProgramTree, names_of}
use Rattle.xd_syntax.specs.Order.{is_earlier, ordered}
use Rattle.xd_syntax.specs.May.{May, Scope}
use Rattle.xd_syntax.specs.Matches.{AreMatches, SeenMatch, first_spots, variable_spots}
use Rattle.xd_syntax.specs.NameFaults.{Spot}

-- A variable of a clause: the place of its word where it stands first in the clause's pattern, what
-- is in scope where the match stands, the match's scrutinee, the patterns of the clauses before,
-- the last one first, and the clause's own.
pub record SeenVariable : Type 0 where
  pub place : Place
  pub variable : List ℕ
  pub scope : Scope
  pub scrutinee : Expression
  pub earlier : List PlacedTree
  pub pattern : PlacedTree

-- that of this word at this place
abbrev pub variable_at : Scope → Expression → List PlacedTree → PlacedTree → Spot → SeenVariable
variable_at S e earlier Q s =
    record { place = s.place; variable = s.word; scope = S; scrutinee = e; earlier = earlier; pattern = Q }

-- those of a clause with this pattern, each once
abbrev pub variables_of_clause : Scope → Expression → List PlacedTree → PlacedTree → List SeenVariable
variables_of_clause S e earlier Q = map (variable_at S e earlier Q) (first_spots (variable_spots Q))

-- those of clauses after these patterns, whether or not the clauses are live
abbrev pub variables_of_clauses : Scope → Expression → List PlacedTree → Clauses → List SeenVariable
variables_of_clauses S e earlier no_clause = []
variables_of_clauses S e earlier (clause Q f cs) =
    variables_of_clause S e earlier Q ++ variables_of_clauses S e (Q ∷ earlier) cs

-- those of a match's clauses
abbrev pub variables_of_match : SeenMatch → List SeenVariable
variables_of_match m = variables_of_clauses m.scope m.scrutinee [] m.clauses

-- the earlier place comes first
abbrev pub variable_precedes : SeenVariable → SeenVariable → Bool
variable_precedes v w = is_earlier v.place w.place

-- These are the variables of all clauses of the program's matches, in order of place. Matches
-- inside the bodies of clauses that aren't live are left out.
pub record AreSeenVariables (P : ProgramTree) (vs : List SeenVariable) : Type 0 where
  pub matches : List SeenMatch
  pub seen : AreMatches P matches
  pub ordered : vs ≡ ordered variable_precedes (flat_map variables_of_match matches)

-- What a pattern gives a variable, where the scrutinee may be so and these patterns stand before:
-- `MayBind`, by any whole way, and `Prefers`, by the first one, are such readings.
abbrev pub Reading : Type 1
Reading = Definitions → (Document → Type 0) → List PlacedTree → PlacedTree → List ℕ → Document → Type 0

-- by this reading the variable is given the document
abbrev pub Gives : Reading → ProgramTree → SeenVariable → Document → Type 0
Gives B P v d = B (names_of P) (May P v.scope v.scrutinee) v.earlier v.pattern v.variable d
