-- The patterns of a program's clauses, and their parts.
use Rattle.std.specs.Prelude.{◌≡◌, ℕ, List, [], ◌∷◌, ◌++◌}
use Rattle.xd_doc.specs.Classes.{LabelClass}
use Rattle.xd_doc.specs.Members.{IsOneOf}
use Rattle.xd_syntax.specs.Tree.{Tree, Elem, Seq, Alt, Star, Plus, Opt, Val}
use Rattle.xd_syntax.specs.Placed.{PlacedTree, unplaced}
use Rattle.xd_syntax.specs.Expression.{Expression, Nothing, Quoted, Variable, Tagged, Joined, Called, Matched, Arguments, no_argument, argument, Clauses, no_clause, clause}
use Rattle.xd_syntax.specs.Program.{FunctionDefinition, ProgramTree}
use Rattle.xd_syntax.specs.NameFaults.{name_faults}
use Rattle.xd_pattern_runs.specs.Linear.{IsLinear}

-- the first pattern is a part of the second, or the second itself
pub data IsPartOf (U : Tree) : Tree → Type 0 where
  part_itself : IsPartOf U U
  part_content : {c : LabelClass} {T : Tree} → IsPartOf U T → IsPartOf U (Elem c T)
  part_first : {T V : Tree} → IsPartOf U T → IsPartOf U (Seq T V)
  part_rest : {T V : Tree} → IsPartOf U V → IsPartOf U (Seq T V)
  part_left : {T V : Tree} → IsPartOf U T → IsPartOf U (Alt T V)
  part_right : {T V : Tree} → IsPartOf U V → IsPartOf U (Alt T V)
  part_star : {T : Tree} → IsPartOf U T → IsPartOf U (Star T)
  part_plus : {T : Tree} → IsPartOf U T → IsPartOf U (Plus T)
  part_opt : {T : Tree} → IsPartOf U T → IsPartOf U (Opt T)
  part_val : {x : List ℕ} {T : Tree} → IsPartOf U T → IsPartOf U (Val x T)

-- the parts of a linear pattern are linear
abbrev pub PartsAreLinear : Type 0
PartsAreLinear = (U T : Tree) → IsPartOf U T → IsLinear T → IsLinear U

-- the patterns of all clauses in an expression
abbrev mutual
  pub patterns_in : Expression → List PlacedTree
  patterns_in (Nothing p) = []
  patterns_in (Quoted p s) = []
  patterns_in (Variable p x) = []
  patterns_in (Tagged p l e) = patterns_in e
  patterns_in (Joined p e f) = patterns_in e ++ patterns_in f
  patterns_in (Called p f es) = patterns_in_arguments es
  patterns_in (Matched p e cs) = patterns_in e ++ patterns_in_clauses cs

  pub patterns_in_arguments : Arguments → List PlacedTree
  patterns_in_arguments no_argument = []
  patterns_in_arguments (argument e es) = patterns_in e ++ patterns_in_arguments es

  pub patterns_in_clauses : Clauses → List PlacedTree
  patterns_in_clauses no_clause = []
  patterns_in_clauses (clause A e cs) = A ∷ (patterns_in e ++ patterns_in_clauses cs)

-- the patterns of a program without faults of names are linear
abbrev pub ClausesAreLinear : Type 0
ClausesAreLinear = (P : ProgramTree) → name_faults P ≡ [] → (f : FunctionDefinition) → IsOneOf f P.functions → (A : PlacedTree) → IsOneOf A (patterns_in f.body) → IsLinear (unplaced A)
