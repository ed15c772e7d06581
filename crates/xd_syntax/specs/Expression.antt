-- Expressions with the place of each node, and the rows that keep them.
use Rattle.std.specs.Prelude.{ℕ, List, [], ◌∷◌}
use Rattle.xd_base.specs.declared.Place.{Place}
use Rattle.xd_syntax.specs.Placed.{PlacedTree}

mutual
  -- Each node has its place first. A sequence of more than two parts leans to the right.
  pub data Expression : Type 0 where
    Nothing : Place → Expression
    Quoted : Place → (characters : List ℕ) → Expression
    Variable : Place → (variable : List ℕ) → Expression
    Tagged : Place → (label : List ℕ) (content : Expression) → Expression
    Joined : Place → (first rest : Expression) → Expression
    Called : Place → (function : List ℕ) (arguments : Arguments) → Expression
    Matched : Place → (scrutinee : Expression) (clauses : Clauses) → Expression

  pub data Arguments : Type 0 where
    no_argument : Arguments
    argument : (first : Expression) (rest : Arguments) → Arguments

  pub data Clauses : Type 0 where
    no_clause : Clauses
    clause : (pattern : PlacedTree) (value : Expression) (rest : Clauses) → Clauses

-- the place of the node
abbrev pub place_of_expression : Expression → Place
place_of_expression (Nothing p) = p
place_of_expression (Quoted p s) = p
place_of_expression (Variable p x) = p
place_of_expression (Tagged p l e) = p
place_of_expression (Joined p e f) = p
place_of_expression (Called p f es) = p
place_of_expression (Matched p e cs) = p

-- the sequence of a list of parts
abbrev pub joined : Place → List Expression → Expression
joined p [] = Nothing p
joined p (e ∷ []) = e
joined p (e ∷ (f ∷ fs)) = Joined p e (joined (place_of_expression f) (f ∷ fs))

-- the arguments of a call, of a list
abbrev pub arguments_of : List Expression → Arguments
arguments_of [] = no_argument
arguments_of (e ∷ es) = argument e (arguments_of es)
