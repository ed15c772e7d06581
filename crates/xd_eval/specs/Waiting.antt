-- What is left to do after the value of an expression.
use Rattle.std.specs.Prelude.{ℕ, ◌+◌, List, [], ◌∷◌, ◌++◌}
use Rattle.xd_doc.specs.Document.{Document, empty, element, join}
use Rattle.xd_syntax.specs.Expression.{Expression, Nothing, Quoted, Variable, Tagged, Joined, Called, Matched, Arguments, no_argument, argument, Clauses, no_clause, clause, arguments_of}
use Rattle.xd_meaning.specs.Meaning.{Outcome, Done, Environment, Matcher, and_then, values_by, chosen_by}

-- the value of a call, with so many calls left
abbrev pub Caller : Type 0
Caller = ℕ → List ℕ → List Document → Outcome Document

-- these documents, one after the other
abbrev pub joined_all : List Document → Document
joined_all [] = empty
joined_all (d ∷ ds) = join d (joined_all ds)

-- Where a value goes: into an element; among the parts of a sequence or of a call, between the
-- values of those before it and those after it; or to the clauses of a match. What is left to do
-- there has its environment.
pub data Waiting : Type 0 where
  in_element : (label : List ℕ) → Waiting
  in_sequence : (env : Environment) (before : List Document) (after : List Expression) → Waiting
  in_call : (env : Environment) (function : List ℕ) (before : List Document) (after : List Expression) → Waiting
  in_match : (env : Environment) (clauses : Clauses) → Waiting

-- what becomes of a value, with so many calls left, where these wait for it, the innermost first
abbrev pub resumed : Matcher → Caller → List Waiting → Document → ℕ → Outcome Document
resumed M C [] d n = Done d n
resumed M C (in_element l ∷ ws) d n = resumed M C ws (element l d empty) n
resumed M C (in_sequence env before after ∷ ws) d n =
    and_then (values_by M C n env (arguments_of after)) (λ ds m. resumed M C ws (joined_all (before ++ d ∷ ds)) m)
resumed M C (in_call env f before after ∷ ws) d n =
    and_then (values_by M C n env (arguments_of after)) (λ ds m. and_then (C m f (before ++ d ∷ ds)) (λ v k. resumed M C ws v k))
resumed M C (in_match env cs ∷ ws) d n = and_then (chosen_by M C n env d cs) (λ v k. resumed M C ws v k)

-- How many steps an expression takes at most, those of the bodies of calls aside.
abbrev mutual
  pub steps : Expression → ℕ
  steps (Nothing p) = 1
  steps (Quoted p s) = 1
  steps (Variable p x) = 1
  steps (Tagged p l e) = steps e + 2
  steps (Joined p e f) = steps e + steps f + 3
  steps (Called p f es) = argument_steps es + 1
  steps (Matched p e cs) = steps e + clause_steps cs + 2

  pub argument_steps : Arguments → ℕ
  argument_steps no_argument = 1
  argument_steps (argument e es) = steps e + argument_steps es + 1

  pub clause_steps : Clauses → ℕ
  clause_steps no_clause = 0
  clause_steps (clause P e cs) = steps e + clause_steps cs

abbrev pub waiting_steps : Waiting → ℕ
waiting_steps (in_element l) = 1
waiting_steps (in_sequence env before after) = argument_steps (arguments_of after)
waiting_steps (in_call env f before after) = argument_steps (arguments_of after)
waiting_steps (in_match env cs) = clause_steps cs + 1

abbrev pub all_steps : List Waiting → ℕ
all_steps [] = 0
all_steps (w ∷ ws) = waiting_steps w + all_steps ws
