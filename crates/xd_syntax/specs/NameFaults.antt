-- Faults of names, of the number of arguments, and of variables that are not linear.
use Rattle.std.specs.Prelude.{ℕ, ◌+◌, Bool, true, false, not, cond, ◌||◌, ◌&&◌, List, [], ◌∷◌, ◌++◌, map, flat_map, length, nat_eq, Option, Some, None}
use Rattle.std.specs.List.{filter}
use Rattle.xd_base.specs.declared.Place.{Place}
use Rattle.xd_syntax.specs.Words.{has_word, any_word, string_word}
use Rattle.xd_syntax.specs.Placed.{PlacedTree, Name_at, Elem_at, Seq_at, Alt_at, Star_at, Plus_at, Opt_at, Val_at, variables}
use Rattle.xd_syntax.specs.Expression.{Expression, Variable, Tagged, Joined, Called, Matched, Arguments, no_argument, argument, Clauses, no_clause, clause}
use Rattle.xd_syntax.specs.Program.{TypeDefinition, Parameter, FunctionDefinition, ProgramTree, function_of}
use Rattle.xd_syntax.specs.Order.{in_order}
use Rattle.xd_syntax.specs.declared.fault.Fault.{Fault}
use Rattle.xd_syntax.specs.declared.fault.FaultKind.{FaultKind}
use Rattle.xd_syntax.specs.declared.fault.FaultKind.TheVariants.{DuplicateName, UnknownType, UnknownFunction, UnknownVariable, Arity, NotLinear}

-- a fault of this kind, at this place
abbrev pub fault_at : Place → FaultKind → Fault
fault_at p kind = record { place = Some p; kind = kind }

-- a fault where the test holds
abbrev pub fault_if : Bool → Place → FaultKind → List Fault
fault_if b p kind = cond b (fault_at p kind ∷ []) []

-- a word and its place
pub record Spot : Type 0 where
  pub word : List ℕ
  pub place : Place

-- Each word that was seen before has a fault.
abbrev pub duplicates : List (List ℕ) → List Spot → List Fault
duplicates seen [] = []
duplicates seen (s ∷ ss) =
    fault_if (has_word seen s.word) s.place (DuplicateName s.word) ++ duplicates (s.word ∷ seen) ss

-- this word at this place
abbrev pub spot : List ℕ → Place → Spot
spot x p = record { word = x; place = p }

-- the words and places of the parameters of one function
abbrev pub parameter_spots : List Parameter → List Spot
parameter_spots ps = map (λ (p : Parameter). spot p.name p.place) ps

-- Names of types, of functions and of parameters are separate. `String` and `Any` count as seen
-- among types.
abbrev pub duplicate_names : ProgramTree → List Fault
duplicate_names p =
    duplicates (string_word ∷ (any_word ∷ [])) (map (λ (t : TypeDefinition). spot t.name t.place) p.types)
    ++ duplicates [] (map (λ (f : FunctionDefinition). spot f.name f.place) p.functions)
    ++ flat_map (λ (f : FunctionDefinition). duplicates [] (parameter_spots f.parameters)) p.functions

-- the names of types that are defined
abbrev pub known_types : ProgramTree → List (List ℕ)
known_types p = any_word ∷ map (λ (t : TypeDefinition). t.name) p.types

-- a fault at each use of a name of a type that is not among these
abbrev pub unknown_types : List (List ℕ) → PlacedTree → List Fault
unknown_types known (Name_at p x) = fault_if (not (has_word known x)) p (UnknownType x)
unknown_types known (Elem_at p c T) = unknown_types known T
unknown_types known (Seq_at p T U) = unknown_types known T ++ unknown_types known U
unknown_types known (Alt_at p T U) = unknown_types known T ++ unknown_types known U
unknown_types known (Star_at p T) = unknown_types known T
unknown_types known (Plus_at p T) = unknown_types known T
unknown_types known (Opt_at p T) = unknown_types known T
unknown_types known (Val_at p x q T) = unknown_types known T
unknown_types known _ = []

-- a variable is in every branch of an alternative; a tree that is none is one branch
abbrev pub in_each_branch : List ℕ → PlacedTree → Bool
in_each_branch x (Alt_at p T U) = has_word (variables T) x && in_each_branch x U
in_each_branch x T = has_word (variables T) x

-- the variables of an alternative that some branch lacks
abbrev pub lacking_somewhere : PlacedTree → List (List ℕ)
lacking_somewhere A = filter (λ x. not (in_each_branch x A)) (variables A)

-- the words that are not among the first
abbrev pub without : List (List ℕ) → List (List ℕ) → List (List ℕ)
without gone xs = filter (λ x. not (has_word gone x)) xs

-- An occurrence of a variable is not linear where it stands under `*`, `+` or `?`; where an earlier
-- one of the same variable stands, but in another branch of an alternative; and where it is the
-- first one of an alternative of which some branch lacks the variable. The definitions below mark
-- occurrences from the inside out: each form marks what its own rule makes wrong among the
-- occurrences of its parts.

-- an occurrence of a variable, and whether a rule that was looked at makes it wrong
pub record Occurrence : Type 0 where
  pub word : List ℕ
  pub place : Place
  pub is_wrong : Bool

-- an occurrence that no rule was looked at for
abbrev pub occurrence : List ℕ → Place → Occurrence
occurrence x p = record { word = x; place = p; is_wrong = false }

-- marked where the test holds
abbrev pub wrong_if : Bool → Occurrence → Occurrence
wrong_if b o = record o { is_wrong = o.is_wrong || b }

-- marks the occurrences of these variables as wrong
abbrev pub wrong_among : List (List ℕ) → List Occurrence → List Occurrence
wrong_among xs os = map (λ (o : Occurrence). wrong_if (has_word xs o.word) o) os

-- marks the first occurrence of each of these variables as wrong
abbrev pub first_wrong : List (List ℕ) → List Occurrence → List Occurrence
first_wrong xs [] = []
first_wrong xs (o ∷ os) = wrong_if (has_word xs o.word) o ∷ first_wrong (without (o.word ∷ []) xs) os

-- marks in an alternative the first occurrence of each variable that some branch lacks as wrong
abbrev pub by_branches : PlacedTree → List Occurrence → List Occurrence
by_branches (Alt_at p T U) os = first_wrong (lacking_somewhere (Alt_at p T U)) os
by_branches T os = os

-- The occurrences of variables in a pattern, in order. One is wrong where it stands under a
-- repetition or an option; where an earlier one of the same variable stands before it, and the two
-- aren't in different branches of an alternative; or, for an alternative inside, as `by_branches`
-- says. For an alternative itself the caller asks `by_branches`: the rest of an alternative has the
-- form of one, and isn't one.
abbrev pub occurrences_in : PlacedTree → List Occurrence
occurrences_in (Elem_at p c T) = by_branches T (occurrences_in T)
occurrences_in (Seq_at p T U) =
    by_branches T (occurrences_in T) ++ wrong_among (variables T) (by_branches U (occurrences_in U))
occurrences_in (Alt_at p T U) = by_branches T (occurrences_in T) ++ occurrences_in U
occurrences_in (Star_at p T) = map (wrong_if true) (by_branches T (occurrences_in T))
occurrences_in (Plus_at p T) = map (wrong_if true) (by_branches T (occurrences_in T))
occurrences_in (Opt_at p T) = map (wrong_if true) (by_branches T (occurrences_in T))
occurrences_in (Val_at p x q T) = occurrence x q ∷ wrong_among (x ∷ []) (by_branches T (occurrences_in T))
occurrences_in _ = []

-- the occurrences of variables that are not linear
abbrev pub linearity_faults : PlacedTree → List Fault
linearity_faults P =
    flat_map (λ (o : Occurrence). fault_if o.is_wrong o.place (NotLinear o.word))
    (by_branches P (occurrences_in P))

-- the faults of a clause's pattern
abbrev pub pattern_faults : List (List ℕ) → PlacedTree → List Fault
pattern_faults known P = unknown_types known P ++ linearity_faults P

-- how many arguments a call has
abbrev pub argument_count : Arguments → ℕ
argument_count no_argument = 0
argument_count (argument e es) = argument_count es + 1

-- a call of no function, or with another number of arguments than the first function of the name
-- wants
abbrev pub call_faults : Option FunctionDefinition → Place → List ℕ → ℕ → List Fault
call_faults None p f given = fault_at p (UnknownFunction f) ∷ []
call_faults (Some g) p f given =
    fault_if (not (nat_eq given (length g.parameters))) p (Arity f given (length g.parameters))

-- the faults of an expression, where these variables are in scope
abbrev mutual
  pub expression_faults : ProgramTree → List (List ℕ) → Expression → List Fault
  expression_faults P scope (Variable p x) = fault_if (not (has_word scope x)) p (UnknownVariable x)
  expression_faults P scope (Tagged p l e) = expression_faults P scope e
  expression_faults P scope (Joined p e f) = expression_faults P scope e ++ expression_faults P scope f
  expression_faults P scope (Called p f es) =
      call_faults (function_of P.functions f) p f (argument_count es) ++ argument_faults P scope es
  expression_faults P scope (Matched p e cs) = expression_faults P scope e ++ clause_faults P scope cs
  expression_faults P scope _ = []

  pub argument_faults : ProgramTree → List (List ℕ) → Arguments → List Fault
  argument_faults P scope no_argument = []
  argument_faults P scope (argument e es) = expression_faults P scope e ++ argument_faults P scope es

  pub clause_faults : ProgramTree → List (List ℕ) → Clauses → List Fault
  clause_faults P scope no_clause = []
  clause_faults P scope (clause A e cs) =
      pattern_faults (known_types P) A ++ expression_faults P (variables A ++ scope) e
      ++ clause_faults P scope cs

-- the faults of a function's types, and of its body, where its parameters are in scope
abbrev pub function_faults : ProgramTree → FunctionDefinition → List Fault
function_faults P f =
    flat_map (λ (q : Parameter). unknown_types (known_types P) q.declared) f.parameters
    ++ unknown_types (known_types P) f.declared
    ++ expression_faults P (map (λ (q : Parameter). q.name) f.parameters) f.body

-- all faults of names, arity and linearity, in order
abbrev pub name_faults : ProgramTree → List Fault
name_faults P =
    in_order (duplicate_names P
    ++ flat_map (λ (t : TypeDefinition). unknown_types (known_types P) t.body) P.types
    ++ flat_map (function_faults P) P.functions)
