-- A program has one list of matches, and one list of variables.
use Rattle.std.proofs.Common.{◌≡◌, inl, inr, List, [], ◌∷◌, ◌++◌, flat_map, ap, sym, ◌∙◌}
use Rattle.xd_syntax.specs.Expression.{Expression, Nothing, Quoted, Variable, Tagged, Joined, Called, Matched, Arguments, no_argument, argument, Clauses, no_clause, clause}
use Rattle.xd_syntax.specs.Matches.{AreMatches, MatchesOf, MatchesOfArguments, MatchesOfClauses, MatchesOfFunction, MatchesOfFunctions, SeenMatch, match_precedes}
use Rattle.xd_syntax.specs.May.{Scope, clause_entry, parameters_scope}
use Rattle.xd_syntax.specs.Order.{ordered, InTurn}
use Rattle.xd_syntax.specs.Placed.{PlacedTree}
use Rattle.xd_syntax.specs.Program.{FunctionDefinition, ProgramTree}
use Rattle.xd_variables.specs.Laws.{SeenVariablesAreOne}
use Rattle.xd_variables.specs.Seen.{variable_precedes, variables_of_match}

in_turn : {A : Type 0} (X Y : List A → Type 0) → ((xs us : List A) → X xs → X us → xs ≡ us) → ((ys vs : List A) → Y ys → Y vs → ys ≡ vs) → (zs ws : List A) → InTurn X Y zs → InTurn X Y ws → zs ≡ ws
in_turn X Y f g zs ws h k = h.4 ∙ ap (λ xs. xs ++ h.1) (f h.0 k.0 h.2 k.2) ∙ ap (λ ys. k.0 ++ ys) (g h.1 k.1 h.3 k.3) ∙ sym k.4

mutual
  expression_once : (P : ProgramTree) (S : Scope) (e : Expression) (ms ns : List SeenMatch) → MatchesOf P S e ms → MatchesOf P S e ns → ms ≡ ns
  expression_once P S (Nothing p) ms ns h k = h ∙ sym k
  expression_once P S (Quoted p s) ms ns h k = h ∙ sym k
  expression_once P S (Variable p x) ms ns h k = h ∙ sym k
  expression_once P S (Tagged p l e) ms ns h k = expression_once P S e ms ns h k
  expression_once P S (Joined p e f) ms ns h k =
      in_turn (MatchesOf P S e) (MatchesOf P S f) (λ xs us a b. expression_once P S e xs us a b) (λ xs us a b. expression_once P S f xs us a b) ms ns h k
  expression_once P S (Called p f es) ms ns h k = arguments_once P S es ms ns h k
  expression_once P S (Matched p e cs) ms ns h k =
      let own : SeenMatch = record { place = p; scope = S; scrutinee = e; clauses = cs } in
      in_turn (λ xs. xs ≡ own ∷ []) (InTurn (MatchesOf P S e) (MatchesOfClauses P S e [] cs)) (λ xs us a b. a ∙ sym b)
      (λ ys vs c d. in_turn (MatchesOf P S e) (MatchesOfClauses P S e [] cs) (λ xs us a b. expression_once P S e xs us a b) (λ xs us a b. clauses_once P S e [] cs xs us a b) ys vs c d) ms ns h k

  arguments_once : (P : ProgramTree) (S : Scope) (es : Arguments) (ms ns : List SeenMatch) → MatchesOfArguments P S es ms → MatchesOfArguments P S es ns → ms ≡ ns
  arguments_once P S no_argument ms ns h k = h ∙ sym k
  arguments_once P S (argument e es) ms ns h k =
      in_turn (MatchesOf P S e) (MatchesOfArguments P S es) (λ xs us a b. expression_once P S e xs us a b) (λ xs us a b. arguments_once P S es xs us a b) ms ns h k

  clauses_once : (P : ProgramTree) (S : Scope) (e : Expression) (earlier : List PlacedTree) (cs : Clauses) (ms ns : List SeenMatch) → MatchesOfClauses P S e earlier cs ms → MatchesOfClauses P S e earlier cs ns → ms ≡ ns
  clauses_once P S e earlier no_clause ms ns h k = h ∙ sym k
  clauses_once P S e earlier (clause Q f cs) ms ns h k =
      h.4
      ∙ ap (λ xs. xs ++ h.1) (elim h.2 [
        | inl l ↦ elim k.2 [ inl m ↦ expression_once P (clause_entry e earlier Q ∷ S) f h.0 k.0 l.1 m.1 | inr m ↦ absurd (m.0 l.0) ]
        | inr l ↦ elim k.2 [ inl m ↦ absurd (l.0 m.0) | inr m ↦ l.1 ∙ sym m.1 ]
      ])
      ∙ ap (λ ys. k.0 ++ ys) (clauses_once P S e (Q ∷ earlier) cs h.1 k.1 h.3 k.3)
      ∙ sym k.4

functions_once : (P : ProgramTree) (fs : List FunctionDefinition) (ms ns : List SeenMatch) → MatchesOfFunctions P fs ms → MatchesOfFunctions P fs ns → ms ≡ ns
functions_once P [] ms ns h k = h ∙ sym k
functions_once P (f ∷ fs) ms ns h k =
    in_turn (MatchesOfFunction P f) (MatchesOfFunctions P fs) (λ xs us a b. expression_once P (parameters_scope f.parameters) f.body xs us a b) (λ xs us a b. functions_once P fs xs us a b) ms ns h k

matches_once : (P : ProgramTree) (ms ns : List SeenMatch) → AreMatches P ms → AreMatches P ns → ms ≡ ns
matches_once P ms ns h k = h.ordered ∙ ap (ordered match_precedes) (functions_once P P.functions h.found k.found h.all k.all) ∙ sym k.ordered

pub variables_once : SeenVariablesAreOne
variables_once P vs ws h k = h.ordered ∙ ap (λ ms. ordered variable_precedes (flat_map variables_of_match ms)) (matches_once P h.matches k.matches h.seen k.seen) ∙ sym k.ordered
