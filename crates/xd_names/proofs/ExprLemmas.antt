-- The faults of expressions, part by part, for any scopes with the same words.
use Rattle.std.proofs.Common.{◌≡◌, ℕ, ◌+◌, ◌<◌, ◌≤◌, arith, not, max, List, [], ◌∷◌, ◌++◌, map, flat_map, length, refl, ap, sym, ◌∙◌, append-nil}
use Rattle.std.specs.List.{AllByRecursion}
use Rattle.std.proofs.lemmas.List.Folds.{flat_map-map}
use Rattle.std.proofs.lemmas.List.{length-map}
use Rattle.xd_base.specs.declared.Place.{Place}
use Rattle.xd_syntax.specs.Placed.{variables}
use Rattle.xd_syntax.specs.Expression.{Expression, Nothing, Quoted, Variable, Tagged, Joined, Called, Matched, Arguments, no_argument, argument, Clauses, no_clause, clause, place_of_expression, joined, arguments_of}
use Rattle.xd_syntax.specs.Program.{ProgramTree, function_of}
use Rattle.xd_syntax.specs.NameFaults.{fault_if, known_types, pattern_faults, argument_count, call_faults, expression_faults, argument_faults, clause_faults}
use Rattle.xd_syntax.specs.declared.fault.FaultKind.TheVariants.{UnknownVariable}
use Rattle.xd_names.proofs.LinearLemmas.{Same, same_append, same_turned}

mutual
  pub expression_faults-same : (P : ProgramTree) (s t : List (List ℕ)) (e : Expression) → Same s t → expression_faults P s e ≡ expression_faults P t e
  expression_faults-same P s t (Nothing p) h = refl
  expression_faults-same P s t (Quoted p c) h = refl
  expression_faults-same P s t (Variable p x) h = ap (λ b. fault_if (not b) p (UnknownVariable x)) (h x)
  expression_faults-same P s t (Tagged p l e) h = expression_faults-same P s t e h
  expression_faults-same P s t (Joined p e f) h = ap (λ fs. fs ++ expression_faults P s f) (expression_faults-same P s t e h) ∙ ap (λ fs. expression_faults P t e ++ fs) (expression_faults-same P s t f h)
  expression_faults-same P s t (Called p f es) h = ap (λ fs. call_faults (function_of P.functions f) p f (argument_count es) ++ fs) (argument_faults-same P s t es h)
  expression_faults-same P s t (Matched p e cs) h = ap (λ fs. fs ++ clause_faults P s cs) (expression_faults-same P s t e h) ∙ ap (λ fs. expression_faults P t e ++ fs) (clause_faults-same P s t cs h)

  argument_faults-same : (P : ProgramTree) (s t : List (List ℕ)) (es : Arguments) → Same s t → argument_faults P s es ≡ argument_faults P t es
  argument_faults-same P s t no_argument h = refl
  argument_faults-same P s t (argument e es) h = ap (λ fs. fs ++ argument_faults P s es) (expression_faults-same P s t e h) ∙ ap (λ fs. expression_faults P t e ++ fs) (argument_faults-same P s t es h)

  clause_faults-same : (P : ProgramTree) (s t : List (List ℕ)) (cs : Clauses) → Same s t → clause_faults P s cs ≡ clause_faults P t cs
  clause_faults-same P s t no_clause h = refl
  clause_faults-same P s t (clause A e cs) h =
      ap (λ fs. pattern_faults (known_types P) A ++ fs ++ clause_faults P s cs) (expression_faults-same P (variables A ++ s) (variables A ++ t) e (same_append (variables A) s t h))
      ∙ ap (λ fs. pattern_faults (known_types P) A ++ expression_faults P (variables A ++ t) e ++ fs) (clause_faults-same P s t cs h)

faults_joined : (P : ProgramTree) (s : List (List ℕ)) (p : Place) (es : List Expression) → expression_faults P s (joined p es) ≡ flat_map (expression_faults P s) es
faults_joined P s p [] = refl
faults_joined P s p (e ∷ []) = sym (append-nil (expression_faults P s e))
faults_joined P s p (e ∷ (f ∷ fs)) = ap (λ gs. expression_faults P s e ++ gs) (faults_joined P s (place_of_expression f) (f ∷ fs))

pub faults_of_parts : (P : ProgramTree) (s : List (List ℕ)) (t : ℕ → Expression) (p : Place) (is : List ℕ) →
    expression_faults P s (joined p (map t is)) ≡ flat_map (λ i. expression_faults P s (t i)) is
faults_of_parts P s t p is = faults_joined P s p (map t is) ∙ flat_map-map (expression_faults P s) t is

faults_arguments : (P : ProgramTree) (s : List (List ℕ)) (es : List Expression) → argument_faults P s (arguments_of es) ≡ flat_map (expression_faults P s) es
faults_arguments P s [] = refl
faults_arguments P s (e ∷ es) = ap (λ gs. expression_faults P s e ++ gs) (faults_arguments P s es)

pub faults_of_arguments : (P : ProgramTree) (s : List (List ℕ)) (t : ℕ → Expression) (is : List ℕ) →
    argument_faults P s (arguments_of (map t is)) ≡ flat_map (λ i. expression_faults P s (t i)) is
faults_of_arguments P s t is = faults_arguments P s (map t is) ∙ flat_map-map (expression_faults P s) t is

count_arguments : (es : List Expression) → argument_count (arguments_of es) ≡ length es
count_arguments [] = refl
count_arguments (e ∷ es) = let i = count_arguments es in omega arith

pub arguments_given : (t : ℕ → Expression) (is : List ℕ) → argument_count (arguments_of (map t is)) ≡ length is
arguments_given t is = count_arguments (map t is) ∙ length-map is t

-- a clause's variables stand after those in scope
pub body_faults : (P : ProgramTree) (s vs : List (List ℕ)) (e : Expression) → expression_faults P (s ++ vs) e ≡ expression_faults P (vs ++ s) e
body_faults P s vs e = expression_faults-same P (s ++ vs) (vs ++ s) e (same_turned s vs)

-- one more than the greatest number
abbrev pub ceiling : List ℕ → ℕ
ceiling [] = 0
ceiling (i ∷ is) = max (i + 1) (ceiling is)

pub ceiling_within : (n : ℕ) (is : List ℕ) → AllByRecursion (λ i. i < n) is → ceiling is ≤ n
ceiling_within n [] a = omega arith
ceiling_within n (i ∷ is) a = let r = ceiling_within n is a.1 in let s : i < n = a.0 in omega arith

abbrev pub bodies : List (ℕ × ℕ) → List ℕ
bodies cs = map (λ (c : ℕ × ℕ). c.1) cs

pub bodies_below : (n : ℕ) (cs : List (ℕ × ℕ)) → AllByRecursion (λ (c : ℕ × ℕ). c.1 < n) cs → AllByRecursion (λ i. i < n) (bodies cs)
bodies_below n [] a = tt
bodies_below n (c ∷ cs) a = (a.0, bodies_below n cs a.1)

pub bodies_more : (m n : ℕ) → m ≤ n → (cs : List (ℕ × ℕ)) → AllByRecursion (λ (c : ℕ × ℕ). c.1 < m) cs → AllByRecursion (λ (c : ℕ × ℕ). c.1 < n) cs
bodies_more m n h [] a = tt
bodies_more m n h (c ∷ cs) a = (omega arith, bodies_more m n h cs a.1)
