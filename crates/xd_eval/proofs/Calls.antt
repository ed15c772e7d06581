-- Calls stand within one another at most as deep as calls are left.
use Rattle.std.proofs.Common.{◌≡◌, ℕ, suc, zero, ◌≤◌, arith, List, ◌∷◌, ◌++◌, Option, Some, None, refl, ap, sym, ◌∙◌}
use Rattle.xd_doc.specs.Document.{Document, empty, element, join}
use Rattle.xd_doc.proofs.Numbers.{itself}
use Rattle.xd_syntax.specs.Placed.{unplaced}
use Rattle.xd_syntax.specs.Expression.{Expression, Nothing, Quoted, Variable, Tagged, Joined, Called, Matched, Arguments, no_argument, argument, Clauses, no_clause, clause}
use Rattle.xd_syntax.specs.Program.{FunctionDefinition, ProgramTree, function_of}
use Rattle.xd_meaning.specs.Meaning.{Outcome, Done, Spent, Stuck, Environment, Matcher, looked_up, and_then, done_or_stuck, or_else, bound, value_by, values_by, chosen_by, body_by, call_within}
use Rattle.xd_eval.specs.Waiting.{Caller}
use Rattle.xd_eval.proofs.Alike.{body_alike}

-- no more calls are left than these
abbrev pub LeavesAtMost : {A : Type 0} → ℕ → Outcome A → Type 0
LeavesAtMost n (Done a m) = m ≤ n
LeavesAtMost n Spent = Unit {0}
LeavesAtMost n Stuck = Unit {0}

abbrev pub Uses : Caller → Type 0
Uses C = (n : ℕ) (f : List ℕ) (ds : List Document) → LeavesAtMost n (C n f ds)

fewer : {A : Type 0} (o : Outcome A) (m n : ℕ) → m ≤ n → LeavesAtMost m o → LeavesAtMost n o
fewer (Done a k) m n h i = omega arith
fewer Spent m n h i = tt
fewer Stuck m n h i = tt

then_leaves : {A B : Type 0} (n : ℕ) (o : Outcome A) (k : A → ℕ → Outcome B) → LeavesAtMost n o → ((a : A) (m : ℕ) → m ≤ n → LeavesAtMost m (k a m)) →
    LeavesAtMost n (and_then o k)
then_leaves n (Done a m) k h i = fewer (k a m) m n h (i a m h)
then_leaves n Spent k h i = tt
then_leaves n Stuck k h i = tt

found_leaves : (n : ℕ) (o : Option Document) → LeavesAtMost n (done_or_stuck o n)
found_leaves n (Some d) = omega arith
found_leaves n None = tt

or_leaves : (n : ℕ) (o : Option Environment) (t : Environment → Outcome Document) (q : Outcome Document) → ((vs : Environment) → LeavesAtMost n (t vs)) → LeavesAtMost n q →
    LeavesAtMost n (or_else o t q)
or_leaves n (Some vs) t q h i = h vs
or_leaves n None t q h i = i

mutual
  value_leaves : (M : Matcher) (C : Caller) → Uses C → (n : ℕ) (env : Environment) (e : Expression) → LeavesAtMost n (value_by M C n env e)
  value_leaves M C u n env (Nothing p) = itself n
  value_leaves M C u n env (Quoted p s) = itself n
  value_leaves M C u n env (Variable p x) = found_leaves n (looked_up env x)
  value_leaves M C u n env (Tagged p l e) = then_leaves n (value_by M C n env e) (λ d m. Done (element l d empty) m) (value_leaves M C u n env e) (λ d m h. itself m)
  value_leaves M C u n env (Joined p e f) =
      then_leaves n (value_by M C n env e) (λ d m. and_then (value_by M C m env f) (λ c k. Done (join d c) k)) (value_leaves M C u n env e)
      (λ d m h. then_leaves m (value_by M C m env f) (λ c k. Done (join d c) k) (value_leaves M C u m env f) (λ c k i. itself k))
  value_leaves M C u n env (Called p f es) = then_leaves n (values_by M C n env es) (λ ds m. C m f ds) (values_leave M C u n env es) (λ ds m h. u m f ds)
  value_leaves M C u n env (Matched p e cs) =
      then_leaves n (value_by M C n env e) (λ d m. chosen_by M C m env d cs) (value_leaves M C u n env e) (λ d m h. chosen_leaves M C u m env d cs)

  values_leave : (M : Matcher) (C : Caller) → Uses C → (n : ℕ) (env : Environment) (es : Arguments) → LeavesAtMost n (values_by M C n env es)
  values_leave M C u n env no_argument = itself n
  values_leave M C u n env (argument e es) =
      then_leaves n (value_by M C n env e) (λ d m. and_then (values_by M C m env es) (λ ds k. Done (d ∷ ds) k)) (value_leaves M C u n env e)
      (λ d m h. then_leaves m (values_by M C m env es) (λ ds k. Done (d ∷ ds) k) (values_leave M C u m env es) (λ ds k i. itself k))

  chosen_leaves : (M : Matcher) (C : Caller) → Uses C → (n : ℕ) (env : Environment) (d : Document) (cs : Clauses) → LeavesAtMost n (chosen_by M C n env d cs)
  chosen_leaves M C u n env d no_clause = tt
  chosen_leaves M C u n env d (clause P e cs) =
      or_leaves n (M (unplaced P) d) (λ vs. value_by M C n (vs ++ env) e) (chosen_by M C n env d cs)
      (λ vs. value_leaves M C u n (vs ++ env) e) (chosen_leaves M C u n env d cs)

body_leaves : (n : ℕ) (V : Environment → Expression → Outcome Document) (o : Option FunctionDefinition) (ds : List Document) →
    ((env : Environment) (e : Expression) → LeavesAtMost n (V env e)) → LeavesAtMost n (body_by V o ds)
body_leaves n V None ds h = tt
body_leaves n V (Some f) ds h = h (bound f.parameters ds) f.body

pub call_leaves : (M : Matcher) (P : ProgramTree) (k : ℕ) → Uses (call_within M P k)
call_leaves M P zero n f ds = tt
call_leaves M P (suc k) zero f ds = tt
call_leaves M P (suc k) (suc n) f ds =
    fewer (body_by (value_by M (call_within M P k) n) (function_of P.functions f) ds) n (suc n) (omega arith)
    (body_leaves n (value_by M (call_within M P k) n) (function_of P.functions f) ds (λ env e. value_leaves M (call_within M P k) (call_leaves M P k) n env e))

-- two callers that agree where at most so many calls are left
abbrev pub Agree : ℕ → Caller → Caller → Type 0
Agree most C D = (n : ℕ) → n ≤ most → (f : List ℕ) (ds : List Document) → C n f ds ≡ D n f ds

then_agree : {A B : Type 0} (n : ℕ) (o q : Outcome A) (f g : A → ℕ → Outcome B) → LeavesAtMost n o → o ≡ q → ((a : A) (m : ℕ) → m ≤ n → f a m ≡ g a m) →
    and_then o f ≡ and_then q g
then_agree n (Done a m) q f g h e i = i a m h ∙ ap (λ r. and_then r g) e
then_agree n Spent q f g h e i = ap (λ r. and_then r g) e
then_agree n Stuck q f g h e i = ap (λ r. and_then r g) e

or_agree : (o : Option Environment) (s t : Environment → Outcome Document) (q r : Outcome Document) → ((vs : Environment) → s vs ≡ t vs) → q ≡ r → or_else o s q ≡ or_else o t r
or_agree (Some vs) s t q r h i = h vs
or_agree None s t q r h i = i

mutual
  value_agrees : (M : Matcher) (C D : Caller) → Uses C → (most : ℕ) → Agree most C D → (n : ℕ) → n ≤ most → (env : Environment) (e : Expression) →
      value_by M C n env e ≡ value_by M D n env e
  value_agrees M C D u most a n h env (Nothing p) = refl
  value_agrees M C D u most a n h env (Quoted p s) = refl
  value_agrees M C D u most a n h env (Variable p x) = refl
  value_agrees M C D u most a n h env (Tagged p l e) = ap (λ o. and_then o (λ d m. Done (element l d empty) m)) (value_agrees M C D u most a n h env e)
  value_agrees M C D u most a n h env (Joined p e f) =
      then_agree n (value_by M C n env e) (value_by M D n env e)
      (λ d m. and_then (value_by M C m env f) (λ c k. Done (join d c) k)) (λ d m. and_then (value_by M D m env f) (λ c k. Done (join d c) k))
      (value_leaves M C u n env e) (value_agrees M C D u most a n h env e)
      (λ d m i. ap (λ o. and_then o (λ c k. Done (join d c) k)) (value_agrees M C D u most a m (omega arith) env f))
  value_agrees M C D u most a n h env (Called p f es) =
      then_agree n (values_by M C n env es) (values_by M D n env es) (λ ds m. C m f ds) (λ ds m. D m f ds)
      (values_leave M C u n env es) (values_agree M C D u most a n h env es) (λ ds m i. a m (omega arith) f ds)
  value_agrees M C D u most a n h env (Matched p e cs) =
      then_agree n (value_by M C n env e) (value_by M D n env e) (λ d m. chosen_by M C m env d cs) (λ d m. chosen_by M D m env d cs)
      (value_leaves M C u n env e) (value_agrees M C D u most a n h env e) (λ d m i. chosen_agrees M C D u most a m (omega arith) env d cs)

  values_agree : (M : Matcher) (C D : Caller) → Uses C → (most : ℕ) → Agree most C D → (n : ℕ) → n ≤ most → (env : Environment) (es : Arguments) →
      values_by M C n env es ≡ values_by M D n env es
  values_agree M C D u most a n h env no_argument = refl
  values_agree M C D u most a n h env (argument e es) =
      then_agree n (value_by M C n env e) (value_by M D n env e)
      (λ d m. and_then (values_by M C m env es) (λ ds k. Done (d ∷ ds) k)) (λ d m. and_then (values_by M D m env es) (λ ds k. Done (d ∷ ds) k))
      (value_leaves M C u n env e) (value_agrees M C D u most a n h env e)
      (λ d m i. ap (λ o. and_then o (λ ds k. Done (d ∷ ds) k)) (values_agree M C D u most a m (omega arith) env es))

  chosen_agrees : (M : Matcher) (C D : Caller) → Uses C → (most : ℕ) → Agree most C D → (n : ℕ) → n ≤ most → (env : Environment) (d : Document) (cs : Clauses) →
      chosen_by M C n env d cs ≡ chosen_by M D n env d cs
  chosen_agrees M C D u most a n h env d no_clause = refl
  chosen_agrees M C D u most a n h env d (clause P e cs) =
      or_agree (M (unplaced P) d) (λ vs. value_by M C n (vs ++ env) e) (λ vs. value_by M D n (vs ++ env) e) (chosen_by M C n env d cs) (chosen_by M D n env d cs)
      (λ vs. value_agrees M C D u most a n h (vs ++ env) e) (chosen_agrees M C D u most a n h env d cs)

-- within any depth that the calls left can reach, a call is what it is within as many as are left
module _ (M : Matcher) (P : ProgramTree) where
  deep_enough : (most k : ℕ) → k ≤ most → (n : ℕ) → n ≤ k → (f : List ℕ) (ds : List Document) → call_within M P k n f ds ≡ call_within M P n n f ds
  deep_enough zero zero h zero i f ds = refl
  deep_enough zero zero h (suc n) i f ds = absurd (omega arith)
  deep_enough zero (suc k) h n i f ds = absurd (omega arith)
  deep_enough (suc most) zero h zero i f ds = refl
  deep_enough (suc most) zero h (suc n) i f ds = absurd (omega arith)
  deep_enough (suc most) (suc k) h zero i f ds = refl
  deep_enough (suc most) (suc k) h (suc n) i f ds =
      body_alike (value_by M (call_within M P k) n) (value_by M (call_within M P n) n) (function_of P.functions f) ds
      (λ env e. value_agrees M (call_within M P k) (call_within M P n) (call_leaves M P k) n
      (λ m j g cs. deep_enough most k (omega arith) m (omega arith) g cs ∙ sym (deep_enough most n (omega arith) m j g cs)) n (omega arith) env e)

  -- a call, and what its body is with one call fewer
  pub call_body : (n : ℕ) (f : List ℕ) (ds : List Document) →
      call_within M P (suc n) (suc n) f ds ≡ body_by (value_by M (λ k g cs. call_within M P k k g cs) n) (function_of P.functions f) ds
  call_body n f ds =
      body_alike (value_by M (call_within M P n) n) (value_by M (λ k g cs. call_within M P k k g cs) n) (function_of P.functions f) ds
      (λ env e. value_agrees M (call_within M P n) (λ k g cs. call_within M P k k g cs) (call_leaves M P n) n
      (λ m j g cs. deep_enough n n (omega arith) m j g cs) n (omega arith) env e)
