-- One call more is one call left.
use Rattle.std.proofs.Common.{◌≡◌, ℕ, suc, zero, ◌+◌, add-one, List, [], ◌∷◌, ◌++◌, Option, Some, None, refl, ap, sym, ◌∙◌}
use Rattle.xd_doc.specs.Document.{Document, empty, element, join}
use Rattle.xd_syntax.specs.Words.{main_word}
use Rattle.xd_syntax.specs.Placed.{unplaced}
use Rattle.xd_meaning.specs.FirstMatch.{first}
use Rattle.xd_syntax.specs.Expression.{Expression, Nothing, Quoted, Variable, Tagged, Joined, Called, Matched, Arguments, no_argument, argument, Clauses, no_clause, clause}
use Rattle.xd_syntax.specs.Program.{FunctionDefinition, ProgramTree, names_of, function_of}
use Rattle.xd_meaning.specs.Meaning.{Outcome, Done, Spent, Stuck, Environment, Matcher, looked_up, and_then, done_or_stuck, or_else, bound, value_by, values_by, chosen_by, body_by, call_within, meaning}

bind_up : {A B : Type 0} (o p : Outcome A) (f g : A → ℕ → Outcome B) (v : B) (k : ℕ) → ((a : A) (m : ℕ) → o ≡ Done a m → p ≡ Done a (suc m)) →
    ((a : A) (m : ℕ) → f a m ≡ Done v k → g a (suc m) ≡ Done v (suc k)) → and_then o f ≡ Done v k → and_then p g ≡ Done v (suc k)
bind_up (Done a m) p f g v k h i e = ap (λ q. and_then q g) (h a m refl) ∙ i a m e
bind_up Spent p f g v k h i e = cc
bind_up Stuck p f g v k h i e = cc

-- what is done with some calls left is done with one more
abbrev Up : (ℕ → List ℕ → List Document → Outcome Document) → (ℕ → List ℕ → List Document → Outcome Document) → Type 0
Up C D = (n : ℕ) (f : List ℕ) (ds : List Document) (v : Document) (k : ℕ) → C n f ds ≡ Done v k → D (suc n) f ds ≡ Done v (suc k)

variable_up : (o : Option Document) (n : ℕ) (v : Document) (k : ℕ) → done_or_stuck o n ≡ Done v k → done_or_stuck o (suc n) ≡ Done v (suc k)
variable_up (Some d) n v k e = cc
variable_up None n v k e = cc

or_else_up : (o : Option Environment) (s t : Environment → Outcome Document) (q r : Outcome Document) (v : Document) (k : ℕ) →
    ((vs : Environment) → s vs ≡ Done v k → t vs ≡ Done v (suc k)) → (q ≡ Done v k → r ≡ Done v (suc k)) → or_else o s q ≡ Done v k → or_else o t r ≡ Done v (suc k)
or_else_up (Some vs) s t q r v k h i e = h vs e
or_else_up None s t q r v k h i e = i e

mutual
  value_up : (M : Matcher) (C D : ℕ → List ℕ → List Document → Outcome Document) → Up C D → (n : ℕ) (env : Environment) (e : Expression) (v : Document) (k : ℕ) →
      value_by M C n env e ≡ Done v k → value_by M D (suc n) env e ≡ Done v (suc k)
  value_up M C D u n env (Nothing p) v k h = cc
  value_up M C D u n env (Quoted p s) v k h = cc
  value_up M C D u n env (Variable p x) v k h = variable_up (looked_up env x) n v k h
  value_up M C D u n env (Tagged p l e) v k h =
      bind_up (value_by M C n env e) (value_by M D (suc n) env e) (λ d m. Done (element l d empty) m) (λ d m. Done (element l d empty) m) v k
      (λ a m q. value_up M C D u n env e a m q) (λ a m q. cc) h
  value_up M C D u n env (Joined p e f) v k h =
      bind_up (value_by M C n env e) (value_by M D (suc n) env e)
      (λ d m. and_then (value_by M C m env f) (λ c j. Done (join d c) j)) (λ d m. and_then (value_by M D m env f) (λ c j. Done (join d c) j)) v k
      (λ a m q. value_up M C D u n env e a m q)
      (λ a m q. bind_up (value_by M C m env f) (value_by M D (suc m) env f) (λ c j. Done (join a c) j) (λ c j. Done (join a c) j) v k
      (λ b j q'. value_up M C D u m env f b j q') (λ b j q'. cc) q) h
  value_up M C D u n env (Called p f es) v k h =
      bind_up (values_by M C n env es) (values_by M D (suc n) env es) (λ ds m. C m f ds) (λ ds m. D m f ds) v k
      (λ ds m q. values_up M C D u n env es ds m q) (λ ds m q. u m f ds v k q) h
  value_up M C D u n env (Matched p e cs) v k h =
      bind_up (value_by M C n env e) (value_by M D (suc n) env e) (λ d m. chosen_by M C m env d cs) (λ d m. chosen_by M D m env d cs) v k
      (λ a m q. value_up M C D u n env e a m q) (λ a m q. chosen_up M C D u m env a cs v k q) h

  values_up : (M : Matcher) (C D : ℕ → List ℕ → List Document → Outcome Document) → Up C D → (n : ℕ) (env : Environment) (es : Arguments) (vs : List Document) (k : ℕ) →
      values_by M C n env es ≡ Done vs k → values_by M D (suc n) env es ≡ Done vs (suc k)
  values_up M C D u n env no_argument vs k h = cc
  values_up M C D u n env (argument e es) vs k h =
      bind_up (value_by M C n env e) (value_by M D (suc n) env e)
      (λ d m. and_then (values_by M C m env es) (λ ds j. Done (d ∷ ds) j)) (λ d m. and_then (values_by M D m env es) (λ ds j. Done (d ∷ ds) j)) vs k
      (λ a m q. value_up M C D u n env e a m q)
      (λ a m q. bind_up (values_by M C m env es) (values_by M D (suc m) env es) (λ ds j. Done (a ∷ ds) j) (λ ds j. Done (a ∷ ds) j) vs k
      (λ b j q'. values_up M C D u m env es b j q') (λ b j q'. cc) q) h

  chosen_up : (M : Matcher) (C D : ℕ → List ℕ → List Document → Outcome Document) → Up C D → (n : ℕ) (env : Environment) (d : Document) (cs : Clauses) (v : Document) (k : ℕ) →
      chosen_by M C n env d cs ≡ Done v k → chosen_by M D (suc n) env d cs ≡ Done v (suc k)
  chosen_up M C D u n env d no_clause v k h = cc
  chosen_up M C D u n env d (clause P e cs) v k h =
      or_else_up (M (unplaced P) d) (λ vs. value_by M C n (vs ++ env) e) (λ vs. value_by M D (suc n) (vs ++ env) e)
      (chosen_by M C n env d cs) (chosen_by M D (suc n) env d cs) v k
      (λ vs q. value_up M C D u n (vs ++ env) e v k q) (λ q. chosen_up M C D u n env d cs v k q) h

body_up : (V W : Environment → Expression → Outcome Document) (o : Option FunctionDefinition) (ds : List Document) (v : Document) (k : ℕ) →
    ((env : Environment) (e : Expression) → V env e ≡ Done v k → W env e ≡ Done v (suc k)) → body_by V o ds ≡ Done v k → body_by W o ds ≡ Done v (suc k)
body_up V W None ds v k h e = cc
body_up V W (Some f) ds v k h e = h (bound f.parameters ds) f.body e

call_up : (M : Matcher) (P : ProgramTree) (deep : ℕ) → Up (call_within M P deep) (call_within M P (suc deep))
call_up M P zero n f ds v k e = cc
call_up M P (suc deep) zero f ds v k e = cc
call_up M P (suc deep) (suc n) f ds v k e =
    body_up (value_by M (call_within M P deep) n) (value_by M (call_within M P (suc deep)) (suc n)) (function_of P.functions f) ds v k
    (λ env b q. value_up M (call_within M P deep) (call_within M P (suc deep)) (call_up M P deep) n env b v k q) e

pub fuel_is_left : (P : ProgramTree) (n : ℕ) (d v : Document) (m : ℕ) → meaning P n d ≡ Done v m → meaning P (n + 1) d ≡ Done v (m + 1)
fuel_is_left P n d v m e =
    ap (λ k. meaning P k d) (add-one n) ∙ call_up (first (names_of P)) P n n main_word (d ∷ []) v m e ∙ ap (Done v) (sym (add-one m))
