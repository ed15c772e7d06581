-- Matchers whose bindings are looked up alike give the same values.
use Rattle.std.proofs.Common.{◌≡◌, ℕ, suc, zero, List, [], ◌∷◌, ◌++◌, Bool, true, false, cond, Option, Some, None, refl, ap, sym, ◌∙◌}
use Rattle.std.specs.Str.{bytes_eq}
use Rattle.xd_doc.specs.Document.{Document, empty, element, join}
use Rattle.xd_syntax.specs.Tree.{Tree}
use Rattle.xd_syntax.specs.Placed.{unplaced}
use Rattle.xd_syntax.specs.Expression.{Expression, Nothing, Quoted, Variable, Tagged, Joined, Called, Matched, Arguments, no_argument, argument, Clauses, no_clause, clause}
use Rattle.xd_syntax.specs.Program.{FunctionDefinition, ProgramTree, function_of}
use Rattle.xd_meaning.specs.Meaning.{Outcome, Done, Environment, Matcher, looked_up, and_then, done_or_stuck, or_else, bound, value_by, values_by, chosen_by, body_by, call_within}
use Rattle.xd_eval.specs.Waiting.{Caller}
use Rattle.xd_eval.proofs.Outcomes.{then_same}

-- each variable has the same in both
abbrev pub AreAlike : Environment → Environment → Type 0
AreAlike vs ws = (x : List ℕ) → looked_up vs x ≡ looked_up ws x

abbrev pub MatchAlike : Option Environment → Option Environment → Type 0
MatchAlike (Some vs) (Some ws) = AreAlike vs ws
MatchAlike None None = Unit {0}
MatchAlike (Some vs) None = ⊥
MatchAlike None (Some ws) = ⊥

abbrev pub MatchersAgree : Matcher → Matcher → Type 0
MatchersAgree M N = (T : Tree) (d : Document) → MatchAlike (M T d) (N T d)

-- what is found in front, and else after
abbrev or_behind : Option Document → Option Document → Option Document
or_behind (Some d) o = Some d
or_behind None o = o

looked_up-append : (vs ws : Environment) (x : List ℕ) → looked_up (vs ++ ws) x ≡ or_behind (looked_up vs x) (looked_up ws x)
looked_up-append [] ws x = refl
looked_up-append (v ∷ vs) ws x = go (bytes_eq v.0 x) (looked_up-append vs ws x)
  where
    go : (b : Bool) → looked_up (vs ++ ws) x ≡ or_behind (looked_up vs x) (looked_up ws x) →
        cond b (Some v.1) (looked_up (vs ++ ws) x) ≡ or_behind (cond b (Some v.1) (looked_up vs x)) (looked_up ws x)
    go true h = refl
    go false h = h

append_alike : (vs ws env fnv : Environment) → AreAlike vs ws → AreAlike env fnv → AreAlike (vs ++ env) (ws ++ fnv)
append_alike vs ws env fnv h i x =
    looked_up-append vs env x ∙ ap (λ o. or_behind o (looked_up env x)) (h x) ∙ ap (or_behind (looked_up ws x)) (i x) ∙ sym (looked_up-append ws fnv x)

or_alike : (o q : Option Environment) → MatchAlike o q → (s t : Environment → Outcome Document) (a b : Outcome Document) →
    ((vs ws : Environment) → AreAlike vs ws → s vs ≡ t ws) → a ≡ b → or_else o s a ≡ or_else q t b
or_alike (Some vs) (Some ws) h s t a b i j = i vs ws h
or_alike (Some vs) None h s t a b i j = absurd h
or_alike None (Some ws) h s t a b i j = absurd h
or_alike None None h s t a b i j = j

then_alike : {A B : Type 0} (o q : Outcome A) (f g : A → ℕ → Outcome B) → o ≡ q → ((a : A) (m : ℕ) → f a m ≡ g a m) → and_then o f ≡ and_then q g
then_alike o q f g e h = then_same o f g h ∙ ap (λ r. and_then r g) e

abbrev CallAlike : Caller → Caller → Type 0
CallAlike C D = (n : ℕ) (f : List ℕ) (ds : List Document) → C n f ds ≡ D n f ds

mutual
  pub value_alike : (M N : Matcher) (C D : Caller) → MatchersAgree M N → CallAlike C D → (n : ℕ) (env fnv : Environment) → AreAlike env fnv → (e : Expression) →
      value_by M C n env e ≡ value_by N D n fnv e
  value_alike M N C D a c n env fnv h (Nothing p) = refl
  value_alike M N C D a c n env fnv h (Quoted p s) = refl
  value_alike M N C D a c n env fnv h (Variable p x) = ap (λ o. done_or_stuck o n) (h x)
  value_alike M N C D a c n env fnv h (Tagged p l e) = ap (λ o. and_then o (λ d m. Done (element l d empty) m)) (value_alike M N C D a c n env fnv h e)
  value_alike M N C D a c n env fnv h (Joined p e f) =
      then_alike (value_by M C n env e) (value_by N D n fnv e)
      (λ d m. and_then (value_by M C m env f) (λ c k. Done (join d c) k)) (λ d m. and_then (value_by N D m fnv f) (λ c k. Done (join d c) k))
      (value_alike M N C D a c n env fnv h e) (λ d m. ap (λ o. and_then o (λ c k. Done (join d c) k)) (value_alike M N C D a c m env fnv h f))
  value_alike M N C D a c n env fnv h (Called p f es) =
      then_alike (values_by M C n env es) (values_by N D n fnv es) (λ ds m. C m f ds) (λ ds m. D m f ds) (values_alike M N C D a c n env fnv h es) (λ ds m. c m f ds)
  value_alike M N C D a c n env fnv h (Matched p e cs) =
      then_alike (value_by M C n env e) (value_by N D n fnv e) (λ d m. chosen_by M C m env d cs) (λ d m. chosen_by N D m fnv d cs)
      (value_alike M N C D a c n env fnv h e) (λ d m. chosen_alike M N C D a c m env fnv h d cs)

  values_alike : (M N : Matcher) (C D : Caller) → MatchersAgree M N → CallAlike C D → (n : ℕ) (env fnv : Environment) → AreAlike env fnv → (es : Arguments) →
      values_by M C n env es ≡ values_by N D n fnv es
  values_alike M N C D a c n env fnv h no_argument = refl
  values_alike M N C D a c n env fnv h (argument e es) =
      then_alike (value_by M C n env e) (value_by N D n fnv e)
      (λ d m. and_then (values_by M C m env es) (λ ds k. Done (d ∷ ds) k)) (λ d m. and_then (values_by N D m fnv es) (λ ds k. Done (d ∷ ds) k))
      (value_alike M N C D a c n env fnv h e) (λ d m. ap (λ o. and_then o (λ ds k. Done (d ∷ ds) k)) (values_alike M N C D a c m env fnv h es))

  chosen_alike : (M N : Matcher) (C D : Caller) → MatchersAgree M N → CallAlike C D → (n : ℕ) (env fnv : Environment) → AreAlike env fnv → (d : Document) (cs : Clauses) →
      chosen_by M C n env d cs ≡ chosen_by N D n fnv d cs
  chosen_alike M N C D a c n env fnv h d no_clause = refl
  chosen_alike M N C D a c n env fnv h d (clause P e cs) =
      or_alike (M (unplaced P) d) (N (unplaced P) d) (a (unplaced P) d) (λ vs. value_by M C n (vs ++ env) e) (λ ws. value_by N D n (ws ++ fnv) e)
      (chosen_by M C n env d cs) (chosen_by N D n fnv d cs)
      (λ vs ws i. value_alike M N C D a c n (vs ++ env) (ws ++ fnv) (append_alike vs ws env fnv i h) e) (chosen_alike M N C D a c n env fnv h d cs)

pub body_alike : (V W : Environment → Expression → Outcome Document) (o : Option FunctionDefinition) (ds : List Document) →
    ((env : Environment) (e : Expression) → V env e ≡ W env e) → body_by V o ds ≡ body_by W o ds
body_alike V W None ds h = refl
body_alike V W (Some f) ds h = h (bound f.parameters ds) f.body

pub call_alike : (M N : Matcher) → MatchersAgree M N → (P : ProgramTree) (k n : ℕ) (f : List ℕ) (ds : List Document) → call_within M P k n f ds ≡ call_within N P k n f ds
call_alike M N a P zero n f ds = refl
call_alike M N a P (suc k) zero f ds = refl
call_alike M N a P (suc k) (suc n) f ds =
    body_alike (value_by M (call_within M P k) n) (value_by N (call_within N P k) n) (function_of P.functions f) ds
    (λ env e. value_alike M N (call_within M P k) (call_within N P k) a (call_alike M N a P k) n env env (λ x. refl) e)
