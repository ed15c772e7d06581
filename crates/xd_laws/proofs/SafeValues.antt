-- The value of an expression is what the expression may be, where calls are safe.
use Rattle.std.proofs.Common.{◌≡◌, ℕ, arith, Bool, true, false, not, nat_eq, inl, inr, List, [], ◌∷◌, ◌++◌, length, Option, Some, None, refl, sym, subst, ◌∙◌}
use Rattle.xd_base.specs.declared.Place.{Place}
use Rattle.xd_doc.specs.Document.{Document, empty, element, join, is_proper, size}
use Rattle.xd_doc.proofs.Numbers.{same_number}
use Rattle.xd_doc.proofs.Lists.{append_none_parts}
use Rattle.xd_syntax.specs.Words.{has_word}
use Rattle.xd_syntax.specs.Placed.{PlacedTree, unplaced, variables}
use Rattle.xd_meaning.specs.FirstMatch.{first}
use Rattle.xd_syntax.specs.Expression.{Expression, Nothing, Quoted, Variable, Tagged, Joined, Called, Matched, Arguments, no_argument, argument, Clauses, no_clause, clause, place_of_expression}
use Rattle.xd_syntax.specs.Program.{Parameter, FunctionDefinition, ProgramTree, names_of, function_of}
use Rattle.xd_syntax.specs.Proper.{IsProperExpression, AreProperArguments, AreProperClauses, IsProperProgram}
use Rattle.xd_syntax.specs.NameFaults.{fault_if, known_types, unknown_types, linearity_faults, pattern_faults, argument_count, call_faults, expression_faults, argument_faults, clause_faults}
use Rattle.xd_syntax.proofs.NotLinear.{linearity_same}
use Rattle.xd_syntax.specs.RecursionFaults.{IsSound}
use Rattle.xd_syntax.specs.May.{Scope, clause_entry, FitsResult}
use Rattle.xd_laws.specs.Scopes.{MayClauses}
use Rattle.xd_syntax.specs.CheckFaults.{Line, wrong_argument, not_exhaustive, parameters_of, Comes, IsLiveIn, Misfits, LinesOf, LinesOfArguments, LinesOfClauses, faults_among}
use Rattle.xd_meaning.specs.Meaning.{Outcome, Done, Spent, Stuck, Environment, looked_up, and_then, done_or_stuck, or_else, value_by, values_by, chosen_by}
use Rattle.xd_laws.specs.Safety.{Meets, IsValueOf, AreValuesOf, Suits, IsAllowed}
use Rattle.xd_syntax.specs.declared.fault.FaultKind.{FaultKind}
use Rattle.xd_laws.proofs.BoundVariables.{proper_element, join_proper}
use Rattle.xd_laws.proofs.SoundGuarded.{guarded}
use Rattle.xd_laws.proofs.DecisionLemmas.{first_way, takes_not, fits_not_not}
use Rattle.xd_laws.proofs.NoFaults.{no_faults_of, no_line}
use Rattle.xd_laws.proofs.SuitsLemmas.{clause_suits}

pub meets_then : {A B : Type 0} (R : A → Type 0) (Q : B → Type 0) (o : Outcome A) (k : A → ℕ → Outcome B) → Meets R o → ((a : A) (m : ℕ) → R a → Meets Q (k a m)) → Meets Q (and_then o k)
meets_then R Q (Done a m) k h f = f a m h
meets_then R Q Spent k h f = tt
meets_then R Q Stuck k h f = absurd h

pub meets_more : {A : Type 0} (R Q : A → Type 0) (o : Outcome A) → Meets R o → ((a : A) → R a → Q a) → Meets Q o
meets_more R Q (Done a m) h f = f a h
meets_more R Q Spent h f = tt
meets_more R Q Stuck h f = absurd h

-- calls on values of the parameters' types are safe
pub record CallsMeet (P : ProgramTree) (C : ℕ → List ℕ → List Document → Outcome Document) : Type 0 where
  pub safe : (n : ℕ) (x : List ℕ) (f : FunctionDefinition) (ds : List Document) → function_of P.functions x ≡ Some f → AreValuesOf (names_of P) f.parameters ds →
      Meets (IsValueOf (names_of P) f.declared) (C n x ds)

passed : (b : Bool) (p : Place) (k : FaultKind) → fault_if (not b) p k ≡ [] → b ≡ true
passed true p k e = refl
passed false p k e = absurd (cc)

variable_meets : (R : Document → Type 0) (o : Option Document) (n : ℕ) (d : Document) → o ≡ Some d → R d → Meets R (done_or_stuck o n)
variable_meets R o n d e r = subst (λ q. Meets R (done_or_stuck q n)) (sym e) r

-- the function of a call without faults
called : (o : Option FunctionDefinition) (p : Place) (x : List ℕ) (n : ℕ) → call_faults o p x n ≡ [] → (f : FunctionDefinition) × (o ≡ Some f) × (n ≡ length f.parameters)
called None p x n e = absurd (cc)
called (Some f) p x n e = (f, refl, same_number n (length f.parameters) (passed (nat_eq n (length f.parameters)) p _ e))

module _ (P : ProgramTree) (proper : IsProperProgram P) (sound : IsSound P) (C : ℕ → List ℕ → List Document → Outcome Document) (calls : CallsMeet P C) where
  -- the first clause that takes the document, or one of the others
  clause_meets : (S : Scope) (known : List (List ℕ)) (env : Environment) → Suits P S known env → (n : ℕ) (p : Place) (e : Expression) (earlier : List PlacedTree)
      (Q : PlacedTree) (f : Expression) (cs : Clauses) → pattern_faults (known_types P) Q ≡ [] → (d : Document) → Comes P S e earlier d →
      (ls : List Line) → LinesOfClauses size P S p e earlier (clause Q f cs) ls → faults_among ls ≡ [] →
      ((env' : Environment) → Suits P (clause_entry e earlier Q ∷ S) (variables Q ++ known) env' → (ms : List Line) → LinesOf size P (clause_entry e earlier Q ∷ S) f ms → faults_among ms ≡ [] →
      Meets (IsAllowed P (clause_entry e earlier Q ∷ S) f) (value_by (first (names_of P)) C n env' f)) →
      (Comes P S e (Q ∷ earlier) d → (ms : List Line) → LinesOfClauses size P S p e (Q ∷ earlier) cs ms → faults_among ms ≡ [] →
      Meets (λ v. (is_proper v ≡ true) × MayClauses P S e (Q ∷ earlier) cs v) (chosen_by (first (names_of P)) C n env d cs)) →
      (o : Option Environment) → first (names_of P) (unplaced Q) d ≡ o →
      Meets (λ v. (is_proper v ≡ true) × MayClauses P S e earlier (clause Q f cs) v)
      (or_else o (λ vs. value_by (first (names_of P)) C n (vs ++ env) f) (chosen_by (first (names_of P)) C n env d cs))
  clause_meets S known env s n p e earlier Q f cs linear d comes ls l q inside others None h =
      let r = no_faults_of ls l.0 l.1 l.4 q in
      meets_more _ _ (chosen_by (first (names_of P)) C n env d cs)
      (others (comes.0, comes.1, (takes_not (names_of P) (unplaced Q) d h, comes.2)) l.1 l.3 r.1) (λ v m. (m.0, inr m.1))
  clause_meets S known env s n p e earlier Q f cs linear d comes ls l q inside others (Some vs) h =
      let r = no_faults_of ls l.0 l.1 l.4 q in
      let w = first_way (names_of P) (unplaced Q) d vs h in
      let live : IsLiveIn P S e earlier Q = (d, comes, (w.0, w.1)) in
      let t = append_none_parts (unknown_types (known_types P) Q) (linearity_faults Q) linear in
      let suits : Suits P (clause_entry e earlier Q ∷ S) (variables Q ++ known) (vs ++ env) =
      subst (λ us. Suits P (clause_entry e earlier Q ∷ S) (variables Q ++ known) (us ++ env)) w.2 (clause_suits P proper S known env s e earlier Q d comes (sym (linearity_same Q) ∙ t.1) w.0 w.1) in
      elim l.2 [
        | inl b ↦ meets_more _ _ (value_by (first (names_of P)) C n (vs ++ env) f) (inside (vs ++ env) suits l.0 b.1 r.0) (λ v m. (m.0, inl (live, m.1)))
        | inr b ↦ absurd (b.0 live)
      ]

  mutual
    pub value_meets : (S : Scope) (known : List (List ℕ)) (env : Environment) → Suits P S known env → (n : ℕ) (e : Expression) → IsProperExpression e →
        expression_faults P known e ≡ [] → (ls : List Line) → LinesOf size P S e ls → faults_among ls ≡ [] → Meets (IsAllowed P S e) (value_by (first (names_of P)) C n env e)
    value_meets S known env s n (Nothing p) pe fe ls l q = (refl, refl)
    value_meets S known env s n (Quoted p t) pe fe ls l q = (rw pe refl, refl)
    value_meets S known env s n (Variable p x) pe fe ls l q =
        let r = s.has x (passed (has_word known x) p _ fe) in
        variable_meets (IsAllowed P S (Variable p x)) (looked_up env x) n r.0 r.1 (s.allowed x r.0 r.1)
    value_meets S known env s n (Tagged p t e) pe fe ls l q =
        meets_then (IsAllowed P S e) (IsAllowed P S (Tagged p t e)) (value_by (first (names_of P)) C n env e) (λ d m. Done (element t d empty) m)
        (value_meets S known env s n e pe.1 fe ls l q) (λ d m h. (proper_element t d empty pe.0 h.0 refl, (refl, refl, h.1)))
    value_meets S known env s n (Joined p e f) pe fe ls l q =
        let k = append_none_parts (expression_faults P known e) (expression_faults P known f) fe in
        let r = no_faults_of ls l.0 l.1 l.4 q in
        meets_then (IsAllowed P S e) (IsAllowed P S (Joined p e f)) (value_by (first (names_of P)) C n env e)
        (λ d m. and_then (value_by (first (names_of P)) C m env f) (λ c j. Done (join d c) j))
        (value_meets S known env s n e pe.0 k.0 l.0 l.2 r.0)
        (λ d m h. meets_then (IsAllowed P S f) (IsAllowed P S (Joined p e f)) (value_by (first (names_of P)) C m env f) (λ c j. Done (join d c) j)
        (value_meets S known env s m f pe.1 k.1 l.1 l.3 r.1) (λ c j i. (join_proper d c h.0 i.0, (d, c, refl, h.1, i.1))))
    value_meets S known env s n (Called p x es) pe fe ls l q =
        let k = append_none_parts (call_faults (function_of P.functions x) p x (argument_count es)) (argument_faults P known es) fe in
        let g = called (function_of P.functions x) p x (argument_count es) k.0 in
        let lines : LinesOfArguments size P S (g.0).parameters es ls = subst (λ o. LinesOfArguments size P S (parameters_of o) es ls) g.1 l in
        meets_then (AreValuesOf (names_of P) (g.0).parameters) (IsAllowed P S (Called p x es)) (values_by (first (names_of P)) C n env es) (λ ds m. C m x ds)
        (values_meets S known env s n (g.0).parameters es pe.1 k.1 g.2 ls lines q)
        (λ ds m h. meets_more (IsValueOf (names_of P) (g.0).declared) (IsAllowed P S (Called p x es)) (C m x ds) (calls.safe m x g.0 ds g.1 h)
        (λ d v. (v.0, subst (λ o. FitsResult (names_of P) o d) (sym g.1) v.1)))
    value_meets S known env s n (Matched p e cs) pe fe ls l q =
        let k = append_none_parts (expression_faults P known e) (clause_faults P known cs) fe in
        let r = no_faults_of ls l.0 l.1 l.4 q in
        meets_then (IsAllowed P S e) (IsAllowed P S (Matched p e cs)) (value_by (first (names_of P)) C n env e) (λ d m. chosen_by (first (names_of P)) C m env d cs)
        (value_meets S known env s n e pe.0 k.0 l.0 l.2 r.0)
        (λ d m h. chosen_meets S known env s m p e [] cs pe.1 k.1 d (h.0, h.1, tt) l.1 l.3 r.1)

    -- arguments have values of their parameters' types
    values_meets : (S : Scope) (known : List (List ℕ)) (env : Environment) → Suits P S known env → (n : ℕ) (qs : List Parameter) (es : Arguments) → AreProperArguments es →
        argument_faults P known es ≡ [] → argument_count es ≡ length qs → (ls : List Line) → LinesOfArguments size P S qs es ls → faults_among ls ≡ [] →
        Meets (AreValuesOf (names_of P) qs) (values_by (first (names_of P)) C n env es)
    values_meets S known env s n [] no_argument pe fe c ls l q = tt
    values_meets S known env s n (w ∷ ws) no_argument pe fe c ls l q = absurd (omega arith)
    values_meets S known env s n [] (argument e es) pe fe c ls l q = absurd (omega arith)
    values_meets S known env s n (w ∷ ws) (argument e es) pe fe c ls l q =
        let k = append_none_parts (expression_faults P known e) (argument_faults P known es) fe in
        let r = no_faults_of ls l.0 l.1 l.4 q in
        let t = no_faults_of l.1 (l.3).0 (l.3).1 (l.3).4 r.1 in
        let c' : argument_count es ≡ length ws = omega arith in
        meets_then (IsAllowed P S e) (AreValuesOf (names_of P) (w ∷ ws)) (value_by (first (names_of P)) C n env e)
        (λ d m. and_then (values_by (first (names_of P)) C m env es) (λ ds j. Done (d ∷ ds) j))
        (value_meets S known env s n e pe.0 k.0 l.0 l.2 r.0)
        (λ d m h. meets_then (AreValuesOf (names_of P) ws) (AreValuesOf (names_of P) (w ∷ ws)) (values_by (first (names_of P)) C m env es) (λ ds j. Done (d ∷ ds) j)
        (values_meets S known env s m ws es pe.1 k.1 c' (l.3).1 (l.3).3 t.1)
        (λ ds j i. (
          (
            h.0,
            fits_not_not (names_of P) (guarded P sound) (unplaced w.declared) d
                (λ z. no_line (place_of_expression e) wrong_argument (Misfits P S e w.declared) (l.3).0 refl (l.3).2 t.0 d h.0 (h.1, z)),
          ),
          i,
        )))

    -- the first clause that takes the document decides, and some clause takes it
    chosen_meets : (S : Scope) (known : List (List ℕ)) (env : Environment) → Suits P S known env → (n : ℕ) (p : Place) (e : Expression) (earlier : List PlacedTree) (cs : Clauses) →
        AreProperClauses cs → clause_faults P known cs ≡ [] → (d : Document) → Comes P S e earlier d →
        (ls : List Line) → LinesOfClauses size P S p e earlier cs ls → faults_among ls ≡ [] →
        Meets (λ v. (is_proper v ≡ true) × MayClauses P S e earlier cs v) (chosen_by (first (names_of P)) C n env d cs)
    chosen_meets S known env s n p e earlier no_clause pe fe d comes ls l q = absurd (no_line p not_exhaustive (Comes P S e earlier) ls refl l q d comes.0 comes)
    chosen_meets S known env s n p e earlier (clause Q f cs) pe fe d comes ls l q =
        let k = append_none_parts (pattern_faults (known_types P) Q ++ expression_faults P (variables Q ++ known) f) (clause_faults P known cs) fe in
        let j = append_none_parts (pattern_faults (known_types P) Q) (expression_faults P (variables Q ++ known) f) k.0 in
        clause_meets S known env s n p e earlier Q f cs j.0 d comes ls l q
        (λ env' s' ms m z. value_meets (clause_entry e earlier Q ∷ S) (variables Q ++ known) env' s' n f pe.1 j.1 ms m z)
        (λ comes' ms m z. chosen_meets S known env s n p e (Q ∷ earlier) cs pe.2 k.1 d comes' ms m z)
        (first (names_of P) (unplaced Q) d) refl
