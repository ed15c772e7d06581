-- Accepted programs are safe.
use Rattle.std.proofs.Common.{◌≡◌, ℕ, suc, zero, List, [], ◌∷◌, map, Some, refl, sym, subst, inl, inr}
use Rattle.std.specs.List.{AllByRecursion}
use Rattle.xd_doc.specs.Document.{Document}
use Rattle.xd_doc.specs.Members.{IsOneOf}
use Rattle.xd_syntax.specs.Words.{main_word}
use Rattle.xd_syntax.specs.Placed.{unplaced}
use Rattle.xd_meaning.specs.FirstMatch.{first}
use Rattle.xd_syntax.specs.Expression.{place_of_expression}
use Rattle.xd_syntax.specs.Program.{Parameter, FunctionDefinition, ProgramTree, names_of, function_of}
use Rattle.xd_syntax.specs.Proper.{IsProperFunction, IsProperProgram}
use Rattle.xd_syntax.specs.RecursionFaults.{IsSound}
use Rattle.xd_syntax.specs.May.{parameters_scope}
use Rattle.xd_syntax.specs.CheckFaults.{wrong_result, Misfits, IsAccepted}
use Rattle.xd_meaning.specs.Meaning.{Outcome, bound, value_by, body_by, call_within}
use Rattle.xd_laws.specs.Safety.{Meets, IsValueOf, AreValuesOf, IsAllowed, ValuesAreAllowed, CallsAreSafe, AcceptedProgramsAreSafe}
use Rattle.xd_laws.proofs.SoundGuarded.{guarded}
use Rattle.xd_laws.proofs.DecisionLemmas.{fits_not_not}
use Rattle.xd_laws.proofs.NoFaults.{no_faults_of, no_line, function_among, function_lines, body_names}
use Rattle.xd_laws.proofs.SuitsLemmas.{parameters_suit}
use Rattle.xd_laws.proofs.SafeValues.{CallsMeet, meets_more, value_meets}

proper_among : (fs : List FunctionDefinition) → AllByRecursion IsProperFunction fs → (f : FunctionDefinition) → IsOneOf f fs → IsProperFunction f
proper_among [] a f m = absurd m
proper_among (g ∷ gs) a f (inl e) = subst IsProperFunction e a.0
proper_among (g ∷ gs) a f (inr m) = proper_among gs a.1 f m

-- the body of a function on values of its parameters' types, where calls are safe
body_meets : (P : ProgramTree) → IsProperProgram P → IsSound P → IsAccepted P → (C : ℕ → List ℕ → List Document → Outcome Document) → CallsMeet P C →
    (f : FunctionDefinition) → IsOneOf f P.functions → (ds : List Document) → AreValuesOf (names_of P) f.parameters ds → (n : ℕ) →
    Meets (IsValueOf (names_of P) f.declared) (value_by (first (names_of P)) C n (bound f.parameters ds) f.body)
body_meets P proper sound accepted C calls f m ds a n =
    let l = function_lines P accepted f m in
    let r = no_faults_of l.0 (l.1).0 (l.1).1 (l.1).4 l.2 in
    meets_more (IsAllowed P (parameters_scope f.parameters) f.body) (IsValueOf (names_of P) f.declared) (value_by (first (names_of P)) C n (bound f.parameters ds) f.body)
    (value_meets P proper sound C calls (parameters_scope f.parameters) (map (λ (q : Parameter). q.name) f.parameters) (bound f.parameters ds)
    (parameters_suit P f.parameters ds a) n f.body (proper_among P.functions proper.functions f m).body (body_names P sound.names f m) (l.1).0 (l.1).2 r.0)
    (λ d h. (
      h.0,
      fits_not_not (names_of P) (guarded P sound) (unplaced f.declared) d
          (λ z. no_line (place_of_expression f.body) wrong_result (Misfits P (parameters_scope f.parameters) f.body f.declared) (l.1).1 refl (l.1).3 r.1 d h.0 (h.1, z)),
    ))

called_meets : (P : ProgramTree) → IsProperProgram P → IsSound P → IsAccepted P → (C : ℕ → List ℕ → List Document → Outcome Document) → CallsMeet P C →
    (n : ℕ) (x : List ℕ) (f : FunctionDefinition) (ds : List Document) → function_of P.functions x ≡ Some f → AreValuesOf (names_of P) f.parameters ds →
    Meets (IsValueOf (names_of P) f.declared) (body_by (value_by (first (names_of P)) C n) (function_of P.functions x) ds)
called_meets P proper sound accepted C calls n x f ds e a =
    subst (λ o. Meets (IsValueOf (names_of P) f.declared) (body_by (value_by (first (names_of P)) C n) o ds)) (sym e)
    (body_meets P proper sound accepted C calls f (function_among P.functions x f e) ds a n)

pub calls_meet : (P : ProgramTree) → IsProperProgram P → IsSound P → IsAccepted P → (deep : ℕ) → CallsMeet P (call_within (first (names_of P)) P deep)
calls_meet P proper sound accepted zero = record { safe = λ n x f ds e a. tt }
calls_meet P proper sound accepted (suc deep) = one_deeper (calls_meet P proper sound accepted deep)
  where
    at : CallsMeet P (call_within (first (names_of P)) P deep) → (n : ℕ) (x : List ℕ) (f : FunctionDefinition) (ds : List Document) → function_of P.functions x ≡ Some f →
        AreValuesOf (names_of P) f.parameters ds → Meets (IsValueOf (names_of P) f.declared) (call_within (first (names_of P)) P (suc deep) n x ds)
    at calls zero x f ds e a = tt
    at calls (suc n) x f ds e a = called_meets P proper sound accepted (call_within (first (names_of P)) P deep) calls n x f ds e a

    one_deeper : CallsMeet P (call_within (first (names_of P)) P deep) → CallsMeet P (call_within (first (names_of P)) P (suc deep))
    one_deeper calls = record { safe = at calls }

pub values_are_allowed : ValuesAreAllowed
values_are_allowed P proper sound accepted S known env s e pe fe ls l q n =
    value_meets P proper sound (call_within (first (names_of P)) P n) (calls_meet P proper sound accepted n) S known env s n e pe fe ls l q

pub calls_are_safe : CallsAreSafe
calls_are_safe P proper sound accepted x f e ds a n = (calls_meet P proper sound accepted n).safe n x f ds e a

pub accepted_programs_are_safe : AcceptedProgramsAreSafe
accepted_programs_are_safe P proper sound accepted main input e one d h n =
    let a : AreValuesOf (names_of P) (input ∷ []) (d ∷ []) = (h, tt) in
    calls_are_safe P proper sound accepted main_word main e (d ∷ []) (subst (λ qs. AreValuesOf (names_of P) qs (d ∷ [])) (sym one) a) n
