-- Matches that were met, in order of place.
use Rattle.std.proofs.Common.{◌≡◌, ℕ, List, [], ◌∷◌, ◌++◌, refl, ap, sym, subst, ◌∙◌}
use Rattle.std.specs.List.{AllByRecursion, AllZip}
use Rattle.xd_base.specs.declared.Place.{Place}
use Rattle.xd_auto.specs.Automaton.{Automaton, IsState}
use Rattle.xd_doc.specs.Document.{Document}
use Rattle.xd_syntax.specs.Kept.{AddsTypes, ProgramTable, program_tree}
use Rattle.xd_syntax.specs.ExpressionTable.{expression_at}
use Rattle.xd_syntax.specs.Program.{ProgramTree, names_of}
use Rattle.xd_syntax.specs.May.{May}
use Rattle.xd_syntax.specs.Matches.{AreMatches, SeenMatch, match_precedes}
use Rattle.xd_syntax.specs.Order.{is_earlier, ordered}
use Rattle.xd_syntax.specs.declared.exprs.ExprId.{ExprId}
use Rattle.xd_least.specs.Least.{Knows}
use Rattle.xd_patterns.specs.Compiler.{Serves}
use Rattle.xd_clauses.specs.Compiled.{ArePatterns}
use Rattle.xd_check_steps.specs.Clauses.{ServesOn}
use Rattle.xd_check_steps.specs.Found.{AddsFound, Found, IsMet}
use Rattle.xd_check_steps.specs.States.{AcceptsJust}
use Rattle.xd_check_steps.specs.Walkable.{expr_at}
use Rattle.xd_check_steps.specs.declared.findings.MetMatch.{MetMatch}
use Rattle.xd_check.specs.Walked.{SeenInFunctions}
use Rattle.xd_scrutinees.specs.Scrutinees.{AreMatchStates, AreScrutinees, StandsAlone, IsScrutineeOf, met_precedes}
use Rattle.xd_scrutinees.specs.declared.matches.MatchStates.{MatchStates}
use Rattle.xd_scrutinees.specs.declared.matches.Scrutinee.{Scrutinee}
use Rattle.xd_scrutinees.proofs.ByPlace.{ordered_both}

abbrev pub met_place : MetMatch → Place
met_place x = x.place

-- matches and what was met of them are put in order in the same way
module _ (p : ProgramTable) (a : Automaton) where
  same_order : (m n : SeenMatch) (x y : MetMatch) → IsMet p a m x → IsMet p a n y → met_precedes x y ≡ match_precedes m n
  same_order m n x y h k = ap (λ q. is_earlier q y.place) h.place ∙ ap (is_earlier m.place) k.place

  pub met_states : (ms : List SeenMatch) (xs : List MetMatch) → AllZip (IsMet p a) ms xs → AllByRecursion (λ (x : MetMatch). IsState a x.state) xs
  met_states [] [] h = tt
  met_states [] (x ∷ xs) h = absurd h
  met_states (m ∷ ms) [] h = absurd h
  met_states (m ∷ ms) (x ∷ xs) h = ((h.0).belongs, met_states ms xs h.1)

  apart_each : (ms : List SeenMatch) (xs : List MetMatch) (ys : List Scrutinee) → AllZip (IsMet p a) ms xs → AllZip (StandsAlone a) xs ys → AllZip (IsScrutineeOf p) ms ys
  apart_each [] [] [] h k = tt
  apart_each [] [] (y ∷ ys) h k = absurd k
  apart_each [] (x ∷ xs) ys h k = absurd h
  apart_each (m ∷ ms) [] ys h k = absurd h
  apart_each (m ∷ ms) (x ∷ xs) [] h k = absurd k
  apart_each (m ∷ ms) (x ∷ xs) (y ∷ ys) h k = (
    record {
      match = ap (λ (id : ExprId). expr_at p id.at) (k.0).match ∙ (h.0).match;
      belongs = (k.0).belongs;
      exact = λ d q. let e = (k.0).same d in let i = (h.0).exact d q in ((λ t. i.0 (sym e ∙ t)), (λ t. e ∙ i.1 t));
    },
    apart_each ms xs ys h.1 k.1,
  )

-- all that was met, in order of place
pub met_in_order : (p : ProgramTable) (a : Automaton) (ds : List Document) (none found : Found) → none.met ≡ [] → AddsFound p a ds (SeenInFunctions (program_tree p) (program_tree p).functions) none found →
    (ms : List SeenMatch) × AreMatches (program_tree p) ms × AllZip (IsMet p a) ms (ordered met_precedes found.met)
met_in_order p a ds none found z h =
    let ms : List SeenMatch = (h.seen).matches in (
      ordered match_precedes ms,
      record { found = ms; all = (h.meet).1; ordered = refl },
      subst (λ ys. AllZip (IsMet p a) (ordered match_precedes ms) (ordered met_precedes ys)) (sym (h.met ∙ ap (λ xs. xs ++ (h.more).met) z))
          (ordered_both (IsMet p a) match_precedes met_precedes (same_order p a) ms (h.more).met (h.stands).met),
    )

-- what was met of a program to which types were added is what was met of the program
module _ (p q : ProgramTable) (adds : AddsTypes p q) (same : program_tree q ≡ program_tree p) where
  same_expr : (i : ℕ) → expr_at q i ≡ expr_at p i
  same_expr i = ap (λ ps. expression_at ps q.exprs i) adds.patterns ∙ ap (λ es. expression_at p.patterns es i) adds.exprs

  back_each : (ms : List SeenMatch) (ys : List Scrutinee) → AllZip (IsScrutineeOf q) ms ys → AllZip (IsScrutineeOf p) ms ys
  back_each [] [] h = tt
  back_each [] (y ∷ ys) h = absurd h
  back_each (m ∷ ms) [] h = absurd h
  back_each (m ∷ ms) (y ∷ ys) h = (
    record {
      match = sym (same_expr (y.expr).at) ∙ (h.0).match;
      belongs = (h.0).belongs;
      exact = subst (λ (P : ProgramTree). AcceptsJust y.auto y.state (May P m.scope m.scrutinee)) same (h.0).exact;
    },
    back_each ms ys h.1,
  )

pub scrutinees_met : (p : ProgramTable) (a : Automaton) (met : MatchStates) (ys : List Scrutinee) → AreMatchStates p a met → AllZip (StandsAlone a) met.matches.items ys → AreScrutinees p ys
scrutinees_met p a met ys h k =
    record { matches = h.found; seen = h.seen; each = back_each p met.sound h.adds h.same h.found ys (apart_each met.sound a h.found met.matches.items ys h.each k) }

pub met_all : (p : ProgramTable) (a : Automaton) (met : MatchStates) (none found : Found) → AddsTypes p met.sound → program_tree met.sound ≡ program_tree p → Serves met.sound met.compiler →
    ArePatterns (names_of (program_tree met.sound)) met.sound.patterns met.patterns → ServesOn a met.patterns → Knows a met.store met.inhabitants →
    none.met ≡ [] → AddsFound met.sound a met.store (SeenInFunctions (program_tree met.sound) (program_tree met.sound).functions) none found → met.matches.items ≡ ordered met_precedes found.met → AreMatchStates p a met
met_all p a met none found adds same serves patterns points known z h e =
    let m = met_in_order met.sound a met.store none found z h in
    record {
      adds = adds;
      same = same;
      serves = serves;
      patterns = patterns;
      points = points;
      known = known;
      found = m.0;
      seen = subst (λ (P : ProgramTree). AreMatches P m.0) same m.1;
      each = subst (AllZip (IsMet met.sound a) m.0) (sym e) m.2;
    }
