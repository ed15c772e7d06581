-- On the search for a least document that separates two states.
use Rattle.std.proofs.Common.{◌≡◌, ℕ, ◌≤◌, true, Option, List, [], ◌∷◌, length, take, refl, ap, sym, subst, ◌∙◌, arith}
use Rattle.std.proofs.lemmas.List.{get_or-take, length-take-le, take_all}
use Rattle.xd_doc.specs.Document.{Document, size}
use Rattle.xd_doc.specs.StoreNodes.{Keeps}
use Rattle.xd_doc.specs.Stored.{document_at}
use Rattle.xd_doc.proofs.StoredLemmas.{Keeps-same}
use Rattle.xd_auto.specs.declared.auto.State.{State}
use Rattle.xd_auto.specs.Automaton.{Automaton, Extends, accepts, state_number}
use Rattle.xd_auto.proofs.ExtendsLemmas.{extends_itself}
use Rattle.xd_boole.specs.Meaning.{PointView, less, means}
use Rattle.xd_least.specs.declared.document.LeastDocument.{LeastDocument}
use Rattle.xd_doc.specs.LeastUpTo.{IsLeastUpTo}
use Rattle.xd_least.specs.Least.{IsLeastOf, Knows, size_limit}
use Rattle.xd_least.proofs.KnownLemmas.{stays_known}
use Rattle.xd_least.proofs.SizeLemmas.{least_up_to}
use Rattle.xd_apart.specs.declared.over_approximation.OverApproximation.{OverApproximation}
use Rattle.xd_apart.specs.Apart.{IsApart}
use Rattle.xd_apart.specs.OverApproximation.{IsOverApproximation, KeepsPoints, StandsFor, left_states}
use Rattle.xd_apart.specs.Search.{KnowsLefts, Searches}
use Rattle.xd_apart.proofs.OverApproximationLemmas.{approximation_accepts}
use Rattle.xd_apart.proofs.StepLemmas.{left_count}

extends_lefts : (l : OverApproximation) → l.lefts ≤ length l.over → Extends (left_states l) l.over
extends_lefts l within = record {
  states = λ s lt. omega (arith, lt, within, left_count l within);
  moves = λ s lt. sym (get_or-take l.lefts l.over (state_number s) _ (omega (arith, lt, left_count l within)));
}

-- what is known of the lefts is known of the whole automaton
pub knows_over : (l : OverApproximation) (ds : List Document) (known : List (Option LeastDocument)) → l.lefts ≤ length l.over → KnowsLefts l ds known → Knows l.over ds (take l.lefts known)
knows_over l ds known within k = stays_known (take l.lefts known) (left_states l) l.over ds ds (extends_lefts l within) (Keeps-same ds) k.knows

-- and it is still known where more was learnt after it
pub knows_after : (l : OverApproximation) (ds es : List Document) (known first after : List (Option LeastDocument)) → l.lefts ≤ length l.over → KnowsLefts l ds known → first ≡ take l.lefts known → Keeps ds es → length after ≡ length l.over → take (length first) after ≡ first → KnowsLefts l es after
knows_after l ds es known first after within k is keeps all remembers =
    let count : length first ≡ l.lefts = ap length is ∙ length-take-le l.lefts known k.count in
    let same : take l.lefts after ≡ take l.lefts known = ap (λ (n : ℕ). take n after) (sym count) ∙ remembers ∙ is in
    record {
      count = omega (arith, within, all);
      knows = subst (λ (fs : List (Option LeastDocument)). Knows (left_states l) es fs) (sym same) (stays_known (take l.lefts known) (left_states l) (left_states l) ds es (extends_itself (left_states l)) keeps k.knows);
    }

-- the search begins
pub searches_first : (a : Automaton) (left right start root : State) (l : OverApproximation) (part : Automaton) (ds : List Document) (known : List (Option LeastDocument)) → IsOverApproximation a l → left_states l ≡ part → ((d : Document) → accepts part d start ≡ accepts a d left)
    → StandsFor l.points.items (less start (right ∷ [])) root → Knows part ds known → length known ≡ length part → Searches a left right root l ds known
searches_first a left right start root l part ds known approximation is same stands knows all =
    let count : l.lefts ≡ length part = sym (left_count l approximation.within) ∙ ap length is in
    record {
      start = start;
      approximation = approximation;
      same = λ d. ap (λ (b : Automaton). accepts b d start) is ∙ same d;
      stands = stands;
      knows = record {
        count = omega (arith, count, all);
        knows = subst (λ (b : Automaton). Knows b ds (take l.lefts known)) (sym is) (subst (λ (fs : List (Option LeastDocument)). Knows part ds fs) (sym (take_all l.lefts known (omega (arith, count, all)))) knows);
      };
    }

-- it goes on with a closer automaton over the same lefts
pub searches_on : (a : Automaton) (left right root : State) (l m : OverApproximation) (ds : List Document) (known : List (Option LeastDocument)) → Searches a left right root l ds known → IsOverApproximation a m → left_states m ≡ left_states l → KeepsPoints l.points.items m.points.items
    → Searches a left right root m ds known
searches_on a left right root l m ds known s approximation is keeps =
    let count : m.lefts ≡ l.lefts = sym (left_count m approximation.within) ∙ ap length is ∙ left_count l s.approximation.within in
    record {
      start = s.start;
      approximation = approximation;
      same = λ d. ap (λ (b : Automaton). accepts b d s.start) is ∙ s.same d;
      stands = record { there = omega (arith, s.stands.there, keeps.longer); is = keeps.same (state_number root) s.stands.there ∙ s.stands.is };
      knows = record {
        count = omega (arith, count, s.knows.count);
        knows = subst (λ (b : Automaton). Knows b ds (take m.lefts known)) (sym is) (subst (λ (n : ℕ). Knows (left_states l) ds (take n known)) (sym count) s.knows.knows);
      };
    }

-- and with what is known more
pub searches_more : (a : Automaton) (left right root : State) (l : OverApproximation) (ds es : List Document) (known after : List (Option LeastDocument)) → Searches a left right root l ds known → KnowsLefts l es after → Searches a left right root l es after
searches_more a left right root l ds es known after s k = record { start = s.start; approximation = s.approximation; same = s.same; stands = s.stands; knows = k }

module _ (a : Automaton) (left right root : State) (l : OverApproximation) (ds : List Document) (known : List (Option LeastDocument)) (s : Searches a left right root l ds known) where
  -- the root accepts whatever separates the two
  pub root_accepts : (d : Document) → IsApart a left right d → accepts l.over d root ≡ true
  root_accepts d h =
      approximation_accepts (left_states l) a l.over l.points.items s.approximation.approximates.approximation d root s.stands.there
      (ap (λ (p : PointView). means (left_states l) a p d) s.stands.is ∙ rw (s.same d, h.accepted, h.refused) refl)

  -- so its least document, if it separates them, is a least one of these
  pub root_least : (es : List Document) (f : LeastDocument) → IsLeastOf l.over es root f → IsApart a left right (document_at es f.seq) → IsLeastUpTo size_limit (IsApart a left right) (document_at es f.seq)
  root_least es f w apart = record {
    within = apart;
    least = λ e h lt. (let m = (least_up_to l.over es root f w).least e (root_accepts e h) lt in record { within = apart; least = λ q k. m.least q (root_accepts q k) });
  }

  -- and none of these is smaller
  pub root_below : (es : List Document) (f : LeastDocument) (bound : ℕ) → IsLeastOf l.over es root f → bound ≤ f.size → (d : Document) → IsApart a left right d → bound ≤ size d
  root_below es f bound w le d h = omega (arith, le, w.least d (root_accepts d h))
