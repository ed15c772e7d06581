-- How points grow, and what moves mean then.
use Rattle.std.proofs.Common.{ℕ, ◌<◌, ◌≡◌, Bool, false, ◌&&◌, ◌||◌, List, [], ◌∷◌, ◌++◌, length, inl, inr, refl, sym, ap, ◌∙◌, subst, arith}
use Rattle.std.specs.List.{AllByRecursion, AllZip, list_any}
use Rattle.std.proofs.lemmas.Bool.{cases_lt}
use Rattle.std.proofs.lemmas.List.Folds.{list_any-append}
use Rattle.xd_doc.specs.Document.{Document}
use Rattle.xd_doc.specs.Classes.{class_has}
use Rattle.xd_doc.proofs.SortedNames.{or_false}
use Rattle.xd_doc.proofs.Bools.{or_join}
use Rattle.xd_doc.proofs.Lists.{all_push, all_more}
use Rattle.xd_auto.specs.declared.auto.State.{State}
use Rattle.xd_auto.specs.declared.auto.LabelMove.{LabelMove}
use Rattle.xd_auto.specs.declared.auto.TextMove.{TextMove}
use Rattle.xd_auto.specs.Automaton.{Automaton}
use Rattle.xd_points.specs.declared.points.Points.{Points}
use Rattle.xd_points.specs.declared.patterns.PatternStates.{PatternStates}
use Rattle.xd_boole.specs.Meaning.{ElementFirst, TextFirst}
use Rattle.xd_points.specs.Meaning.{PointView, means}
use Rattle.xd_boole.proofs.GrowsLemmas.{any_agree}
use Rattle.xd_points.specs.Points.{AddsMoves, ArePoints, Grows, IsBare, KeepsPoints, LeadsTo, StandsFor, label_means, label_states, meaning, text_means, text_states}
use Rattle.xd_points.proofs.ArePointsLemmas.{grows_same}

pub grows_trans : (p q r : Points) → Grows p q → Grows q r → Grows p r
grows_trans p q r one two = record {
  longer = omega (arith, one.longer, two.longer);
  points = λ i lt. two.points i (omega (arith, one.longer)) ∙ one.points i lt;
  moves = λ i lt. two.moves i (omega (arith, one.longer)) ∙ one.moves i lt;
  fresh = λ i le lt. elim (cases_lt i (length q.points.items)) [
    | inl h ↦ subst IsBare (sym (two.moves i h)) (one.fresh i le h)
    | inr h ↦ two.fresh i h lt
  ];
}

pub keeps : (p q : Points) → Grows p q → KeepsPoints p q
keeps p q grows = record { longer = grows.longer; points = grows.points }

pub keeps_same : (p : Points) → KeepsPoints p p
keeps_same p = record { longer = omega arith; points = λ i lt. refl }

-- a state that leads to a point still does
pub leads_more : (p q : Points) (pattern s : State) → KeepsPoints p q → LeadsTo p pattern s → LeadsTo q pattern s
leads_more p q pattern s grows l = record { within = omega (arith, l.within, grows.longer); pattern_is = ap (λ (w : PointView). w.pattern) (grows.points s.number l.within) ∙ l.pattern_is }

pub all_lead : (p q : Points) → KeepsPoints p q → (patterns ss : List State) → AllZip (LeadsTo p) patterns ss → AllZip (LeadsTo q) patterns ss
all_lead p q grows [] [] l = tt
all_lead p q grows [] (s ∷ ss) l = absurd l
all_lead p q grows (t ∷ ts) [] l = absurd l
all_lead p q grows (t ∷ ts) (s ∷ ss) l = (leads_more p q t s grows l.0, all_lead p q grows ts ss l.1)

-- the state of a point stands for the point's state of the pattern
pub leads_here : (a : Automaton) (b : PatternStates) (p q : Points) (of : PointView) (s : State) → StandsFor a b p of s → KeepsPoints p q → LeadsTo q of.pattern s
leads_here a b p q of s is grows = leads_more p q of.pattern s grows is.leads

module _ (a : Automaton) (b : PatternStates) where
  pub meaning_stays : (old new : Points) → KeepsPoints old new → (i : ℕ) → i < length old.points.items → (d : Document) → meaning a b new i d ≡ meaning a b old i d
  meaning_stays old new grows i lt d = ap (λ p. means a b p d) (grows.points i lt)

  all_mean : (old new : Points) → KeepsPoints old new → (patterns ss : List State) → AllZip (LeadsTo old) patterns ss → AllByRecursion (λ s. (d : Document) → meaning a b new s.number d ≡ meaning a b old s.number d) ss
  all_mean old new grows [] [] l = tt
  all_mean old new grows [] (s ∷ ss) l = absurd l
  all_mean old new grows (t ∷ ts) [] l = absurd l
  all_mean old new grows (t ∷ ts) (s ∷ ss) l = (λ d. meaning_stays old new grows s.number l.0.within d, all_mean old new grows ts ss l.1)

  -- what a move means, by what the states mean that it leads to
  pub means_stay : {M Q : Type 0} (has : M → Q → Bool) (states : M → List State) (goes_on : (State → Document → Bool) → Q → M → Bool) (by_move : Points → Q → M → Bool)
      → ((p : Points) (q : Q) → by_move p q ≡ (λ m. has m q && goes_on (λ s d. meaning a b p s.number d) q m))
      → ((t u : State → Document → Bool) (q : Q) (m : M) → AllByRecursion (λ s. (d : Document) → t s d ≡ u s d) (states m) → goes_on t q m ≡ goes_on u q m)
      → (patterns : List State) (old new : Points) → KeepsPoints old new → (q : Q) (m : M) → AllZip (LeadsTo old) patterns (states m) → by_move new q m ≡ by_move old q m
  means_stay {M} has states goes_on by_move meant agree patterns old new grows q m leads =
      ap (λ (f : M → Bool). f m) (meant new q)
      ∙ ap (λ w. has m q && w) (agree (λ s d. meaning a b new s.number d) (λ s d. meaning a b old s.number d) q m (all_mean old new grows patterns (states m) leads))
      ∙ sym (ap (λ (f : M → Bool). f m) (meant old q))

  pub label_stays : (patterns : List State) (old new : Points) → KeepsPoints old new → (q : ElementFirst) (m : LabelMove) → AllZip (LeadsTo old) patterns (label_states m) → label_means a b new q m ≡ label_means a b old q m
  label_stays = means_stay (λ m q. class_has m.class q.label) label_states (λ t q m. t m.content q.content && t m.rest q.rest) (label_means a b) (λ p q. refl)
      (λ t u q m same. ap (λ v. v && t m.rest q.rest) (same.0 q.content) ∙ ap (λ v. u m.content q.content && v) (same.1.0 q.rest))

  pub text_stays : (patterns : List State) (old new : Points) → KeepsPoints old new → (q : TextFirst) (m : TextMove) → AllZip (LeadsTo old) patterns (text_states m) → text_means a b new q m ≡ text_means a b old q m
  text_stays = means_stay (λ m q. class_has m.words q.characters) text_states (λ t q m. t m.rest q.rest) (text_means a b) (λ p q. refl) (λ t u q m same. same.0 q.rest)

  -- the state of a point means what the point says, then and later
  pub state_means : (p q : Points) (of : PointView) (s : State) → StandsFor a b p of s → KeepsPoints p q → (d : Document) → meaning a b q s.number d ≡ means a b of d
  state_means p q of s is grows d = meaning_stays p q grows s.number is.leads.within d ∙ is.means d

-- moves on elements and moves on texts alike
module _ {M Q : Type 0} {Leads : Points → M → Type 0} {by_move : Points → Q → M → Bool} {a : Automaton} {b : PatternStates} where
  pub adds_none : {p : Points} {ms : List M} {f : Q → Bool} → ArePoints a b p → AllByRecursion (Leads p) ms → ((q : Q) → f q ≡ false) → AddsMoves Leads by_move a b p p ms ms f
  adds_none {p} {ms} {f} whole below none = record {
    whole = whole;
    grows = grows_same p;
    leads = below;
    taken = λ q. sym (or_false (list_any (by_move p q) ms)) ∙ ap (λ w. list_any (by_move p q) ms || w) (sym (none q));
  }

  pub adds_like : {old new : Points} {before after : List M} {f g : Q → Bool} → AddsMoves Leads by_move a b old new before after f → ((q : Q) → f q ≡ g q) → AddsMoves Leads by_move a b old new before after g
  adds_like {old} {new} {before} {after} {f} {g} h same = record {
    whole = h.whole;
    grows = h.grows;
    leads = h.leads;
    taken = λ q. h.taken q ∙ ap (λ w. list_any (by_move old q) before || w) (same q);
  }

  pub adds_then : {p q r : Points} {x y z : List M} {f g h : Q → Bool} → AddsMoves Leads by_move a b p q x y f → AddsMoves Leads by_move a b q r y z g → ((w : Q) → (f w || g w) ≡ h w) → AddsMoves Leads by_move a b p r x z h
  adds_then {p} {q} {r} {x} {y} {z} {f} {g} {h} one two same = record {
    whole = two.whole;
    grows = grows_trans p q r one.grows two.grows;
    leads = two.leads;
    taken = λ w. two.taken w ∙ ap (λ v. v || g w) (one.taken w) ∙ or_join (list_any (by_move p w) x) (f w) (g w) ∙ ap (λ v. list_any (by_move p w) x || v) (same w);
  }

-- one more move
module _ {M Q : Type 0} (patterns : List State) (states : M → List State) (by_move : Points → Q → M → Bool) (a : Automaton) (b : PatternStates)
    (stays : (patterns : List State) (old new : Points) → KeepsPoints old new → (q : Q) (m : M) → AllZip (LeadsTo old) patterns (states m) → by_move new q m ≡ by_move old q m) where
  pub adds_push : (p r : Points) (ms after : List M) (m : M) (takes : Q → Bool) → after ≡ ms ++ m ∷ [] → AllByRecursion (λ w. AllZip (LeadsTo p) patterns (states w)) ms → Grows p r → ArePoints a b r → AllZip (LeadsTo r) patterns (states m)
      → ((q : Q) → by_move r q m ≡ takes q) → AddsMoves (λ q w. AllZip (LeadsTo q) patterns (states w)) by_move a b p r ms after takes
  adds_push p r ms after m takes is below grows whole there means_so = record {
    whole = whole;
    grows = grows;
    leads = subst (AllByRecursion (λ w. AllZip (LeadsTo r) patterns (states w))) (sym is)
        (all_push (λ w. AllZip (LeadsTo r) patterns (states w)) ms m
        (all_more (λ w. AllZip (LeadsTo p) patterns (states w)) (λ w. AllZip (LeadsTo r) patterns (states w)) ms (λ w. all_lead p r (keeps p r grows) patterns (states w)) below) there);
    taken = λ q.
        ap (list_any (by_move r q)) is ∙ list_any-append (by_move r q) ms (m ∷ [])
        ∙ ap (λ w. w || (by_move r q m || false)) (any_agree (λ w. AllZip (LeadsTo p) patterns (states w)) (by_move r q) (by_move p q) ms below (stays patterns p r (keeps p r grows) q))
        ∙ ap (λ w. list_any (by_move p q) ms || w) (or_false (by_move r q m) ∙ means_so q);
  }
