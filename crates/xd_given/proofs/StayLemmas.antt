-- What stays while the automaton grows.
use Rattle.std.proofs.Common.{ℕ, ◌<◌, ◌≡◌, ◌↔◌, Bool, true, false, List, Option, refl, sym, ap, ◌∙◌, subst}
use Rattle.xd_doc.specs.Document.{Document, is_proper}
use Rattle.xd_auto.specs.declared.auto.State.{State}
use Rattle.xd_auto.specs.Automaton.{Automaton, Extends, IsClosed, accepts}
use Rattle.xd_auto.proofs.ExtendsLemmas.{keeps}
use Rattle.xd_auto.specs.Traces.{Owned, trace_of}
use Rattle.xd_doc.proofs.StoredLemmas.{Keeps-same}
use Rattle.xd_doc.specs.Runs.{Run, held}
use Rattle.xd_least.specs.declared.document.LeastDocument.{LeastDocument}
use Rattle.xd_least.proofs.KnownLemmas.{stays_known}
use Rattle.xd_bind.specs.declared.tracks.Given.{Given}
use Rattle.xd_points.specs.declared.patterns.PatternStates.{PatternStates}
use Rattle.xd_points.specs.declared.table.PointTable.{PointTable}
use Rattle.xd_points.specs.FirstRuns.{IsRunBy}
use Rattle.xd_points.specs.Points.{point_at}
use Rattle.xd_points.specs.Tables.{IsTableOf, of_first_runs, pattern_of, point_count, point_means, takes_alone}
use Rattle.xd_points.proofs.FirstRunLaw.{accepting_runs_are_all, first_runs_are_preferred}
use Rattle.xd_points.proofs.StayLaws.{meanings_stay}
use Rattle.xd_given.specs.Blocks.{ArePlaces, there}
use Rattle.xd_given.specs.Given.{AreGivensFor, IsGivenAloneBy}
use Rattle.xd_given.specs.Known.{KnowsLefts}
use Rattle.xd_given.specs.Traced.{AcceptsGivenAt, AreGivensAt, IsGivenAt, IsGivenAtOf}
use Rattle.xd_given.proofs.PointTraces.{accepting}

-- a point means what it did
pub means_still : (old new : Automaton) (p : PatternStates) (t : PointTable) (s : State) (d : Document) → IsClosed old → Extends old new → IsTableOf old p t → s.number < point_count t → point_means new p t s d ≡ point_means old p t s d
means_still old new p t s d closed more is lt = meanings_stay old new p (point_at t.points.points.items s.number) d closed more (is.expanded.whole.points s.number lt)

given_as : (one two : Automaton) (p : PatternStates) (t : PointTable) (b : Owned) (s : State) (e : Document) → ((d : Document) → point_means one p t s d ≡ point_means two p t s d) → IsGivenAt one p t b s e → IsGivenAt two p t b s e
given_as one two p t b s e same g = record {
  document = g.document;
  trace = g.trace;
  proper = g.proper;
  has = record { run = g.has.run; at = (sym (same g.document) ∙ g.has.at.0, g.has.at.1); is = g.has.is };
  gives = g.gives;
}

-- what is given is the same where the points mean the same, and another state accepts it that
-- accepts the same
pub accepts_as : (one two : Automaton) (p : PatternStates) (t : PointTable) (b : Owned) (s : State) (made other : Automaton) (first state : State) → ((d : Document) → point_means one p t s d ≡ point_means two p t s d)
    → ((e : Document) → accepts other e state ≡ accepts made e first) → AcceptsGivenAt one p t b s made first → AcceptsGivenAt two p t b s other state
accepts_as one two p t b s made other first state same equal h e = (
  λ y. given_as one two p t b s e same ((h e).0 (sym (equal e) ∙ y)),
  λ g. equal e ∙ (h e).1 (given_as two one p t b s e (λ d. sym (same d)) g),
)

pub given_still : (a : Automaton) (p : PatternStates) (t : PointTable) (owned : ℕ → Owned) (start : State) (variables : List (List ℕ)) (old new : Automaton) (x : ℕ) (one : Given) → IsClosed old → Extends old new
    → IsGivenAtOf a p t owned start variables old x one → IsGivenAtOf a p t owned start variables new x one
given_still a p t owned start variables old new x one closed more h = record {
  variable = h.variable;
  belongs = more.states one.state h.belongs;
  given = accepts_as a a p t (owned x) start old new one.state one.state (λ d. refl) (λ d. keeps old new closed more d one.state h.belongs) h.given;
}

pub places_still : (old new : Automaton) (p : PatternStates) (t : PointTable) (places : List State) → IsClosed old → Extends old new → IsTableOf old p t → ArePlaces old p t places → ArePlaces new p t places
places_still old new p t places closed more is h = record {
  count = h.count;
  belong = λ s lt. more.states (there places s) (h.belong s lt);
  means = λ s d lt. keeps old new closed more d (there places s) (h.belong s lt) ∙ h.means s d lt ∙ sym (means_still old new p t s d closed more is lt);
}

-- what is given at the point that was asked for is what is given on the documents that it means
module _ (a now : Automaton) (p : PatternStates) (t : PointTable) (start left : State) (rights : List State) (means : (d : Document) → point_means now p t start d ≡ takes_alone a p left (pattern_of t start) rights d)
    (b : Owned) (e : Document) where
  is_alone : (g : IsGivenAt now p t b start e) → takes_alone a p left (pattern_of t start) rights g.document ≡ true
  is_alone g = sym (means g.document) ∙ g.has.at.0

  is_given : (g : IsGivenAt now p t b start e) → held g.document (trace_of p.auto b (pattern_of t start) g.has.run) ≡ e
  is_given g = ap (held g.document) g.has.is ∙ g.gives

  by_run : (first : Bool) → of_first_runs t ≡ first → (d : Document) (run : Run ℕ) → (is_proper e ≡ true → is_proper d ≡ true) → IsRunBy first p.auto d (pattern_of t start) run
      → held d (trace_of p.auto b (pattern_of t start) run) ≡ e → takes_alone a p left (pattern_of t start) rights d ≡ true → IsGivenAt now p t b start e
  by_run first kind d run proper by given only = record {
    document = d;
    trace = trace_of p.auto b (pattern_of t start) run;
    proper = proper;
    has = record { run = run; at = (means d ∙ only, subst (λ k. IsRunBy k p.auto d (pattern_of t start) run) (sym kind) by); is = refl };
    gives = given;
  }

  pub given_alone : (first : Bool) → of_first_runs t ≡ first → IsGivenAt now p t b start e ↔ IsGivenAloneBy first a p left (pattern_of t start) rights b e
  given_alone false kind = (
    λ g. record {
      given = record { document = g.document; proper = g.proper; run = g.has.run; accepting = accepting now p t b g.document start g.trace g.has; gives = is_given g };
      alone = is_alone g;
    },
    λ g.
        let is = g.given in
        by_run false kind is.document is.run is.proper ((accepting_runs_are_all p.auto (pattern_of t start) is.document is.run).0 is.accepting) is.gives g.alone,
  )
  given_alone true kind = (
    λ g. record {
      document = g.document;
      proper = g.proper;
      run = g.has.run;
      first = (first_runs_are_preferred p.auto (pattern_of t start) g.document g.has.run).1 (subst (λ k. IsRunBy k p.auto g.document (pattern_of t start) g.has.run) kind g.has.at.1);
      gives = is_given g;
      alone = is_alone g;
    },
    λ g. by_run true kind g.document g.run g.proper ((first_runs_are_preferred p.auto (pattern_of t start) g.document g.run).0 g.first) g.gives g.alone,
  )

pub givens_alone : (a now : Automaton) (p : PatternStates) (t : PointTable) (start left pattern : State) (rights : List State) (first : Bool) → of_first_runs t ≡ first → pattern_of t start ≡ pattern
    → ((d : Document) → point_means now p t start d ≡ takes_alone a p left pattern rights d) → (owned : ℕ → Owned) (variables : List (List ℕ)) (made : Automaton) (givens : List Given)
    → AreGivensAt now p t owned start variables made givens → AreGivensFor (IsGivenAloneBy first a p left pattern rights) owned variables made givens
givens_alone a now p t start left pattern rights first kind pattern_is means owned variables made givens h =
    subst (λ (q : State). AreGivensFor (IsGivenAloneBy first a p left q rights) owned variables made givens) pattern_is (record {
      count = h.count;
      each = λ x d lt.
          let g = h.each x d lt in
          record { variable = g.variable; belongs = g.belongs; given = λ e. let same = both x e in (λ y. same.0 ((g.given e).0 y), λ y. (g.given e).1 (same.1 y)) };
    })
  where
    both : (x : ℕ) (e : Document) → IsGivenAt now p t (owned x) start e ↔ IsGivenAloneBy first a p left (pattern_of t start) rights (owned x) e
    both x e = given_alone a now p t start left rights (λ d. means d ∙ ap (λ (q : State). takes_alone a p left q rights d) (sym pattern_is)) (owned x) e first kind

-- what is known of lefts stays known
pub known_still : (old new : Automaton) (t : PointTable) (known : List (Option LeastDocument)) → Extends old new → KnowsLefts old t known → KnowsLefts new t known
known_still old new t known more h = record {
  documents = h.documents;
  knows = stays_known known old new h.documents h.documents more (Keeps-same h.documents) h.knows;
  lefts = h.lefts;
}
