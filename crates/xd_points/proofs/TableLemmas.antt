-- Tables of points, from call to call.
use Rattle.std.proofs.Common.{ℕ, ◌<◌, ◌≤◌, ◌≡◌, Bool, not, ◌&&◌, ◌||◌, List, [], ◌∷◌, length, Option, Some, None, IfSome, refl, sym, ap, ◌∙◌, arith}
use Rattle.std.specs.List.{AllByRecursion}
use Rattle.xd_doc.specs.Document.{Document}
use Rattle.xd_auto.specs.declared.auto.State.{State}
use Rattle.xd_auto.specs.Automaton.{Automaton, Extends, IsClosed, IsState, accepts}
use Rattle.xd_auto.proofs.ExtendsLemmas.{keeps}
use Rattle.xd_boole.specs.Meaning.{any_accepts}
use Rattle.xd_points.specs.declared.patterns.PatternStates.{PatternStates}
use Rattle.xd_points.specs.declared.points.Points.{Points}
use Rattle.xd_points.specs.Meaning.{PointView, ServePoints, means, point}
use Rattle.xd_points.specs.Placing.{AreIn, accepts_at, place_at, state_of}
use Rattle.xd_points.specs.Points.{AreExpanded, ArePoints, Grows, KeepMoves, KeepsPoints, RowView, StandsFor, meaning, point_at}
use Rattle.xd_points.specs.Tables.{TablesStay, takes_alone}
use Rattle.xd_points.proofs.GrowsLemmas.{meaning_stays}
use Rattle.xd_points.proofs.PlaceLemmas.{there_still}
use Rattle.xd_points.proofs.StayLaws.{expanded_stays, meanings_stay}

-- the automaton of points extends the old one
pub made_extends : (a : Automaton) (b : PatternStates) (old mid new : Points) → length old.made ≡ length old.points.items → ArePoints a b new → Grows old mid → length mid.points.items ≤ length new.points.items
    → KeepMoves (length old.points.items) mid new → Extends old.made new.made
made_extends a b old mid new count whole grows longer moves = record {
  states = λ s here. omega (arith, here, count, whole.count, grows.longer, longer);
  moves = λ s here. let lt : s.number < length old.points.items = omega (arith, here, count) in moves s.number lt ∙ grows.moves s.number lt;
}

-- like states that are made one refuse what the states do
pub rights_same : (a : Automaton) (b : PatternStates) → ServePoints a b → (rights : List State) (d : Document) → any_accepts b.taken.auto rights d ≡ any_accepts b.auto rights d
rights_same a b serve [] d = refl
rights_same a b serve (s ∷ ss) d = ap (λ w. w || any_accepts b.taken.auto ss d) (serve.same d s) ∙ ap (λ w. accepts b.auto d s || w) (rights_same a b serve ss d)

pub means_alone : (a : Automaton) (b : PatternStates) → ServePoints a b → (left pattern : State) (rights : List State) (d : Document) → means a b (point left pattern rights) d ≡ takes_alone a b left pattern rights d
means_alone a b serve left pattern rights d = ap (λ w. accepts a d left && (accepts b.auto d pattern && not w)) (rights_same a b serve rights d)

pub rights_belong : (a : Automaton) (b : PatternStates) → ServePoints a b → (rights : List State) → AllByRecursion (IsState b.auto) rights → AllByRecursion (IsState b.taken.auto) rights
rights_belong a b serve [] all = tt
rights_belong a b serve (s ∷ ss) all = (omega (arith, all.0, serve.count), rights_belong a b serve ss all.1)

same_there : (old new : Automaton) → IsClosed old → Extends old new → (d : Document) (o : Option State) → IfSome o (IsState old) → accepts_at new d o ≡ accepts_at old d o
same_there old new closed extends d None is = refl
same_there old new closed extends d (Some s) is = keeps old new closed extends d s is

pub tables_stay : TablesStay
tables_stay old new b t closed extends is = record {
  expanded = expanded_stays old new b t.points t.first t.rows.items closed extends is.expanded;
  every = is.every;
  known = is.known;
  count = is.count;
  belong = λ i. there_still old new (state_of (place_at t.places.items i)) extends (is.belong i);
  stands = λ d i lt.
      same_there old new closed extends d (state_of (place_at t.places.items i)) (is.belong i) ∙ is.stands d i lt
      ∙ sym (meanings_stay old new b (point_at t.points.points.items i) d closed extends (is.expanded.whole.points i lt));
}

-- ---- no points

pub no_rows : (first : Bool) (a : Automaton) (b : PatternStates) (p : Points) (rows : List RowView) → ArePoints a b p → p.points.items ≡ [] → rows ≡ [] → AreExpanded first a b p rows
no_rows first a b p rows whole none is =
    let points = ap length none in
    let count = ap length is in
    record { whole = whole; within = omega (arith, points, count); has = λ i lt yet. absurd (omega (arith, count)); bare = λ i le lt. absurd (omega (arith, points)) }

pub no_states : (a : Automaton) → AreIn a []
no_states a i = tt

-- ---- a call

module _ (a : Automaton) (b : PatternStates) (serve : ServePoints a b) (old mid new : Points) (left pattern : State) (rights : List State) (start : State)
    (grows : Grows old mid) (is : StandsFor a b mid (point left pattern rights) start) (stay : KeepsPoints mid new) where
  all_stay : KeepsPoints old new
  all_stay = record {
    longer = omega (arith, grows.longer, stay.longer);
    points = λ i lt. stay.points i (omega (arith, lt, grows.longer)) ∙ grows.points i lt;
  }

  -- what the points that there were mean
  pub first_mean : (d : Document) (i : ℕ) → i < length old.points.items → meaning a b new i d ≡ meaning a b old i d
  first_mean d i lt = meaning_stays a b old new all_stay i lt d

  pub longer : length old.points.items ≤ length new.points.items
  longer = all_stay.longer

  -- the point that was asked for
  pub within : start.number < length new.points.items
  within = omega (arith, is.leads.within, stay.longer)

  pub start_is : (point_at new.points.items start.number).pattern ≡ pattern
  start_is = ap (λ (p : PointView). p.pattern) (stay.points start.number is.leads.within) ∙ is.leads.pattern_is

  pub start_means : (d : Document) → meaning a b new start.number d ≡ takes_alone a b left pattern rights d
  start_means d = meaning_stays a b mid new stay start.number is.leads.within d ∙ is.means d ∙ means_alone a b serve left pattern rights d

-- the points in an automaton that extends the one of their lefts
module _ (a n : Automaton) (b : PatternStates) (closed : IsClosed a) (extends : Extends a n) (new : Points) (first : Bool) (rows : List RowView) (expanded : AreExpanded first a b new rows) where
  pub expanded_after : AreExpanded first n b new rows
  expanded_after = expanded_stays a n b new first rows closed extends expanded

  pub mean_after : (d : Document) (i : ℕ) → i < length new.points.items → meaning a b new i d ≡ meaning n b new i d
  mean_after d i lt = sym (meanings_stay a n b (point_at new.points.items i) d closed extends (expanded.whole.points i lt))
