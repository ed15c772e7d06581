-- What serves points, what they mean, and their moves, while the automaton of the lefts extends.
use Rattle.std.proofs.Common.{◌≡◌, ℕ, ◌<◌, Bool, ◌&&◌, ◌||◌, not, List, length, sym, ap, ◌∙◌, arith}
use Rattle.xd_doc.specs.Classes.{class_has}
use Rattle.xd_doc.specs.Document.{Document, empty}
use Rattle.xd_auto.specs.declared.auto.LabelMove.{LabelMove}
use Rattle.xd_auto.specs.declared.auto.TextMove.{TextMove}
use Rattle.xd_auto.specs.Automaton.{Automaton, Extends, IsClosed, accepts, moves_at}
use Rattle.xd_auto.proofs.ExtendsLemmas.{keeps}
use Rattle.xd_boole.specs.Groups.{passes_at}
use Rattle.xd_boole.specs.Meaning.{ElementFirst, TextFirst, any_accepts, element_of, move_takes, text_of, text_takes}
use Rattle.xd_points.specs.declared.patterns.PatternStates.{PatternStates}
use Rattle.xd_points.specs.declared.points.Points.{Points}
use Rattle.xd_points.specs.Laws.{ExpandedStays, MeaningsStay, ServingStays}
use Rattle.xd_points.specs.FirstRuns.{place_before}
use Rattle.xd_points.specs.Points.{AreExpanded, HasMoves, LeadsAs, RowView, is_old, label_means, label_states, meaning, point_at, row_at, taken_before, takes_for, text_means, text_states}
use Rattle.xd_points.proofs.PlaceLemmas.{extends_longer}
use Rattle.xd_points.proofs.StandForMovesLemmas.{stand_other}

pub serving_stays : ServingStays
serving_stays a n t closed extends is = record {
  count = is.count;
  same = is.same;
  moves = is.moves;
  universal = is.universal;
  within = let longer = extends_longer a n extends in omega (arith, longer, is.within);
  shared = λ d s lt. keeps a n closed extends d s (omega (arith, lt, is.within)) ∙ is.shared d s lt;
}

pub meanings_stay : MeaningsStay
meanings_stay a n t p d closed extends of = ap (λ w. w && (accepts t.auto d p.pattern && not (any_accepts t.taken.auto p.rights d))) (keeps a n closed extends d p.left of.left)

module _ (a n : Automaton) (t : PatternStates) (closed : IsClosed a) (extends : Extends a n) (p : Points) (first : Bool) (rows : List RowView) (expanded : AreExpanded first a t p rows) where
  same_meaning : (i : ℕ) → i < length p.points.items → (d : Document) → meaning a t p i d ≡ meaning n t p i d
  same_meaning i lt d = sym (meanings_stay a n t (point_at p.points.items i) d closed extends (expanded.whole.points i lt))

  left_same : (i : ℕ) → i < length p.points.items → (d : Document) → accepts a d (point_at p.points.items i).left ≡ accepts n d (point_at p.points.items i).left
  left_same i lt d = sym (keeps a n closed extends d (point_at p.points.items i).left (expanded.whole.points i lt).left)

  takes_same : {M : Type 0} (i : ℕ) → i < length p.points.items → (f : M → Bool) (moves : List M) (k : ℕ) (d : Document) → takes_for f moves first a t (point_at p.points.items i) k d ≡ takes_for f moves first n t (point_at p.points.items i) k d
  takes_same i lt f moves k d =
      let v = point_at p.points.items i in
      ap (λ w. w && (passes_at f moves k && not (taken_before f moves t v (place_before first k) d))) (left_same i lt d)

  label_same : (q : ElementFirst) (origin m : LabelMove) → LeadsAs label_states origin p m → label_means n t p q m ≡ label_means a t p q m
  label_same q origin m leads =
      ap (λ w. class_has m.class q.label && (w && meaning n t p m.rest.number q.rest)) (sym (same_meaning m.content.number leads.0.within q.content))
      ∙ ap (λ w. class_has m.class q.label && (meaning a t p m.content.number q.content && w)) (sym (same_meaning m.rest.number leads.1.0.within q.rest))

  text_same : (q : TextFirst) (origin m : TextMove) → LeadsAs text_states origin p m → text_means n t p q m ≡ text_means a t p q m
  text_same q origin m leads = ap (λ w. class_has m.words q.characters && w) (sym (same_meaning m.rest.number leads.0.within q.rest))

  has_there : (i : ℕ) → i < length p.points.items → HasMoves first a t p i (row_at rows i) → HasMoves first n t p i (row_at rows i)
  has_there i lt h =
      let v = point_at p.points.items i in
      let labels = (moves_at t.auto v.pattern).labels in
      let texts = (moves_at t.auto v.pattern).texts in
      record {
        labels = stand_other label_same h.labels (λ k q. takes_same i lt (move_takes t.auto q) labels k (element_of q));
        texts = stand_other text_same h.texts (λ k q. takes_same i lt (text_takes t.auto q) texts k (text_of q));
      }

  expanded_there : AreExpanded first n t p rows
  expanded_there = record {
    whole = record {
      count = expanded.whole.count;
      points = λ i lt. let o = expanded.whole.points i lt in record { left = extends.states (point_at p.points.items i).left o.left; pattern = o.pattern; rights = o.rights };
      last = λ i lt. expanded.whole.last i lt ∙ ap (λ w. is_old t p i || w) (same_meaning i lt empty);
      only = expanded.whole.only;
    };
    within = expanded.within;
    has = λ i lt yet. has_there i (omega (arith, expanded.within)) (expanded.has i lt yet);
    bare = expanded.bare;
  }

pub expanded_stays : ExpandedStays
expanded_stays a n t p first rows closed extends expanded = expanded_there a n t closed extends p first rows expanded
