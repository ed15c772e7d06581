-- A new automaton whose points have their moves, and the states at the places of these points,
-- accept what the points say.
use Rattle.std.proofs.Common.{ℕ, ◌<◌, ◌≤◌, ◌≡◌, inl, inr, nat_lt, Bool, true, false, ◌&&◌, ◌||◌, nat_eq, List, [], ◌∷◌, length, Option, Some, None, refl, sym, ap, ◌∙◌, arith}
use Rattle.std.specs.List.{AllByRecursion, list_any}
use Rattle.std.proofs.lemmas.Bool.{cases_lt, and_from}
use Rattle.std.proofs.lemmas.Bool.Decides.{nat_tests}
use Rattle.xd_doc.specs.Document.{Document, empty, text, element}
use Rattle.xd_doc.specs.Classes.{LabelClass, TextClass, class_has}
use Rattle.xd_doc.proofs.Bools.{and_left, and_right, and_false, or_true}
use Rattle.xd_doc.proofs.Numbers.{same_number}
use Rattle.xd_auto.specs.declared.auto.State.{State}
use Rattle.xd_auto.specs.declared.auto.LabelMove.{LabelMove}
use Rattle.xd_auto.specs.declared.auto.TextMove.{TextMove}
use Rattle.xd_auto.specs.Automaton.{Automaton, Extends, IsClosed, moves_at, accepts}
use Rattle.xd_auto.proofs.ExtendsLemmas.{keeps}
use Rattle.xd_doc.specs.declared.store.Seq.{Seq}
use Rattle.xd_empty.specs.Inhabited.{IsUnknown}
use Rattle.xd_points.specs.declared.points.Points.{Points}
use Rattle.xd_points.specs.declared.placing.Place.{Place}
use Rattle.xd_points.specs.declared.placing.Place.TheVariants.{Old, New, Nowhere}
use Rattle.xd_boole.specs.Meaning.{ElementFirst, TextFirst, any_accepts, element_of, move_takes, text_of, text_takes}
use Rattle.xd_points.specs.Meaning.{PointView, ServePoints, is_old_point, may_leave_out, means, point}
use Rattle.xd_points.specs.declared.patterns.PatternStates.{PatternStates}
use Rattle.xd_empty.specs.Parts.{is_marked}
use Rattle.xd_points.specs.Placing.{IsPlaceOf, IsPlaced, accepts_at, passes_there, passes_to, place_at, state_of, text_passes_there, text_passes_to}
use Rattle.xd_boole.specs.Points.{MoveBelow, TextBelow}
use Rattle.xd_points.specs.Points.{AllExpanded, HasMoves, IsLabelStep, IsTextStep, is_old, label_means, meaning, point_at, row_at, state_at, text_means}
use Rattle.xd_points.proofs.StandForMovesLemmas.{together}
use Rattle.xd_boole.proofs.GrowsLemmas.{any_agree}
use Rattle.xd_boole.proofs.MoveBelowLemmas.{labels_below, texts_below}

-- a point that means what its left accepts
pub old_means : (a : Automaton) (b : PatternStates) → ServePoints a b → (q : PointView) (d : Document) → is_old_point b q ≡ true → accepts a d q.left ≡ means a b q d
old_means a b serve q d e = go q.rights e
  where
    and_true : (v : Bool) → v ≡ (v && true)
    and_true true = refl
    and_true false = refl

    twice : (v : Bool) → v ≡ (v && (v && true))
    twice true = refl
    twice false = refl

    marked : (m : Bool) → is_marked b.taken.universal.items q.pattern ≡ m → (m || (nat_lt q.pattern.number b.shared && nat_eq q.left.number q.pattern.number)) ≡ true
        → accepts a d q.left ≡ (accepts a d q.left && (accepts b.auto d q.pattern && true))
    marked true is h =
        let takes : accepts b.auto d q.pattern ≡ true = sym (serve.same d q.pattern) ∙ serve.universal q.pattern is d in
        and_true (accepts a d q.left) ∙ ap (λ w. accepts a d q.left && (w && true)) (sym takes)
    marked false is h =
        let same : q.left ≡ q.pattern = ap state_at (same_number q.left.number q.pattern.number (and_right (nat_lt q.pattern.number b.shared) (nat_eq q.left.number q.pattern.number) h)) in
        let below : q.pattern.number < b.shared = let t = and_left (nat_lt q.pattern.number b.shared) (nat_eq q.left.number q.pattern.number) h in grind (arith, nat_tests) in
        let agree : accepts a d q.left ≡ accepts b.auto d q.pattern = ap (accepts a d) same ∙ serve.shared d q.pattern below in
        twice (accepts a d q.left) ∙ ap (λ w. accepts a d q.left && (w && true)) agree

    go : (rights : List State) → is_old_point b (point q.left q.pattern rights) ≡ true → accepts a d q.left ≡ means a b (point q.left q.pattern rights) d
    go [] h = marked (is_marked b.taken.universal.items q.pattern) refl
        (and_right (may_leave_out b q.pattern) (is_marked b.taken.universal.items q.pattern || (nat_lt q.pattern.number b.shared && nat_eq q.left.number q.pattern.number)) h)
    go (r ∷ rs) h =
        let rest = may_leave_out b q.pattern && (is_marked b.taken.universal.items q.pattern || (nat_lt q.pattern.number b.shared && nat_eq q.left.number q.pattern.number)) in
        let empty_set : length (r ∷ rs) ≡ 0 = same_number (length (r ∷ rs)) 0 (and_left (nat_eq (length (r ∷ rs)) 0) rest h) in absurd (omega arith)

-- one of these passes a test, and so each test that it passes is passed by one of them
record Passes {X : Type 0} (P : X → Type 0) (f : X → Bool) (xs : List X) : Type 0 where
  one : X
  holds : P one
  passes : f one ≡ true
  others : (g : X → Bool) → g one ≡ true → list_any g xs ≡ true

one_passes : {X : Type 0} (P : X → Type 0) (f : X → Bool) (xs : List X) → AllByRecursion P xs → list_any f xs ≡ true → Passes P f xs
one_passes P f [] all e = absurd (cc)
one_passes {X} P f (x ∷ xs) all e = go (f x) refl e (λ h. one_passes P f xs all.1 h)
  where
    go : (b : Bool) → f x ≡ b → (b || list_any f xs) ≡ true → (list_any f xs ≡ true → Passes P f xs) → Passes P f (x ∷ xs)
    go true is h more = record { one = x; holds = all.0; passes = is; others = λ g e. ap (λ w. w || list_any g xs) e }
    go false is h more = let r = more h in record { one = r.one; holds = r.holds; passes = r.passes; others = λ g e. ap (λ w. g x || w) (r.others g e) ∙ or_true (g x) }

-- a document that the state accepts
record Accepted (a : Automaton) (s : State) : Type 0 where
  document : Document
  accepted : accepts a document s ≡ true

module _ (a : Automaton) (b : PatternStates) (p : Points) (all : AllExpanded a b p) (closed : IsClosed p.made) where
  labels_within : (i : ℕ) → i < length p.points.items → AllByRecursion (MoveBelow (length p.points.items)) (moves_at p.made (state_at i)).labels
  labels_within i lt = labels_below p.made (length p.points.items) i closed all.are.whole.count lt

  texts_within : (i : ℕ) → i < length p.points.items → AllByRecursion (TextBelow (length p.points.items)) (moves_at p.made (state_at i)).texts
  texts_within i lt = texts_below p.made (length p.points.items) i closed all.are.whole.count lt

  has : (i : ℕ) → i < length p.points.items → is_old b p i ≡ false → HasMoves all.first a b p i (row_at all.rows i)
  has i lt yet = all.are.has i (omega (arith, all.every)) yet

  -- what the moves of a point's state together take
  labels_all : (i : ℕ) → i < length p.points.items → is_old b p i ≡ false → (q : ElementFirst) → list_any (label_means a b p q) (moves_at p.made (state_at i)).labels ≡ meaning a b p i (element_of q)
  labels_all i lt yet q =
      let v = point_at p.points.items i in
      let h = has i lt yet in
      together (IsLabelStep b.auto v.pattern p) (label_means a b p q) (moves_at p.made (state_at i)).labels (row_at all.rows i).labels (move_takes b.auto q) (moves_at b.auto v.pattern).labels all.first
      (accepts a (element_of q) v.left) (any_accepts b.taken.auto v.rights (element_of q)) h.labels.steps (λ n. h.labels.taken n q)

  texts_all : (i : ℕ) → i < length p.points.items → is_old b p i ≡ false → (q : TextFirst) → list_any (text_means a b p q) (moves_at p.made (state_at i)).texts ≡ meaning a b p i (text_of q)
  texts_all i lt yet q =
      let v = point_at p.points.items i in
      let h = has i lt yet in
      together (IsTextStep b.auto v.pattern p) (text_means a b p q) (moves_at p.made (state_at i)).texts (row_at all.rows i).texts (text_takes b.auto q) (moves_at b.auto v.pattern).texts all.first
      (accepts a (text_of q) v.left) (any_accepts b.taken.auto v.rights (text_of q)) h.texts.steps (λ n. h.texts.taken n q)

  old_accepts : (i : ℕ) → i < length p.points.items → is_old b p i ≡ true → Accepted p.made (state_at i)
  old_accepts i lt e = record { document = empty; accepted = all.are.whole.last i lt ∙ ap (λ w. w || meaning a b p i empty) e }

  -- where a point accepts something its state does, since an old state does
  some_document : (d : Document) (i : ℕ) → i < length p.points.items → meaning a b p i d ≡ true → Accepted p.made (state_at i)
  some_document empty i lt means_so =
      record { document = empty; accepted = all.are.whole.last i lt ∙ ap (λ w. is_old b p i || w) means_so ∙ or_true (is_old b p i) }
  some_document (text t d) i lt means_so = go (is_old b p i) refl (λ j there e. some_document d j there e)
    where
      go : (o : Bool) → is_old b p i ≡ o → ((j : ℕ) → j < length p.points.items → meaning a b p j d ≡ true → Accepted p.made (state_at j)) → Accepted p.made (state_at i)
      go true o rest = old_accepts i lt o
      go false o rest =
          let q : TextFirst = record { characters = t; rest = d } in
          let m = one_passes (TextBelow (length p.points.items)) (text_means a b p q) (moves_at p.made (state_at i)).texts (texts_within i lt) (texts_all i lt o q ∙ means_so) in
          let here = and_left (class_has m.one.words t) (meaning a b p m.one.rest.number d) m.passes in
          let e = rest m.one.rest.number m.holds (and_right (class_has m.one.words t) (meaning a b p m.one.rest.number d) m.passes) in
          record {
            document = text t e.document;
            accepted = m.others (λ (w : TextMove). class_has w.words t && accepts p.made e.document w.rest) (and_from (class_has m.one.words t) (accepts p.made e.document m.one.rest) here e.accepted);
          }
  some_document (element l c d) i lt means_so = go (is_old b p i) refl (λ j there e. some_document c j there e) (λ j there e. some_document d j there e)
    where
      go : (o : Bool) → is_old b p i ≡ o → ((j : ℕ) → j < length p.points.items → meaning a b p j c ≡ true → Accepted p.made (state_at j))
          → ((j : ℕ) → j < length p.points.items → meaning a b p j d ≡ true → Accepted p.made (state_at j)) → Accepted p.made (state_at i)
      go true o content rest = old_accepts i lt o
      go false o content rest =
          let q : ElementFirst = record { label = l; content = c; rest = d } in
          let m = one_passes (MoveBelow (length p.points.items)) (label_means a b p q) (moves_at p.made (state_at i)).labels (labels_within i lt) (labels_all i lt o q ∙ means_so) in
          let both = meaning a b p m.one.content.number c && meaning a b p m.one.rest.number d in
          let here = and_left (class_has m.one.class l) both m.passes in
          let parts = and_right (class_has m.one.class l) both m.passes in
          let e = content m.one.content.number m.holds.0 (and_left (meaning a b p m.one.content.number c) (meaning a b p m.one.rest.number d) parts) in
          let f = rest m.one.rest.number m.holds.1 (and_right (meaning a b p m.one.content.number c) (meaning a b p m.one.rest.number d) parts) in
          record {
            document = element l e.document f.document;
            accepted = m.others (λ (w : LabelMove). class_has w.class l && (accepts p.made e.document w.content && accepts p.made f.document w.rest))
                (and_from (class_has m.one.class l) (accepts p.made e.document m.one.content && accepts p.made f.document m.one.rest) here
                (and_from (accepts p.made e.document m.one.content) (accepts p.made f.document m.one.rest) e.accepted f.accepted));
          }

  -- so a point whose state accepts nothing accepts nothing
  pub nothing_there : (i : ℕ) → i < length p.points.items → ((d : Document) → accepts p.made d (state_at i) ≡ false) → (d : Document) → meaning a b p i d ≡ false
  nothing_there i lt none d = go (meaning a b p i d) refl
    where
      go : (v : Bool) → meaning a b p i d ≡ v → v ≡ false
      go false is = refl
      go true is = let e = some_document d i lt is in absurd (let both : true ≡ false = sym e.accepted ∙ none e.document in cc)

  module _ (known : List (Option Seq)) (none : (i : ℕ) → i < length p.points.items → IsUnknown known (state_at i) → (d : Document) → accepts p.made d (state_at i) ≡ false)
      (base : ℕ) (places : List Place) (n : Automaton) (lefts_closed : IsClosed a) (serve : ServePoints a b) (extends : Extends a n)
      (first : (d : Document) (i : ℕ) → i < base → accepts_at n d (state_of (place_at places i)) ≡ meaning a b p i d)
      (each : (i : ℕ) → base ≤ i → i < length p.points.items → IsPlaceOf b a n p known i (place_at places i))
      (done : (i : ℕ) (s : State) → base ≤ i → i < length p.points.items → place_at places i ≡ New s → IsPlaced p places n i s) where
    -- a place that is no new state
    at_place : (d : Document) (i : ℕ) → i < length p.points.items → ((s : State) → base ≤ i → place_at places i ≡ New s → is_old b p i ≡ false → accepts n d s ≡ meaning a b p i d)
        → accepts_at n d (state_of (place_at places i)) ≡ meaning a b p i d
    at_place d i lt new = elim (cases_lt i base) [
      | inl before ↦ first d i before
      | inr from ↦ go from (place_at places i) refl (each i from lt)
    ]
      where
        go : base ≤ i → (w : Place) → place_at places i ≡ w → IsPlaceOf b a n p known i w → accepts_at n d (state_of w) ≡ meaning a b p i d
        go from (Old s) e is =
            let left = (point_at p.points.items i).left in
            ap (accepts n d) is.1 ∙ keeps a n lefts_closed extends d left (all.are.whole.points i lt).left ∙ old_means a b serve (point_at p.points.items i) d is.0
        go from (New s) e is = new s from e is.0
        go from Nowhere e is = sym (nothing_there i lt (none i lt is) d)

    through : (x : Bool) (words : TextClass) (t : List ℕ) (d : Document) (o : Option State) → x ≡ accepts_at n d o
        → text_passes_to (λ m. class_has m.words t && accepts n d m.rest) words o ≡ (class_has words t && x)
    through x words t d None e = sym (and_false (class_has words t)) ∙ ap (λ w. class_has words t && w) (sym e)
    through x words t d (Some s) e = ap (λ w. class_has words t && w) (sym e)

    between : (x y : Bool) (class : LabelClass) (l : List ℕ) (c d : Document) (o r : Option State) → x ≡ accepts_at n c o → y ≡ accepts_at n d r
        → passes_to (λ m. class_has m.class l && (accepts n c m.content && accepts n d m.rest)) class o r ≡ (class_has class l && (x && y))
    between x y class l c d None r e f = sym (and_false (class_has class l)) ∙ ap (λ w. class_has class l && (w && y)) (sym e)
    between x y class l c d (Some s) None e f =
        sym (and_false (class_has class l)) ∙ ap (λ w. class_has class l && w) (sym (and_false x)) ∙ ap (λ w. class_has class l && (x && w)) (sym f)
    between x y class l c d (Some s) (Some u) e f = ap (λ w. class_has class l && (w && accepts n d u)) (sym e) ∙ ap (λ w. class_has class l && (x && w)) (sym f)

    -- the state at the place of a point accepts what the point says
    pub stands : (d : Document) (i : ℕ) → i < length p.points.items → accepts_at n d (state_of (place_at places i)) ≡ meaning a b p i d
    stands empty i lt = at_place empty i lt (λ s from e yet. (done i s from lt e).last ∙ all.are.whole.last i lt ∙ ap (λ w. w || meaning a b p i empty) yet)
    stands (text t d) i lt = at_place (text t d) i lt
        (λ s from e yet.
        (done i s from lt e).texts (λ m. class_has m.words t && accepts n d m.rest)
        ∙ any_agree (TextBelow (length p.points.items)) (text_passes_there (λ m. class_has m.words t && accepts n d m.rest) places) (text_means a b p (record { characters = t; rest = d }))
        (moves_at p.made (state_at i)).texts (texts_within i lt)
        (λ m below. through (meaning a b p m.rest.number d) m.words t d (state_of (place_at places m.rest.number)) (sym (stands d m.rest.number below)))
        ∙ texts_all i lt yet (record { characters = t; rest = d }))
    stands (element l c d) i lt = at_place (element l c d) i lt
        (λ s from e yet.
        (done i s from lt e).labels (λ m. class_has m.class l && (accepts n c m.content && accepts n d m.rest))
        ∙ any_agree (MoveBelow (length p.points.items)) (passes_there (λ m. class_has m.class l && (accepts n c m.content && accepts n d m.rest)) places)
        (label_means a b p (record { label = l; content = c; rest = d })) (moves_at p.made (state_at i)).labels (labels_within i lt)
        (λ m below. between (meaning a b p m.content.number c) (meaning a b p m.rest.number d) m.class l c d (state_of (place_at places m.content.number)) (state_of (place_at places m.rest.number))
        (sym (stands c m.content.number below.0)) (sym (stands d m.rest.number below.1)))
        ∙ labels_all i lt yet (record { label = l; content = c; rest = d }))
