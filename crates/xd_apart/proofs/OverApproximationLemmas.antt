-- What over-approximations accept, and how they are made closer.
use Rattle.std.proofs.Common.{◌≡◌, ℕ, ◌<◌, ◌≤◌, Bool, true, false, ◌&&◌, ◌⊎◌, inl, inr, Option, Some, None, List, [], ◌∷◌, ◌++◌, length, refl, ap, sym, subst, ◌∙◌, arith, length-append, get_or-set_same, get_or-set_other}
use Rattle.std.specs.Prelude.{not}
use Rattle.std.specs.List.{AllByRecursion, Contains, list_any}
use Rattle.std.specs.Option.{IfSome}
use Rattle.std.proofs.lemmas.Bool.{and_from, cases_eq}
use Rattle.std.proofs.lemmas.List.{length-set}
use Rattle.std.proofs.lemmas.List.Elements.{All-contains}
use Rattle.std.proofs.lemmas.List.Folds.{Any-from_list_any, list_any_at}
use Rattle.xd_doc.specs.Document.{Document, empty, text, element}
use Rattle.xd_doc.specs.Classes.{class_has}
use Rattle.xd_doc.proofs.Bools.{and_true, and_parts}
use Rattle.xd_auto.specs.declared.auto.State.{State}
use Rattle.xd_auto.specs.declared.auto.LabelMove.{LabelMove}
use Rattle.xd_auto.specs.declared.auto.TextMove.{TextMove}
use Rattle.xd_auto.specs.declared.leading.Ends.{Ends}
use Rattle.xd_auto.specs.Automaton.{Automaton, IsState, LeadsBelow, StateMoves, accepts, has_label, has_text, moves_at, no_moves, state_number, with_moves}
use Rattle.xd_auto.specs.Leading.{label_ends, text_ends}
use Rattle.xd_boole.specs.Meaning.{PointView, any_accepts, is_last_in, less, means}
use Rattle.xd_boole.specs.Points.{IsPointOf, no_point, point_at, state_at}
use Rattle.xd_boole.proofs.ArePointsLemmas.{at_end, at_front, place_cases}
use Rattle.xd_apart.specs.OverApproximation.{AreBelow, ApproximatesPoints, AreTaking, Divides, EndsBelow, First, HasMove, IsKind, IsLikeInside, ApproximatesPoint, KeepsPoints, LeadOver, Approximates, MeantAt, Narrows, NarrowsEnds, NarrowsInside, Takes, behind_to, copied, element_first, ends_accept, in_both, in_place, inside_accepts, inside_to, label_kind, text_first, text_kind}
use Rattle.xd_apart.proofs.ApartLemmas.{both_true}

-- one of the list passes a test, so some does
any_of : {X : Type 0} (p : X → Bool) (xs : List X) (x : X) → Contains xs x → p x ≡ true → list_any p xs ≡ true
any_of p xs x c e = list_any_at p xs c.0 x c.1 (ap p c.2 ∙ e)

none_at : {X : Type 0} (p : X → Bool) (xs : List X) (x : X) → Contains xs x → list_any p xs ≡ false → p x ≡ false
none_at p xs x c none = go (p x) refl
  where
    go : (t : Bool) → p x ≡ t → t ≡ false
    go true e = (let some : true ≡ false = sym (any_of p xs x c e) ∙ none in absurd (cc))
    go false e = refl

-- an over-approximation accepts at least what its points mean
module _ (a b over : Automaton) (points : List PointView) (approximation : ApproximatesPoints a b over points) where
  pub approximation_accepts : (d : Document) (s : State) → state_number s < length points → means a b (point_at points (state_number s)) d ≡ true → accepts over d s ≡ true
  approximation_accepts empty s lt m = (approximation (state_number s) lt).last m
  approximation_accepts (text t r) s lt m =
      let w = (approximation (state_number s) lt).texts (record { name = t; inside = empty; behind = r }) m in
      any_of (λ (v : TextMove). class_has v.words t && accepts over r v.rest) (moves_at over s).texts w.0 w.1
      (and_from (class_has w.0.words t) (accepts over r w.0.rest) w.2.name (approximation_accepts r w.0.rest w.2.ends.0.there w.2.ends.0.meant))
  approximation_accepts (element l c r) s lt m =
      let w = (approximation (state_number s) lt).elements (record { name = l; inside = c; behind = r }) m in
      any_of (λ (v : LabelMove). class_has v.class l && (accepts over c v.content && accepts over r v.rest)) (moves_at over s).labels w.0 w.1
      (and_from (class_has w.0.class l) (accepts over c w.0.content && accepts over r w.0.rest) w.2.name
      (and_from (accepts over c w.0.content) (accepts over r w.0.rest) (approximation_accepts c w.0.content w.2.ends.1.there w.2.ends.1.meant) (approximation_accepts r w.0.rest w.2.ends.0.there w.2.ends.0.meant)))

lead_over : (R Q : State → Document → Type 0) → ((s : State) (d : Document) → R s d → Q s d) → (q : First) (e : Ends) → LeadOver R q e → LeadOver Q q e
lead_over R Q f q e h = (f e.behind q.behind h.0, inside e.inside h.1)
  where
    inside : (o : Option State) → IfSome o (λ s. R s q.inside) → IfSome o (λ s. Q s q.inside)
    inside None h = h
    inside (Some s) h = f s q.inside h

-- moves to old points take what they took
module _ (a b : Automaton) (points more : List PointView) (k : KeepsPoints points more) where
  kept_meant : (s : State) (d : Document) → MeantAt a b points s d → MeantAt a b more s d
  kept_meant s d h = record { there = omega (arith, k.longer, h.there); meant = ap (λ (p : PointView). means a b p d) (k.same (state_number s) h.there) ∙ h.meant }

  kept_taking : {M : Type 0} (has : M → List ℕ → Bool) (ends_of : M → Ends) (document : First → Document) (p : PointView) (moves : List M) → AreTaking has ends_of document a b points p moves → AreTaking has ends_of document a b more p moves
  kept_taking has ends_of document p moves h = λ q m.
      let w = h q m in (
        w.0,
        w.1,
        record { name = w.2.name; ends = lead_over (MeantAt a b points) (MeantAt a b more) kept_meant q (ends_of w.0) w.2.ends },
      )

  -- so they stay an over-approximation
  pub kept_approximation : (p : PointView) (moves : StateMoves) → ApproximatesPoint a b points p moves → ApproximatesPoint a b more p moves
  kept_approximation p moves h = record {
    last = h.last;
    elements = kept_taking has_label label_ends element_first p moves.labels h.elements;
    texts = kept_taking has_text text_ends text_first p moves.texts h.texts;
  }

-- a state with the moves of a left accepts at least what this left without any rights does
module _ (a b : Automaton) (points : List PointView) (left : State)
    (closed : LeadsBelow (length a) (moves_at a left)) (lefts : length a ≤ length points) (whole : (s : State) → IsState a s → point_at points (state_number s) ≡ less s []) where
  whole_meant : (s : State) (d : Document) → IsState a s → accepts a d s ≡ true → MeantAt a b points s d
  whole_meant s d lt h = record { there = omega (arith, lt, lefts); meant = ap (λ (p : PointView). means a b p d) (whole s lt) ∙ and_true (accepts a d s) ∙ h }

  ends_meant : (q : First) (e : Ends) → EndsBelow (length a) e → ends_accept a q e ≡ true → LeadOver (MeantAt a b points) q e
  ends_meant q e below h = let both = and_parts (inside_accepts a q.inside e.inside) (accepts a q.behind e.behind) h in (whole_meant e.behind q.behind below.0 both.1, inside e.inside below.1 both.0)
    where
      inside : (o : Option State) → IfSome o (IsState a) → inside_accepts a q.inside o ≡ true → IfSome o (λ s. MeantAt a b points s q.inside)
      inside None lt h = tt
      inside (Some s) lt h = whole_meant s q.inside lt h

  copied_taking : {M : Type 0} {has : M → List ℕ → Bool} {ends_of : M → Ends} {moves_in : StateMoves → List M} {exchanged : StateMoves → List M → StateMoves} {document : First → Document} → IsKind has ends_of moves_in exchanged document
      → AreBelow ends_of (length a) (moves_in (moves_at a left)) → (rights : List State) → AreTaking has ends_of document a b points (less left rights) (moves_in (moves_at a left))
  copied_taking {M} {has} {ends_of} {moves_in} {exchanged} {document} kind below rights = λ q m.
      let moves = moves_in (moves_at a left) in
      let taken = (both_true (accepts a (document q) left) (any_accepts b rights (document q)) m).0 in
      let t = Any-from_list_any (λ (v : M). has v q.name && ends_accept a q (ends_of v)) moves (sym (kind.accepted a q left) ∙ taken) in
      let parts = and_parts (has t.1 q.name) (ends_accept a q (ends_of t.1)) t.4 in (
        t.1,
        (t.0, t.2, t.3),
        record { name = parts.0; ends = ends_meant q (ends_of t.1) (All-contains (λ v. EndsBelow (length a) (ends_of v)) moves t.1 below (t.0, t.2, t.3)) parts.1 },
      )

  pub copied_approximation : (rights : List State) → ApproximatesPoint a b points (less left rights) (copied ((moves_at a left).last && not (list_any (is_last_in b) rights)) (moves_at a left))
  copied_approximation rights = record {
    last = λ m. m;
    elements = copied_taking label_kind (λ i m there. (let both = closed.labels i m there in (both.1, both.0))) rights;
    texts = copied_taking text_kind (λ i m there. (closed.texts i m there, tt)) rights;
  }

sides : (x y : Bool) → (x && y) ≡ false → (x ≡ false) ⊎ (y ≡ false)
sides true y e = inr e
sides false y e = inl refl

two : (x y : Bool) → (x && y) ≡ false → x ≡ true → y ≡ false
two true y e h = e
two false y e h = absurd (cc)

narrowed : (a b : Automaton) (points : List PointView) (s t added : State) (d : Document) → Narrows a b points s t added → MeantAt a b points s d → accepts b d added ≡ false → MeantAt a b points t d
narrowed a b points s t added d n m refused = record { there = n.there; meant = n.meant d ∙ rw (m.meant, refused) refl }

narrowed_inside : (a b : Automaton) (points : List PointView) (inside by added : Option State) (d : Document) → NarrowsInside a b points inside by added → IsLikeInside inside added → IfSome inside (λ s. MeantAt a b points s d) → inside_accepts b d added ≡ false
    → (t : State) × (by ≡ Some t) × MeantAt a b points t d
narrowed_inside a b points (Some s) by (Some r) d n alike m refused = (n.0, n.1, narrowed a b points s n.0 r d n.2 m refused)
narrowed_inside a b points (Some s) by None d n alike m refused = absurd (cc)
narrowed_inside a b points None by None d n alike m refused = absurd (cc)
narrowed_inside a b points None by (Some r) d n alike m refused = absurd alike

-- the law of division: what a point means and a move took, one of the moves that divide it takes
module _ {M : Type 0} {has : M → List ℕ → Bool} {ends_of : M → Ends} {moves_in : StateMoves → List M} {exchanged : StateMoves → List M → StateMoves} {document : First → Document} (kind : IsKind has ends_of moves_in exchanged document)
    (a b : Automaton) (points : List PointView) (p : PointView) (r : State) (moves : StateMoves) (divided : List M) (w m : M) (by : Ends)
    (right : Contains p.rights r) (move : Contains (moves_in (moves_at b r)) m) (h : Divides has ends_of w m by (moves_in moves) divided) (narrows : NarrowsEnds a b points (ends_of w) by (ends_of m)) where
  -- what the point means is refused by each move of each right: inside, or behind
  refused : (q : First) → means a b p (document q) ≡ true → has m q.name ≡ true → ends_accept b q (ends_of m) ≡ false
  refused q meant named =
      let none : any_accepts b p.rights (document q) ≡ false = (both_true (accepts a (document q) p.left) (any_accepts b p.rights (document q)) meant).1 in
      let refuses = none_at (λ s. accepts b (document q) s) p.rights r right none in
      two (has m q.name) (ends_accept b q (ends_of m)) (none_at (λ (v : M). has v q.name && ends_accept b q (ends_of v)) (moves_in (moves_at b r)) m move (sym (kind.accepted b q r) ∙ refuses)) named

  taken_by : (q : First) (e : Ends) → HasMove has ends_of divided q.name e → LeadOver (MeantAt a b points) q e → (v : M) × Contains divided v × Takes has ends_of a b points q v
  taken_by q e h over = (h.move, h.among, record { name = h.named; ends = subst (LeadOver (MeantAt a b points) q) (sym h.ends) over })

  divided_takes : (q : First) → means a b p (document q) ≡ true → Takes has ends_of a b points q w → (v : M) × Contains divided v × Takes has ends_of a b points q v
  divided_takes q meant t = go (has m q.name) refl
    where
      in_place_meant : (s : State) (o : Option State) → MeantAt a b points s q.inside → IfSome (in_place s o) (λ u. MeantAt a b points u q.inside)
      in_place_meant s None k = tt
      in_place_meant s (Some u) k = k

      on_a_side : in_both has w m q.name ≡ true → (inside_accepts b q.inside (ends_of m).inside ≡ false) ⊎ (accepts b q.behind (ends_of m).behind ≡ false) → (v : M) × Contains divided v × Takes has ends_of a b points q v
      on_a_side both (inl off) =
          let n = narrowed_inside a b points (ends_of w).inside by.inside (ends_of m).inside q.inside narrows.inside (kind.alike w m) t.ends.1 off in
          let side = subst (λ o. IfSome o (λ s. (name : List ℕ) → in_both has w m name ≡ true → HasMove has ends_of divided name (inside_to s (ends_of w)))) n.1 h.inside in
          taken_by q (inside_to n.0 (ends_of w)) (side q.name both) (t.ends.0, in_place_meant n.0 (ends_of w).inside n.2)
      on_a_side both (inr off) = taken_by q (behind_to by.behind (ends_of w)) (h.behind q.name both) (narrowed a b points (ends_of w).behind by.behind (ends_of m).behind q.behind narrows.behind t.ends.0 off, t.ends.1)

      go : (named : Bool) → has m q.name ≡ named → (v : M) × Contains divided v × Takes has ends_of a b points q v
      go true e = on_a_side (and_from (has w q.name) (has m q.name) t.name e) (sides (inside_accepts b q.inside (ends_of m).inside) (accepts b q.behind (ends_of m).behind) (refused q meant e))
      go false e = taken_by q (ends_of w) (h.outside q.name (rw (t.name, e) refl)) t.ends

  pub divided_approximation : ApproximatesPoint a b points p moves → ApproximatesPoint a b points p (exchanged moves divided)
  divided_approximation approximation = kind.approximation a b points p moves divided approximation (λ q meant. let t = kind.taking a b points p moves approximation q meant in again q meant t.0 t.2 (h.others t.0 t.1))
    where
      again : (q : First) → means a b p (document q) ≡ true → (v : M) → Takes has ends_of a b points q v → Contains divided v ⊎ (v ≡ w) → (x : M) × Contains divided x × Takes has ends_of a b points q x
      again q meant v t (inl c) = (v, c, t)
      again q meant v t (inr e) = divided_takes q meant (subst (Takes has ends_of a b points q) e t)

-- a point was added, with a state that has the moves of its left
module _ (a b over after : Automaton) (points more : List PointView) (left : State) (rights : List State) (h : Approximates a b over points) (left_there : IsState a left) (rights_there : AllByRecursion (IsState b) rights)
    (state_added : after ≡ over ++ copied ((moves_at a left).last && not (list_any (is_last_in b) rights)) (moves_at a left) ∷ []) (point_added : more ≡ points ++ less left rights ∷ []) where
  pub added_points : KeepsPoints points more
  added_points = record {
    longer = omega (arith, ap length point_added, length-append points (less left rights ∷ []));
    same = λ i lt. at_front points more (less left rights) no_point i point_added lt;
  }

  pub added_moves : (i : ℕ) → i < length points → moves_at after (state_at i) ≡ moves_at over (state_at i)
  added_moves i lt = at_front over after (copied ((moves_at a left).last && not (list_any (is_last_in b) rights)) (moves_at a left)) (no_moves false) i state_added (omega (arith, h.count))

  added_own : (s : State) → IsState a s → moves_at after s ≡ moves_at a s
  added_own s lt = added_moves (state_number s) (omega (arith, h.lefts)) ∙ h.own s lt

  added_whole : (s : State) → IsState a s → point_at more (state_number s) ≡ less s []
  added_whole s lt = added_points.same (state_number s) (omega (arith, h.lefts)) ∙ h.whole s lt

  pub added_approximates : Approximates a b after more
  added_approximates = record {
    count = omega (
      arith,
      h.count,
      ap length state_added,
      ap length point_added,
      length-append points (less left rights ∷ []),
      length-append over (copied ((moves_at a left).last && not (list_any (is_last_in b) rights)) (moves_at a left) ∷ []),
    );
    lefts = omega (arith, h.lefts, added_points.longer);
    closed = h.closed;
    own = added_own;
    whole = added_whole;
    there = λ i lt. elim (place_cases points more (less left rights) i point_added lt) [
      | inl old ↦ subst (IsPointOf a b) (sym (added_points.same i old)) (h.there i old)
      | inr new ↦ subst (IsPointOf a b) (sym (at_end points more (less left rights) no_point i point_added new)) (record { left = left_there; rights = rights_there })
    ];
    approximation = λ i lt. elim (place_cases points more (less left rights) i point_added lt) [
      | inl old ↦ subst (λ p. ApproximatesPoint a b more p (moves_at after (state_at i))) (sym (added_points.same i old))
          (subst (ApproximatesPoint a b more (point_at points i)) (sym (added_moves i old)) (kept_approximation a b points more added_points (point_at points i) (moves_at over (state_at i)) (h.approximation i old)))
      | inr new ↦ subst (λ p. ApproximatesPoint a b more p (moves_at after (state_at i))) (sym (at_end points more (less left rights) no_point i point_added new))
          (subst (ApproximatesPoint a b more (less left rights)) (sym (at_end over after (copied ((moves_at a left).last && not (list_any (is_last_in b) rights)) (moves_at a left)) (no_moves false) i state_added (omega (arith, new, h.count))))
          (copied_approximation a b more left (h.closed left left_there) (omega (arith, h.lefts, added_points.longer)) added_whole rights))
    ];
  }

-- the moves of one state, which is none of the lefts, were exchanged
module _ (a b over after : Automaton) (points : List PointView) (s : State) (moves : StateMoves) (h : Approximates a b over points) (new : length a ≤ state_number s) (there : state_number s < length points)
    (is : after ≡ with_moves over s moves) where
  exchanged_same : (i : ℕ) → (i ≡ state_number s → ⊥) → moves_at after (state_at i) ≡ moves_at over (state_at i)
  exchanged_same i ne = ap (λ (v : Automaton). moves_at v (state_at i)) is ∙ get_or-set_other over (state_number s) i moves (no_moves false) ne

  exchanged_at : moves_at after s ≡ moves
  exchanged_at = ap (λ (v : Automaton). moves_at v s) is ∙ get_or-set_same over (state_number s) moves (no_moves false) (omega (arith, h.count, there))

  pub exchanged_approximates : ApproximatesPoint a b points (point_at points (state_number s)) moves → Approximates a b after points
  exchanged_approximates approximation = record {
    count = ap length is ∙ length-set over (state_number s) moves ∙ h.count;
    lefts = h.lefts;
    closed = h.closed;
    own = λ t lt. exchanged_same (state_number t) (λ e. absurd (omega (arith, e, lt, new))) ∙ h.own t lt;
    whole = h.whole;
    there = h.there;
    approximation = λ i lt. elim (cases_eq i (state_number s)) [
      | inl e ↦ subst (λ j. ApproximatesPoint a b points (point_at points j) (moves_at after (state_at j))) (sym e) (subst (ApproximatesPoint a b points (point_at points (state_number s))) (sym exchanged_at) approximation)
      | inr ne ↦ subst (ApproximatesPoint a b points (point_at points i)) (sym (exchanged_same i ne)) (h.approximation i lt)
    ];
  }
