-- How over-approximations begin, get points, and are divided.
use Rattle.std.proofs.Common.{◌≡◌, ℕ, ◌<◌, ◌≤◌, Bool, true, false, ◌&&◌, inl, inr, Some, List, [], ◌∷◌, ◌++◌, get_or, length, length-append, take, refl, ap, sym, subst, ◌∙◌, arith}
use Rattle.std.specs.Prelude.{not}
use Rattle.std.specs.List.{AllByRecursion, Contains, list_any}
use Rattle.std.proofs.lemmas.Bool.{cases_lt}
use Rattle.std.proofs.lemmas.List.{get_or_default, length-set, length-take-le, take-append-le, take-set-le}
use Rattle.std.specs.HashMap.{HashMap}
use Rattle.std.specs.Cmp.Lexicographic.{pointwise}
use Rattle.std.specs.Prelude.{cond, nat_eq}
use Rattle.std.proofs.lemmas.Slice.Eq.{bytes_eq-Decides}
use Rattle.xd_doc.proofs.Bools.{and_with_true, and_not_or}
use Rattle.xd_doc.specs.Document.{Document}
use Rattle.xd_auto.specs.declared.auto.State.{State}
use Rattle.xd_auto.specs.declared.leading.Ends.{Ends}
use Rattle.xd_auto.specs.Automaton.{Automaton, IsClosed, IsState, StateMoves, accepts, moves_at, state_number, with_moves}
use Rattle.xd_auto.proofs.Closed.{moves_at-closed}
use Rattle.xd_boole.specs.Meaning.{PointView, any_accepts, is_last_in, less, means, with_states}
use Rattle.xd_auto.specs.Keys.{found_at}
use Rattle.xd_boole.specs.Points.{IsPointOf, no_point, point_at, point_key, state_at}
use Rattle.xd_boole.proofs.ArePointsLemmas.{at_end, same_point}
use Rattle.xd_boole.proofs.AnyAcceptsLemmas.{set_accepts, with_states_all, any_accepts_push}
use Rattle.xd_apart.specs.declared.over_approximation.OverApproximation.{OverApproximation}
use Rattle.xd_apart.specs.OverApproximation.{Divides, First, Grows, IsCloser, IsKind, ApproximatesPoint, IsOverApproximation, KeepsPoints, Approximates, Narrows, NarrowsEnds, StandsFor, copied, left_states}
use Rattle.xd_apart.proofs.OverApproximationLemmas.{added_approximates, added_points, copied_approximation, divided_approximation, exchanged_approximates}

with_no_rights : (moves : StateMoves) → moves ≡ copied (moves.last && true) moves
with_no_rights moves = ap (λ (last : Bool). copied last moves) (and_with_true moves.last)

-- an automaton over itself
module _ (a b : Automaton) (points : List PointView) (closed : IsClosed a) (count : length points ≡ length a) (each : (i : ℕ) → i < length a → point_at points i ≡ less (state_at i) []) where
  start_whole : (s : State) → IsState a s → point_at points (state_number s) ≡ less s []
  start_whole s lt = each (state_number s) lt

  pub start_approximates : Approximates a b a points
  start_approximates = record {
    count = sym count;
    lefts = omega (arith, count);
    closed = λ s lt. moves_at-closed a s closed lt;
    own = λ s lt. refl;
    whole = start_whole;
    there = λ i lt. subst (IsPointOf a b) (sym (each i (omega (arith, lt, count)))) (record { left = omega (arith, lt, count); rights = tt });
    approximation = λ i lt.
        let there : IsState a (state_at i) = omega (arith, lt, count) in
        subst (λ p. ApproximatesPoint a b points p (moves_at a (state_at i))) (sym (each i there))
        (subst (ApproximatesPoint a b points (less (state_at i) [])) (sym (with_no_rights (moves_at a (state_at i)))) (copied_approximation a b points (state_at i) (moves_at-closed a (state_at i) closed there) (omega (arith, count)) start_whole []));
  }

-- an empty map leads nowhere
pub nothing_found : {S : Type 0} (m : HashMap (List ℕ) ℕ S) → m.entries ≡ [] → (key : List ℕ) (i : ℕ) → found_at m key ≡ Some i → ⊥
nothing_found m none key i at = (let bad = rw none at at in absurd (cc bad))

-- a point with one more right
pub narrows_by : (a b : Automaton) (points : List PointView) (p : PointView) (s made added : State) → StandsFor points (less p.left (with_states (p.rights ++ added ∷ []) [])) made → point_at points (state_number s) ≡ p → Narrows a b points s made added
narrows_by a b points p s made added stands is = record {
  there = stands.there;
  meant = λ d.
      ap (λ (q : PointView). means a b q d) stands.is
      ∙ ap (λ (x : Bool). accepts a d p.left && not x) (set_accepts b (p.rights ++ added ∷ []) d ∙ any_accepts_push b p.rights added d)
      ∙ and_not_or (accepts a d p.left) (any_accepts b p.rights d) (accepts b d added)
      ∙ ap (λ (q : PointView). means a b q d && not (accepts b d added)) (sym is);
}

-- a state whose point has a right is none of the lefts
pub right_is_new : (a b over : Automaton) (points : List PointView) (s r : State) → Approximates a b over points → Contains (point_at points (state_number s)).rights r → length a ≤ state_number s
right_is_new a b over points s r h c = elim (cases_lt (state_number s) (length a)) [
  | inl lt ↦ (let none = subst (λ (p : PointView). Contains p.rights r) (h.whole s lt) c in absurd (omega (arith, none.1)))
  | inr le ↦ le
]

-- a point at a place, as code reads it
pub point_is : (points : List PointView) (i n : ℕ) (p : PointView) → n ≡ i → i < length points → p ≡ get_or points n p → p ≡ point_at points i
point_is points i n p e lt at = at ∙ ap (λ (k : ℕ). get_or points k p) e ∙ get_or_default points i p no_point lt

pub left_count : (l : OverApproximation) → l.lefts ≤ length l.over → length (left_states l) ≡ l.lefts
left_count l within = length-take-le l.lefts l.over within

-- a point was added, with a state that has the moves of its left
module _ (b : Automaton) (l m : OverApproximation) (left : State) (rights : List State) (number : ℕ) (h : IsOverApproximation b l) (there : IsState (left_states l) left) (rights_there : AllByRecursion (IsState b) rights) (lefts : m.lefts ≡ l.lefts)
    (over : m.over ≡ l.over ++ copied ((moves_at l.over left).last && not (list_any (is_last_in b) rights)) (moves_at l.over left) ∷ []) (points : m.points.items ≡ l.points.items ++ less left rights ∷ []) (is_number : number ≡ length l.points.items)
    (put : (q : List ℕ) → found_at m.numbers q ≡ cond (pointwise nat_eq (point_key (less left rights)) q) (Some number) (found_at l.numbers q)) where
  same_lefts : left_states m ≡ left_states l
  same_lefts = ap (λ (n : ℕ). take n m.over) lefts ∙ ap (take l.lefts) over ∙ take-append-le l.lefts l.over (copied ((moves_at l.over left).last && not (list_any (is_last_in b) rights)) (moves_at l.over left) ∷ []) h.within

  over_left : m.over ≡ l.over ++ copied ((moves_at (left_states l) left).last && not (list_any (is_last_in b) rights)) (moves_at (left_states l) left) ∷ []
  over_left = over ∙ ap (λ (v : StateMoves). l.over ++ copied (v.last && not (list_any (is_last_in b) rights)) v ∷ []) (h.approximates.own left there)

  added_only : (key : List ℕ) (i : ℕ) → found_at m.numbers key ≡ Some i → (i < length m.points.items) × (point_key (point_at m.points.items i) ≡ key)
  added_only key i at = go (pointwise nat_eq (point_key (less left rights)) key) refl (sym (put key) ∙ at)
    where
      keeps : KeepsPoints l.points.items m.points.items
      keeps = added_points (left_states l) b l.over m.over l.points.items m.points.items left rights h.approximates there rights_there over_left points

      go : (t : Bool) → pointwise nat_eq (point_key (less left rights)) key ≡ t → cond t (Some number) (found_at l.numbers key) ≡ Some i → (i < length m.points.items) × (point_key (point_at m.points.items i) ≡ key)
      go true same e =
          let here : number ≡ i = cc in
          let place : i ≡ length l.points.items = sym here ∙ is_number in (
            omega (arith, place, ap length points, length-append l.points.items (less left rights ∷ [])),
            ap point_key (at_end l.points.items m.points.items (less left rights) no_point i points place) ∙ (bytes_eq-Decides (point_key (less left rights)) key).0 same,
          )
      go false other e = let o = h.only key i e in (omega (arith, o.0, keeps.longer), ap point_key (keeps.same i o.0) ∙ o.1)

  pub point_approximation : IsOverApproximation b m
  point_approximation = record {
    within = omega (arith, lefts, h.within, ap length over, length-append l.over (copied ((moves_at l.over left).last && not (list_any (is_last_in b) rights)) (moves_at l.over left) ∷ []));
    approximates = subst (λ (a : Automaton). Approximates a b m.over m.points.items) (sym same_lefts) (added_approximates (left_states l) b l.over m.over l.points.items m.points.items left rights h.approximates there rights_there over_left points);
    only = added_only;
  }

-- what stands under the key of a point stands for it
pub found_stands : (b : Automaton) (l : OverApproximation) (p : PointView) (s : State) → IsOverApproximation b l → found_at l.numbers (point_key p) ≡ Some (state_number s) → StandsFor l.points.items p s
found_stands b l p s h at = let o = h.only (point_key p) (state_number s) at in record { there = o.0; is = same_point (point_at l.points.items (state_number s)) p o.1 }

all_more : (P : State → Type 0) (states : List State) (s : State) → AllByRecursion P states → P s → AllByRecursion P (states ++ s ∷ [])
all_more P [] s h k = (k, tt)
all_more P (t ∷ ts) s h k = (h.0, all_more P ts s h.1 k)

pub more_rights_there : (P : State → Type 0) (states : List State) (s : State) → AllByRecursion P states → P s → AllByRecursion P (with_states (states ++ s ∷ []) [])
more_rights_there P states s h k = with_states_all P (states ++ s ∷ []) [] (all_more P states s h k) tt

-- the lefts stay where a later state is exchanged
pub lefts_stay : (b : Automaton) (l : OverApproximation) (after : Automaton) (s : State) (moves : StateMoves) → IsOverApproximation b l → length (left_states l) ≤ state_number s → after ≡ with_moves l.over s moves → take l.lefts after ≡ left_states l
lefts_stay b l after s moves h new is = ap (take l.lefts) is ∙ take-set-le l.lefts l.over (state_number s) moves (omega (arith, new, left_count l h.within))

-- with other moves, the automaton is an over-approximation of the same
pub over_exchanged : (b : Automaton) (l : OverApproximation) (after : Automaton) (s : State) (moves : StateMoves) → IsOverApproximation b l → length (left_states l) ≤ state_number s → after ≡ with_moves l.over s moves → Approximates (left_states l) b after l.points.items → IsOverApproximation b (record l { over = after })
over_exchanged b l after s moves h new is approximates = record {
  within = omega (arith, h.within, ap length is, length-set l.over (state_number s) moves);
  approximates = subst (λ (a : Automaton). Approximates a b after l.points.items) (sym (lefts_stay b l after s moves h new is)) approximates;
  only = h.only;
}

-- a move is divided, after the points that its parts lead to
module _ {M : Type 0} {has : M → List ℕ → Bool} {ends_of : M → Ends} {moves_in : StateMoves → List M} {exchanged : StateMoves → List M → StateMoves} {document : First → Document} (kind : IsKind has ends_of moves_in exchanged document)
    (b : Automaton) (first second : OverApproximation) (after : Automaton) (s : State) (number : ℕ) (w m : M) (by : Ends) (h : IsOverApproximation b second) (one : Grows first second) (there : state_number s < length first.points.items)
    (r : State) (right : Contains (point_at first.points.items (state_number s)).rights r) (move : Contains (moves_in (moves_at b r)) m) (at : w ≡ get_or (moves_in (moves_at first.over s)) number w)
    (narrows : NarrowsEnds (left_states second) b second.points.items (ends_of w) by (ends_of m)) (divided : List M)
    (is : after ≡ with_moves second.over s (exchanged (moves_at second.over s) divided)) (divides : (x : M) → get_or (moves_in (moves_at second.over s)) number x ≡ x → Divides has ends_of x m by (moves_in (moves_at second.over s)) divided) where
  among_second : Contains (point_at second.points.items (state_number s)).rights r
  among_second = subst (λ (p : PointView). Contains p.rights r) (sym (one.points.same (state_number s) there)) right

  second_new : length (left_states second) ≤ state_number s
  second_new = right_is_new (left_states second) b second.over second.points.items s r h.approximates among_second

  second_there : state_number s < length second.points.items
  second_there = omega (arith, there, one.points.longer)

  divides_second : Divides has ends_of w m by (moves_in (moves_at second.over s)) divided
  divides_second = divides w (ap (λ (v : StateMoves). get_or (moves_in v) number w) (one.moves (state_number s) there) ∙ sym at)

  pub divided_closer : IsCloser b first (record second { over = after })
  divided_closer = record {
    approximation = over_exchanged b second after s (exchanged (moves_at second.over s) divided) h second_new is
        (exchanged_approximates (left_states second) b second.over after second.points.items s (exchanged (moves_at second.over s) divided) h.approximates second_new second_there is
        (divided_approximation kind (left_states second) b second.points.items (point_at second.points.items (state_number s)) r (moves_at second.over s) divided w m by among_second move divides_second narrows
        (h.approximates.approximation (state_number s) second_there)));
    lefts = lefts_stay b second after s (exchanged (moves_at second.over s) divided) h second_new is ∙ one.lefts;
    points = one.points;
  }
