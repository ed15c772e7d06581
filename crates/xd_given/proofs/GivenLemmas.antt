-- What one variable is given, from the parts that are made for it.
use Rattle.std.proofs.Common.{ℕ, IfSome, ◌+◌, ◌<◌, ◌≤◌, ◌≡◌, Bool, true, false, ◌||◌, List, [], ◌∷◌, Option, Some, None, length, get_or, map, refl, sym, ap, ◌∙◌, subst, arith}
use Rattle.std.specs.List.{All, list_any}
use Rattle.std.proofs.lemmas.List.{get_or_default}
use Rattle.std.proofs.lemmas.List.Elements.{All-map}
use Rattle.xd_doc.specs.Document.{Document}
use Rattle.xd_doc.specs.Stored.{document_at}
use Rattle.xd_auto.specs.declared.auto.State.{State}
use Rattle.xd_auto.specs.Automaton.{Automaton, Extends, IsClosed, IsState, LeadsBelow, accepts, moves_at}
use Rattle.xd_auto.proofs.Closed.{moves_at-closed}
use Rattle.xd_auto.proofs.ExtendsLemmas.{keeps}
use Rattle.xd_auto.specs.Traces.{KeepsTogether, Owned}
use Rattle.xd_least.specs.Least.{Knows, known_of}
use Rattle.xd_least.specs.declared.document.LeastDocument.{LeastDocument}
use Rattle.xd_empty.specs.Parts.{is_marked}
use Rattle.xd_points.specs.declared.patterns.PatternStates.{PatternStates}
use Rattle.xd_points.specs.declared.table.PointTable.{PointTable}
use Rattle.xd_points.specs.Meaning.{ServePoints}
use Rattle.xd_points.specs.Placing.{accepts_at}
use Rattle.xd_points.specs.Tables.{IsTableOf, left_of, pattern_of, place_of, point_count, point_means, points_of, takes_alone}
use Rattle.xd_given.specs.Blocks.{AreBlocks, AreFilled, ArePlaces, is_tail, state_or, there}
use Rattle.xd_given.specs.Given.{IsSharedAlone}
use Rattle.xd_given.specs.Known.{KnowsLefts}
use Rattle.xd_given.specs.Outline.{IsDrawing, IsOutline, leaf_free}
use Rattle.xd_given.specs.Owning.{LeavesOutAlike, point_moves}
use Rattle.xd_given.specs.Traced.{AcceptsGivenAt}
use Rattle.xd_given.proofs.BlockLaw.{given_law}
use Rattle.xd_given.proofs.FreeLaw.{leaf_none, leaf_some}
use Rattle.xd_given.proofs.StayLemmas.{means_still}
use Rattle.xd_given.proofs.Elements.{all_states}

any_of_map : {X Y : Type 0} (h : X → Y) (f : Y → Bool) (xs : List X) → list_any f (map h xs) ≡ list_any (λ x. f (h x)) xs
any_of_map h f [] = refl
any_of_map h f (x ∷ xs) = ap (λ w. f (h x) || w) (any_of_map h f xs)

-- the lefts of points are states of the automaton
pub left_state : (a : Automaton) (p : PatternStates) (t : PointTable) (s : State) → IsTableOf a p t → s.number < point_count t → IsState a (left_of t s)
left_state a p t s is lt = (is.expanded.whole.points s.number lt).left

-- places, one by one
pub places_belong : (a : Automaton) (p : PatternStates) (t : PointTable) (places : List State) → ArePlaces a p t places → All (IsState a) places
places_belong a p t places h i d lt =
    let s : State = record { number = i } in
    subst (IsState a) (get_or_default places i (record { number = 0 }) d lt) (h.belong s (omega (arith, lt, h.count)))

pub each_place : (a new : Automaton) (p : PatternStates) (t : PointTable) (places : List State) (nothing : State) → IsTableOf a p t → IsClosed a → Extends a new → IsState new nothing
    → ((d : Document) → accepts new d nothing ≡ false) → length places ≡ point_count t
    → ((x : ℕ) (d : State) → x < point_count t → get_or places x d ≡ state_or nothing (place_of t (record { number = x }))) → ArePlaces new p t places
each_place a new p t places nothing is closed more belongs none count each = record {
  count = count;
  belong = λ s lt. subst (IsState new) (sym (each s.number (record { number = 0 }) lt)) (there_is (place_of t s) (is.belong s.number));
  means = λ s d lt.
      ap (accepts new d) (each s.number (record { number = 0 }) lt) ∙ same d (place_of t s) (is.belong s.number) ∙ is.stands d s.number lt
      ∙ sym (means_still a new p t s d closed more is lt);
}
  where
    there_is : (o : Option State) → IfSome o (IsState a) → IsState new (state_or nothing o)
    there_is None h = belongs
    there_is (Some q) h = more.states q h

    same : (d : Document) (o : Option State) → IfSome o (IsState a) → accepts new d (state_or nothing o) ≡ accepts_at a d o
    same d None h = none d
    same d (Some q) h = keeps a new closed more d q h

pub blocks_belong : (a : Automaton) (p : PatternStates) (t : PointTable) (b : Owned) (base : ℕ) (blocks : List State) → base + point_count t ≤ length a
    → ((s : State) → s.number < point_count t → IsState a (left_of t s)) → AreBlocks p t b base blocks → All (IsState a) blocks
blocks_belong a p t b base blocks room lefts h i d lt =
    let s : State = record { number = i } in
    let here : i < point_count t = omega (arith, lt, h.count) in
    subst (IsState a) (get_or_default blocks i (record { number = 0 }) d lt) (go s here (is_tail p t b s) refl)
  where
    go : (s : State) → s.number < point_count t → (v : Bool) → is_tail p t b s ≡ v → IsState a (there blocks s)
    go s here true e = subst (IsState a) (sym (h.tail s here e)) (lefts s here)
    go s here false e = subst (IsState a) (sym (h.other s here e)) (omega arith)

-- a drawing of the points
module _ (a : Automaton) (p : PatternStates) (t : PointTable) (is : IsTableOf a p t) (drawing : Automaton) (drawn : IsDrawing p t drawing) where
  pub drawn_count : length drawing ≡ point_count t
  drawn_count = omega (arith, drawn.sized, is.expanded.whole.count)

  pub drawn_leads : IsClosed drawing → (s : State) → s.number < point_count t → LeadsBelow (point_count t) (moves_at drawing s)
  drawn_leads closed s lt = subst (λ n. LeadsBelow n (moves_at drawing s)) drawn_count (moves_at-closed drawing s closed (omega (arith, lt, drawn_count)))

  pub ahead_points : (b : Owned) (leaf : State → Bool) (start : State) (free : State → Bool) (ahead : List State) → IsOutline p t b leaf drawing start free ahead → All (λ s. s.number < point_count t) ahead
  ahead_points b leaf start free ahead w i d lt = let here = all_states drawing ahead w.searched.states i d lt in omega (arith, here, drawn_count)

-- the state that accepts what those of the points ahead do
pub given_here : (a mid new : Automaton) (p : PatternStates) (t : PointTable) (b : Owned) (known : List (Option LeastDocument)) (start : State) (drawing : Automaton) (free : List Bool) (ahead places blocks states : List State) (first : State)
    → IsTableOf a p t → ServePoints a p → LeavesOutAlike p b → KnowsLefts a t known → start.number < point_count t → KeepsTogether p.auto b (pattern_of t start)
    → IsDrawing p t drawing → IsOutline p t b (leaf_free a t b known) drawing start (is_marked free) ahead → ArePlaces a p t places → AreBlocks p t b (length a) blocks → IsClosed a → Extends a mid
    → AreFilled (point_moves t b) drawing places blocks (is_marked free) (length a) (point_count t) mid → states ≡ map (there blocks) ahead
    → ((d : Document) → accepts new d first ≡ list_any (accepts mid d) states) → AcceptsGivenAt a p t b start new first
given_here a mid new p t b known start drawing free ahead places blocks states first is serve alike knows begins together drawn w at are closed more filled states_are united =
    given_law a p t b is serve alike (leaf_free a t b known) (leaf_some a p t b is serve alike known knows.documents knows.knows knows.lefts) (leaf_none a p t b is serve alike known knows.documents knows.knows knows.lefts)
    start begins drawing drawn (is_marked free) ahead w places blocks (length a) mid
    (λ s d lt. keeps a mid closed more d (there places s) (at.belong s lt) ∙ at.means s d lt)
    (λ s d lt. keeps a mid closed more d (left_of t s) (left_state a p t s is lt))
    are filled together new first
    (λ d. united d ∙ ap (λ (ss : List State). list_any (accepts mid d) ss) states_are ∙ any_of_map (there blocks) (accepts mid d) ahead)

-- the blocks' states of points ahead belong to the automaton
pub states_belong : (a : Automaton) (ahead blocks states : List State) → states ≡ map (there blocks) ahead → All (λ s. s.number < length blocks) ahead → All (IsState a) blocks → All (IsState a) states
states_belong a ahead blocks states is within belong =
    subst (λ (xs : List State). All (IsState a) xs) (sym is) (All-map (IsState a) (there blocks) ahead (λ i d lt. belong (get_or ahead i d).number (record { number = 0 }) (within i d lt)))

-- what is known of a place shares a document
pub shared : (a now : Automaton) (p : PatternStates) (t : PointTable) (start place left pattern : State) (rights : List State) (known : List (Option LeastDocument)) (ds : List Document) (f : LeastDocument)
    → IsTableOf now p t → IsState (points_of t) start → ((d : Document) → point_means now p t start d ≡ takes_alone a p left pattern rights d) → place_of t start ≡ Some place
    → Knows now ds known → known_of known place ≡ Some f → IsSharedAlone a p left pattern rights
shared a now p t start place left pattern rights known ds f is belongs means there_is knows found =
    let l = knows.least place f found in
    let d : Document = document_at ds f.seq in
    record {
      document = d;
      proper = l.belongs.proper;
      alone = sym (means d) ∙ sym (is.stands d start.number (omega (arith, belongs, is.expanded.whole.count))) ∙ ap (accepts_at now d) there_is ∙ l.accepted;
    }
