-- On the lists of moves that lead to each state.
use Rattle.std.proofs.Common.{◌≡◌, ◌≢◌, ℕ, ◌+◌, ◌-◌, ◌<◌, ◌≤◌, List, [], ◌∷◌, ◌++◌, map, take, length, replicate, get_or, set, Some, Vec, get_or-set_same, get_or-set_other, refl, ap, sym, subst, ◌∙◌, arith, inl, inr, length-append, append_assoc}
use Rattle.std.specs.List.{Contains, slice_get}
use Rattle.std.proofs.lemmas.Bool.{cases_eq, cases_lt}
use Rattle.std.proofs.lemmas.List.{get_or-map, get_or-append_right, get_or-replicate, get_or_past, length-map, length-replicate, length-set, map-append, map-set, replicate_more, set-append_right, take_more}
use Rattle.std.proofs.lemmas.Option.{slice_get-get_or}
use Rattle.std.proofs.lemmas.List.Elements.{Contains-append_cases, Contains-append_left, Contains-push}
use Rattle.xd_doc.proofs.CopyLemmas.{none_contained}
use Rattle.xd_auto.specs.declared.auto.State.{State}
use Rattle.xd_auto.specs.declared.auto.LabelMove.{LabelMove}
use Rattle.xd_auto.specs.declared.auto.TextMove.{TextMove}
use Rattle.xd_auto.specs.Automaton.{Automaton, moves_at, state_number}
use Rattle.xd_auto.proofs.Members.{only_in}
use Rattle.xd_auto.proofs.Closed.{same_state}
use Rattle.xd_empty.specs.declared.uses.Use.{Use}
use Rattle.xd_empty.specs.declared.uses.Use.TheVariants.{Element, Text}
use Rattle.xd_empty.specs.Uses.{AddsUses, AreUses, IsNewUse, IsUse, Lists, element_parts, lists_from, parts_of, text_parts, user, uses_at}

pub uses_here : (uses : List (List Use)) (s : State) (list : List Use) → state_number s < length uses → uses_at (set uses (state_number s) list) s ≡ list
uses_here uses s list lt = get_or-set_same uses (state_number s) list [] lt

pub uses_other : (uses : List (List Use)) (s t : State) (list : List Use) → state_number t ≢ state_number s → uses_at (set uses (state_number s) list) t ≡ uses_at uses t
uses_other uses s t list ne = get_or-set_other uses (state_number s) (state_number t) list [] ne

pub length-lists : {A : Type 0} (first : ℕ) (uses : List (Vec Use A)) → length (lists_from first uses) ≡ first + length uses
length-lists {A} first uses = omega (arith, length-append (replicate {A = List Use} first []) (map (λ (list : Vec Use A). list.items) uses), length-replicate {A = List Use} first [], length-map uses (λ (list : Vec Use A). list.items))

-- a list in its place
module _ {A : Type 0} (first : ℕ) (uses : List (Vec Use A)) (place n : ℕ) (at : place ≡ n - first) (from : first ≤ n) where
  pub list_set : (new : Vec Use A) → lists_from first (set uses place new) ≡ set (lists_from first uses) n new.items
  list_set new =
      ap (λ w. replicate first [] ++ w) (map-set (λ (list : Vec Use A). list.items) uses place new)
      ∙ ap (λ k. replicate first [] ++ set (map (λ (list : Vec Use A). list.items) uses) k new.items) at
      ∙ sym (set-append_right (replicate first []) (map (λ (list : Vec Use A). list.items) uses) first n new.items (length-replicate first []) from)

  pub list_at : (old : Vec Use A) → place < length uses → old ≡ get_or uses place old → get_or (lists_from first uses) n [] ≡ old.items
  list_at old lt was =
      get_or-append_right (replicate first []) (map (λ (list : Vec Use A). list.items) uses) first n [] (length-replicate first []) from
      ∙ ap (λ k. get_or (map (λ (list : Vec Use A). list.items) uses) k []) (sym at)
      ∙ get_or-map (λ (list : Vec Use A). list.items) uses place old [] lt ∙ ap (λ (list : Vec Use A). list.items) (sym was)

pub get_or-replicate_same : {X : Type 0} (n k : ℕ) (x : X) → get_or (replicate n x) k x ≡ x
get_or-replicate_same {X} n k x = elim (cases_lt k n) [ inl lt ↦ get_or-replicate n k x x lt | inr past ↦ get_or_past (replicate n x) k x (omega (arith, length-replicate n x)) ]

-- one more empty list
pub bare_more : {A : Type 0} (first n : ℕ) (uses : List (Vec Use A)) (list : Vec Use A) → list.items ≡ [] → lists_from first uses ≡ replicate n [] → lists_from first (uses ++ list ∷ []) ≡ replicate (n + 1) []
bare_more {A} first n uses list bare e =
    ap (λ w. replicate first [] ++ w) (map-append (λ (l : Vec Use A). l.items) uses (list ∷ []))
    ∙ sym (append_assoc (replicate first []) (map (λ (l : Vec Use A). l.items) uses) (list.items ∷ []))
    ∙ ap (λ w. w ++ list.items ∷ []) e ∙ ap (λ w. replicate n [] ++ w ∷ []) bare ∙ replicate_more n []

-- one more move under a state
module _ (uses : List (List Use)) (waiting : List Use) (s : State) (u : Use) (lt : state_number s < length uses) where
  one_more : AddsUses (λ v. u ≡ v) uses (set uses (state_number s) (uses_at uses s ++ u ∷ [])) waiting waiting
  one_more = record {
    sized = length-set uses (state_number s) (uses_at uses s ++ u ∷ []);
    keeps = λ t v c. elim (cases_eq (state_number t) (state_number s)) [
      | inl e ↦ subst (λ w. Contains (uses_at (set uses (state_number s) (uses_at uses s ++ u ∷ [])) w) v) (same_state s t (sym e))
          (rw (uses_here uses s (uses_at uses s ++ u ∷ []) lt) (Contains-append_left (uses_at uses s) (u ∷ []) v (subst (λ w. Contains (uses_at uses w) v) (same_state t s e) c)))
      | inr ne ↦ rw (uses_other uses s t (uses_at uses s ++ u ∷ []) ne) c
    ];
    adds = λ t v c. elim (cases_eq (state_number t) (state_number s)) [
      | inl e ↦
          let more : Contains (uses_at uses s ++ u ∷ []) v =
          rw (uses_here uses s (uses_at uses s ++ u ∷ []) lt) at (subst (λ w. Contains (uses_at (set uses (state_number s) (uses_at uses s ++ u ∷ [])) w) v) (same_state t s e) c) in
          elim (Contains-append_cases (uses_at uses s) (u ∷ []) v more) [
            | inl old ↦ inl (subst (λ w. Contains (uses_at uses w) v) (same_state s t (sym e)) old)
            | inr new ↦ inr (only_in u v new)
          ]
      | inr ne ↦ inl (rw (uses_other uses s t (uses_at uses s ++ u ∷ []) ne) at c)
    ];
    keeps_waiting = λ v c. c;
    adds_waiting = λ v c. inl c;
  }

  listed_now : Contains (uses_at (set uses (state_number s) (uses_at uses s ++ u ∷ [])) s) u
  listed_now = rw (uses_here uses s (uses_at uses s ++ u ∷ []) lt) (Contains-push (uses_at uses s) u)

  module _ (new : List (List Use)) (more : List Use) (e : new ≡ set uses (state_number s) (uses_at uses s ++ u ∷ [])) (w : more ≡ waiting) where
    pub one_listed : AddsUses (λ v. u ≡ v) uses new waiting more
    one_listed = subst (λ x. AddsUses (λ v. u ≡ v) uses new waiting x) (sym w) (subst (λ x. AddsUses (λ v. u ≡ v) uses x waiting waiting) (sym e) one_more)

    pub listed_here : Contains (uses_at new s) u
    listed_here = subst (λ x. Contains (uses_at x s) u) (sym e) listed_now

-- one more move that waits
pub one_waits : (uses : List (List Use)) (waiting : List Use) (u : Use) → AddsUses (λ v. u ≡ v) uses uses waiting (waiting ++ u ∷ [])
one_waits uses waiting u = record {
  sized = refl;
  keeps = λ t v c. c;
  adds = λ t v c. inl c;
  keeps_waiting = λ v c. Contains-append_left waiting (u ∷ []) v c;
  adds_waiting = λ v c. elim (Contains-append_cases waiting (u ∷ []) v c) [ inl old ↦ inl old | inr new ↦ inr (only_in u v new) ];
}

-- a move that is listed under the first of some states, and under one more
pub listed_more : (first : ℕ) (u : Use) (ts : List State) (i : ℕ) (t : State) (uses : List (List Use)) → i < length ts → get_or ts i t ≡ t
    → ((s : State) → Contains (take i ts) s → first ≤ state_number s → Contains (uses_at uses s) u) → (first ≤ state_number t → Contains (uses_at uses t) u)
    → (s : State) → Contains (take (i + 1) ts) s → first ≤ state_number s → Contains (uses_at uses s) u
listed_more first u ts i t uses lt at before here s c from =
    elim (Contains-append_cases (take i ts) (t ∷ []) s (subst (λ w. Contains w s) (take_more ts i t lt ∙ ap (λ w. take i ts ++ w ∷ []) at) c)) [
      | inl old ↦ before s old from
      | inr now ↦ (let e : t ≡ s = only_in t s now in subst (λ w. Contains (uses_at uses w) u) e (here (subst (λ w. first ≤ state_number w) (sym e) from)))
    ]

pub adds_same : (P : Use → Type 0) (uses : List (List Use)) (waiting : List Use) → AddsUses P uses uses waiting waiting
adds_same P uses waiting = record { sized = refl; keeps = λ t u c. c; adds = λ t u c. inl c; keeps_waiting = λ u c. c; adds_waiting = λ u c. inl c }

pub adds_then : (P Q : Use → Type 0) (one two three : List (List Use)) (first second third : List Use) → ((u : Use) → Q u → P u) → AddsUses P one two first second → AddsUses Q two three second third → AddsUses P one three first third
adds_then P Q one two three first second third more h k = record {
  sized = k.sized ∙ h.sized;
  keeps = λ t u c. k.keeps t u (h.keeps t u c);
  adds = λ t u c. elim (k.adds t u c) [ inl old ↦ h.adds t u old | inr new ↦ inr (more u new) ];
  keeps_waiting = λ u c. k.keeps_waiting u (h.keeps_waiting u c);
  adds_waiting = λ u c. elim (k.adds_waiting u c) [ inl old ↦ h.adds_waiting u old | inr new ↦ inr (more u new) ];
}

pub lists_kept : (P : Use → Type 0) (old new : List (List Use)) (waited waiting : List Use) (first : ℕ) (states : List State) (u : Use) → AddsUses P old new waited waiting → Lists first states old waited u → Lists first states new waiting u
lists_kept P old new waited waiting first states u h l = record {
  listed = λ t c from. h.keeps t u (l.listed t c from);
  waits = elim l.waits [ inl c ↦ inl (h.keeps_waiting u c) | inr some ↦ inr some ];
}

-- the lists while the moves of the states from `first` on are put into them, up to the state of a
-- number
pub record Listing (a : Automaton) (first i : ℕ) (uses : List (List Use)) (waiting : List Use) : Type 0 where
  pub sized : length uses ≡ length a
  pub there : (t : State) (u : Use) → Contains (uses_at uses t) u → IsNewUse a first u
  pub waiting_there : (u : Use) → Contains waiting u → IsNewUse a first u
  pub listed : (u : Use) → IsNewUse a first u → state_number (user u) < i → Lists first (parts_of a u) uses waiting u

pub listing_starts : (a : Automaton) (first : ℕ) (uses : List (List Use)) (waiting : List Use) → uses ≡ replicate (length a) [] → waiting ≡ [] → Listing a first first uses waiting
listing_starts a first uses waiting bare none = record {
  sized = ap length bare ∙ length-replicate (length a) [];
  there = λ t u c. absurd (none_contained u (subst (λ w. Contains w u) (ap (λ w. uses_at w t) bare ∙ get_or-replicate_same (length a) (state_number t) []) c));
  waiting_there = λ u c. absurd (none_contained u (subst (λ w. Contains w u) none c));
  listed = λ u is lt. absurd (omega (arith, is.1));
}

-- the moves of one more state were added
module _ (a : Automaton) (first i : ℕ) (s : State) (one two three : List (List Use)) (w1 w2 w3 : List Use) (at : state_number s ≡ i)
    (h : AddsUses (IsNewUse a first) one two w1 w2) (k : AddsUses (IsNewUse a first) two three w2 w3) where
  both : AddsUses (IsNewUse a first) one three w1 w3
  both = adds_then (IsNewUse a first) (IsNewUse a first) one two three w1 w2 w3 (λ u is. is) h k

  pub listing_step : Listing a first i one w1
      → ((n : ℕ) → n < length (moves_at a s).labels → Lists first (parts_of a (Element s n)) two w2 (Element s n)) → ((n : ℕ) → n < length (moves_at a s).texts → Lists first (parts_of a (Text s n)) three w3 (Text s n))
      → Listing a first (i + 1) three w3
  listing_step old elements texts = record {
    sized = both.sized ∙ old.sized;
    there = λ t u c. elim (both.adds t u c) [ inl was ↦ old.there t u was | inr is ↦ is ];
    waiting_there = λ u c. elim (both.adds_waiting u c) [ inl was ↦ old.waiting_there u was | inr is ↦ is ];
    listed = λ u is lt. elim (cases_lt (state_number (user u)) i) [
      | inl l ↦ lists_kept (IsNewUse a first) one three w1 w3 first (parts_of a u) u both (old.listed u is l)
      | inr g ↦ (let e : state_number (user u) ≡ state_number s = omega arith in here u is.0 (same_state (user u) s e))
    ];
  }
    where
      here : (u : Use) → IsUse a u → user u ≡ s → Lists first (parts_of a u) three w3 u
      here (Element t n) is e =
          subst (λ w. Lists first (parts_of a (Element w n)) three w3 (Element w n)) (sym e)
          (lists_kept (IsNewUse a first) two three w2 w3 first (parts_of a (Element s n)) (Element s n) k (elements n (subst (λ w. n < length (moves_at a w).labels) e is.1)))
      here (Text t n) is e = subst (λ w. Lists first (parts_of a (Text w n)) three w3 (Text w n)) (sym e) (texts n (subst (λ w. n < length (moves_at a w).texts) e is.1))

pub listing_ends : (a : Automaton) (first i : ℕ) (uses : List (List Use)) (waiting : List Use) → length a ≤ i → Listing a first i uses waiting → AreUses a first uses waiting
listing_ends a first i uses waiting all h = record { sized = h.sized; there = h.there; waiting_there = h.waiting_there; listed = λ u is. h.listed u is (below u is.0) }
  where
    below : (u : Use) → IsUse a u → state_number (user u) < i
    below (Element s n) is = omega (arith, is.0)
    below (Text s n) is = omega (arith, is.0)

-- what a move on an element, and one on a text, leads to
pub parts-element : (a : Automaton) (s : State) (n : ℕ) (m : LabelMove) (moves : List LabelMove) → moves ≡ (moves_at a s).labels → n < length moves → m ≡ get_or moves n m → parts_of a (Element s n) ≡ m.content ∷ m.rest ∷ []
parts-element a s n m moves same lt at = ap element_parts (ap (λ w. slice_get w n) (sym same) ∙ slice_get-get_or moves n m lt ∙ ap Some (sym at))

pub parts-text : (a : Automaton) (s : State) (n : ℕ) (m : TextMove) (moves : List TextMove) → moves ≡ (moves_at a s).texts → n < length moves → m ≡ get_or moves n m → parts_of a (Text s n) ≡ m.rest ∷ []
parts-text a s n m moves same lt at = ap text_parts (ap (λ w. slice_get w n) (sym same) ∙ slice_get-get_or moves n m lt ∙ ap Some (sym at))
