-- Marks that spread along the edges of a graph, and the states that are left without one.
use Rattle.std.proofs.Common.{ℕ, ◌≡◌, ◌⊎◌, ◌+◌, ◌<◌, Bool, true, false, List, [], ◌∷◌, ◌++◌, length, get_or, set, arith, refl, sym, ap, subst, ◌∙◌, inl, inr}
use Rattle.std.proofs.lemmas.List.{get_or-set_same, get_or-set_other, get_or_past, get_or_read, length_push}
use Rattle.std.proofs.lemmas.Bool.{cases_eq, cases_lt}
use Rattle.xd_doc.specs.Members.{IsOneOf}
use Rattle.xd_auto.specs.declared.auto.State.{State}
use Rattle.xd_auto.specs.Automaton.{Automaton, IsState, moves_at, state_number}
use Rattle.xd_auto.proofs.Closed.{state_of_number}
use Rattle.xd_auto.specs.Leading.{label_ends, text_ends}
use Rattle.xd_auto.specs.declared.leading.Ends.{Ends}
use Rattle.xd_auto.proofs.EndsLemmas.{ends_are}
use Rattle.xd_sound.specs.Emptiness.{is_marked}
use Rattle.xd_sound.specs.Graph.{HasEdge, successors}
use Rattle.xd_syntax.proofs.Members.{mem_append, append_left, append_right}
use Rattle.xd_sound.proofs.EmptyLemmas.{among_one, unmarked_push}
use Rattle.xd_sound.proofs.Graphs.{edge_made, edges_kept, with_edge}
use Rattle.xd_patterns.specs.Marked.{Marking}
use Rattle.xd_match.specs.Tails.{AllLead, AreBehind, AreTails, HasEdgeTo, IsEven, IsSpread, LeadsFrom, is_mixed}

-- what holds of each of the first members, and of the next one
pub each_more : {M : Type 0} (ms : List M) (k : ℕ) (m : M) (P : ℕ → M → Type 0) → k < length ms → m ≡ get_or ms k m → ((n : ℕ) (e : M) → n < k → P n (get_or ms n e)) → P k m →
    (n : ℕ) (e : M) → n < k + 1 → P n (get_or ms n e)
each_more ms k m P lt is before here n e below = elim (cases_eq n k) [
  | inl q ↦ subst (λ j. P j (get_or ms j e)) (sym q) (subst (P k) (get_or_read ms k m lt is e) here)
  | inr q ↦ before n e (omega arith)
]

-- one more edge
pub edge_kept : (g h : List (List ℕ)) (from to : ℕ) → h ≡ with_edge g from to → from < length g → (v w : ℕ) → HasEdge g v w → HasEdge h v w
edge_kept g h from to e lt v w m = subst (λ x. HasEdge x v w) (sym e) (edges_kept g from to v w lt m)

pub edge_there : (g h : List (List ℕ)) (from to : ℕ) → h ≡ with_edge g from to → from < length g → HasEdge h from to
edge_there g h from to e lt = subst (λ x. HasEdge x from to) (sym e) (edge_made g from to lt)

pub all_lead : {M : Type 0} (ends : M → Ends) (R Q : State → Type 0) → ((s : State) → R s → Q s) → (moves : List M) (count : ℕ) → AllLead ends R moves count → AllLead ends Q moves count
all_lead ends R Q f moves count h n m lt = ends_are R Q f (ends (get_or moves n m)) (h n m lt)

pub lead_from : (a : Automaton) (R Q : State → Type 0) → ((s : State) → R s → Q s) → (s : State) → LeadsFrom a R s → LeadsFrom a Q s
lead_from a R Q f s e = record { texts = all_lead text_ends R Q f (moves_at a s).texts _ e.texts; labels = all_lead label_ends R Q f (moves_at a s).labels _ e.labels }

pub spread_one : (g : List (List ℕ)) (seeds : List ℕ) (mixed : List Bool) (waiting before : List ℕ) (i : ℕ) → before ≡ waiting ++ i ∷ [] → IsSpread g seeds mixed before → i < length g
spread_one g seeds mixed waiting before i e s = s.within i (subst (IsOneOf i) (sym e) (among_one i waiting))

-- a node that is marked already needs no visit
pub spread_marked : (g : List (List ℕ)) (seeds : List ℕ) (mixed : List Bool) (waiting before : List ℕ) (i : ℕ) → before ≡ waiting ++ i ∷ [] → IsSpread g seeds mixed before →
    is_marked mixed i ≡ true → IsSpread g seeds mixed waiting
spread_marked g seeds mixed waiting before i e s marked = record {
  seeded = λ j m. elim (s.seeded j m) [ inl a ↦ inl a | inr a ↦ left j a ];
  edges = λ v w m k. elim (s.edges v w m k) [ inl a ↦ inl a | inr a ↦ left w a ];
  within = λ j m. s.within j (subst (IsOneOf j) (sym e) (append_left j waiting (i ∷ []) m));
}
  where
    left : (j : ℕ) → IsOneOf j before → (is_marked mixed j ≡ true) ⊎ IsOneOf j waiting
    left j a = elim (mem_append j waiting (i ∷ []) (subst (IsOneOf j) e a)) [
      | inl b ↦ inr b
      | inr (inl q) ↦ inl (subst (λ k. is_marked mixed k ≡ true) q marked)
      | inr (inr f) ↦ absurd f
    ]

-- a node is marked, and what its edges lead to waits
pub spread_more : (g : List (List ℕ)) (seeds : List ℕ) (mixed : List Bool) (waiting before : List ℕ) (i : ℕ) → ((v w : ℕ) → HasEdge g v w → w < length g) → length mixed ≡ length g →
    before ≡ waiting ++ i ∷ [] → IsSpread g seeds mixed before → IsSpread g seeds (set mixed i true) (waiting ++ successors g i)
spread_more g seeds mixed waiting before i closed count e s = record {
  seeded = λ j m. elim (s.seeded j m) [ inl a ↦ inl (still j a) | inr a ↦ left j a ];
  edges = λ v w m k. elim (cases_eq v i) [
    | inl q ↦ inr (append_right w waiting (successors g i) (subst (λ u. HasEdge g u w) q m))
    | inr q ↦ elim (s.edges v w m (sym (get_or-set_other mixed i v true false q) ∙ k)) [ inl a ↦ inl (still w a) | inr a ↦ left w a ]
  ];
  within = λ j m. elim (mem_append j waiting (successors g i) m) [
    | inl a ↦ s.within j (subst (IsOneOf j) (sym e) (append_left j waiting (i ∷ []) a))
    | inr a ↦ closed i j a
  ];
}
  where
    inside : i < length mixed
    inside = let l = spread_one g seeds mixed waiting before i e s in omega arith

    now : (j : ℕ) → j ≡ i → is_marked (set mixed i true) j ≡ true
    now j q = ap (is_marked (set mixed i true)) q ∙ get_or-set_same mixed i true false inside

    still : (j : ℕ) → is_marked mixed j ≡ true → is_marked (set mixed i true) j ≡ true
    still j a = elim (cases_eq j i) [ inl q ↦ now j q | inr q ↦ get_or-set_other mixed i j true false q ∙ a ]

    left : (j : ℕ) → IsOneOf j before → (is_marked (set mixed i true) j ≡ true) ⊎ IsOneOf j (waiting ++ successors g i)
    left j a = elim (mem_append j waiting (i ∷ []) (subst (IsOneOf j) e a)) [
      | inl b ↦ inr (append_left j waiting (successors g i) b)
      | inr (inl q) ↦ inl (now j (sym q))
      | inr (inr f) ↦ absurd f
    ]

-- so many states have no mark yet, and those of them that aren't even wait
pub record AreSeeded (a : Automaton) (k : Marking) (mixed : List Bool) (waiting : List ℕ) (n : ℕ) : Type 0 where
  pub count : length mixed ≡ n
  pub none : (i : ℕ) → is_marked mixed i ≡ false
  pub even : (s : State) → state_number s < n → IsOneOf (state_number s) waiting ⊎ IsEven a k s
  pub within : (i : ℕ) → IsOneOf i waiting → i < n

pub seeded_waits : (a : Automaton) (k : Marking) (mixed : List Bool) (waiting : List ℕ) (n : ℕ) → AreSeeded a k mixed waiting n → AreSeeded a k (mixed ++ false ∷ []) (waiting ++ n ∷ []) (n + 1)
seeded_waits a k mixed waiting n h = record {
  count = (let l = length_push mixed false in let c = h.count in omega arith);
  none = unmarked_push mixed h.none;
  even = λ s l. elim (cases_eq (state_number s) n) [
    | inl q ↦ inl (append_right (state_number s) waiting (n ∷ []) (inl (sym q)))
    | inr q ↦ elim (h.even s (omega arith)) [ inl b ↦ inl (append_left (state_number s) waiting (n ∷ []) b) | inr b ↦ inr b ]
  ];
  within = λ j m. elim (mem_append j waiting (n ∷ []) m) [ inl b ↦ (let l = h.within j b in omega arith) | inr (inl q) ↦ omega arith | inr (inr f) ↦ absurd f ];
}

pub seeded_even : (a : Automaton) (k : Marking) (mixed : List Bool) (waiting : List ℕ) (n : ℕ) (t : State) → state_number t ≡ n → IsEven a k t → AreSeeded a k mixed waiting n →
    AreSeeded a k (mixed ++ false ∷ []) waiting (n + 1)
seeded_even a k mixed waiting n t number here h = record {
  count = (let l = length_push mixed false in let c = h.count in omega arith);
  none = unmarked_push mixed h.none;
  even = λ s l. elim (cases_eq (state_number s) n) [
    | inl q ↦ inr (subst (IsEven a k) (state_of_number t s (number ∙ sym q)) here)
    | inr q ↦ h.even s (omega arith)
  ];
  within = λ j m. (let l = h.within j m in omega arith);
}

pub seeded_spread : (a : Automaton) (k : Marking) (g : List (List ℕ)) (mixed : List Bool) (waiting : List ℕ) (n : ℕ) → n ≡ length g → AreSeeded a k mixed waiting n → IsSpread g waiting mixed waiting
seeded_spread a k g mixed waiting n e h = record {
  seeded = λ i m. inr m;
  edges = λ v w m q. absurd (let b : false ≡ true = sym (h.none v) ∙ q in cc);
  within = λ i m. (let l = h.within i m in omega arith);
}

no_edge : (g : List (List ℕ)) (v w : ℕ) → HasEdge g v w → v < length g
no_edge g v w m = elim (cases_lt v (length g)) [ inl l ↦ l | inr l ↦ absurd (subst (IsOneOf w) (get_or_past g v [] l) m) ]

-- a state without a mark is even, and its moves lead to such states
pub are_tails : (a : Automaton) (k : Marking) (g : List (List ℕ)) (seeds : List ℕ) (old mixed : List Bool) → AreBehind a g → AreSeeded a k old seeds (length a) → length mixed ≡ length old →
    IsSpread g seeds mixed [] → AreTails a k mixed
are_tails a k g seeds old mixed behind seeded same spread = record {
  count = same ∙ seeded.count;
  even = λ s state none. (even s state none, lead_from a (HasEdgeTo g s) (λ t. IsState a t × (is_mixed mixed t ≡ false)) (λ t. one s t none) s (behind.edges s state));
}
  where
    even : (s : State) → IsState a s → is_mixed mixed s ≡ false → IsEven a k s
    even s state none = elim (seeded.even s state) [
      | inr h ↦ h
      | inl m ↦ elim (spread.seeded (state_number s) m) [ inl b ↦ absurd (let q : true ≡ false = sym b ∙ none in cc) | inr f ↦ absurd f ]
    ]

    unmarked : (s t : State) → is_mixed mixed s ≡ false → HasEdge g (state_number t) (state_number s) → (b : Bool) → is_mixed mixed t ≡ b → is_mixed mixed t ≡ false
    unmarked s t none edge false e = e
    unmarked s t none edge true e = elim (spread.edges (state_number t) (state_number s) edge e) [ inl b ↦ absurd (let q : true ≡ false = sym b ∙ none in cc) | inr f ↦ absurd f ]

    one : (s t : State) → is_mixed mixed s ≡ false → HasEdge g (state_number t) (state_number s) → IsState a t × (is_mixed mixed t ≡ false)
    one s t none edge = ((let l = no_edge g (state_number t) (state_number s) edge in let c = behind.count in omega arith), unmarked s t none edge (is_mixed mixed t) refl)
