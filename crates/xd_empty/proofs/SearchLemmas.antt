-- On the search for documents of states.
use Rattle.std.proofs.Common.{◌≡◌, ◌≢◌, ◌⊎◌, ℕ, ◌+◌, ◌<◌, ◌≤◌, Bool, true, false, ◌&&◌, Option, Some, None, List, [], ◌∷◌, ◌++◌, length, get_or, set, length-append, get_or-set_same, get_or-set_other, refl, ap, sym, subst, ◌∙◌, arith, inl, inr}
use Rattle.std.specs.List.{All, Contains, list_any, slice_get}
use Rattle.std.specs.Option.{IfSome, is_some}
use Rattle.std.proofs.lemmas.Bool.{cases_eq, cases_lt}
use Rattle.std.proofs.lemmas.List.{get_or_append_left, get_or-append-add, get_or_default, get_or_past, length-set}
use Rattle.std.proofs.lemmas.List.Elements.{Contains-append_cases}
use Rattle.std.proofs.lemmas.List.Folds.{list_any_none, list_any_at}
use Rattle.std.proofs.lemmas.List.Sums.{sum_by-set}
use Rattle.std.proofs.lemmas.Option.{slice_get-get_or}
use Rattle.xd_doc.specs.Document.{Document, empty, text, element}
use Rattle.xd_doc.specs.Stored.{document_at}
use Rattle.xd_doc.specs.StoredSeq.{BelongsTo}
use Rattle.xd_doc.specs.StoreNodes.{Keeps, no_items}
use Rattle.xd_doc.specs.Classes.{class_has}
use Rattle.xd_doc.specs.declared.store.Seq.{Seq}
use Rattle.xd_doc.proofs.CopyLemmas.{none_contained}
use Rattle.xd_doc.proofs.Bools.{and_false, and_and_false}
use Rattle.xd_auto.specs.declared.auto.State.{State}
use Rattle.xd_auto.specs.declared.auto.LabelMove.{LabelMove}
use Rattle.xd_auto.specs.declared.auto.TextMove.{TextMove}
use Rattle.xd_auto.specs.Automaton.{Automaton, IsState, StateMoves, accepts, moves_at, no_moves, state_number}
use Rattle.xd_auto.proofs.Members.{first_in, first_or_later, only_in}
use Rattle.xd_auto.proofs.Closed.{same_state}
use Rattle.xd_empty.specs.declared.uses.Use.{Use}
use Rattle.xd_empty.specs.declared.uses.Use.TheVariants.{Element, Text}
use Rattle.xd_empty.specs.Uses.{AreUses, IsNewUse, IsUse, element_parts, parts_of, text_parts, user, uses_at}
use Rattle.xd_empty.specs.Inhabited.{AreInhabitants, AreWitnesses, IsUnknown, IsWitness, LacksOne, Searching, Starts, steps_in}
use Rattle.xd_empty.proofs.UsesLemmas.{uses_here, uses_other}

-- the state doesn't accept the empty document, and each of its moves leads to a state for which
-- none was found
record IsStuck (a : Automaton) (fs : List (Option Seq)) (s : State) : Type 0 where
  last : (moves_at a s).last ≡ false
  labels : All (λ (m : LabelMove). IsUnknown fs m.content ⊎ IsUnknown fs m.rest) (moves_at a s).labels
  texts : All (λ (m : TextMove). IsUnknown fs m.rest) (moves_at a s).texts

and_first : (x y : Bool) → (x && (false && y)) ≡ false
and_first true y = refl
and_first false y = refl

-- where all states without a document are stuck or known to accept none, they accept none
none_accepted : (a : Automaton) (fs : List (Option Seq)) → ((s : State) → IsUnknown fs s → ((d : Document) → accepts a d s ≡ false) ⊎ IsStuck a fs s) → (d : Document) (s : State) → IsUnknown fs s → accepts a d s ≡ false
none_accepted a fs h empty s u = elim (h s u) [ inl none ↦ none empty | inr k ↦ k.last ]
none_accepted a fs h (text t r) s u = elim (h s u) [
  | inl none ↦ none (text t r)
  | inr k ↦
      list_any_none (λ m. class_has m.words t && accepts a r m.rest) (moves_at a s).texts
      (λ i d lt. rw (none_accepted a fs h r (get_or (moves_at a s).texts i d).rest (k.texts i d lt)) (and_false (class_has (get_or (moves_at a s).texts i d).words t)))
]
none_accepted a fs h (element l c r) s u = elim (h s u) [
  | inl none ↦ none (element l c r)
  | inr k ↦
      list_any_none (λ m. class_has m.class l && (accepts a c m.content && accepts a r m.rest)) (moves_at a s).labels
      (λ i d lt. step (get_or (moves_at a s).labels i d) (λ q w. none_accepted a fs h c q w) (λ q w. none_accepted a fs h r q w) (k.labels i d lt))
]
  where
    step : (m : LabelMove) → ((q : State) → IsUnknown fs q → accepts a c q ≡ false) → ((q : State) → IsUnknown fs q → accepts a r q ≡ false) → IsUnknown fs m.content ⊎ IsUnknown fs m.rest
        → (class_has m.class l && (accepts a c m.content && accepts a r m.rest)) ≡ false
    step m hc hr (inl w) = rw (hc m.content w) (and_first (class_has m.class l) (accepts a r m.rest))
    step m hc hr (inr w) = rw (hr m.rest w) (and_and_false (class_has m.class l) (accepts a c m.content))

pub witness_keeps : (a : Automaton) (ds es : List Document) (s : State) (seq : Seq) → Keeps ds es → IsWitness a ds s seq → IsWitness a es s seq
witness_keeps a ds es s seq k w = record {
  belongs = k.belongs seq w.belongs;
  accepted = ap (λ d. accepts a d s) (k.same seq w.belongs) ∙ w.accepted;
}

pub witnesses_keep : (a : Automaton) (ds es : List Document) (fs : List (Option Seq)) → Keeps ds es → AreWitnesses a ds fs → AreWitnesses a es fs
witnesses_keep a ds es fs k w s seq f = witness_keeps a ds es s seq k (w s seq f)

-- the empty document
pub empty_witness : (a : Automaton) (ds : List Document) (s : State) → (moves_at a s).last ≡ true → IsWitness a ds s no_items
empty_witness a ds s last = record { belongs = record { place = tt; proper = refl; filled = refl }; accepted = last }

-- a document that begins with what the move takes
pub element_witness : (a : Automaton) (ds new : List Document) (s : State) (n : ℕ) (moves : List LabelMove) (m : LabelMove) (l : List ℕ) (content rest made : Seq)
    → moves ≡ (moves_at a s).labels → n < length moves → m ≡ get_or moves n m → class_has m.class l ≡ true → IsWitness a ds m.content content → IsWitness a ds m.rest rest
    → BelongsTo new made → document_at new made ≡ element l (document_at ds content) (document_at ds rest) → IsWitness a new s made
element_witness a ds new s n moves m l content rest made is lt at has c r belongs e =
    let takes = λ (q : LabelMove). class_has q.class l && (accepts a (document_at ds content) q.content && accepts a (document_at ds rest) q.rest) in
    record {
      belongs = belongs;
      accepted =
          ap (λ d. accepts a d s) e ∙ ap (list_any takes) (sym is) ∙ list_any_at takes moves n m lt (ap takes (sym at) ∙ rw (has, c.accepted, r.accepted) refl);
    }

pub text_witness : (a : Automaton) (ds new : List Document) (s : State) (n : ℕ) (moves : List TextMove) (m : TextMove) (t : List ℕ) (rest made : Seq)
    → moves ≡ (moves_at a s).texts → n < length moves → m ≡ get_or moves n m → class_has m.words t ≡ true → IsWitness a ds m.rest rest
    → BelongsTo new made → document_at new made ≡ text t (document_at ds rest) → IsWitness a new s made
text_witness a ds new s n moves m t rest made is lt at has r belongs e =
    let takes = λ (q : TextMove). class_has q.words t && accepts a (document_at ds rest) q.rest in
    record {
      belongs = belongs;
      accepted = ap (λ d. accepts a d s) e ∙ ap (list_any takes) (sym is) ∙ list_any_at takes moves n m lt (ap takes (sym at) ∙ rw (has, r.accepted) refl);
    }

pub user_there : (a : Automaton) (u : Use) → IsUse a u → IsState a (user u)
user_there a (Element s n) is = is.0
user_there a (Text s n) is = is.0

-- a state that is not there has no moves
outside : (a : Automaton) (s : State) → length a ≤ state_number s → moves_at a s ≡ no_moves false
outside a s past = get_or_past a (state_number s) (no_moves false) past

pub outside_accepts : (a : Automaton) (s : State) → length a ≤ state_number s → (d : Document) → accepts a d s ≡ false
outside_accepts a s past empty = ap (λ (m : StateMoves). m.last) (outside a s past)
outside_accepts a s past (text t r) = ap (λ (m : StateMoves). list_any (λ (w : TextMove). class_has w.words t && accepts a r w.rest) m.texts) (outside a s past)
outside_accepts a s past (element l c r) = ap (λ (m : StateMoves). list_any (λ (w : LabelMove). class_has w.class l && (accepts a c w.content && accepts a r w.rest)) m.labels) (outside a s past)

pub is_state : (a : Automaton) (s : State) (k : ℕ) (count : StateMoves → ℕ) → count (no_moves false) ≡ 0 → k < count (moves_at a s) → IsState a s
is_state a s k count none lt = elim (cases_lt (state_number s) (length a)) [
  | inl l ↦ l
  | inr g ↦ (let e : count (moves_at a s) ≡ 0 = ap count (outside a s g) ∙ none in absurd (omega arith))
]

module _ (a : Automaton) (ds : List Document) (first n : ℕ) (fs : List (Option Seq)) (uses : List (List Use)) (waiting : List Use) (done : ℕ) (h : Searching a ds first n fs uses waiting done) where
  lacks : (u : Use) → length waiting ≤ done → IsNewUse a first u → IsUnknown fs (user u) → LacksOne fs (parts_of a u)
  lacks u all is unknown = elim (h.moves u is unknown) [ inl w ↦ absurd (omega (arith, w.1, w.2)) | inr l ↦ l ]

  stuck : length a ≤ n → length waiting ≤ done → (s : State) → first ≤ state_number s → IsUnknown fs s → IsStuck a fs s
  stuck flags all s from u = record {
    last = elim (cases_lt (state_number s) (length a)) [
      | inl l ↦ h.last s from (omega arith) u
      | inr g ↦ ap (λ (m : StateMoves). m.last) (outside a s g)
    ];
    labels = λ k d lt.
        let l = lacks (Element s k) all ((is_state a s k (λ m. length m.labels) refl lt, lt), from) u in
        let m : LabelMove = get_or (moves_at a s).labels k d in
        let two : Contains (m.content ∷ m.rest ∷ []) l.0 = subst (λ o. Contains (element_parts o) l.0) (slice_get-get_or (moves_at a s).labels k d lt) l.1 in
        elim (first_or_later m.content l.0 (m.rest ∷ []) two) [
          | inl e ↦ inl (subst (IsUnknown fs) (sym e) l.2)
          | inr c ↦ inr (subst (IsUnknown fs) (sym (only_in m.rest l.0 c)) l.2)
        ];
    texts = λ k d lt.
        let l = lacks (Text s k) all ((is_state a s k (λ m. length m.texts) refl lt, lt), from) u in
        let one : Contains ((get_or (moves_at a s).texts k d).rest ∷ []) l.0 = subst (λ o. Contains (text_parts o) l.0) (slice_get-get_or (moves_at a s).texts k d lt) l.1 in
        subst (IsUnknown fs) (sym (only_in (get_or (moves_at a s).texts k d).rest l.0 one)) l.2;
  }

  pub searching_ends : length a ≤ n → length waiting ≤ done → AreInhabitants a ds fs
  searching_ends flags all = record {
    count = h.count;
    witnesses = h.witnesses;
    none = λ s u d. none_accepted a fs (λ t unknown. elim (cases_lt (state_number t) first) [ inl old ↦ inl (h.settled t old unknown) | inr from ↦ inr (stuck flags all t from unknown) ]) d s u;
  }

  pub searching_keeps : (es : List Document) → Keeps ds es → Searching a es first n fs uses waiting done
  searching_keeps es k = record {
    count = h.count;
    sized = h.sized;
    within = h.within;
    witnesses = witnesses_keep a ds es fs k h.witnesses;
    settled = h.settled;
    last = h.last;
    moves = h.moves;
    listed = h.listed;
    uses_there = h.uses_there;
    waiting_there = h.waiting_there;
  }

  -- one more state was asked for its flag
  pub searching_flag : ((s : State) → state_number s ≡ n → IsUnknown fs s → (moves_at a s).last ≡ false) → Searching a ds first (n + 1) fs uses waiting done
  searching_flag flag = record {
    count = h.count;
    sized = h.sized;
    within = h.within;
    witnesses = h.witnesses;
    settled = h.settled;
    last = λ s from lt u. elim (cases_lt (state_number s) n) [
      | inl l ↦ h.last s from l u
      | inr g ↦ (let e : state_number s ≡ n = omega arith in flag s e u)
    ];
    moves = h.moves;
    listed = h.listed;
    uses_there = h.uses_there;
    waiting_there = h.waiting_there;
  }

  -- the move at the place was looked at
  pub searching_next : (u : Use) → done < length waiting → get_or waiting done u ≡ u → (IsUnknown fs (user u) → LacksOne fs (parts_of a u)) → Searching a ds first n fs uses waiting (done + 1)
  searching_next u lt at settled = record {
    count = h.count;
    sized = h.sized;
    within = omega arith;
    witnesses = h.witnesses;
    settled = h.settled;
    last = h.last;
    moves = λ v is unknown. elim (h.moves v is unknown) [
      | inl w ↦ elim (cases_eq w.0 done) [
        | inl e ↦
            let same : u ≡ v = sym at ∙ get_or_default waiting done u v lt ∙ ap (λ i. get_or waiting i v) (sym e) ∙ w.3 in
            inr (subst (λ x. LacksOne fs (parts_of a x)) same (settled (subst (λ x. IsUnknown fs (user x)) (sym same) unknown)))
        | inr ne ↦ (let later : done + 1 ≤ w.0 = past w.0 w.1 ne in inl (w.0, later, w.2, w.3))
      ]
      | inr l ↦ inr l
    ];
    listed = h.listed;
    uses_there = h.uses_there;
    waiting_there = h.waiting_there;
  }
    where
      past : (i : ℕ) → done ≤ i → i ≢ done → done + 1 ≤ i
      past i le ne = elim (cases_lt done i) [ inl l ↦ omega arith | inr g ↦ absurd (ne (omega arith)) ]

  -- one more state has a document
  module _ (t : State) (seq : Seq) (is : IsState a t) (new : first ≤ state_number t) (w : IsWitness a ds t seq) where
    in_found : state_number t < length fs
    in_found = omega (arith, h.count)

    in_uses : state_number t < length uses
    in_uses = omega (arith, h.sized)

    known : get_or (set fs (state_number t) (Some seq)) (state_number t) None ≡ Some seq
    known = get_or-set_same fs (state_number t) (Some seq) None in_found

    same_other : (s : State) → state_number s ≢ state_number t → get_or (set fs (state_number t) (Some seq)) (state_number s) None ≡ get_or fs (state_number s) None
    same_other s ne = get_or-set_other fs (state_number t) (state_number s) (Some seq) None ne

    -- a state without a document is another one, and had none
    pub another : (s : State) → IsUnknown (set fs (state_number t) (Some seq)) s → state_number s ≢ state_number t
    another s u e =
        let both : None ≡ Some seq = sym u ∙ ap (λ k. get_or (set fs (state_number t) (Some seq)) k None) e ∙ known in
        absurd (cc)

    before : (s : State) → IsUnknown (set fs (state_number t) (Some seq)) s → IsUnknown fs s
    before s u = sym (same_other s (another s u)) ∙ u

    pub searching_finds : Searching a ds first n (set fs (state_number t) (Some seq)) (set uses (state_number t) []) (waiting ++ uses_at uses t) done
    searching_finds = record {
      count = length-set fs (state_number t) (Some seq) ∙ h.count;
      sized = length-set uses (state_number t) [] ∙ h.sized;
      within = omega (arith, h.within, length-append waiting (uses_at uses t));
      witnesses = λ s other f. elim (cases_eq (state_number s) (state_number t)) [
        | inl e ↦
            let made : Some seq ≡ Some other = sym known ∙ ap (λ k. get_or (set fs (state_number t) (Some seq)) k None) (sym e) ∙ f in
            let o : seq ≡ other = cc in
            subst (λ q. IsWitness a ds s q) o (subst (λ q. IsWitness a ds q seq) (same_state t s (sym e)) w)
        | inr ne ↦ h.witnesses s other (sym (same_other s ne) ∙ f)
      ];
      settled = λ s old u. h.settled s old (before s u);
      last = λ s from lt u. h.last s from lt (before s u);
      moves = λ u there unknown. elim (h.moves u there (before (user u) unknown)) [
        | inl q ↦ inl (q.0, q.1, omega (arith, q.2, length-append waiting (uses_at uses t)), get_or_append_left waiting (uses_at uses t) u q.0 q.2 ∙ q.3)
        | inr l ↦ elim (cases_eq (state_number l.0) (state_number t)) [
          | inl e ↦
              let c : Contains (uses_at uses t) u = subst (λ s. Contains (uses_at uses s) u) (same_state l.0 t e) (h.listed u l.0 there l.1 (omega arith) l.2) in
              inl (length waiting + c.0, omega (arith, h.within), omega (arith, c.1, length-append waiting (uses_at uses t)), get_or-append-add waiting (uses_at uses t) c.0 u ∙ c.2)
          | inr ne ↦ inr (l.0, l.1, same_other l.0 ne ∙ l.2)
        ]
      ];
      listed = λ u s there among from unknown. rw (uses_other uses t s [] (another s unknown)) (h.listed u s there among from (before s unknown));
      uses_there = λ s u c. elim (cases_eq (state_number s) (state_number t)) [
        | inl e ↦ absurd (none_contained u (rw (uses_here uses t [] in_uses) at (subst (λ q. Contains (uses_at (set uses (state_number t) []) q) u) (same_state s t e) c)))
        | inr ne ↦ h.uses_there s u (rw (uses_other uses t s [] ne) at c)
      ];
      waiting_there = λ u c. elim (Contains-append_cases waiting (uses_at uses t) u c) [ inl m ↦ h.waiting_there u m | inr m ↦ h.uses_there t u m ];
    }

-- the move at the place gave its state a document
module _ (a : Automaton) (ds : List Document) (first n : ℕ) (fs : List (Option Seq)) (uses : List (List Use)) (waiting : List Use) (done : ℕ) (u : Use) (seq : Seq)
    (h : Searching a ds first n fs uses waiting done) (lt : done < length waiting) (at : get_or waiting done u ≡ u) (w : IsWitness a ds (user u) seq) where
  is : IsNewUse a first u
  is = h.waiting_there u (done, lt, at)

  there : IsState a (user u)
  there = user_there a u is.0

  pub searching_found : Searching a ds first n (set fs (state_number (user u)) (Some seq)) (set uses (state_number (user u)) []) (waiting ++ uses_at uses (user u)) (done + 1)
  searching_found =
      searching_next a ds first n _ _ (waiting ++ uses_at uses (user u)) done (searching_finds a ds first n fs uses waiting done h (user u) seq there is.1 w) u
      (omega (arith, length-append waiting (uses_at uses (user u)))) (get_or_append_left waiting (uses_at uses (user u)) u done lt ∙ at)
      (λ unknown. absurd (another a ds first n fs uses waiting done h (user u) seq there is.1 w (user u) unknown refl))

-- the moves that were listed under a state wait from now on, and none is lost
pub steps_kept : (uses : List (List Use)) (waiting : List Use) (s : State) → state_number s < length uses → steps_in (set uses (state_number s) []) (waiting ++ uses_at uses s) ≡ steps_in uses waiting
steps_kept uses waiting s lt = omega (arith, sum_by-set length uses (state_number s) [] [] lt, length-append waiting (uses_at uses s))

-- no new state has a document yet
pub searching_starts : (a : Automaton) (ds : List Document) (first : ℕ) (fs : List (Option Seq)) (uses : List (List Use)) (waiting : List Use) → Starts a ds first fs → AreUses a first uses waiting
    → Searching a ds first first fs uses waiting 0
searching_starts a ds first fs uses waiting k h = record {
  count = k.count;
  sized = h.sized;
  within = omega arith;
  witnesses = k.witnesses;
  settled = k.settled;
  last = λ s from lt u. absurd (omega arith);
  moves = λ u is unknown. elim (h.listed u is).waits [
    | inl c ↦ inl (c.0, omega arith, c.1, c.2)
    | inr some ↦ inr (some.0, some.1, k.unknown some.0 some.2)
  ];
  listed = λ u t is among from unknown. (h.listed u is).listed t among from;
  uses_there = h.there;
  waiting_there = h.waiting_there;
}

pub none_at : (fs : List (Option Seq)) (n : ℕ) (o : Option Seq) → n < length fs → o ≡ get_or fs n o → o ≡ None → get_or fs n None ≡ None
none_at fs n o l e is = get_or_default fs n None o l ∙ sym e ∙ is

pub found_at : (fs : List (Option Seq)) (n : ℕ) (o : Option Seq) (seq : Seq) → n < length fs → o ≡ get_or fs n o → o ≡ Some seq → get_or fs n None ≡ Some seq
found_at fs n o seq l e is = get_or_default fs n None o l ∙ sym e ∙ is

-- a document is there, where it is not that there is none
pub not_unknown : (o : Option Seq) → is_some o ≡ true → o ≡ None → ⊥
not_unknown o some none = let both : is_some o ≡ false = ap is_some none in absurd (cc)

-- a move on a text that leads to a state for which none was found
pub text_lacks : (a : Automaton) (s : State) (n : ℕ) (moves : List TextMove) (fs : List (Option Seq)) (m : TextMove) → moves ≡ (moves_at a s).texts → IsUse a (Text s n) → m ≡ get_or moves n m → IsUnknown fs m.rest → LacksOne fs (parts_of a (Text s n))
text_lacks a s n moves fs m e is at unknown =
    let got : slice_get (moves_at a s).texts n ≡ Some m = slice_get-get_or (moves_at a s).texts n m is.1 ∙ ap Some (ap (λ w. get_or w n m) (sym e) ∙ sym at) in
    (m.rest, subst (λ o. Contains (text_parts o) m.rest) (sym got) (first_in m.rest []), unknown)

pub if_some : (o : Option Seq) (P : Seq → Type 0) → ((seq : Seq) → o ≡ Some seq → P seq) → IfSome o P
if_some None P h = tt
if_some (Some seq) P h = h seq refl
