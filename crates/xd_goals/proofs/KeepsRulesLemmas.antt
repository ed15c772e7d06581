-- The trees of a table keep the rules.
use Rattle.std.proofs.Common.{ℕ, zero, suc, ◌+◌, ◌<◌, ◌≤◌, ◌≡◌, Bool, true, false, cond, List, [], ◌∷◌, Some, ◌⊎◌, inl, inr, ⊎_elim, sym, refl, ap, subst, ◌∙◌, arith}
use Rattle.std.specs.List.{slice_get, AllByRecursion}
use Rattle.xd_auto.specs.declared.auto.State.{State}
use Rattle.xd_auto.specs.Automaton.{Automaton}
use Rattle.xd_rules.specs.declared.atom.Atom.{Atom}
use Rattle.xd_rules.specs.declared.atom.Atom.TheVariants.{Label, OtherLabel, Text, OtherText}
use Rattle.xd_rules.proofs.Walk.{matching_at}
use Rattle.xd_doc.specs.Members.{IsOneOf}
use Rattle.xd_rules.specs.Heads.{Head, matches}
use Rattle.xd_rules.specs.Meaning.{right_heads}
use Rattle.xd_rules.specs.Rules.{Claim, ChoiceTree, settles_content, settles_rest, split_on, numbered, matching, Sides, no_sides, on_content, on_rest, HasPart, LeafRule, LabelTree, TextTree, TreeRule}
use Rattle.xd_state_heads.specs.Moves.{claim_with, with_state, heads_of}
use Rattle.xd_goals.specs.Rows.{GoalRow, claim_at}
use Rattle.xd_goals.specs.Trees.{AreApart, IsFree, IsGrown, IsTextTree, gathered}
use Rattle.xd_state_heads.specs.Wants.{side_at, matching_sides}
use Rattle.xd_goals.specs.Standing.{IsCaseTree, task_for}
use Rattle.xd_state_heads.specs.declared.heads.Side.{Side}
use Rattle.xd_goals.specs.declared.table.GoalCase.{GoalCase}
use Rattle.xd_goals.proofs.Trees.{with_state-from, with_state-keeps, with_state-has}
use Rattle.xd_goals.proofs.HasTreeLemmas.{same_side}

-- the right head of a side
pub record IsSideOf (atom : Atom) (k : ℕ) (hs : List (Head State)) (side : Side) : Type 0 where
  pub head : Head State
  pub place : ℕ
  pub there : slice_get hs place ≡ Some head
  pub number : side.number ≡ k + place
  pub matched : matches head.kind atom ≡ true
  pub content_is : head.content ≡ side.content
  pub rest_is : head.rest ≡ side.rest

pub side_at_place : (atom : Atom) (k : ℕ) (hs : List (Head State)) (i : ℕ) (side : Side) → slice_get (matching_sides atom k hs) i ≡ Some side → IsSideOf atom k hs side
side_at_place atom k [] i side e = absurd (cc)
side_at_place atom k (h ∷ hs) i side e = go (matches h.kind atom) refl i e (λ j f. side_at_place atom (suc k) hs j side f)
  where
    later : IsSideOf atom (suc k) hs side → IsSideOf atom k (h ∷ hs) side
    later s = record { head = s.head; place = suc s.place; there = s.there; number = (let n = s.number in omega arith); matched = s.matched; content_is = s.content_is; rest_is = s.rest_is }

    go : (b : Bool) → matches h.kind atom ≡ b → (j : ℕ) → slice_get (cond b (side_at k h ∷ matching_sides atom (suc k) hs) (matching_sides atom (suc k) hs)) j ≡ Some side
        → ((i : ℕ) → slice_get (matching_sides atom (suc k) hs) i ≡ Some side → IsSideOf atom (suc k) hs side) → IsSideOf atom k (h ∷ hs) side
    go true m zero f rec = let same : side_at k h ≡ side = cc in
        record {
          head = h;
          place = zero;
          there = refl;
          number = (let n : k ≡ side.number = ap (λ (x : Side). x.number) same in omega arith);
          matched = m;
          content_is = ap (λ (x : Side). x.content) same;
          rest_is = ap (λ (x : Side). x.rest) same;
        }
    go true m (suc j) f rec = later (rec j f)
    go false m j f rec = later (rec j f)

-- their numbers rise
sides_from : (atom : Atom) (k : ℕ) (hs : List (Head State)) (i : ℕ) (side : Side) → slice_get (matching_sides atom k hs) i ≡ Some side → k ≤ side.number
sides_from atom k hs i side e = let s = side_at_place atom k hs i side e in let n = s.number in omega arith

pub sides_rise : (atom : Atom) (k : ℕ) (hs : List (Head State)) (i j : ℕ) (s t : Side) → i < j → slice_get (matching_sides atom k hs) i ≡ Some s → slice_get (matching_sides atom k hs) j ≡ Some t → s.number < t.number
sides_rise atom k [] i j s t lt e f = absurd (cc)
sides_rise atom k (h ∷ hs) i j s t lt e f = go (matches h.kind atom) i j lt e f (λ x y l p q. sides_rise atom (suc k) hs x y s t l p q)
  where
    go : (b : Bool) (i j : ℕ) → i < j → slice_get (cond b (side_at k h ∷ matching_sides atom (suc k) hs) (matching_sides atom (suc k) hs)) i ≡ Some s
        → slice_get (cond b (side_at k h ∷ matching_sides atom (suc k) hs) (matching_sides atom (suc k) hs)) j ≡ Some t
        → ((x y : ℕ) → x < y → slice_get (matching_sides atom (suc k) hs) x ≡ Some s → slice_get (matching_sides atom (suc k) hs) y ≡ Some t → s.number < t.number) → s.number < t.number
    go true zero zero l p q rec = absurd (omega arith)
    go true zero (suc j) l p q rec =
        let same : side_at k h ≡ s = cc in
        let n : k ≡ s.number = ap (λ (x : Side). x.number) same in
        omega (arith, sides_from atom (suc k) hs j t q)
    go true (suc i) zero l p q rec = absurd (omega arith)
    go true (suc i) (suc j) l p q rec = rec i j (omega arith) p q
    go false i j l p q rec = rec i j l p q

-- each right head that matches has a side
pub side_of_head : (atom : Atom) (k : ℕ) (hs : List (Head State)) (h : Head State) → IsOneOf h hs → matches h.kind atom ≡ true
    → (i : ℕ) × (side : Side) × (slice_get (matching_sides atom k hs) i ≡ Some side) × (side.content ≡ h.content) × (side.rest ≡ h.rest)
side_of_head atom k [] h m e = absurd m
side_of_head atom k (g ∷ hs) h m e = elim m [ inl same ↦ here_ (matches g.kind atom) (ap (λ (x : Head State). matches x.kind atom) same ∙ e) same | inr r ↦ there_ (matches g.kind atom) (side_of_head atom (suc k) hs h r e) ]
  where
    here_ : (b : Bool) → b ≡ true → g ≡ h
        → (i : ℕ) × (side : Side) × (slice_get (cond b (side_at k g ∷ matching_sides atom (suc k) hs) (matching_sides atom (suc k) hs)) i ≡ Some side) × (side.content ≡ h.content) × (side.rest ≡ h.rest)
    here_ true q same = (zero, side_at k g, refl, ap (λ (x : Head State). x.content) same, ap (λ (x : Head State). x.rest) same)
    here_ false q same = absurd (cc)

    there_ : (b : Bool) → (i : ℕ) × (side : Side) × (slice_get (matching_sides atom (suc k) hs) i ≡ Some side) × (side.content ≡ h.content) × (side.rest ≡ h.rest)
        → (i : ℕ) × (side : Side) × (slice_get (cond b (side_at k g ∷ matching_sides atom (suc k) hs) (matching_sides atom (suc k) hs)) i ≡ Some side) × (side.content ≡ h.content) × (side.rest ≡ h.rest)
    there_ true f = (suc f.0, f.1, f.2, f.3, f.4)
    there_ false f = f

-- each of the states is this part of a right head with one of the numbers
abbrev AreOn : (Head State → State) → List (Head State) → List State → List ℕ → Type 0
AreOn part hs states ns = (s : State) → IsOneOf s states → HasPart part hs ns s

leaf_keeps : (part : Head State → State) (rows : List GoalRow) (g : ℕ) (left : Head State) (hs : List (Head State)) (rights : List State) (ns : List ℕ) → AreOn part hs rights ns
    → claim_at rows g ≡ Some (claim_with (part left) rights) → LeafRule part (claim_at rows) left hs ns g
leaf_keeps part rows g left hs rights ns on e = record { claim = claim_with (part left) rights; stands = e; same_left = refl; rights_stand = all_on rights on }
  where
    all_on : (ss : List State) → AreOn part hs ss ns → AllByRecursion (HasPart part hs ns) ss
    all_on [] h = tt
    all_on (s ∷ ss) h = (h s (inl refl), all_on ss (λ x m. h x (inr m)))

on_more : (part : Head State → State) (hs : List (Head State)) (states : List State) (ns : List ℕ) (n : ℕ) (h : Head State) → numbered hs n ≡ Some h → AreOn part hs states ns → AreOn part hs (with_state (part h) states) (n ∷ ns)
on_more part hs states ns n h at on s m =
    ⊎_elim (λ e. (n, h, inl refl, at, e)) (λ r. let p = on s r in (p.0, p.1, inr p.2, p.3, p.4)) (with_state-from (part h) s states m)

-- the right heads of these numbers have their parts among the states
abbrev AreSeen : (Side → State) → List Side → List ℕ → List State → Type 0
AreSeen part sides ns states = (j : ℕ) → IsOneOf j ns → (i : ℕ) × (t : Side) × (slice_get sides i ≡ Some t) × (t.number ≡ j) × IsOneOf (part t) states

seen_more : (part : Side → State) (sides : List Side) (ns : List ℕ) (states : List State) (j : ℕ) (side : Side) (place : ℕ) → slice_get sides place ≡ Some side → j ≡ side.number → (s : State) → s ≡ part side
    → AreSeen part sides ns states → AreSeen part sides (j ∷ ns) (with_state s states)
seen_more part sides ns states j side place at e s is seen i (inl q) = (place, side, at, sym e ∙ q, subst (λ (w : State). IsOneOf w (with_state s states)) is (with_state-has s states))
seen_more part sides ns states j side place at e s is seen i (inr m) = let was = seen i m in (was.0, was.1, was.2, was.3, with_state-keeps s (part was.1) states was.4)

-- a head that is free is new to both sides
not_seen : (part : Side → State) (sides : List Side) → AreApart sides → (ns : List ℕ) (states contents rests : List State) → AreSeen part sides ns states → (side : Side) → IsFree sides contents rests side
    → ¬ (IsOneOf (part side) states) → (j : ℕ) → j ≡ side.number → ¬ (IsOneOf j ns)
not_seen part sides apart ns states contents rests seen side free new j e m =
    let was = seen j m in
    let same = same_side sides contents rests side.number side was.1 apart refl free (record { place = was.0; found = was.2; same = was.3 ∙ e }) in
    new (subst (λ (w : Side). IsOneOf (part w) states) same was.4)

module _ (rows : List GoalRow) (a : Automaton) (owner : GoalCase) (head : Head State) (atom : Atom) (hs : List (Head State)) where
  abbrev sides : List Side
  sides = matching_sides atom 1 hs

  apart : AreApart (matching_sides atom 1 hs)
  apart = record { rise = sides_rise atom 1 hs }

  pub grown_keeps : (tree : ChoiceTree) (contents rests : List State) (s : Sides) → AreOn (λ h. h.content) hs contents s.content → AreOn (λ h. h.rest) hs rests s.rest
      → AreSeen (λ t. t.content) sides s.content contents → AreSeen (λ t. t.rest) sides s.rest rests
      → IsGrown rows (task_for a owner head) sides tree contents rests → LabelTree (claim_at rows) atom head hs s tree
  grown_keeps (settles_content g) contents rests s hc hr sc sr k = leaf_keeps (λ h. h.content) rows g head hs contents s.content hc k
  grown_keeps (settles_rest g) contents rests s hc hr sc sr k = leaf_keeps (λ h. h.rest) rows g head hs rests s.rest hr k
  grown_keeps (split_on j x y) contents rests s hc hr sc sr k =
      let side = k.0 in
      let free = k.2 in
      let w = side_at_place atom 1 hs free.place side free.found in
      let number : j ≡ suc w.place = let n = w.number in let e = k.1 in omega arith in
      let at : numbered hs j ≡ Some w.head = subst (λ (n : ℕ). numbered hs n ≡ Some w.head) (sym number) w.there in (
        record {
          head = w.head;
          stands = at;
          fits = w.matched;
          new_to_content = not_seen (λ t. t.content) sides apart s.content contents contents rests sc side free free.content_free j k.1;
          new_to_rest = not_seen (λ t. t.rest) sides apart s.rest rests contents rests sr side free free.rest_free j k.1;
        },
        grown_keeps x (with_state w.head.content contents) rests (on_content j s) (on_more (λ h. h.content) hs contents s.content j w.head at hc) hr
            (seen_more (λ t. t.content) sides s.content contents j side free.place free.found k.1 w.head.content w.content_is sc) sr
            (subst (λ (v : State). IsGrown rows (task_for a owner head) sides x (with_state v contents) rests) (sym w.content_is) k.3),
        grown_keeps y contents (with_state w.head.rest rests) (on_rest j s) hc (on_more (λ h. h.rest) hs rests s.rest j w.head at hr)
            sc (seen_more (λ t. t.rest) sides s.rest rests j side free.place free.found k.1 w.head.rest w.rest_is sr)
            (subst (λ (v : State). IsGrown rows (task_for a owner head) sides y contents (with_state v rests)) (sym w.rest_is) k.4),
      )

-- the rests of right heads, gathered
gathered-from : (sides : List Side) (states : List State) (s : State) → IsOneOf s (gathered states sides) → IsOneOf s states ⊎ ((i : ℕ) × (t : Side) × (slice_get sides i ≡ Some t) × (t.rest ≡ s))
gathered-from [] states s m = inl m
gathered-from (x ∷ xs) states s m =
    ⊎_elim (λ y. ⊎_elim (λ e. inr (zero, x, refl, e)) (λ r. inl r) (with_state-from x.rest s states y)) (λ f. inr (suc f.0, f.1, f.2, f.3)) (gathered-from xs (with_state x.rest states) s m)

pub gathered-keeps : (sides : List Side) (states : List State) (s : State) → IsOneOf s states → IsOneOf s (gathered states sides)
gathered-keeps [] states s m = m
gathered-keeps (x ∷ xs) states s m = gathered-keeps xs (with_state x.rest states) s (with_state-keeps x.rest s states m)

pub gathered-has : (sides : List Side) (states : List State) (i : ℕ) (side : Side) → slice_get sides i ≡ Some side → IsOneOf side.rest (gathered states sides)
gathered-has [] states i side e = absurd (cc)
gathered-has (x ∷ xs) states zero side e =
    let same : x ≡ side = cc in
    subst (λ (w : Side). IsOneOf w.rest (gathered (with_state x.rest states) xs)) same (gathered-keeps xs (with_state x.rest states) x.rest (with_state-has x.rest states))
gathered-has (x ∷ xs) states (suc i) side e = gathered-has xs (with_state x.rest states) i side e

module _ (rows : List GoalRow) (a : Automaton) (owner : GoalCase) (head : Head State) (atom : Atom) (hs : List (Head State)) where
  gathered-on : AreOn (λ h. h.rest) hs (gathered [] (matching_sides atom 1 hs)) (matching atom 1 hs)
  gathered-on s m = ⊎_elim (λ n. absurd n) (λ f. from_side f) (gathered-from (matching_sides atom 1 hs) [] s m)
    where
      from_side : (i : ℕ) × (t : Side) × (slice_get (matching_sides atom 1 hs) i ≡ Some t) × (t.rest ≡ s) → HasPart (λ (h : Head State). h.rest) hs (matching atom 1 hs) s
      from_side f =
          let w = side_at_place atom 1 hs f.0 f.1 f.2 in
          (suc w.place, w.head, matching_at atom hs (suc w.place) w.head w.there w.matched, w.there, w.rest_is ∙ f.3)

  text_keeps : (tree : ChoiceTree) → IsTextTree rows (task_for a owner head) (matching_sides atom 1 hs) tree → TextTree (claim_at rows) atom head hs tree
  text_keeps (settles_content g) k = k
  text_keeps (settles_rest g) k = leaf_keeps (λ h. h.rest) rows g head hs (gathered [] (matching_sides atom 1 hs)) (matching atom 1 hs) gathered-on k
  text_keeps (split_on j x y) k = k

  label_keeps : (tree : ChoiceTree) → IsGrown rows (task_for a owner head) (matching_sides atom 1 hs) tree [] [] → LabelTree (claim_at rows) atom head hs no_sides tree
  label_keeps tree k = grown_keeps rows a owner head atom hs tree [] [] no_sides (λ s m. absurd m) (λ s m. absurd m) (λ j m. absurd m) (λ j m. absurd m) k

-- the tree of a case keeps the rules
pub case_keeps : (rows : List GoalRow) (a : Automaton) (owner : GoalCase) (c : Claim State) (head : Head State) (atom : Atom) (tree : ChoiceTree)
    → IsCaseTree a rows owner c head atom tree → TreeRule (claim_at rows) atom head (right_heads (heads_of a) c) tree
case_keeps rows a owner c head (Label l) tree k = label_keeps rows a owner head (Label l) (right_heads (heads_of a) c) tree k
case_keeps rows a owner c head OtherLabel tree k = label_keeps rows a owner head OtherLabel (right_heads (heads_of a) c) tree k
case_keeps rows a owner c head (Text t) tree k = text_keeps rows a owner head (Text t) (right_heads (heads_of a) c) tree k
case_keeps rows a owner c head OtherText tree k = text_keeps rows a owner head OtherText (right_heads (heads_of a) c) tree k
