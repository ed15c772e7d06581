-- The states that moves lead to, step by step.
use Rattle.std.proofs.Common.{ℕ, ◌≡◌, ◌⊎◌, ◌+◌, ◌<◌, ◌≤◌, Bool, true, List, [], length, get_or, Some, arith, refl, sym, subst, ap, ◌∙◌, inl, inr}
use Rattle.std.specs.List.{All}
use Rattle.std.proofs.lemmas.Bool.{cases_lt}
use Rattle.std.proofs.lemmas.List.Elements.{All-contains, All-weaker}
use Rattle.xd_auto.specs.declared.auto.State.{State}
use Rattle.xd_auto.specs.declared.auto.LabelMove.{LabelMove}
use Rattle.xd_auto.specs.declared.auto.TextMove.{TextMove}
use Rattle.xd_auto.specs.Automaton.{Automaton, IsState, LeadsBelow, StateMoves, moves_at}
use Rattle.xd_auto.specs.Copying.{ArePlaced, AreCopied, Copies, Finds, FindsMore, HasCopy, HaveParents, IsTarget, IsTextTarget, is_content, is_rest, LeadsTo, by_element, by_text, LabelBelow, Reached, copy_of, no_copies, uncopied}
use Rattle.xd_auto.proofs.FindsMoreLemmas.{FindsMore-trans, FindsMore-weaker, state_at, uncopied-none}

pub AreCopied-kept : (contents : Bool) (c1 c2 : Copies) (moves : StateMoves) → ((s : State) → HasCopy c1 s → HasCopy c2 s) → AreCopied contents c1 moves → AreCopied contents c2 moves
AreCopied-kept contents c1 c2 moves kept h = record {
  content_copies = λ on. All-weaker (λ (m : LabelMove). HasCopy c1 m.content) (λ (m : LabelMove). HasCopy c2 m.content) (λ m p. kept m.content p) moves.labels (h.content_copies on);
  rest_copies = All-weaker (λ (m : LabelMove). HasCopy c1 m.rest) (λ (m : LabelMove). HasCopy c2 m.rest) (λ m p. kept m.rest p) moves.labels h.rest_copies;
  text_copies = All-weaker (λ (m : TextMove). HasCopy c1 m.rest) (λ (m : TextMove). HasCopy c2 m.rest) (λ m p. kept m.rest p) moves.texts h.text_copies;
}

-- a target is one where contents count
pub any_target : (contents : Bool) (moves : List LabelMove) (t : State) → IsTarget contents moves t → IsTarget true moves t
any_target contents moves t (is_content m on among e) = is_content m refl among e
any_target contents moves t (is_rest m among e) = is_rest m among e

-- what holds before a state's moves are followed, and after
pub record Following (a : Automaton) (contents : Bool) (start : State) (base done : ℕ) (order : List State) (copies : Copies) : Type 0 where
  pub placed : ArePlaced base order copies
  pub states : All (IsState a) order
  pub few : length order + uncopied copies (length a) ≡ length a
  pub some : 0 < length order
  pub head : (e : State) → get_or order 0 e ≡ start
  pub parents : HaveParents a order
  pub closed : (i : ℕ) (e : State) → i < done → AreCopied contents copies (moves_at a (get_or order i e))
  pub within : done ≤ length order

-- the first state is found
pub following_starts : (a : Automaton) (contents : Bool) (start : State) (base : ℕ) (none : Copies) (order : List State) (copies : Copies)
    → none ≡ no_copies → IsState a start → Finds (λ t. t ≡ start) base [] none order copies → HasCopy copies start
    → length order + uncopied copies (length a) ≡ uncopied none (length a) → Following a contents start base 0 order copies
following_starts a contents start base none order copies bare is finds has steps = record {
  placed = finds.placed;
  states = λ i e lt. subst (λ (t : State). IsState a t) (sym (finds.more.news i e (omega arith) lt)) is;
  few = steps ∙ ap (λ (m : Copies). uncopied m (length a)) bare ∙ uncopied-none (length a);
  some = omega (arith, (finds.placed.listed start has.0 has.1).1);
  head = λ e. finds.more.news 0 e (omega arith) (omega (arith, (finds.placed.listed start has.0 has.1).1));
  parents = λ i e lt below. absurd (alone i e lt below);
  closed = λ i e lt. absurd (omega arith);
  within = omega arith;
}
  where
    alone : (i : ℕ) (e : State) → 0 < i → i < length order → ⊥
    alone i e lt below =
        let first = ap (λ (t : State). copy_of copies t) (sym (finds.more.news 0 e (omega arith) (omega arith))) ∙ finds.placed.placed 0 e (omega arith) in
        let other = ap (λ (t : State). copy_of copies t) (sym (finds.more.news i e (omega arith) below)) ∙ finds.placed.placed i e below in
        let same : Some (state_at (base + 0)) ≡ Some (state_at (base + i)) = sym first ∙ other in
        let states : state_at (base + 0) ≡ state_at (base + i) = cc in
        let numbers : base + 0 ≡ base + i = ap (λ (t : State). t.number) states in
        omega arith

-- moves that lead below a number lead to states below it
pub leads_below : (n : ℕ) (a : Automaton) (s t : State) → LeadsBelow n (moves_at a s) → LeadsTo a s t → t.number < n
leads_below n a s t below (by_text among) = subst (λ (r : State). r.number < n) among.2 (All-contains (λ (m : TextMove). m.rest.number < n) (moves_at a s).texts among.0 below.texts among.1)
leads_below n a s t below (by_element (is_content m on among e)) = subst (λ (r : State). r.number < n) e (All-contains (LabelBelow n) (moves_at a s).labels m below.labels among).0
leads_below n a s t below (by_element (is_rest m among e)) = subst (λ (r : State). r.number < n) e (All-contains (LabelBelow n) (moves_at a s).labels m below.labels among).1

-- all states that were found are followed
pub following_ends : (a : Automaton) (contents : Bool) (start : State) (base done : ℕ) (order : List State) (copies : Copies)
    → Following a contents start base done order copies → length order ≤ done → Reached a contents start base order copies
following_ends a contents start base done order copies h all = record {
  placed = h.placed;
  states = h.states;
  some = h.some;
  head = h.head;
  parents = h.parents;
  closed = λ i e lt. h.closed i e (omega arith);
}

module _ (a : Automaton) (contents : Bool) (start : State) (base done : ℕ) (state : State) (o1 : List State) (c1 : Copies) (o2 : List State) (c2 : Copies) (o3 : List State) (c3 : Copies)
    (old : Following a contents start base done o1 c1) (below : done < length o1) (is : (e : State) → get_or o1 done e ≡ state)
    (labels : Finds (IsTarget contents (moves_at a state).labels) base o1 c1 o2 c2) (texts : Finds (IsTextTarget (moves_at a state).texts) base o2 c2 o3 c3) where
  followed : FindsMore (LeadsTo a state) o1 c1 o3 c3
  followed =
      FindsMore-trans (LeadsTo a state) o1 c1 o2 c2 o3 c3
      (FindsMore-weaker (IsTarget contents (moves_at a state).labels) (LeadsTo a state) o1 c1 o2 c2 (λ t p. by_element (any_target contents (moves_at a state).labels t p)) labels.more)
      (FindsMore-weaker (IsTextTarget (moves_at a state).texts) (LeadsTo a state) o2 c2 o3 c3 (λ t p. by_text p) texts.more)

  -- the moves of one more state are followed
  pub following_step : LeadsBelow (length a) (moves_at a state) → length o2 + uncopied c2 (length a) ≡ length o1 + uncopied c1 (length a) → length o3 + uncopied c3 (length a) ≡ length o2 + uncopied c2 (length a)
      → (contents ≡ true → All (λ (m : LabelMove). HasCopy c2 m.content) (moves_at a state).labels) → All (λ (m : LabelMove). HasCopy c2 m.rest) (moves_at a state).labels
      → All (λ (m : TextMove). HasCopy c3 m.rest) (moves_at a state).texts → Following a contents start base (done + 1) o3 c3
  following_step below_all in_labels in_moves in_contents in_rests in_texts = record {
    placed = texts.placed;
    states = λ i e in3. state_of i e in3 (cases_lt i (length o1));
    few = in_moves ∙ in_labels ∙ old.few;
    some = omega (arith, followed.longer, old.some);
    head = λ e. followed.front 0 e old.some ∙ old.head e;
    parents = λ i e lt in3. parent i e lt in3 (cases_lt i (length o1));
    closed = λ i e lt. copied i e (cases_lt i done) lt;
    within = omega (arith, followed.longer);
  }
    where
      state_of : (i : ℕ) (e : State) → i < length o3 → (i < length o1) ⊎ (length o1 ≤ i) → IsState a (get_or o3 i e)
      state_of i e in3 (inl l) = subst (λ (t : State). IsState a t) (sym (followed.front i e l)) (old.states i e l)
      state_of i e in3 (inr g) = leads_below (length a) a state (get_or o3 i e) below_all (followed.news i e g in3)

      parent : (i : ℕ) (e : State) → 0 < i → i < length o3 → (i < length o1) ⊎ (length o1 ≤ i) → (k : ℕ) × (k < i) × LeadsTo a (get_or o3 k e) (get_or o3 i e)
      parent i e lt in3 (inl l) =
          let p = old.parents i e lt l in
          let k_in : p.0 < length o1 = omega (arith, p.1) in
          (p.0, p.1, rw (followed.front p.0 e k_in, followed.front i e l) p.2)
      parent i e lt in3 (inr g) =
          (done, omega arith, rw (followed.front done e below, is e) (followed.news i e g in3))

      copied : (i : ℕ) (e : State) → (i < done) ⊎ (done ≤ i) → i < done + 1 → AreCopied contents c3 (moves_at a (get_or o3 i e))
      copied i e (inl l) lt =
          let in1 : i < length o1 = omega arith in
          rw (followed.front i e in1) (AreCopied-kept contents c1 c3 (moves_at a (get_or o1 i e)) followed.kept (old.closed i e l))
      copied i e (inr g) lt =
          let same : done ≡ i = omega arith in
          let here : get_or o3 i e ≡ state = ap (λ n. get_or o3 n e) (sym same) ∙ followed.front done e below ∙ is e in
          rw here (record {
            content_copies = λ on. All-weaker (λ (m : LabelMove). HasCopy c2 m.content) (λ (m : LabelMove). HasCopy c3 m.content) (λ m p. texts.more.kept m.content p) (moves_at a state).labels (in_contents on);
            rest_copies = All-weaker (λ (m : LabelMove). HasCopy c2 m.rest) (λ (m : LabelMove). HasCopy c3 m.rest) (λ m p. texts.more.kept m.rest p) (moves_at a state).labels in_rests;
            text_copies = in_texts;
          })
