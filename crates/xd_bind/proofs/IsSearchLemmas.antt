-- On the search for the states ahead of the start.
use Rattle.std.proofs.Common.{◌≡◌, ◌⊎◌, inl, inr, ℕ, zero, suc, ◌+◌, ◌<◌, ◌≤◌, ⊎_elim, Bool, true, false, List, [], ◌∷◌, ◌++◌, length, replicate, get_or, set, get_or-set_same, get_or-set_other, Some, refl, sym, ap, ◌∙◌, subst, arith, length-append}
use Rattle.std.proofs.Math.ListN.{length-set}
use Rattle.std.specs.List.{slice_get}
use Rattle.std.proofs.lemmas.Bool.{cases_eq}
use Rattle.std.proofs.lemmas.Option.{slice_get_read, slice_get_within}
use Rattle.xd_doc.proofs.Lists.{there_front, last_at}
use Rattle.xd_auto.specs.declared.auto.State.{State}
use Rattle.xd_auto.specs.Copying.{LabelBelow}
use Rattle.xd_auto.specs.Automaton.{Automaton, StateMoves, IsClosed, IsState, moves_at}
use Rattle.xd_auto.proofs.Closed.{same_state}
use Rattle.xd_empty.specs.Parts.{is_marked}
use Rattle.xd_bind.proofs.MarkLemmas.{unmarked-set}
use Rattle.xd_auto.specs.Leading.{LabelFilled, TextFilled, label_ends, text_ends}
use Rattle.xd_auto.specs.declared.leading.Ends.{Ends}
use Rattle.xd_auto.specs.Traces.{Owned}
use Rattle.xd_bind.specs.Search.{AllFollowed, AreFollowed, Grows, HasMark, IsFollowed, IsSearch, IsSideOf, IsVisiting, LeadsAhead, LeadsBy, is_behind, is_inside}
use Rattle.xd_auto.proofs.Steps.{closed_text, closed_element, some_same}
use Rattle.xd_bind.specs.Ahead.{IsAhead, is_start, past_text, past_element, in_content, IsSearched}

there_more : {X : Type 0} (xs : List X) (x y : X) (i : ℕ) → slice_get (xs ++ x ∷ []) i ≡ Some y → (slice_get xs i ≡ Some y) ⊎ (y ≡ x)
there_more [] x y zero e = inr (cc)
there_more [] x y (suc i) e = absurd (cc)
there_more (z ∷ xs) x y zero e = inl e
there_more (z ∷ xs) x y (suc i) e = there_more xs x y i e

pub Grows-weaker : (K L : State → Type 0) (o : List State) (m : List Bool) (p : List State) (n : List Bool) → ((s : State) → K s → L s) → Grows K o m p n → Grows L o m p n
Grows-weaker K L o m p n w h = record {
  sized = h.sized;
  kept = h.kept;
  front = h.front;
  news = λ i s e. ⊎_elim (λ a. inl a) (λ k. inr (w s k)) (h.news i s e);
  listed = h.listed;
  counted = h.counted;
}

pub Grows-trans : (K : State → Type 0) (o : List State) (m : List Bool) (p : List State) (n : List Bool) (q : List State) (r : List Bool) → Grows K o m p n → Grows K p n q r
    → Grows K o m q r
Grows-trans K o m p n q r h k = record {
  sized = k.sized ∙ h.sized;
  kept = λ s e. k.kept s (h.kept s e);
  front = λ i s e. k.front i s (h.front i s e);
  news = λ i s e. ⊎_elim (λ a. h.news a.0 s a.1) (λ w. inr w) (k.news i s e);
  listed = λ e. k.listed (h.listed e);
  counted = k.counted ∙ h.counted;
}

-- a state that wasn't marked
pub Grows-visit : (order : List State) (marks : List Bool) (state : State) → HasMark marks state → is_marked marks state ≡ false
    → Grows (λ t. t ≡ state) order marks (order ++ state ∷ []) (set marks state.number true)
Grows-visit order marks state here not_yet = record {
  sized = length-set marks state.number true;
  kept = λ s e. ⊎_elim
      (λ same. ap (λ n. get_or (set marks state.number true) n false) same ∙ get_or-set_same marks state.number true false here)
      (λ ne. get_or-set_other marks state.number s.number true false ne ∙ e)
      (cases_eq s.number state.number);
  front = λ i s e. there_front order (state ∷ []) i s e;
  news = λ i s e. ⊎_elim (λ old. inl (i, old)) (λ is. inr is) (there_more order state s i e);
  listed = λ all s e. ⊎_elim
      (λ same. (length order, last_at order state ∙ ap Some (same_state state s (sym same))))
      (λ ne. let old = all s (sym (get_or-set_other marks state.number s.number true false ne) ∙ e) in (old.0, there_front order (state ∷ []) old.0 s old.1))
      (cases_eq s.number state.number);
  counted = let n = unmarked-set marks state.number here not_yet in omega (arith, length-append order (state ∷ []));
}

-- what was followed stays so while more states are marked
module _ {M : Type 0} (Filled : M → Type 0) (ends : M → Ends) (owned : ℕ → Bool) (free : State → Bool) (moves : List M) (K : State → Type 0) (o : List State) (m : List Bool) (p : List State) (n : List Bool) (g : Grows K o m p n) where
  pub followed_more : (w : M) → IsFollowed Filled ends free m w → IsFollowed Filled ends free n w
  followed_more w h = record { sides = λ t e. g.kept t (h.sides t e); filled = h.filled }

  pub all_followed_more : (count : ℕ) → AllFollowed Filled ends owned free moves m count → AllFollowed Filled ends owned free moves n count
  all_followed_more count h i w l there own = followed_more w (h i w l there own)

followed_kept : (b : Owned) (free : State → Bool) (s : State) (moves : StateMoves) (K : State → Type 0) (o : List State) (m : List Bool) (p : List State) (n : List Bool) → Grows K o m p n
    → AreFollowed b free s moves m → AreFollowed b free s moves n
followed_kept b free s moves K o m p n g h = record {
  texts = all_followed_more TextFilled text_ends (b.text s) free moves.texts K o m p n g _ h.texts;
  elements = all_followed_more LabelFilled label_ends (b.element s) free moves.labels K o m p n g _ h.elements;
}

-- one more move
module _ {M : Type 0} (Filled : M → Type 0) (ends : M → Ends) (owned : ℕ → Bool) (free : State → Bool) (moves : List M) (order : List State) (marks : List Bool) where
  all_followed_next : (n : List Bool) (count : ℕ) (w : M) → slice_get moves count ≡ Some w → AllFollowed Filled ends owned free moves n count → (owned count ≡ false → IsFollowed Filled ends free n w)
      → AllFollowed Filled ends owned free moves n (count + 1)
  all_followed_next n count w there h last i t l at own = ⊎_elim
      (λ same. let is : w ≡ t = some_same (sym there ∙ ap (λ k. slice_get moves k) (sym same) ∙ at) in subst (IsFollowed Filled ends free n) is (last (ap owned (sym same) ∙ own)))
      (λ ne. h i t (omega arith) at own)
      (cases_eq i count)

  -- it belongs to the variable, or was followed before
  pub visit_past : (p : List State) (n : List Bool) (count : ℕ) (w : M) → slice_get moves count ≡ Some w → (owned count ≡ false → IsFollowed Filled ends free n w)
      → IsVisiting Filled ends owned free moves order marks p n count → IsVisiting Filled ends owned free moves order marks p n (count + 1)
  visit_past p n count w there has h = record { grows = h.grows; marked = all_followed_next n count w there h.marked has }

  -- it is followed
  pub visit_more : (p : List State) (n : List Bool) (q : List State) (r : List Bool) (count : ℕ) (w : M) → slice_get moves count ≡ Some w → owned count ≡ false → Grows (IsSideOf free (ends w)) p n q r
      → IsFollowed Filled ends free r w → IsVisiting Filled ends owned free moves order marks p n count → IsVisiting Filled ends owned free moves order marks q r (count + 1)
  visit_more p n q r count w there own g has h = record {
    grows = Grows-trans (LeadsBy ends owned free moves) order marks p n q r h.grows
        (Grows-weaker (IsSideOf free (ends w)) (LeadsBy ends owned free moves) p n q r (λ t side. record { number = count; move = w; there = there; own = own; side = side }) g);
    marked = all_followed_next r count w there (all_followed_more Filled ends owned free moves (IsSideOf free (ends w)) p n q r g count h.marked) (λ o. has);
  }

-- a state that was listed
pub listed_there : (a : Automaton) (b : Owned) (start : State) (free : State → Bool) (order : List State) (marks : List Bool) (count : ℕ) → IsSearch a b start free order marks count
    → (i : ℕ) (s : State) → i < length order → s ≡ get_or order i s → IsState a s
listed_there a b start free order marks count h i s l is = h.states i s (slice_get_read order (length order) i s refl l is)

module _ (a : Automaton) (b : Owned) (start : State) (free : State → Bool) (closed : IsClosed a) where
  pub search_begun : (none marks : List Bool) (order : List State) → IsState a start → length none ≡ length a → ((s : State) → is_marked none s ≡ false)
      → Grows (λ t. t ≡ start) [] none order marks → is_marked marks start ≡ true → IsSearch a b start free order marks 0
  search_begun none marks order here long lacks g begun = record {
    sized = g.sized ∙ long;
    states = λ i s e. ⊎_elim (λ old. absurd (let w = old.1 in cc)) (λ is. subst (λ q. IsState a q) (sym is) here) (g.news i s e);
    sound = λ i s e. ⊎_elim (λ old. absurd (let w = old.1 in cc)) (λ is. subst (λ q. IsAhead a b free start q) (sym is) is_start) (g.news i s e);
    listed = g.listed (λ s e. absurd (let w = lacks s in cc));
    begun = begun;
    followed = λ i s l. absurd (omega arith);
  }

  leads : (s t : State) → IsState a s → IsAhead a b free start s → LeadsAhead b free s (moves_at a s) t → IsState a t × IsAhead a b free start t
  leads s t here p (inl l) = over l.side
    where
      over : IsSideOf free (text_ends l.move) t → IsState a t × IsAhead a b free start t
      over (is_behind other is) =
          (subst (λ q. IsState a q) is (closed_text a s l.number l.move closed here l.there), subst (λ q. IsAhead a b free start q) is (past_text s l.move l.number p l.there l.own))
      over (is_inside other is) = absurd (cc)
  leads s t here p (inr l) = over l.side
    where
      below : LabelBelow (length a) l.move
      below = closed_element a s l.number l.move closed here l.there

      over : IsSideOf free (label_ends l.move) t → IsState a t × IsAhead a b free start t
      over (is_behind other is) = (subst (λ q. IsState a q) is below.1, subst (λ q. IsAhead a b free start q) is (past_element s l.move l.number p l.there l.own other))
      over (is_inside other e) =
          let is : l.move.content ≡ t = some_same e in
          (subst (λ q. IsState a q) is below.0, subst (λ q. IsAhead a b free start q) is (in_content s l.move l.number p l.there l.own other))

  pub search_more : (order : List State) (marks : List Bool) (count : ℕ) (s : State) (order2 : List State) (marks2 : List Bool) → IsSearch a b start free order marks count
      → slice_get order count ≡ Some s → Grows (LeadsAhead b free s (moves_at a s)) order marks order2 marks2 → AreFollowed b free s (moves_at a s) marks2
      → IsSearch a b start free order2 marks2 (count + 1)
  search_more order marks count s order2 marks2 h at g f = record {
    sized = g.sized ∙ h.sized;
    states = λ i t e. ⊎_elim (λ old. h.states old.0 t old.1) (λ k. (next t k).0) (g.news i t e);
    sound = λ i t e. ⊎_elim (λ old. h.sound old.0 t old.1) (λ k. (next t k).1) (g.news i t e);
    listed = g.listed h.listed;
    begun = g.kept start h.begun;
    followed = λ i t l e. ⊎_elim
        (λ same. let is : s ≡ t = some_same (sym (g.front count s at) ∙ ap (λ k. slice_get order2 k) (sym same) ∙ e) in subst (λ q. AreFollowed b free q (moves_at a q) marks2) is f)
        (λ ne. older i t (omega arith) e)
        (cases_eq i count);
  }
    where
      next : (t : State) → LeadsAhead b free s (moves_at a s) t → IsState a t × IsAhead a b free start t
      next t k = leads s t (h.states count s at) (h.sound count s at) k

      older : (i : ℕ) (t : State) → i < count → slice_get order2 i ≡ Some t → AreFollowed b free t (moves_at a t) marks2
      older i t l e =
          let within = slice_get_within order count s at in
          let old = there_below order i (omega arith) in
          let is : old.0 ≡ t = some_same (sym (g.front i old.0 old.1) ∙ e) in
          subst (λ q. AreFollowed b free q (moves_at a q) marks2) is
          (followed_kept b free old.0 (moves_at a old.0) (LeadsAhead b free s (moves_at a s)) order marks order2 marks2 g (h.followed i old.0 l old.1))
        where
          there_below : {X : Type 0} (xs : List X) (k : ℕ) → k < length xs → (x : X) × (slice_get xs k ≡ Some x)
          there_below [] k l = absurd (omega arith)
          there_below (x ∷ xs) zero l = (x, refl)
          there_below (x ∷ xs) (suc k) l = there_below xs k (omega arith)

  pub searched : (order : List State) (marks : List Bool) (count : ℕ) → length order ≤ count → IsSearch a b start free order marks count → IsSearched a b start free order
  searched order marks count all h = record {
    states = h.states;
    lists = record { sound = λ s i e. h.sound i s e; complete = λ s p. h.listed s (marked s p) };
    filled = λ s m n p there own. ((followed s p).elements n m (slice_get_within (moves_at a s).labels n m there) there own).filled;
    filled_texts = λ s m n p there own. ((followed s p).texts n m (slice_get_within (moves_at a s).texts n m there) there own).filled;
  }
    where
      at_once : (s : State) → is_marked marks s ≡ true → AreFollowed b free s (moves_at a s) marks
      at_once s k =
          let l = h.listed s k in
          let w = slice_get_within order l.0 s l.1 in
          h.followed l.0 s (omega arith) l.1

      marked : (s : State) → IsAhead a b free start s → is_marked marks s ≡ true
      marked s is_start = h.begun
      marked s (past_text p m n k there own) = ((at_once p (marked p k)).texts n m (slice_get_within (moves_at a p).texts n m there) there own).sides m.rest (is_behind tt refl)
      marked s (past_element p m n k there own other) = ((at_once p (marked p k)).elements n m (slice_get_within (moves_at a p).labels n m there) there own).sides m.rest (is_behind other refl)
      marked s (in_content p m n k there own other) = ((at_once p (marked p k)).elements n m (slice_get_within (moves_at a p).labels n m there) there own).sides m.content (is_inside other refl)

      followed : (s : State) → IsAhead a b free start s → AreFollowed b free s (moves_at a s) marks
      followed s p = at_once s (marked s p)

pub none_marked : (n k : ℕ) → get_or (replicate n false) k false ≡ false
none_marked zero k = refl
none_marked (suc n) zero = refl
none_marked (suc n) (suc k) = none_marked n k
