-- States that accept what one state accepts, followed by what another accepts.
use Rattle.std.proofs.Common.{ℕ, ◌≡◌, ◌+◌, ◌<◌, Bool, true, false, ◌&&◌, ◌||◌, List, ◌++◌, length, get_or, Some, arith, refl, sym, ap, subst, ◌∙◌, inl, inr}
use Rattle.std.proofs.Math.Bool.{or-false}
use Rattle.std.specs.List.{All, list_any}
use Rattle.std.proofs.lemmas.Bool.{and_from, or_left, or_right}
use Rattle.std.proofs.lemmas.Map.Keys.{any_passes_from_place}
use Rattle.xd_doc.specs.Document.{Document, empty, text, element, join}
use Rattle.xd_doc.specs.Classes.{class_has}
use Rattle.xd_doc.proofs.Bools.{and_left, and_right, or_cases}
use Rattle.xd_auto.specs.declared.auto.State.{State}
use Rattle.xd_auto.specs.declared.auto.LabelMove.{LabelMove}
use Rattle.xd_auto.specs.declared.auto.TextMove.{TextMove}
use Rattle.xd_auto.specs.Automaton.{Automaton, StateMoves, IsState, IsClosed, IsJoined, LeadsBelow, accepts, moves_at, no_moves, takes_element, takes_word}
use Rattle.xd_auto.specs.Copying.{AddsMoves, AreCopied, AreStateCopies, Copies, HasCopy, IsFrontCopy, IsStateCopy, Reached, copy_of, moved_text, no_copies}
use Rattle.xd_auto.proofs.Anys.{found}
use Rattle.xd_auto.proofs.Closed.{moves_at-closed, no_moves-below}
use Rattle.xd_auto.proofs.ExtendsLemmas.{list_any-agree, keeps, Extends-append}
use Rattle.xd_auto.proofs.Copies.{adds_text, adds_element}
use Rattle.xd_auto.proofs.FindsMoreLemmas.{state_at}
use Rattle.xd_auto.proofs.AddsMovesLemmas.{adds_below, stays_below, old_text, old_element, moves_behind, zip_at, zip_length, moved_is, copy_below, start_copy}

-- whether the state accepts a front of the document, and the other state what is left
abbrev splits : Automaton → State → Document → State → Bool
splits a t empty s = (moves_at a s).last && (moves_at a t).last
splits a t (text c r) s = list_any (λ (m : TextMove). class_has m.words c && splits a t r m.rest) (moves_at a s).texts || ((moves_at a s).last && accepts a (text c r) t)
splits a t (element l c r) s =
    list_any (λ (m : LabelMove). class_has m.class l && (accepts a c m.content && splits a t r m.rest)) (moves_at a s).labels || ((moves_at a s).last && accepts a (element l c r) t)

-- the same for a move over a text, and over an element
abbrev splits_word : Automaton → State → List ℕ → Document → TextMove → Bool
splits_word a t c r m = class_has m.words c && splits a t r m.rest

abbrev splits_element : Automaton → State → List ℕ → Document → Document → LabelMove → Bool
splits_element a t l c r m = class_has m.class l && (accepts a c m.content && splits a t r m.rest)

module _ (a : Automaton) (t : State) where
  splits_here : (d : Document) (s : State) → (moves_at a s).last ≡ true → accepts a d t ≡ true → splits a t d s ≡ true
  splits_here empty s e h = and_from (moves_at a s).last (moves_at a t).last e h
  splits_here (text c r) s e h =
      or_right (list_any (splits_word a t c r) (moves_at a s).texts) ((moves_at a s).last && accepts a (text c r) t) (and_from (moves_at a s).last (accepts a (text c r) t) e h)
  splits_here (element l c r) s e h =
      or_right (list_any (splits_element a t l c r) (moves_at a s).labels) ((moves_at a s).last && accepts a (element l c r) t) (and_from (moves_at a s).last (accepts a (element l c r) t) e h)

  splits_joined : (front back : Document) (s : State) → accepts a front s ≡ true → accepts a back t ≡ true → splits a t (join front back) s ≡ true
  splits_joined empty back s h k = splits_here back s h k
  splits_joined (text c r) back s h k =
      let f = found (takes_word a c r) (moves_at a s).texts h in
      or_left (list_any (splits_word a t c (join r back)) (moves_at a s).texts) ((moves_at a s).last && accepts a (text c (join r back)) t)
      (any_passes_from_place (splits_word a t c (join r back)) (moves_at a s).texts f.place f.item f.there
      (and_from (class_has f.item.words c) (splits a t (join r back) f.item.rest) (and_left (class_has f.item.words c) (accepts a r f.item.rest) f.passes)
      (splits_joined r back f.item.rest (and_right (class_has f.item.words c) (accepts a r f.item.rest) f.passes) k)))
  splits_joined (element l c r) back s h k =
      let f = found (takes_element a l c r) (moves_at a s).labels h in
      let has = and_left (class_has f.item.class l) (accepts a c f.item.content && accepts a r f.item.rest) f.passes in
      let parts = and_right (class_has f.item.class l) (accepts a c f.item.content && accepts a r f.item.rest) f.passes in
      or_left (list_any (splits_element a t l c (join r back)) (moves_at a s).labels) ((moves_at a s).last && accepts a (element l c (join r back)) t)
      (any_passes_from_place (splits_element a t l c (join r back)) (moves_at a s).labels f.place f.item f.there
      (and_from (class_has f.item.class l) (accepts a c f.item.content && splits a t (join r back) f.item.rest) has
      (and_from (accepts a c f.item.content) (splits a t (join r back) f.item.rest) (and_left (accepts a c f.item.content) (accepts a r f.item.rest) parts)
      (splits_joined r back f.item.rest (and_right (accepts a c f.item.content) (accepts a r f.item.rest) parts) k))))

  -- all of it is left to the other state
  joined_here : (d : Document) (s : State) → ((moves_at a s).last && accepts a d t) ≡ true → IsJoined a s t d
  joined_here d s e = record {
    front = empty;
    back = d;
    is = refl;
    front_accepted = and_left (moves_at a s).last (accepts a d t) e;
    back_accepted = and_right (moves_at a s).last (accepts a d t) e;
  }

  joined_of : (d : Document) (s : State) → splits a t d s ≡ true → IsJoined a s t d
  joined_of empty s e = joined_here empty s e
  joined_of (text c r) s e =
      elim (or_cases (list_any (splits_word a t c r) (moves_at a s).texts) ((moves_at a s).last && accepts a (text c r) t) e) [
        | inl h ↦
            let f = found (splits_word a t c r) (moves_at a s).texts h in
            let j = joined_of r f.item.rest (and_right (class_has f.item.words c) (splits a t r f.item.rest) f.passes) in
            record {
              front = text c j.front;
              back = j.back;
              is = ap (λ w. text c w) j.is;
              front_accepted = any_passes_from_place (takes_word a c j.front) (moves_at a s).texts f.place f.item f.there
                  (and_from (class_has f.item.words c) (accepts a j.front f.item.rest) (and_left (class_has f.item.words c) (splits a t r f.item.rest) f.passes) j.front_accepted);
              back_accepted = j.back_accepted;
            }
        | inr h ↦ joined_here (text c r) s h
      ]
  joined_of (element l c r) s e =
      elim (or_cases (list_any (splits_element a t l c r) (moves_at a s).labels) ((moves_at a s).last && accepts a (element l c r) t) e) [
        | inl h ↦
            let f = found (splits_element a t l c r) (moves_at a s).labels h in
            let has = and_left (class_has f.item.class l) (accepts a c f.item.content && splits a t r f.item.rest) f.passes in
            let parts = and_right (class_has f.item.class l) (accepts a c f.item.content && splits a t r f.item.rest) f.passes in
            let j = joined_of r f.item.rest (and_right (accepts a c f.item.content) (splits a t r f.item.rest) parts) in
            record {
              front = element l c j.front;
              back = j.back;
              is = ap (λ w. element l c w) j.is;
              front_accepted = any_passes_from_place (takes_element a l c j.front) (moves_at a s).labels f.place f.item f.there
                  (and_from (class_has f.item.class l) (accepts a c f.item.content && accepts a j.front f.item.rest) has
                  (and_from (accepts a c f.item.content) (accepts a j.front f.item.rest) (and_left (accepts a c f.item.content) (splits a t r f.item.rest) parts) j.front_accepted));
              back_accepted = j.back_accepted;
            }
        | inr h ↦ joined_here (element l c r) s h
      ]

  of_joined : (d : Document) (s : State) → IsJoined a s t d → splits a t d s ≡ true
  of_joined d s j = subst (λ (x : Document). splits a t x s ≡ true) (sym j.is) (splits_joined j.front j.back s j.front_accepted j.back_accepted)

-- states that were copied to go on at a tail
module _ (a : Automaton) (one two : State) (order : List State) (copies : Copies) (made : List StateMoves)
    (is_closed : IsClosed a) (is_two : IsState a two) (reached : Reached a false one (length a) order copies) (made_so : AreStateCopies a no_copies copies (Some two) order made) where
  abbrev pub grown : Automaton
  grown = a ++ made

  listed_state : (i : ℕ) (e : State) → i < length order → IsState a (get_or order i e)
  listed_state i e lt = reached.states i e lt

  -- the copy of a state, and the copies of what it leads to
  record Continued (s c : State) : Type 0 where
    moves : IsFrontCopy a no_copies copies two s (moves_at grown c)
    targets : AreCopied false copies (moves_at a s)
    state : IsState a s

  continued : (s c : State) → copy_of copies s ≡ Some c → Continued s c
  continued s c is =
      let l = reached.placed.listed s c is in
      let z = zip_at (IsStateCopy a no_copies copies (Some two)) order made l.0 s (no_moves false) made_so l.1 in
      let at : moves_at grown c ≡ get_or made l.0 (no_moves false) = ap (λ (w : State). moves_at grown w) l.3 ∙ moves_behind a made l.0 (no_moves false) z.1 in
      record {
        moves = subst (λ (m : StateMoves). IsFrontCopy a no_copies copies two s m) (sym at) (rw l.2 at z.0);
        targets = rw l.2 at (reached.closed l.0 s l.1);
        state = rw l.2 at (listed_state l.0 s l.1);
      }

  -- what the copied moves find, or at the end the tail
  or_at_tail : (s : State) (m : StateMoves) (h : IsFrontCopy a no_copies copies two s m) (any : StateMoves → Bool) (tail : Bool)
      → (AddsMoves no_copies no_copies (moves_at a two) h.front m → any m ≡ (any h.front || tail)) → any m ≡ (any h.front || ((moves_at a s).last && tail))
  or_at_tail s m h any tail adds = go (moves_at a s).last refl
    where
      go : (b : Bool) → (moves_at a s).last ≡ b → any m ≡ (any h.front || ((moves_at a s).last && tail))
      go true e = adds (h.joined e) ∙ ap (λ w. any h.front || (w && tail)) (sym e)
      go false e = ap any (h.ended e) ∙ sym (or-false (any h.front)) ∙ ap (λ w. any h.front || (w && tail)) (sym e)

  last_is : (s : State) (m : StateMoves) → IsFrontCopy a no_copies copies two s m → m.last ≡ ((moves_at a s).last && (moves_at a two).last)
  last_is s m h = go (moves_at a s).last refl
    where
      go : (b : Bool) → (moves_at a s).last ≡ b → m.last ≡ ((moves_at a s).last && (moves_at a two).last)
      go true e = (h.joined e).last ∙ h.copied.last
      go false e = ap (λ (w : StateMoves). w.last) (h.ended e) ∙ h.copied.last

  copy_splits : (d : Document) (s c : State) → copy_of copies s ≡ Some c → accepts grown d c ≡ splits a two d s
  copy_splits empty s c is = last_is s (moves_at grown c) (continued s c is).moves
  copy_splits (text t r) s c is =
      let k = continued s c is in
      let h = k.moves in
      or_at_tail s (moves_at grown c) h (λ m. list_any (takes_word grown t r) m.texts) (accepts a (text t r) two)
      (λ adds. adds_text no_copies no_copies (moves_at a two) h.front (moves_at grown c) (takes_word grown t r) adds
      ∙ ap (λ w. list_any (takes_word grown t r) h.front.texts || w) (old_text a grown (Extends-append a made) (keeps a grown is_closed (Extends-append a made)) two t r is_two))
      ∙ ap (λ w. w || ((moves_at a s).last && accepts a (text t r) two))
      (adds_text no_copies copies (moves_at a s) (no_moves ((moves_at a s).last && (moves_at a two).last)) h.front (takes_word grown t r) h.copied
      ∙ list_any-agree (λ m. takes_word grown t r (moved_text copies m)) (splits_word a two t r) (moves_at a s).texts
      (λ i d lt. let p = k.targets.text_copies i d lt in
      rw (moved_is copies (get_or (moves_at a s).texts i d).rest p.0 p.1, copy_splits r (get_or (moves_at a s).texts i d).rest p.0 p.1) refl))
  copy_splits (element l x r) s c is =
      let k = continued s c is in
      let h = k.moves in
      or_at_tail s (moves_at grown c) h (λ m. list_any (takes_element grown l x r) m.labels) (accepts a (element l x r) two)
      (λ adds. adds_element grown no_copies no_copies (moves_at a two) h.front (moves_at grown c) (λ m. Unit {0}) (takes_element grown l x r) l x r (λ m p. refl) (λ i d lt. tt) adds
      ∙ ap (λ w. list_any (takes_element grown l x r) h.front.labels || w) (old_element a grown (Extends-append a made) (keeps a grown is_closed (Extends-append a made)) two l x r is_two))
      ∙ ap (λ w. w || ((moves_at a s).last && accepts a (element l x r) two))
      (adds_element grown no_copies copies (moves_at a s) (no_moves ((moves_at a s).last && (moves_at a two).last)) h.front
      (λ (m : LabelMove). IsState a m.content × HasCopy copies m.rest) (splits_element a two l x r) l x r
      (λ m p. rw (keeps a grown is_closed (Extends-append a made) x m.content p.0, moved_is copies m.rest p.1.0 p.1.1, copy_splits r m.rest p.1.0 p.1.1) refl)
      (λ i d lt. (((moves_at-closed a s is_closed k.state).labels i d lt).0, k.targets.rest_copies i d lt)) h.copied)

  pub concat_law : (d : Document) → (accepts grown d (state_at (length a)) ≡ true → IsJoined a one two d) × (IsJoined a one two d → accepts grown d (state_at (length a)) ≡ true)
  concat_law d =
      let same = copy_splits d one (state_at (length a)) (start_copy a false one (length a) order copies reached) in
      (λ e. joined_of a two d one (sym same ∙ e), λ j. same ∙ of_joined a two d one j)

  pub joined_length : length made ≡ length order
  joined_length = zip_length (IsStateCopy a no_copies copies (Some two)) order made made_so

  front_below : (n : ℕ) (s : State) (m : StateMoves) → length a + length made ≡ n → IsState a s → AreCopied false copies (moves_at a s) → (h : IsFrontCopy a no_copies copies two s m) → LeadsBelow n h.front
  front_below n s m e is targets h =
      let own = moves_at-closed a s is_closed is in
      adds_below n no_copies copies (moves_at a s) (no_moves ((moves_at a s).last && (moves_at a two).last)) h.front (no_moves-below n ((moves_at a s).last && (moves_at a two).last))
      (λ i d lt. (omega (arith, (own.labels i d lt).0), omega (arith, copy_below a false one (length a) order copies reached (length made) joined_length (get_or (moves_at a s).labels i d).rest (targets.rest_copies i d lt))))
      (λ i d lt. omega (arith, copy_below a false one (length a) order copies reached (length made) joined_length (get_or (moves_at a s).texts i d).rest (targets.text_copies i d lt))) h.copied

  pub joined_below : All (LeadsBelow (length a + length made)) made
  joined_below i d lt =
      let in_order : i < length order = omega (arith, joined_length) in
      let z = zip_at (IsStateCopy a no_copies copies (Some two)) order made i (state_at 0) d made_so in_order in
      let front = front_below (length a + length made) (get_or order i (state_at 0)) (get_or made i d) refl (listed_state i (state_at 0) in_order) (reached.closed i (state_at 0) in_order) z.0 in
      go z.0 front (moves_at a (get_or order i (state_at 0))).last refl
    where
      go : (h : IsFrontCopy a no_copies copies two (get_or order i (state_at 0)) (get_or made i d)) → LeadsBelow (length a + length made) h.front
          → (b : Bool) → (moves_at a (get_or order i (state_at 0))).last ≡ b → LeadsBelow (length a + length made) (get_or made i d)
      go h front true e = stays_below a (length a + length made) two h.front (get_or made i d) is_closed is_two (omega arith) front (h.joined e)
      go h front false e = subst (LeadsBelow (length a + length made)) (sym (h.ended e)) front
