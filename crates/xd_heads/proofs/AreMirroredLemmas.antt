-- An automaton while it is made.
use Rattle.std.proofs.Common.{◌≡◌, ◌≢◌, ℕ, zero, suc, ◌+◌, ◌<◌, ◌≤◌, ◌⊎◌, arith, Bool, false, List, [], ◌∷◌, ◌++◌, map, length, length-append, set, Option, Some, None, refl, ap, sym, subst, ◌∙◌, inl, inr}
use Rattle.std.specs.List.{AllByRecursion}
use Rattle.std.proofs.Math.ListN.{get_or-append, length-set}
use Rattle.std.proofs.Math.Seq.{get_or-append_seam}
use Rattle.std.proofs.lemmas.List.{get_or-set_same, get_or-set_other}
use Rattle.xd_doc.proofs.Lists.{all_more, all_append}
use Rattle.xd_syntax.specs.Tree.{Tree, Definitions, seq_of}
use Rattle.xd_syntax.specs.Table.{Row}
use Rattle.xd_meaning.specs.CanBeEmpty.{can_be_empty}
use Rattle.xd_syntax.specs.declared.types.TypeDef.{TypeDef}
use Rattle.xd_auto.specs.Automaton.{Automaton, StateMoves, no_moves, state_number, with_label_move, with_text_move}
use Rattle.xd_auto.specs.declared.auto.State.{State}
use Rattle.xd_auto.specs.declared.auto.LabelMove.{LabelMove}
use Rattle.xd_auto.specs.declared.auto.TextMove.{TextMove}
use Rattle.xd_rules.specs.Heads.{element_in, text_in}
use Rattle.xd_continuations.specs.Continuation.{Move, moves, IsContinuation}
use Rattle.xd_continuations.specs.Chains.{KeepsLinks}
use Rattle.xd_continuations.specs.Bounds.{IsBounded}
use Rattle.xd_sound.specs.TypeNames.{meanings}
use Rattle.xd_moves.specs.Pieces.{piece_tree}
use Rattle.xd_moves.specs.Found.{continuation, AreBounded}
use Rattle.xd_continuations.proofs.IsBoundedLemmas.{bounded_none}
use Rattle.xd_continuations.specs.Mirrors.{Continuations, AreMirrored, no_move, on_label, on_text, AreMirrors}
use Rattle.xd_heads.specs.Compiled.{numbered, continuations_of, fresh_state, GetsState, state_at, IsOfState, AreCompiled}
use Rattle.xd_moves.specs.Cells.{Cell}
use Rattle.xd_continuations.proofs.ChainLemmas.{kept_length, list_none}
use Rattle.xd_moves.proofs.PutsTasksLemmas.{continuation_kept}
use Rattle.xd_heads.specs.States.{IsOfCell, number_at}
use Rattle.xd_heads.proofs.StateLemmas.{number_below, number_within, number_front, number_pushed, one_number}

-- ---- mirrored moves

-- where more states have continuations
mirrored_more : (C D : Continuations) → ((s : State) (K : List Tree) → C s ≡ Some K → D s ≡ Some K) → {ms : List Move} {ls : List LabelMove} {ts : List TextMove} → AreMirrored C ms ls ts → AreMirrored D ms ls ts
mirrored_more C D h no_move = no_move
mirrored_more C D h (on_label k c r a) = on_label k (h _ _ c) (h _ _ r) (mirrored_more C D h a)
mirrored_more C D h (on_text k r a) = on_text k (h _ _ r) (mirrored_more C D h a)

mirrored_label : (C : Continuations) {ms : List Move} {ls : List LabelMove} {ts : List TextMove} → AreMirrored C ms ls ts → (m : Move) (l : LabelMove) → m.kind ≡ element_in l.class →
    C l.content ≡ Some m.content → C l.rest ≡ Some m.rest → AreMirrored C (ms ++ m ∷ []) (ls ++ l ∷ []) ts
mirrored_label C no_move m l k c r = on_label k c r no_move
mirrored_label C (on_label k' c' r' a) m l k c r = on_label k' c' r' (mirrored_label C a m l k c r)
mirrored_label C (on_text k' r' a) m l k c r = on_text k' r' (mirrored_label C a m l k c r)

mirrored_text : (C : Continuations) {ms : List Move} {ls : List LabelMove} {ts : List TextMove} → AreMirrored C ms ls ts → (m : Move) (t : TextMove) → m.kind ≡ text_in t.words →
    C t.rest ≡ Some m.rest → AreMirrored C (ms ++ m ∷ []) ls (ts ++ t ∷ [])
mirrored_text C no_move m t k r = on_text k r no_move
mirrored_text C (on_label k' c' r' a) m t k r = on_label k' c' r' (mirrored_text C a m t k r)
mirrored_text C (on_text k' r' a) m t k r = on_text k' r' (mirrored_text C a m t k r)

-- ---- continuations of states

known_kept : (types : List Row) (a b : List Cell) → KeepsLinks a b → (o : Option ℕ) → ((n : ℕ) → o ≡ Some n → n ≤ length a) → (K : List Tree) → numbered types a o ≡ Some K → numbered types b o ≡ Some K
known_kept types a b k None h K e = cc
known_kept types a b k (Some n) h K e = ap Some (continuation_kept types a b k n (h n refl)) ∙ e

cells_more : (types : List Row) (a b : List Cell) (states : List ℕ) → KeepsLinks a b → AllByRecursion (IsOfCell (length a)) states → (s : State) (K : List Tree) →
    continuations_of types a states s ≡ Some K → continuations_of types b states s ≡ Some K
cells_more types a b states k n s K e = known_kept types a b k (number_at states (state_number s)) (λ m i. number_below (length a) states (state_number s) m n i) K e

pushed_known : (types : List Row) (cells : List Cell) (states : List ℕ) (o : ℕ) (i : ℕ) (K : List Tree) (n : Option ℕ) → number_at states i ≡ n → numbered types cells n ≡ Some K →
    numbered types cells (number_at (states ++ o ∷ []) i) ≡ Some K
pushed_known types cells states o i K None q e = cc
pushed_known types cells states o i K (Some n) q e = ap (numbered types cells) (number_front states (o ∷ []) i n q) ∙ e

states_more : (types : List Row) (cells : List Cell) (states : List ℕ) (o : ℕ) (s : State) (K : List Tree) → continuations_of types cells states s ≡ Some K →
    continuations_of types cells (states ++ o ∷ []) s ≡ Some K
states_more types cells states o s K e = pushed_known types cells states o (state_number s) K (number_at states (state_number s)) refl e

-- ---- one more cell, one more state

module _ (types : List Row) (ds : List TypeDef) where
  number_kept : (a b : List Cell) → KeepsLinks a b → (n : ℕ) → IsOfCell (length a) n → IsOfCell (length b) n
  number_kept a b k n h = let l = kept_length a b k in omega arith

  pub compiled_cells : (a b : List Cell) (states : List ℕ) (auto : Automaton) (done : ℕ) (known : List Move) → KeepsLinks a b →
      AreCompiled types ds a states auto done known → AreCompiled types ds b states auto done known
  compiled_cells a b states auto done known k c =
      let C = cells_more types a b states k c.numbers in
      let same = λ (n i : ℕ) (e : number_at states n ≡ Some i). continuation_kept types a b k i (number_below (length a) states n i c.numbers e) in
      record {
        aligned = c.aligned;
        numbers = all_more (IsOfCell (length a)) (IsOfCell (length b)) states (number_kept a b k) c.numbers;
        continuations = λ n i e. subst (IsOfState types) (sym (same n i e)) (c.continuations n i e);
        flags = λ n i e. c.flags n i e ∙ ap (λ K. can_be_empty (meanings types ds) (seq_of K)) (sym (same n i e));
        complete = λ n i h e.
            subst (λ K. AreMirrored (continuations_of types b states) (moves (meanings types ds) K) (state_at auto n).labels (state_at auto n).texts)
            (sym (same n i e))
            (mirrored_more (continuations_of types a states) (continuations_of types b states) C (c.complete n i h e));
        current = mirrored_more (continuations_of types a states) (continuations_of types b states) C c.current;
        fresh = c.fresh;
      }

  at_push : (auto : Automaton) (b : Bool) (n : ℕ) → ((state_at (auto ++ no_moves b ∷ []) n).labels ≡ (state_at auto n).labels) × ((state_at (auto ++ no_moves b ∷ []) n).texts ≡ (state_at auto n).texts)
  at_push [] b zero = (refl, refl)
  at_push [] b (suc n) = (refl, refl)
  at_push (m ∷ auto) b zero = (refl, refl)
  at_push (m ∷ auto) b (suc n) = at_push auto b n

  cases_last : (i n : ℕ) → i < n + 1 → (i < n) ⊎ (i ≡ n)
  cases_last zero zero h = inr refl
  cases_last zero (suc n) h = inl (omega arith)
  cases_last (suc i) zero h = absurd (omega arith)
  cases_last (suc i) (suc n) h = elim (cases_last i n (omega arith)) [ inl l ↦ inl (omega arith) | inr e ↦ inr (ap suc e) ]

  same_lists : (C : Continuations) (ms : List Move) (ls ls' : List LabelMove) (ts ts' : List TextMove) → ls' ≡ ls → ts' ≡ ts → AreMirrored C ms ls ts → AreMirrored C ms ls' ts'
  same_lists C ms ls ls' ts ts' e f a = subst (λ xs. AreMirrored C ms xs ts') (sym e) (subst (AreMirrored C ms ls) (sym f) a)

  compiled_push : (cells : List Cell) (states : List ℕ) (auto : Automaton) (done : ℕ) (known : List Move) (number : ℕ) → number ≤ length cells → IsOfState types (continuation types cells number) →
      done ≤ length states → AreCompiled types ds cells states auto done known →
      AreCompiled types ds cells (states ++ number ∷ []) (auto ++ fresh_state types ds cells number ∷ []) done known
  compiled_push cells states auto done known number h k d c =
      let E = meanings types ds in
      let z = can_be_empty E (seq_of (continuation types cells number)) in
      let A = states_more types cells states number in
      let al = c.aligned in
      record {
        aligned = omega (arith, length-append auto (fresh_state types ds cells number ∷ []), length-append states (number ∷ []));
        numbers = all_append (IsOfCell (length cells)) states (number ∷ []) c.numbers (h, tt);
        continuations = λ n i e.
            elim (number_pushed states number n i e) [
              | inl old ↦ c.continuations n i old
              | inr new ↦ subst (λ m. IsOfState types (continuation types cells m)) new.1 k
            ];
        flags = λ n i e.
            elim (number_pushed states number n i e) [
              | inl old ↦
                  let w = number_within states n i old in
                  let j : n < length auto = omega arith in
                  ap (λ (m : StateMoves). m.last) (get_or-append auto (fresh_state types ds cells number ∷ []) (no_moves false) n j) ∙ c.flags n i old
              | inr new ↦
                  let at = new.0 in
                  let q : n ≡ length auto = omega arith in
                  ap (λ j. (state_at (auto ++ fresh_state types ds cells number ∷ []) j).last) q
                  ∙ ap (λ (m : StateMoves). m.last) (get_or-append_seam auto (fresh_state types ds cells number) [] (no_moves false))
                  ∙ ap (λ m. can_be_empty E (seq_of (continuation types cells m))) new.1
            ];
        complete = λ n i l e.
            let old = elim (number_pushed states number n i e) as (λ x. number_at states n ≡ Some i) [
              | inl o ↦ o
              | inr new ↦ absurd (let at = new.0 in let y : ⊥ = omega arith in y)
            ] in
            same_lists (continuations_of types cells (states ++ number ∷ [])) (moves E (continuation types cells i))
            (state_at auto n).labels (state_at (auto ++ no_moves z ∷ []) n).labels (state_at auto n).texts (state_at (auto ++ no_moves z ∷ []) n).texts (at_push auto z n).0 (at_push auto z n).1
            (mirrored_more (continuations_of types cells states) (continuations_of types cells (states ++ number ∷ [])) A (c.complete n i l old));
        current =
            same_lists (continuations_of types cells (states ++ number ∷ [])) known
            (state_at auto done).labels (state_at (auto ++ no_moves z ∷ []) done).labels (state_at auto done).texts (state_at (auto ++ no_moves z ∷ []) done).texts (at_push auto z done).0 (at_push auto z done).1
            (mirrored_more (continuations_of types cells states) (continuations_of types cells (states ++ number ∷ [])) A c.current);
        fresh = λ n l. ((at_push auto z n).0 ∙ (c.fresh n l).0, (at_push auto z n).1 ∙ (c.fresh n l).1);
      }

  pub compiled_state : (cells : List Cell) (states new : List ℕ) (auto new_auto : Automaton) (done : ℕ) (known : List Move) (number : ℕ) (s : State) → number ≤ length cells →
      IsOfState types (continuation types cells number) → done ≤ length states → GetsState types ds cells states new auto new_auto number s → AreCompiled types ds cells states auto done known →
      AreCompiled types ds cells new new_auto done known
  compiled_state cells states new auto new_auto done known number s h k d g c = go g.added
    where
      go : ((new ≡ states) × (new_auto ≡ auto)) ⊎ ((new ≡ states ++ number ∷ []) × (new_auto ≡ auto ++ fresh_state types ds cells number ∷ [])) → AreCompiled types ds cells new new_auto done known
      go (inl e) = subst (λ xs. AreCompiled types ds cells xs new_auto done known) (sym e.0) (subst (λ a. AreCompiled types ds cells states a done known) (sym e.1) c)
      go (inr e) =
          subst (λ xs. AreCompiled types ds cells xs new_auto done known) (sym e.0)
          (subst (λ a. AreCompiled types ds cells (states ++ number ∷ []) a done known) (sym e.1) (compiled_push cells states auto done known number h k d c))

  -- ---- one more move

  set_moves : (cells : List Cell) (states : List ℕ) (auto : Automaton) (done : ℕ) (known known' : List Move) (m : StateMoves) → done < length states → AreCompiled types ds cells states auto done known →
      m.last ≡ (state_at auto done).last → AreMirrored (continuations_of types cells states) known' m.labels m.texts → AreCompiled types ds cells states (set auto done m) done known'
  set_moves cells states auto done known known' m d c e a =
      let al = c.aligned in
      let h : done < length auto = omega arith in
      let same = get_or-set_same auto done m (no_moves false) h in
      let other = λ (n : ℕ) (q : n ≢ done). get_or-set_other auto done n m (no_moves false) q in
      record {
        aligned = length-set auto done m ∙ c.aligned;
        numbers = c.numbers;
        continuations = c.continuations;
        flags = λ n i l. flag n i l (cases n done);
        complete = λ n i l f.
            let q : n ≢ done = λ e. omega arith in
            subst (λ (x : StateMoves). AreMirrored (continuations_of types cells states) (moves (meanings types ds) (continuation types cells i)) x.labels x.texts) (sym (other n q)) (c.complete n i l f);
        current = subst (λ (x : StateMoves). AreMirrored (continuations_of types cells states) known' x.labels x.texts) (sym same) a;
        fresh = λ n l. let q : n ≢ done = λ e. omega arith in
            subst (λ (x : StateMoves). (x.labels ≡ []) × (x.texts ≡ [])) (sym (other n q)) (c.fresh n l);
      }
    where
      cases : (i j : ℕ) → (i ≡ j) ⊎ (i ≢ j)
      cases zero zero = inl refl
      cases zero (suc j) = inr (λ x. cc)
      cases (suc i) zero = inr (λ x. cc)
      cases (suc i) (suc j) = elim (cases i j) [ inl x ↦ inl (ap suc x) | inr x ↦ inr (λ y. x (omega arith)) ]

      flag : (n i : ℕ) → number_at states n ≡ Some i → (n ≡ done) ⊎ (n ≢ done) → (state_at (set auto done m) n).last ≡ can_be_empty (meanings types ds) (seq_of (continuation types cells i))
      flag n i l (inl q) =
          let al = c.aligned in
          let h : done < length auto = omega arith in
          ap (λ j. (state_at (set auto done m) j).last) q ∙ ap (λ (x : StateMoves). x.last) (get_or-set_same auto done m (no_moves false) h) ∙ e
          ∙ ap (λ j. (state_at auto j).last) (sym q) ∙ c.flags n i l
      flag n i l (inr q) = ap (λ (x : StateMoves). x.last) (get_or-set_other auto done n m (no_moves false) q) ∙ c.flags n i l

  pub compiled_label : (cells : List Cell) (states : List ℕ) (auto : Automaton) (s : State) (known : List Move) (v : Move) (l : LabelMove) → state_number s < length states →
      v.kind ≡ element_in l.class → continuations_of types cells states l.content ≡ Some v.content → continuations_of types cells states l.rest ≡ Some v.rest →
      AreCompiled types ds cells states auto (state_number s) known → AreCompiled types ds cells states (with_label_move auto s l) (state_number s) (known ++ v ∷ [])
  compiled_label cells states auto s known v l d k x r c =
      set_moves cells states auto (state_number s) known (known ++ v ∷ []) (record (state_at auto (state_number s)) { labels = (state_at auto (state_number s)).labels ++ l ∷ [] }) d c refl
      (mirrored_label (continuations_of types cells states) c.current v l k x r)

  pub compiled_text : (cells : List Cell) (states : List ℕ) (auto : Automaton) (s : State) (t : TextMove) (known : List Move) (v : Move) → state_number s < length states →
      v.kind ≡ text_in t.words → continuations_of types cells states t.rest ≡ Some v.rest →
      AreCompiled types ds cells states auto (state_number s) known → AreCompiled types ds cells states (with_text_move auto s t) (state_number s) (known ++ v ∷ [])
  compiled_text cells states auto s t known v d k r c =
      set_moves cells states auto (state_number s) known (known ++ v ∷ []) (record (state_at auto (state_number s)) { texts = (state_at auto (state_number s)).texts ++ t ∷ [] }) d c refl
      (mirrored_text (continuations_of types cells states) c.current v t k r)

  -- the state has all its moves
  pub compiled_next : (cells : List Cell) (states : List ℕ) (auto : Automaton) (done number : ℕ) → number_at states done ≡ Some number →
      AreCompiled types ds cells states auto done (moves (meanings types ds) (continuation types cells number)) → AreCompiled types ds cells states auto (done + 1) []
  compiled_next cells states auto done number at c = record {
    aligned = c.aligned;
    numbers = c.numbers;
    continuations = c.continuations;
    flags = c.flags;
    complete = λ n i h f. last n i f (cases_last n done h);
    current = let h : done < done + 1 = omega arith in
        same_lists (continuations_of types cells states) [] [] (state_at auto (done + 1)).labels [] (state_at auto (done + 1)).texts (c.fresh (done + 1) h).0 (c.fresh (done + 1) h).1 no_move;
    fresh = λ n h. c.fresh n (omega arith);
  }
    where
      last : (n i : ℕ) → number_at states n ≡ Some i → (n < done) ⊎ (n ≡ done) →
          AreMirrored (continuations_of types cells states) (moves (meanings types ds) (continuation types cells i)) (state_at auto n).labels (state_at auto n).texts
      last n i f (inl l) = c.complete n i l f
      last n i f (inr e) =
          let q : i ≡ number = one_number states done number i at (subst (λ j. number_at states j ≡ Some i) e f) in
          subst (λ j. AreMirrored (continuations_of types cells states) (moves (meanings types ds) (continuation types cells i)) (state_at auto j).labels (state_at auto j).texts) (sym e)
          (subst (λ k. AreMirrored (continuations_of types cells states) (moves (meanings types ds) (continuation types cells k)) (state_at auto done).labels (state_at auto done).texts) (sym q) c.current)

  -- ---- all states

  pub numbered_is : (cells : List Cell) (o : Option ℕ) (K : List Tree) → numbered types cells o ≡ Some K → (n : ℕ) × (o ≡ Some n) × (continuation types cells n ≡ K)
  numbered_is cells None K e = cc
  numbered_is cells (Some n) K e = (n, refl, cc)

  -- where all states have their moves, those of continuations mirror them
  pub compiled_mirrors : (cells : List Cell) (states : List ℕ) (auto : Automaton) (done : ℕ) → length states ≤ done → AreCompiled types ds cells states auto done [] →
      AreMirrors (meanings types ds) (continuations_of types cells states) auto
  compiled_mirrors cells states auto done h c s K e =
      let r = numbered_is cells (number_at states (state_number s)) K e in
      let n = state_number s in
      let l = number_within states n r.0 r.1 in
      let al = c.aligned in
      record {
        state = omega arith;
        continuation = subst IsContinuation r.2 (c.continuations n r.0 r.1).0;
        flag = c.flags n r.0 r.1 ∙ ap (λ L. can_be_empty (meanings types ds) (seq_of L)) r.2;
        moves = subst (λ L. AreMirrored (continuations_of types cells states) (moves (meanings types ds) L) (state_at auto n).labels (state_at auto n).texts) r.2 (c.complete n r.0 (omega arith) r.1);
      }

  pub bounded_no_cells : (E : Definitions) (m : ℕ) → AreBounded E m types []
  bounded_no_cells E m zero h = subst (IsBounded E m) (sym (ap (map (piece_tree types)) (list_none []))) (bounded_none E m)
  bounded_no_cells E m (suc n) h = absurd (omega arith)
