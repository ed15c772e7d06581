-- What states accept that were made of others.
use Rattle.std.proofs.Common.{ℕ, zero, suc, ◌≡◌, ◌+◌, ◌-◌, ◌<◌, ◌≤◌, Bool, true, false, ◌||◌, List, [], ◌∷◌, ◌++◌, length, get_or, take, map, Some, None, arith, refl, sym, ap, subst, ◌∙◌, length-append, inl, inr}
use Rattle.std.proofs.lemmas.List.{get_or_default, get_or-append-add, length-map, get_or-map}
use Rattle.std.proofs.lemmas.Bool.{cases_lt}
use Rattle.std.specs.List.{All, AllZip, list_any}
use Rattle.std.proofs.lemmas.List.Elements.{All-head, All-tail, All-cons, All-nil, All-append, All-map}
use Rattle.std.proofs.lemmas.List.Folds.{list_any_more}
use Rattle.xd_doc.specs.Document.{Document, empty, text, element}
use Rattle.xd_auto.specs.declared.auto.State.{State}
use Rattle.xd_auto.specs.declared.auto.LabelMove.{LabelMove}
use Rattle.xd_auto.specs.declared.auto.TextMove.{TextMove}
use Rattle.xd_auto.specs.Automaton.{Automaton, StateMoves, IsState, IsClosed, LeadsBelow, Extends, KeepsAccepting, accepts, moves_at, no_moves, takes_element, takes_word}
use Rattle.xd_auto.specs.Copying.{AddsMoves, AreCopied, AreStateCopies, AreUnited, Copies, HasCopy, IsCopy, IsCopyOf, IsReached, IsStateCopy, is_content, is_rest, LabelBelow, LeadsTo, by_element, by_text, here, further, Reached, accepts_by, copy_of, moved, moved_text, no_copies}
use Rattle.xd_auto.proofs.Closed.{moves_at-closed, LeadsBelow-more, no_moves-below}
use Rattle.xd_auto.proofs.ExtendsLemmas.{list_any-agree}
use Rattle.xd_auto.proofs.Copies.{adds_text, adds_element}
use Rattle.xd_auto.proofs.FindsMoreLemmas.{state_at}

pub zip_all : {X Y : Type 0} (R : X → Y → Type 0) (P : X → Type 0) (Q : Y → Type 0) → ((x : X) (y : Y) → P x → R x y → Q y) → (xs : List X) (ys : List Y) → AllZip R xs ys → All P xs → All Q ys
zip_all R P Q f [] [] h all = All-nil Q
zip_all R P Q f [] (v ∷ ys) h all = absurd h
zip_all R P Q f (u ∷ xs) [] h all = absurd h
zip_all R P Q f (u ∷ xs) (v ∷ ys) h all = All-cons Q v ys (f u v (All-head P u xs all) h.0) (zip_all R P Q f xs ys h.1 (All-tail P u xs all))

-- moves lead below n where the old ones do, and the copies of what the copied ones lead to
pub adds_below : (n : ℕ) (contents rests : Copies) (moves old new : StateMoves) → LeadsBelow n old
    → All (λ (m : LabelMove). ((moved contents m.content).number < n) × ((moved rests m.rest).number < n)) moves.labels
    → All (λ (m : TextMove). (moved rests m.rest).number < n) moves.texts → AddsMoves contents rests moves old new → LeadsBelow n new
adds_below n contents rests moves old new below labels texts h = record {
  labels = rw h.labels.behind (All-append (LabelBelow n) old.labels h.labels.more below.labels
      (zip_all (IsCopy contents rests) (λ (m : LabelMove). ((moved contents m.content).number < n) × ((moved rests m.rest).number < n)) (LabelBelow n)
      (λ m k p copy. rw (copy.content, copy.rest) p) moves.labels h.labels.more h.labels.copies labels));
  texts = rw h.texts (All-append (λ (m : TextMove). m.rest.number < n) old.texts (map (moved_text rests) moves.texts) below.texts
      (All-map (λ (m : TextMove). m.rest.number < n) (moved_text rests) moves.texts texts));
}

-- moves that stay lead where they led
pub stays_below : (a : Automaton) (n : ℕ) (s : State) (old new : StateMoves) → IsClosed a → IsState a s → length a ≤ n → LeadsBelow n old → AddsMoves no_copies no_copies (moves_at a s) old new → LeadsBelow n new
stays_below a n s old new closed is le below h =
    let own = LeadsBelow-more (length a) n (moves_at a s) le (moves_at-closed a s closed is) in
    adds_below n no_copies no_copies (moves_at a s) old new below own.labels own.texts h

module _ (a b : Automaton) (more : Extends a b) (keep : KeepsAccepting a b) where
  -- an old state's moves accept what the state did
  pub old_text : (s : State) (t : List ℕ) (r : Document) → IsState a s → list_any (takes_word b t r) (moves_at a s).texts ≡ accepts a (text t r) s
  old_text s t r is = ap (λ (m : StateMoves). list_any (takes_word b t r) m.texts) (sym (more.moves s is)) ∙ keep (text t r) s is

  pub old_element : (s : State) (l : List ℕ) (c r : Document) → IsState a s → list_any (takes_element b l c r) (moves_at a s).labels ≡ accepts a (element l c r) s
  old_element s l c r is = ap (λ (m : StateMoves). list_any (takes_element b l c r) m.labels) (sym (more.moves s is)) ∙ keep (element l c r) s is

  -- moves with those of an old state accept what that state does too
  accepts_more : (s : State) (old new : StateMoves) → IsState a s → AddsMoves no_copies no_copies (moves_at a s) (record old { last = old.last || (moves_at a s).last }) new
      → (d : Document) → accepts_by b new d ≡ (accepts_by b old d || accepts a d s)
  accepts_more s old new is h empty = h.last
  accepts_more s old new is h (text t r) =
      adds_text no_copies no_copies (moves_at a s) (record old { last = old.last || (moves_at a s).last }) new (takes_word b t r) h
      ∙ ap (λ w. list_any (takes_word b t r) old.texts || w) (old_text s t r is)
  accepts_more s old new is h (element l c r) =
      adds_element b no_copies no_copies (moves_at a s) (record old { last = old.last || (moves_at a s).last }) new (λ m. Unit {0}) (takes_element b l c r) l c r (λ m p. refl) (λ k d lt. tt) h
      ∙ ap (λ w. list_any (takes_element b l c r) old.labels || w) (old_element s l c r is)

pub accepts_by_moves : (a : Automaton) (s : State) (d : Document) → accepts a d s ≡ accepts_by a (moves_at a s) d
accepts_by_moves a s empty = refl
accepts_by_moves a s (text t r) = refl
accepts_by_moves a s (element l c r) = refl

pub united_none : (a : Automaton) → AreUnited a [] (no_moves false)
united_none a = record { below = λ closed. no_moves-below (length a) false; accepted = λ b more keep d. none b d }
  where
    none : (b : Automaton) (d : Document) → accepts_by b (no_moves false) d ≡ false
    none b empty = refl
    none b (text t r) = refl
    none b (element l c r) = refl

pub united_more : (a : Automaton) (ss : List State) (i : ℕ) (d : State) (old new : StateMoves) → i < length ss → IsState a (get_or ss i d) → AreUnited a (take i ss) old
    → AddsMoves no_copies no_copies (moves_at a (get_or ss i d)) (record old { last = old.last || (moves_at a (get_or ss i d)).last }) new → AreUnited a (take (i + 1) ss) new
united_more a ss i d old new lt is u h =
    let s : State = get_or ss i d in
    record {
      below = λ closed.
          let b = u.below closed in
          stays_below a (length a) s (record old { last = old.last || (moves_at a s).last }) new closed is (omega arith) (record { labels = b.labels; texts = b.texts }) h;
      accepted = λ b more keep t.
          accepts_more a b more keep s old new is h t ∙ ap (λ w. w || accepts a t s) (u.accepted b more keep t) ∙ sym (list_any_more (accepts a t) ss i d lt);
    }

-- the state after an automaton
pub moves_behind : (a more : Automaton) (i : ℕ) (d : StateMoves) → i < length more → moves_at (a ++ more) (state_at (length a + i)) ≡ get_or more i (no_moves false)
moves_behind a more i d lt = get_or-append-add a more i (no_moves false)

pub zip_at : {X Y : Type 0} (R : X → Y → Type 0) (xs : List X) (ys : List Y) (i : ℕ) (d : X) (e : Y) → AllZip R xs ys → i < length xs → R (get_or xs i d) (get_or ys i e) × (i < length ys)
zip_at R [] ys i d e h lt = absurd (omega arith)
zip_at R (u ∷ xs) [] i d e h lt = absurd h
zip_at R (u ∷ xs) (v ∷ ys) zero d e h lt = (h.0, omega arith)
zip_at R (u ∷ xs) (v ∷ ys) (suc i) d e h lt = let r = zip_at R xs ys i d e h.1 (omega arith) in (r.0, omega (arith, r.1))

pub zip_length : {X Y : Type 0} (R : X → Y → Type 0) (xs : List X) (ys : List Y) → AllZip R xs ys → length ys ≡ length xs
zip_length R [] [] h = refl
zip_length R [] (v ∷ ys) h = absurd h
zip_length R (u ∷ xs) [] h = absurd h
zip_length R (u ∷ xs) (v ∷ ys) h = ap suc (zip_length R xs ys h.1)

pub moved_is : (copies : Copies) (s c : State) → copy_of copies s ≡ Some c → moved copies s ≡ c
moved_is copies s c is = rw is refl

module _ (a : Automaton) (contents : Bool) (start : State) (base : ℕ) (order : List State) (copies : Copies) (reached : Reached a contents start base order copies) where
  pub copy_below : (n : ℕ) → n ≡ length order → (s : State) → HasCopy copies s → (moved copies s).number < base + n
  copy_below n all s h =
      let l = reached.placed.listed s h.0 h.1 in
      let is : (moved copies s).number ≡ base + l.0 = ap (λ (w : State). w.number) (moved_is copies s h.0 h.1 ∙ l.3) in
      omega (arith, l.1)

  pub start_copy : copy_of copies start ≡ Some (state_at base)
  start_copy =
      let p = reached.placed.placed 0 start reached.some in
      let e : base + 0 ≡ base = omega arith in
      ap (λ (w : State). copy_of copies w) (sym (reached.head start)) ∙ p ∙ ap (λ n. Some (state_at n)) e

-- states that were copied with all that they lead to
module _ (a old : Automaton) (start : State) (order : List State) (copies : Copies) (made : List StateMoves)
    (reached : Reached a true start (length old) order copies) (made_so : AreStateCopies a copies copies None order made) where
  abbrev pub both : Automaton
  both = old ++ made

  -- the copy of a state, and the copies of what it leads to
  record Copied (s c : State) : Type 0 where
    moves : AddsMoves copies copies (moves_at a s) (no_moves (moves_at a s).last) (moves_at both c)
    targets : AreCopied true copies (moves_at a s)

  copied : (s c : State) → copy_of copies s ≡ Some c → Copied s c
  copied s c is =
      let l = reached.placed.listed s c is in
      let z = zip_at (IsStateCopy a copies copies None) order made l.0 s (no_moves false) made_so l.1 in
      let at : moves_at both c ≡ get_or made l.0 (no_moves false) = ap (λ (w : State). moves_at both w) l.3 ∙ moves_behind old made l.0 (no_moves false) z.1 in
      record {
        moves = subst (λ (m : StateMoves). AddsMoves copies copies (moves_at a s) (no_moves (moves_at a s).last) m) (sym at) (rw l.2 at z.0);
        targets = rw l.2 at (reached.closed l.0 s l.1);
      }

  pub copy_accepts : (d : Document) (s c : State) → copy_of copies s ≡ Some c → accepts both d c ≡ accepts a d s
  copy_accepts empty s c is = (copied s c is).moves.last
  copy_accepts (text t r) s c is =
      let k = copied s c is in
      adds_text copies copies (moves_at a s) (no_moves (moves_at a s).last) (moves_at both c) (takes_word both t r) k.moves
      ∙ list_any-agree (λ m. takes_word both t r (moved_text copies m)) (takes_word a t r) (moves_at a s).texts
      (λ i d lt. let h = k.targets.text_copies i d lt in
      rw (moved_is copies (get_or (moves_at a s).texts i d).rest h.0 h.1, copy_accepts r (get_or (moves_at a s).texts i d).rest h.0 h.1) refl)
  copy_accepts (element l x r) s c is =
      let k = copied s c is in
      adds_element both copies copies (moves_at a s) (no_moves (moves_at a s).last) (moves_at both c)
      (λ (m : LabelMove). HasCopy copies m.content × HasCopy copies m.rest) (takes_element a l x r) l x r
      (λ m h. rw (moved_is copies m.content h.0.0 h.0.1, moved_is copies m.rest h.1.0 h.1.1, copy_accepts x m.content h.0.0 h.0.1, copy_accepts r m.rest h.1.0 h.1.1) refl)
      (λ i d lt. (k.targets.content_copies refl i d lt, k.targets.rest_copies i d lt)) k.moves

  pub made_length : length made ≡ length order
  made_length = zip_length (IsStateCopy a copies copies None) order made made_so

  pub copies_below : All (LeadsBelow (length old + length made)) made
  copies_below i d lt =
      let in_order : i < length order = omega (arith, made_length) in
      let z = zip_at (IsStateCopy a copies copies None) order made i (state_at 0) d made_so in_order in
      let t = reached.closed i (state_at 0) in_order in
      adds_below (length old + length made) copies copies (moves_at a (get_or order i (state_at 0))) (no_moves (moves_at a (get_or order i (state_at 0))).last) (get_or made i d) (no_moves-below _ _)
      (λ k e below. (copy_below a true start (length old) order copies reached (length made) made_length (get_or (moves_at a (get_or order i (state_at 0))).labels k e).content (t.content_copies refl k e below), copy_below a true start (length old) order copies reached (length made) made_length (get_or (moves_at a (get_or order i (state_at 0))).labels k e).rest (t.rest_copies k e below)))
      (λ k e below. copy_below a true start (length old) order copies reached (length made) made_length (get_or (moves_at a (get_or order i (state_at 0))).texts k e).rest (t.text_copies k e below)) z.0

  -- a move to a state leads, at the copies, to its copy
  leads_copied : (s t c e : State) → copy_of copies s ≡ Some c → copy_of copies t ≡ Some e → LeadsTo a s t → LeadsTo both c e
  leads_copied s t c e is is_t (by_text among) =
      let k = copied s c is in
      let m = among.0 in
      let xs = (moves_at a s).texts in
      let place = among.1.0 in
      let at : get_or (map (moved_text copies) xs) place (moved_text copies m) ≡ moved_text copies m = get_or-map (moved_text copies) xs place m (moved_text copies m) among.1.1 ∙ ap (moved_text copies) among.1.2 in
      by_text (moved_text copies m, rw k.moves.texts (place, omega (arith, among.1.1, length-map xs (moved_text copies)), at), ap (moved copies) among.2 ∙ moved_is copies t e is_t)
  leads_copied s t c e is is_t (by_element (is_content m on among to)) =
      let k = copied s c is in
      let z = zip_at (IsCopy copies copies) (moves_at a s).labels k.moves.labels.more among.0 m m k.moves.labels.copies among.1 in
      let copy : IsCopy copies copies m (get_or k.moves.labels.more among.0 m) = rw among.2 at z.0 in
      by_element (is_content (get_or k.moves.labels.more among.0 m) refl (rw k.moves.labels.behind (among.0, z.1, get_or_default k.moves.labels.more among.0 (get_or k.moves.labels.more among.0 m) m z.1))
      (copy.content ∙ ap (moved copies) to ∙ moved_is copies t e is_t))
  leads_copied s t c e is is_t (by_element (is_rest m among to)) =
      let k = copied s c is in
      let z = zip_at (IsCopy copies copies) (moves_at a s).labels k.moves.labels.more among.0 m m k.moves.labels.copies among.1 in
      let copy : IsCopy copies copies m (get_or k.moves.labels.more among.0 m) = rw among.2 at z.0 in
      by_element (is_rest (get_or k.moves.labels.more among.0 m) (rw k.moves.labels.behind (among.0, z.1, get_or_default k.moves.labels.more among.0 (get_or k.moves.labels.more among.0 m) m z.1))
      (copy.rest ∙ ap (moved copies) to ∙ moved_is copies t e is_t))

  -- each copy is reached from the first one
  reached_below : (n i : ℕ) → i < n → i < length order → IsReached both (state_at (length old)) (state_at (length old + i))
  reached_below zero i lt below = absurd (omega arith)
  reached_below (suc n) zero lt below = let e : length old + 0 ≡ length old = omega arith in rw e here
  reached_below (suc n) (suc i) lt below =
      let p = reached.parents (suc i) start (omega arith) below in
      let k_in : p.0 < length order = omega (arith, p.1) in
      further (state_at (length old + p.0)) (state_at (length old + suc i)) (reached_below n p.0 (omega (arith, p.1)) k_in)
      (leads_copied (get_or order p.0 start) (get_or order (suc i) start) (state_at (length old + p.0)) (state_at (length old + suc i))
      (reached.placed.placed p.0 start k_in) (reached.placed.placed (suc i) start below) p.2)

  pub copies_reached : (s : State) → IsState both s → length old ≤ s.number → IsReached both (state_at (length old)) s
  copies_reached s is above =
      let below : s.number - length old < length order = omega (arith, made_length, length-append old made) in
      let e : length old + (s.number - length old) ≡ s.number = omega arith in
      subst (λ n. IsReached both (state_at (length old)) (state_at n)) e (reached_below (length order) (s.number - length old) below below)

  -- the states that were copied are reached from the start
  order_reached : (n i : ℕ) → i < n → i < length order → IsReached a start (get_or order i start)
  order_reached zero i lt below = absurd (omega arith)
  order_reached (suc n) zero lt below = rw (reached.head start) here
  order_reached (suc n) (suc i) lt below =
      let p = reached.parents (suc i) start (omega arith) below in
      further (get_or order p.0 start) (get_or order (suc i) start) (order_reached n p.0 (omega (arith, p.1)) (omega (arith, p.1))) p.2

  pub copies_have_originals : (s : State) → IsState both s → length old ≤ s.number → IsCopyOf a start both (state_at (length old)) s
  copies_have_originals s is above =
      let i : ℕ = s.number - length old in
      let below : i < length order = omega (arith, made_length, length-append old made) in
      let e : length old + i ≡ s.number = omega arith in
      let at : state_at (length old + i) ≡ s = ap state_at e in
      record {
        original = get_or order i start;
        reached = order_reached (length order) i below below;
        led = λ other.
            let later : 0 < i = elim (cases_lt 0 i) [ inl h ↦ h | inr h ↦ absurd (other (let first : s.number ≡ length old = omega arith in ap state_at first)) ] in
            let p = reached.parents i start later below in
            (get_or order p.0 start, order_reached (length order) p.0 (omega (arith, p.1)) (omega (arith, p.1)), p.2);
        same = λ d. subst (λ (c : State). accepts both d c ≡ accepts a d (get_or order i start)) at (copy_accepts d (get_or order i start) (state_at (length old + i)) (reached.placed.placed i start below));
      }
