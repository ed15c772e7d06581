-- What is taken so far, and what waits.
use Rattle.std.proofs.Common.{ℕ, ◌≡◌, ◌+◌, ◌<◌, Bool, true, false, cond, nat_eq, List, [], ◌∷◌, ◌++◌, length, get_or, Some, None, Vec, arith, refl, sym, ap, ◌∙◌}
use Rattle.std.specs.List.{AllByRecursion, list_any}
use Rattle.xd_doc.specs.Document.{Document, empty, text, element, join}
use Rattle.xd_doc.specs.DocumentCode.{rest_of, content_of, first_then}
use Rattle.xd_doc.specs.Stored.{document_at}
use Rattle.xd_doc.specs.StoredSeq.{BelongsTo}
use Rattle.xd_doc.specs.StoreNodes.{first_of_document}
use Rattle.xd_doc.specs.declared.store.Seq.{Seq}
use Rattle.xd_doc.specs.declared.store.Item.TheVariants.{Text, Elem}
use Rattle.xd_doc.proofs.Lists.{all_append, all_but_last}
use Rattle.xd_doc.proofs.Joins.{join_empty-right, join_assoc}
use Rattle.xd_auto.specs.declared.auto.State.{State}
use Rattle.xd_auto.specs.declared.auto.LabelMove.{LabelMove}
use Rattle.xd_auto.specs.declared.auto.TextMove.{TextMove}
use Rattle.xd_auto.specs.Automaton.{Automaton, moves_at, takes_element, takes_word}
use Rattle.xd_syntax.specs.Words.{has_word}
use Rattle.xd_pattern_runs.specs.Runs.{if_marked}
use Rattle.xd_patterns.specs.Marked.{Marking}
use Rattle.xd_match.specs.declared.binding.Piece.{Piece}
use Rattle.xd_match.specs.declared.binding.Piece.TheVariants.{First, Whole}
use Rattle.xd_match.specs.declared.front.Task.{Task}
use Rattle.xd_match.specs.First.{first_held}
use Rattle.xd_match.specs.Tails.{AreTails, is_mixed, tail_marks}
use Rattle.xd_match.specs.Taking.{AddsPiece, AreTaken, IsFirst, IsReady, PieceBelongs, TakesItem, noted, pieces_then, waiting, work}
use Rattle.xd_match.proofs.Firsts.{held_element, held_empty, held_text}
use Rattle.xd_match.proofs.TailLaw.{tail_held}
use Rattle.xd_match.proofs.Pieces.{pieces_append}

pub work_append : (ds : List Document) (ts us : List Task) → work ds (ts ++ us) ≡ work ds ts + work ds us
work_append ds [] us = omega arith
work_append ds (t ∷ ts) us = omega (arith, work_append ds ts us)

waiting_append : (a : Automaton) (k : Marking) (ds : List Document) (x : List ℕ) (ts us : List Task) → waiting a k ds x (ts ++ us) ≡ join (waiting a k ds x us) (waiting a k ds x ts)
waiting_append a k ds x [] us = sym (join_empty-right (waiting a k ds x us))
waiting_append a k ds x (t ∷ ts) us =
    ap (λ (d : Document). join d (first_held a k x (document_at ds t.seq) t.state)) (waiting_append a k ds x ts us)
    ∙ join_assoc (waiting a k ds x us) (waiting a k ds x ts) (first_held a k x (document_at ds t.seq) t.state)

-- one of the members, where there are any
pub some_of : {X : Type 0} (xs : List X) (n : ℕ) → n < length xs → X
some_of [] n lt = absurd (omega arith)
some_of (x ∷ xs) n lt = x

-- the marked variables, by number, are these words
abbrev pub AreMarked : List (List ℕ) → List ℕ → List (List ℕ) → Type 0
AreMarked vs ms words = (x : ℕ) → x < length vs → list_any (λ n. nat_eq n x) ms ≡ has_word words (get_or vs x [])

noted_belong : (ds : List Document) (ms : List ℕ) (x : ℕ) (p : Piece) → PieceBelongs ds p → AllByRecursion (PieceBelongs ds) (noted ms x p)
noted_belong ds ms x p h = go (list_any (λ n. nat_eq n x) ms)
  where
    go : (b : Bool) → AllByRecursion (PieceBelongs ds) (cond b (p ∷ []) [])
    go true = (h, tt)
    go false = tt

module _ {A : Type 0} (a : Automaton) (k : Marking) (vs : List (List ℕ)) (ds : List Document) (start : Task) where
  -- an item is taken
  pub taken_more : (old new : List (Vec Piece A)) (ts : List Task) (t : Task) (next : List Task) → AreTaken a k vs ds start old (ts ++ t ∷ [])
      → TakesItem a k vs ds t old new next → AreTaken a k vs ds start new (ts ++ next)
  taken_more old new ts t next h q = record {
    count = q.same ∙ h.count;
    ready = all_append (IsReady a ds) ts next (all_but_last (IsReady a ds) ts t h.ready).0 q.ready;
    belong = λ x e lt. q.belong x e (omega (arith, h.count)) (h.belong x e lt);
    held_is = λ x e lt.
        ap (pieces_then ds (get_or new x e).items) (waiting_append a k ds (get_or vs x []) ts next)
        ∙ q.held_is x e (waiting a k ds (get_or vs x []) ts) (omega (arith, h.count)) lt
        ∙ ap (pieces_then ds (get_or old x e).items) (sym (waiting_append a k ds (get_or vs x []) ts (t ∷ [])))
        ∙ h.held_is x e lt;
  }

  -- a document without items is passed over
  pub taken_empty : (old : List (Vec Piece A)) (ts : List Task) (t : Task) → AreTaken a k vs ds start old (ts ++ t ∷ []) → document_at ds t.seq ≡ empty
      → AreTaken a k vs ds start old ts
  taken_empty old ts t h none = record {
    count = h.count;
    ready = (all_but_last (IsReady a ds) ts t h.ready).0;
    belong = h.belong;
    held_is = λ x e lt.
        let w : List ℕ = get_or vs x [] in
        let nothing : first_held a k w (document_at ds t.seq) t.state ≡ empty = ap (λ (d : Document). first_held a k w d t.state) none ∙ held_empty a k w t.state in
        ap (pieces_then ds (get_or old x e).items) (ap (λ (d : Document). join d (waiting a k ds w ts)) (sym nothing) ∙ sym (waiting_append a k ds w ts (t ∷ [])))
        ∙ h.held_is x e lt;
  }

  -- all that is left of a level is taken at once, for the variables to which all of it belongs
  pub taken_whole : (mixed : List Bool) → AreTails a k mixed → (old new : List (Vec Piece A)) (ts : List Task) (t : Task) (ms : List ℕ) → AreTaken a k vs ds start old (ts ++ t ∷ [])
      → is_mixed mixed t.state ≡ false → AreMarked vs ms (tail_marks a k t.state) → AddsPiece old new ms (Whole t.seq) → AreTaken a k vs ds start new ts
  taken_whole mixed tails old new ts t ms h even marked adds = record {
    count = adds.len ∙ h.count;
    ready = front.0;
    belong = λ x e lt.
        let below : x < length old = omega (arith, h.count) in
        rw (adds.added x e below) (all_append (PieceBelongs ds) (get_or old x e).items (noted ms x (Whole t.seq)) (h.belong x e lt) (noted_belong ds ms x (Whole t.seq) front.1.seq));
    held_is = λ x e lt.
        let w : List ℕ = get_or vs x [] in
        let below : x < length old = omega (arith, h.count) in
        ap (λ (ys : List Piece). pieces_then ds ys (waiting a k ds w ts)) (adds.added x e below)
        ∙ pieces_append ds (get_or old x e).items (noted ms x (Whole t.seq)) (waiting a k ds w ts)
        ∙ ap (pieces_then ds (get_or old x e).items)
        (noted_whole (list_any (λ n. nat_eq n x) ms) (waiting a k ds w ts)
        ∙ ap (λ (d : Document). join d (waiting a k ds w ts))
        (ap (λ (b : Bool). cond b (document_at ds t.seq) empty) (marked x lt) ∙ sym (tail_held a k mixed tails w (document_at ds t.seq) t.state front.1.state even front.1.accepted))
        ∙ sym (waiting_append a k ds w ts (t ∷ [])))
        ∙ h.held_is x e lt;
  }
    where
      front : AllByRecursion (IsReady a ds) ts × IsReady a ds t
      front = all_but_last (IsReady a ds) ts t h.ready

      noted_whole : (b : Bool) (w : Document) → pieces_then ds (cond b (Whole t.seq ∷ []) []) w ≡ join (cond b (document_at ds t.seq) empty) w
      noted_whole true w = refl
      noted_whole false w = refl

pub empty_from : (d : Document) → first_of_document d ≡ None → d ≡ empty
empty_from empty e = refl
empty_from (text t r) e = absurd (cc)
empty_from (element l c r) e = absurd (cc)

noted_text : (ds : List Document) (b : Bool) (seq : Seq) (t : List ℕ) (r w : Document) → document_at ds seq ≡ text t r
    → pieces_then ds (cond b (First seq ∷ []) []) w ≡ join (cond b (text t empty) empty) w
noted_text ds true seq t r w e = ap (λ (d : Document). first_then d w) e
noted_text ds false seq t r w e = refl

noted_element : (ds : List Document) (b : Bool) (seq : Seq) (l : List ℕ) (c r w : Document) → document_at ds seq ≡ element l c r
    → pieces_then ds (cond b (First seq ∷ []) []) w ≡ join (cond b (element l c empty) empty) w
noted_element ds true seq l c r w e = ap (λ (d : Document). first_then d w) e
noted_element ds false seq l c r w e = refl

module _ {A : Type 0} (a : Automaton) (k : Marking) (vs : List (List ℕ)) (ds : List Document) (t : Task) (old new : List (Vec Piece A)) (ms : List ℕ) where
  abbrev here : ℕ → Bool
  here x = list_any (λ n. nat_eq n x) ms

  pub takes_text : (n : ℕ) (u : List ℕ) (next : Task) (g : TextMove) → first_of_document (document_at ds t.seq) ≡ Some (Text u) → BelongsTo ds t.seq
      → IsFirst (takes_word a u (rest_of (document_at ds t.seq))) (moves_at a t.state).texts n → AreMarked vs ms (get_or (k t.state).texts n []) → AddsPiece old new ms (First t.seq)
      → document_at ds next.seq ≡ rest_of (document_at ds t.seq) → next.state ≡ (get_or (moves_at a t.state).texts n g).rest → IsReady a ds next
      → TakesItem a k vs ds t old new (next ∷ [])
  takes_text n u next g item belongs first marked adds rest state ready = go (document_at ds t.seq) refl item
    where
      go : (d : Document) → document_at ds t.seq ≡ d → first_of_document d ≡ Some (Text u) → TakesItem a k vs ds t old new (next ∷ [])
      go empty e i = absurd (cc)
      go (element l c r) e i = absurd (cc)
      go (text v r) e i =
          let same : v ≡ u = cc in
          let whole : document_at ds t.seq ≡ text u r = e ∙ ap (λ (w : List ℕ). text w r) same in
          let behind : document_at ds next.seq ≡ r = rest ∙ ap rest_of e in
          let firsts : IsFirst (takes_word a u r) (moves_at a t.state).texts n = rw e at first in
          record {
            ready = (ready, tt);
            same = adds.len;
            belong = λ x f lt h. rw (adds.added x f lt) (all_append (PieceBelongs ds) (get_or old x f).items _ h (noted_belong ds ms x (First t.seq) belongs));
            held_is = λ x f w lt below.
                let y : List ℕ = get_or vs x [] in
                let marks : List (List ℕ) = get_or (k t.state).texts n [] in
                let item : Document = if_marked marks y (text u empty) in
                let later : Document = first_held a k y r (get_or (moves_at a t.state).texts n g).rest in
                ap (λ (ys : List Piece). pieces_then ds ys (join (waiting a k ds y (next ∷ [])) w)) (adds.added x f lt)
                ∙ pieces_append ds (get_or old x f).items (noted ms x (First t.seq)) (join (waiting a k ds y (next ∷ [])) w)
                ∙ ap (pieces_then ds (get_or old x f).items)
                (noted_text ds (here x) t.seq u r (join (waiting a k ds y (next ∷ [])) w) whole
                ∙ ap (λ (b : Bool). join (cond b (text u empty) empty) (join (waiting a k ds y (next ∷ [])) w)) (marked x below)
                ∙ ap (λ (d : Document). join item (join (first_held a k y d next.state) w)) behind
                ∙ ap (λ (s : State). join item (join (first_held a k y r s) w)) state
                ∙ sym (join_assoc item later w)
                ∙ ap (λ (d : Document). join d w) (sym (held_text a k y n u r t.state g firsts))
                ∙ ap (λ (d : Document). join (first_held a k y d t.state) w) (sym whole));
            less = rw (behind, e) (omega arith);
          }

  pub takes_label : (n : ℕ) (l : List ℕ) (behind inside : Task) (g : LabelMove) → first_of_document (document_at ds t.seq) ≡ Some (Elem l) → BelongsTo ds t.seq
      → IsFirst (takes_element a l (content_of (document_at ds t.seq)) (rest_of (document_at ds t.seq))) (moves_at a t.state).labels n
      → AreMarked vs ms (get_or (k t.state).labels n []) → AddsPiece old new ms (First t.seq)
      → document_at ds behind.seq ≡ rest_of (document_at ds t.seq) → behind.state ≡ (get_or (moves_at a t.state).labels n g).rest → IsReady a ds behind
      → document_at ds inside.seq ≡ content_of (document_at ds t.seq) → inside.state ≡ (get_or (moves_at a t.state).labels n g).content → IsReady a ds inside
      → TakesItem a k vs ds t old new (behind ∷ (inside ∷ []))
  takes_label n l behind inside g item belongs first marked adds rest rest_state rest_ready content content_state content_ready = go (document_at ds t.seq) refl item
    where
      go : (d : Document) → document_at ds t.seq ≡ d → first_of_document d ≡ Some (Elem l) → TakesItem a k vs ds t old new (behind ∷ (inside ∷ []))
      go empty e i = absurd (cc)
      go (text u r) e i = absurd (cc)
      go (element j c r) e i =
          let label : j ≡ l = cc in
          let whole : document_at ds t.seq ≡ element l c r = e ∙ ap (λ (w : List ℕ). element w c r) label in
          let follows : document_at ds behind.seq ≡ r = rest ∙ ap rest_of e in
          let within : document_at ds inside.seq ≡ c = content ∙ ap content_of e in
          let firsts : IsFirst (takes_element a l c r) (moves_at a t.state).labels n = rw e at first in
          record {
            ready = (rest_ready, (content_ready, tt));
            same = adds.len;
            belong = λ x f lt h. rw (adds.added x f lt) (all_append (PieceBelongs ds) (get_or old x f).items _ h (noted_belong ds ms x (First t.seq) belongs));
            held_is = λ x f w lt below.
                let y : List ℕ = get_or vs x [] in
                let marks : List (List ℕ) = get_or (k t.state).labels n [] in
                let item : Document = if_marked marks y (element l c empty) in
                let m : LabelMove = get_or (moves_at a t.state).labels n g in
                let first_part : Document = first_held a k y c m.content in
                let later : Document = first_held a k y r m.rest in
                ap (λ (ys : List Piece). pieces_then ds ys (join (waiting a k ds y (behind ∷ (inside ∷ []))) w)) (adds.added x f lt)
                ∙ pieces_append ds (get_or old x f).items (noted ms x (First t.seq)) (join (waiting a k ds y (behind ∷ (inside ∷ []))) w)
                ∙ ap (pieces_then ds (get_or old x f).items)
                (noted_element ds (here x) t.seq l c r (join (waiting a k ds y (behind ∷ (inside ∷ []))) w) whole
                ∙ ap (λ (b : Bool). join (cond b (element l c empty) empty) (join (waiting a k ds y (behind ∷ (inside ∷ []))) w)) (marked x below)
                ∙ ap (λ (d : Document). join item (join (join (first_held a k y (document_at ds inside.seq) inside.state) (first_held a k y d behind.state)) w)) follows
                ∙ ap (λ (s : State). join item (join (join (first_held a k y (document_at ds inside.seq) inside.state) (first_held a k y r s)) w)) rest_state
                ∙ ap (λ (d : Document). join item (join (join (first_held a k y d inside.state) later) w)) within
                ∙ ap (λ (s : State). join item (join (join (first_held a k y c s) later) w)) content_state
                ∙ sym (join_assoc item (join first_part later) w)
                ∙ ap (λ (d : Document). join d w) (sym (held_element a k y n l c r t.state g firsts))
                ∙ ap (λ (d : Document). join (first_held a k y d t.state) w) (sym whole));
            less = rw (follows, within, e) (omega arith);
          }
