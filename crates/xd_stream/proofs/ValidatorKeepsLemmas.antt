-- What a validator keeps, at each token.
use Rattle.std.proofs.Common.{◌≡◌, ℕ, suc, Bool, true, false, not, ◌&&◌, List, [], ◌∷◌, ◌++◌, length, refl, sym, ap, ◌∙◌, ◌↔◌, arith}
use Rattle.std.specs.List.{list_any}
use Rattle.std.proofs.lemmas.Bool.{and_parts, and_from, eqb-true, eq-eqb}
use Rattle.std.specs.Str.{is_utf8}
use Rattle.std.proofs.lemmas.Map.Keys.{any_passes_from_place}
use Rattle.xd_doc.specs.Document.{Document, empty, text, element, join, is_proper}
use Rattle.xd_doc.specs.Word.{is_word}
use Rattle.xd_doc.specs.Classes.{class_has}
use Rattle.xd_doc.proofs.Joins.{join_assoc, join_empty-right}
use Rattle.xd_doc.proofs.Bools.{same_tests}
use Rattle.xd_read.specs.Grammar.{Terminal, QuotedText, Label, BracketR, Spells}
use Rattle.xd_read.specs.Completes.{Frame, Completes}
use Rattle.xd_read.specs.declared.moves.Expect.TheVariants as expects
use Rattle.xd_read.proofs.Machine.{At}
use Rattle.xd_auto.specs.declared.auto.State.{State}
use Rattle.xd_auto.specs.declared.auto.LabelMove.{LabelMove}
use Rattle.xd_auto.specs.declared.auto.TextMove.{TextMove}
use Rattle.xd_auto.specs.Automaton.{Automaton, accepts, moves_at, state_number, takes_element, takes_word}
use Rattle.xd_auto.proofs.Anys.{Found, found}
use Rattle.xd_auto.proofs.Closed.{state_of_number}
use Rattle.xd_empty.specs.Parts.{AreMarks, is_marked}
use Rattle.xd_stream.specs.Positions.{expected, takes_item, takes_close}
use Rattle.xd_stream.specs.Pairs.{same_state, leads_text, leads_label, ends_in, leads_over_text, leads_over_label, begins_content, leads_behind}
use Rattle.xd_stream.specs.Standing.{whole, finishes, completes_by, is_first, is_sound, is_sound_wait, AllPass, AreProper, Keeps}
use Rattle.xd_stream.specs.declared.pairs.Pair.{Pair}
use Rattle.xd_stream.specs.declared.pairs.Waiting.{Waiting}
use Rattle.xd_stream.specs.declared.position.Position.{Position}
use Rattle.xd_stream.specs.declared.position.Position.TheVariants as positions
use Rattle.xd_stream.proofs.AllPassLemmas.{any_same, any_and_right, any_and_left, any_swap, pass_at, none_at, pass_none}
use Rattle.xd_stream.proofs.Grammar.{text_step, label_step, close_step, went}

pub state_same : (s t : State) → same_state s t ≡ true → s ≡ t
state_same s t h = state_of_number s t (eqb-true (state_number s) (state_number t) h)

pub same_itself : (s : State) → same_state s s ≡ true
same_itself s = eq-eqb (state_number s) (state_number s) refl

pub same_turned : (s t : State) → same_state s t ≡ same_state t s
same_turned s t =
    same_tests (same_state s t) (same_state t s)
    (λ h. eq-eqb (state_number t) (state_number s) (sym (eqb-true (state_number s) (state_number t) h)))
    (λ h. eq-eqb (state_number s) (state_number t) (sym (eqb-true (state_number t) (state_number s) h)))

-- what isn't marked accepts nothing, so a test for the mark may be added
unmarked : (a : Automaton) (marks : List Bool) (s : State) (d : Document) → AreMarks a marks → (b : Bool) → is_marked marks s ≡ b → accepts a d s ≡ (b && accepts a d s)
unmarked a marks s d m true e = refl
unmarked a marks s d m false e = m.none s e d

with_mark : (c k x y : Bool) → x ≡ (k && x) → ((c && x) && y) ≡ (c && (k && (x && y)))
with_mark false k x y e = refl
with_mark true true x y e = refl
with_mark true false x y e = ap (λ z. z && y) e

with_marks : (c k j x y z : Bool) → x ≡ (k && x) → y ≡ (j && y) → ((c && (x && y)) && z) ≡ (c && ((k && j) && (x && (y && z))))
with_marks false k j x y z e f = refl
with_marks true false j x y z e f = ap (λ w. (w && y) && z) e
with_marks true true false true y z e f = ap (λ w. w && z) f
with_marks true true false false y z e f = refl
with_marks true true true true y z e f = refl
with_marks true true true false y z e f = refl

module _ (a : Automaton) (s : State) (marks : List Bool) (m : AreMarks a marks) where
  -- over a text
  text_by : (wss : List (List Waiting)) (t : List ℕ) (r : Document) (rests : List Document) (p : Pair) → completes_by a wss (text t r) rests p ≡ list_any (leads_text marks t (completes_by a wss r rests) p.first) (moves_at a p.present).texts
  text_by wss t r rests p =
      sym (any_and_right (takes_word a t r) (finishes a wss p.first rests) (moves_at a p.present).texts)
      ∙ any_same (λ (v : TextMove). takes_word a t r v && finishes a wss p.first rests) (leads_text marks t (completes_by a wss r rests) p.first)
      (λ v. with_mark (class_has v.words t) (is_marked marks v.rest) (accepts a r v.rest) (finishes a wss p.first rests) (unmarked a marks v.rest r m (is_marked marks v.rest) refl))
      (moves_at a p.present).texts

  no_unsound : (k i : Bool) → i ≡ true → (k && not (k && i)) ≡ false
  no_unsound true true e = refl
  no_unsound true false e = absurd (cc)
  no_unsound false i e = refl

  text_sound : (wss : List (List Waiting)) (t : List ℕ) (p : Pair) → is_sound marks wss p ≡ true → list_any (leads_text marks t (λ q. not (is_sound marks wss q)) p.first) (moves_at a p.present).texts ≡ false
  text_sound wss t p h =
      none_at (leads_text marks t (λ q. not (is_sound marks wss q)) p.first) (moves_at a p.present).texts
      (λ n v at. stays (class_has v.words t) (no_unsound (is_marked marks v.rest) (is_first wss p.first) (and_parts (is_marked marks p.present) (is_first wss p.first) h).1))
    where
      stays : (c : Bool) {b : Bool} → b ≡ false → (c && b) ≡ false
      stays true e = e
      stays false e = refl

  pub text_taken : (e : Position) (now next : List Pair) (wss : List (List Waiting)) (ts : List Terminal) (t : List ℕ) → takes_item e ≡ true → is_utf8 t ≡ true
      → ((f : Pair → Bool) → list_any f next ≡ leads_over_text a marks t f now) → Keeps a s marks e now wss ts → Keeps a s marks positions.More next wss (ts ++ QuotedText t ∷ [])
  text_taken e now next wss ts t takes proper steps k = record {
    front = join k.front (text t empty);
    frames = k.frames;
    depth = k.depth;
    grammar = went ts (expected e) k.front k.frames k.grammar (QuotedText t) (At expects.More (join k.front (text t empty)) k.frames) (text_step k.front k.frames e t takes);
    accepted = λ r rests n.
        ap (λ d. accepts a (whole k.frames d rests) s) (join_assoc k.front (text t empty) r)
        ∙ k.accepted (text t r) rests n
        ∙ any_same (completes_by a wss (text t r) rests) (λ p. list_any (leads_text marks t (completes_by a wss r rests) p.first) (moves_at a p.present).texts) (text_by wss t r rests) now
        ∙ sym (steps (completes_by a wss r rests));
    proper = λ r rests p q.
        ap (λ d. is_proper (whole k.frames d rests)) (join_assoc k.front (text t empty) r)
        ∙ k.proper (text t r) rests (and_from (is_utf8 t) (is_proper r) proper p) q;
    sound = steps (λ p. not (is_sound marks wss p)) ∙ pass_none (is_sound marks wss) (λ p. list_any (leads_text marks t (λ q. not (is_sound marks wss q)) p.first) (moves_at a p.present).texts) now k.sound (text_sound wss t);
    waiting = k.waiting;
  }

  -- over an element
  label_by : (wss : List (List Waiting)) (l : List ℕ) (r r0 : Document) (rests : List Document) (p : Pair)
      → completes_by a wss (element l r r0) rests p ≡ list_any (leads_label marks l (λ w. accepts a r w.content && (accepts a r0 w.rest && finishes a wss w.first rests)) p.first) (moves_at a p.present).labels
  label_by wss l r r0 rests p =
      sym (any_and_right (takes_element a l r r0) (finishes a wss p.first rests) (moves_at a p.present).labels)
      ∙ any_same (λ (v : LabelMove). takes_element a l r r0 v && finishes a wss p.first rests) (leads_label marks l (λ w. accepts a r w.content && (accepts a r0 w.rest && finishes a wss w.first rests)) p.first)
      (λ v. with_marks (class_has v.class l) (is_marked marks v.content) (is_marked marks v.rest) (accepts a r v.content) (accepts a r0 v.rest) (finishes a wss p.first rests)
      (unmarked a marks v.content r m (is_marked marks v.content) refl) (unmarked a marks v.rest r0 m (is_marked marks v.rest) refl))
      (moves_at a p.present).labels

  -- of moves whose content is one of a group, and a test of each of the group: it is enough to look
  -- at one
  one_group : (h : State → Bool) (k : Waiting → Bool) (ws : List Waiting)
      → list_any (λ w. h w.content && list_any (λ v. same_state v.content w.content && k v) ws) ws ≡ list_any (λ w. h w.content && k w) ws
  one_group h k ws = same_tests (list_any (λ w. h w.content && list_any (λ v. same_state v.content w.content && k v) ws) ws) (list_any (λ w. h w.content && k w) ws) there back
    where
      there : list_any (λ w. h w.content && list_any (λ v. same_state v.content w.content && k v) ws) ws ≡ true → list_any (λ w. h w.content && k w) ws ≡ true
      there e =
          let f : Found (λ (w : Waiting). h w.content && list_any (λ v. same_state v.content w.content && k v) ws) ws = found (λ w. h w.content && list_any (λ v. same_state v.content w.content && k v) ws) ws e in
          let parts = and_parts (h f.item.content) (list_any (λ v. same_state v.content f.item.content && k v) ws) f.passes in
          let g : Found (λ (v : Waiting). same_state v.content f.item.content && k v) ws = found (λ v. same_state v.content f.item.content && k v) ws parts.1 in
          let more = and_parts (same_state g.item.content f.item.content) (k g.item) g.passes in
          any_passes_from_place (λ w. h w.content && k w) ws g.place g.item g.there (and_from (h g.item.content) (k g.item) (ap h (state_same g.item.content f.item.content more.0) ∙ parts.0) more.1)

      back : list_any (λ w. h w.content && k w) ws ≡ true → list_any (λ w. h w.content && list_any (λ v. same_state v.content w.content && k v) ws) ws ≡ true
      back e =
          let f : Found (λ (w : Waiting). h w.content && k w) ws = found (λ w. h w.content && k w) ws e in
          let parts = and_parts (h f.item.content) (k f.item) f.passes in
          any_passes_from_place (λ w. h w.content && list_any (λ v. same_state v.content w.content && k v) ws) ws f.place f.item f.there
          (and_from (h f.item.content) (list_any (λ v. same_state v.content f.item.content && k v) ws) parts.0
          (any_passes_from_place (λ v. same_state v.content f.item.content && k v) ws f.place f.item f.there (and_from (same_state f.item.content f.item.content) (k f.item) (same_itself f.item.content) parts.1)))

  no_bad_content : (c k j : Bool) → (c && ((k && j) && not k)) ≡ false
  no_bad_content true true true = refl
  no_bad_content true true false = refl
  no_bad_content true false j = refl
  no_bad_content false k j = refl

  no_bad_wait : (c k j i : Bool) → i ≡ true → (c && ((k && j) && not (j && i))) ≡ false
  no_bad_wait true true true true e = refl
  no_bad_wait true true false i e = refl
  no_bad_wait true false j i e = refl
  no_bad_wait false k j i e = refl
  no_bad_wait c k j false e = absurd (cc)

  content_sound : (wss : List (List Waiting)) (l : List ℕ) (p : Pair) → is_sound marks wss p ≡ true → list_any (leads_label marks l (λ w. not (is_marked marks w.content)) p.first) (moves_at a p.present).labels ≡ false
  content_sound wss l p h =
      none_at (leads_label marks l (λ w. not (is_marked marks w.content)) p.first) (moves_at a p.present).labels
      (λ n v at. no_bad_content (class_has v.class l) (is_marked marks v.content) (is_marked marks v.rest))

  wait_sound : (wss : List (List Waiting)) (l : List ℕ) (p : Pair) → is_sound marks wss p ≡ true → list_any (leads_label marks l (λ w. not (is_sound_wait marks wss w)) p.first) (moves_at a p.present).labels ≡ false
  wait_sound wss l p h =
      none_at (leads_label marks l (λ w. not (is_sound_wait marks wss w)) p.first) (moves_at a p.present).labels
      (λ n v at. no_bad_wait (class_has v.class l) (is_marked marks v.content) (is_marked marks v.rest) (is_first wss p.first) (and_parts (is_marked marks p.present) (is_first wss p.first) h).1)

  not_and : (x y : Bool) → x ≡ true → y ≡ true → not (x && y) ≡ false
  not_and true true e f = refl
  not_and true false e f = absurd (cc)
  not_and false y e f = absurd (cc)

  begun_sound : (wss : List (List Waiting)) (ws : List Waiting) → AllPass (λ w. is_marked marks w.content) ws → list_any (begins_content (λ q. not (is_sound marks (ws ∷ wss) q))) ws ≡ false
  begun_sound wss ws all =
      none_at (begins_content (λ q. not (is_sound marks (ws ∷ wss) q))) ws
      (λ n w at. not_and (is_marked marks w.content) (list_any (λ v. same_state v.content w.content) ws) (pass_at (λ v. is_marked marks v.content) ws n w all at)
      (any_passes_from_place (λ v. same_state v.content w.content) ws n w at (same_itself w.content)))

  pub label_taken : (e : Position) (now next : List Pair) (ws : List Waiting) (wss : List (List Waiting)) (ts : List Terminal) (l : List ℕ) → takes_item e ≡ true → is_word l ≡ true
      → ((f : Waiting → Bool) → list_any f ws ≡ leads_over_label a marks l f now) → ((f : Pair → Bool) → list_any f next ≡ list_any (begins_content f) ws)
      → Keeps a s marks e now wss ts → Keeps a s marks positions.Content next (ws ∷ wss) (ts ++ Label l ∷ [])
  label_taken e now next ws wss ts l takes proper waits steps k = record {
    front = empty;
    frames = record { label = l; before = k.front } ∷ k.frames;
    depth = ap suc k.depth;
    grammar = went ts (expected e) k.front k.frames k.grammar (Label l) (At expects.Content empty (record { label = l; before = k.front } ∷ k.frames)) (label_step k.front k.frames e l takes);
    accepted = accepted;
    proper = whole_proper;
    sound = steps (λ p. not (is_sound marks (ws ∷ wss) p)) ∙ begun_sound wss ws contents;
    waiting = (waits (λ w. not (is_sound_wait marks wss w)) ∙ pass_none (is_sound marks wss) (λ p. list_any (leads_label marks l (λ w. not (is_sound_wait marks wss w)) p.first) (moves_at a p.present).labels) now k.sound (wait_sound wss l), k.waiting);
  }
    where
      contents : AllPass (λ (w : Waiting). is_marked marks w.content) ws
      contents = waits (λ w. not (is_marked marks w.content)) ∙ pass_none (is_sound marks wss) (λ p. list_any (leads_label marks l (λ w. not (is_marked marks w.content)) p.first) (moves_at a p.present).labels) now k.sound (content_sound wss l)

      accepted : (r : Document) (rests : List Document) → length rests ≡ suc (length k.frames) → accepts a (whole (record { label = l; before = k.front } ∷ k.frames) (join empty r) rests) s ≡ list_any (completes_by a (ws ∷ wss) r rests) next
      accepted r [] n = absurd (omega arith)
      accepted r (r0 ∷ rests) n =
          let by : Waiting → Bool = λ w. accepts a r w.content && (accepts a r0 w.rest && finishes a wss w.first rests) in
          ap (λ d. accepts a (whole k.frames d rests) s) (join_assoc k.front (element l r empty) r0)
          ∙ k.accepted (element l r r0) rests (omega arith)
          ∙ any_same (completes_by a wss (element l r r0) rests) (λ p. list_any (leads_label marks l by p.first) (moves_at a p.present).labels) (label_by wss l r r0 rests) now
          ∙ sym (waits by)
          ∙ sym (one_group (accepts a r) (λ w. accepts a r0 w.rest && finishes a wss w.first rests) ws)
          ∙ sym (steps (completes_by a (ws ∷ wss) r (r0 ∷ rests)))

      whole_proper : (r : Document) (rests : List Document) → is_proper r ≡ true → AreProper rests → is_proper (whole (record { label = l; before = k.front } ∷ k.frames) (join empty r) rests) ≡ true
      whole_proper r [] p q = p
      whole_proper r (r0 ∷ rests) p q =
          ap (λ d. is_proper (whole k.frames d rests)) (join_assoc k.front (element l r empty) r0)
          ∙ k.proper (element l r r0) rests (and_from (is_word l) (is_proper r && is_proper r0) proper (and_from (is_proper r) (is_proper r0) p q.0)) q.1

  -- after an element
  turned : (l x y k : Bool) → x ≡ y → (l && (x && k)) ≡ ((y && l) && k)
  turned true x y true e = by x y e
    where
      by : (x y : Bool) → x ≡ y → (x && true) ≡ ((y && true) && true)
      by true true e = refl
      by false false e = refl
      by true false e = absurd (cc)
      by false true e = absurd (cc)
  turned true x y false e = by x y
    where
      by : (x y : Bool) → (x && false) ≡ ((y && true) && false)
      by true true = refl
      by true false = refl
      by false true = refl
      by false false = refl
  turned false x true k e = refl
  turned false x false k e = refl

  pub behind_of : (now : List Pair) (k : Waiting → Bool) (ws : List Waiting)
      → list_any (λ p. (moves_at a p.present).last && list_any (λ w. same_state w.content p.first && k w) ws) now ≡ list_any (λ w. list_any (ends_in a w.content) now && k w) ws
  behind_of now k ws =
      any_same (λ p. (moves_at a p.present).last && list_any (λ w. same_state w.content p.first && k w) ws) (λ p. list_any (λ w. ends_in a w.content p && k w) ws)
      (λ p. sym (any_and_left (λ w. same_state w.content p.first && k w) (moves_at a p.present).last ws)
      ∙ any_same (λ (w : Waiting). (moves_at a p.present).last && (same_state w.content p.first && k w)) (λ w. ends_in a w.content p && k w)
      (λ w. turned (moves_at a p.present).last (same_state w.content p.first) (same_state p.first w.content) (k w) (same_turned w.content p.first)) ws)
      now
      ∙ any_swap (λ (p : Pair) (w : Waiting). ends_in a w.content p && k w) now ws
      ∙ any_same (λ (w : Waiting). list_any (λ p. ends_in a w.content p && k w) now) (λ w. list_any (ends_in a w.content) now && k w) (λ w. any_and_right (ends_in a w.content) (k w) now) ws

  sound_behind : (c x : Bool) → x ≡ true → (c && not x) ≡ false
  sound_behind true true e = refl
  sound_behind false true e = refl
  sound_behind c false e = absurd (cc)

  pub close_taken : (e : Position) (now next : List Pair) (ws : List Waiting) (wss : List (List Waiting)) (ts : List Terminal) → takes_close e ≡ true
      → ((f : Pair → Bool) → list_any f next ≡ list_any (leads_behind a now f) ws) → Keeps a s marks e now (ws ∷ wss) ts → Keeps a s marks positions.More next wss (ts ++ BracketR ∷ [])
  close_taken e now next ws wss ts takes steps k = by k.frames k.depth k.grammar k.accepted k.proper
    where
      by : (frames : List Frame) → length frames ≡ suc (length wss)
          → ((more : List Terminal) (d : Document) → (Spells (ts ++ more) d) ↔ Completes (expected e) k.front frames more d)
          → ((r : Document) (rests : List Document) → length rests ≡ length frames → accepts a (whole frames (join k.front r) rests) s ≡ list_any (completes_by a (ws ∷ wss) r rests) now)
          → ((r : Document) (rests : List Document) → is_proper r ≡ true → AreProper rests → is_proper (whole frames (join k.front r) rests) ≡ true)
          → Keeps a s marks positions.More next wss (ts ++ BracketR ∷ [])
      by [] depth grammar accepted proper = absurd (omega arith)
      by (f ∷ fs) depth grammar accepted proper = record {
        front = join f.before (element f.label k.front empty);
        frames = fs;
        depth = omega arith;
        grammar = went ts (expected e) k.front (f ∷ fs) grammar BracketR (At expects.More (join f.before (element f.label k.front empty)) fs) (close_step k.front f fs e takes);
        accepted = λ r rests n.
            ap (λ d. accepts a (whole fs (join (join f.before (element f.label d empty)) r) rests) s) (sym (join_empty-right k.front))
            ∙ accepted empty (r ∷ rests) (ap suc n)
            ∙ behind_of now (λ w. accepts a r w.rest && finishes a wss w.first rests) ws
            ∙ sym (steps (completes_by a wss r rests));
        proper = λ r rests p q.
            ap (λ d. is_proper (whole fs (join (join f.before (element f.label d empty)) r) rests)) (sym (join_empty-right k.front))
            ∙ proper empty (r ∷ rests) refl (p, q);
        sound = steps (λ p. not (is_sound marks wss p))
            ∙ pass_none (is_sound_wait marks wss) (leads_behind a now (λ q. not (is_sound marks wss q))) ws k.waiting.0
            (λ w h. sound_behind (list_any (ends_in a w.content) now) (is_sound_wait marks wss w) h);
        waiting = k.waiting.1;
      }
