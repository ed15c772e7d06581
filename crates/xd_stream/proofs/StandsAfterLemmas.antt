-- What a validator stands for, from token to token.
use Rattle.std.proofs.Common.{◌≡◌, ℕ, suc, ◌+◌, ◌-◌, ◌<◌, ◌↔◌, Bool, true, false, not, ◌&&◌, ◌||◌, ◌==◌, List, [], ◌∷◌, ◌++◌, length, take, drop, reverse, Some, None, refl, sym, ap, subst, ◌∙◌, arith, length-append}
use Rattle.std.specs.List.{list_any}
use Rattle.std.specs.Str.{is_utf8}
use Rattle.std.proofs.lemmas.Bool.{ne_eqb}
use Rattle.std.proofs.lemmas.List.{append-nil, length-reverse, reverse-append, length-take-le}
use Rattle.std.proofs.Math.Seq.{take-append_seam, drop-append_seam}
use Rattle.xd_doc.specs.Document.{Document, empty, text, element, join, is_proper}
use Rattle.xd_doc.specs.Word.{is_word}
use Rattle.xd_auto.specs.declared.auto.State.{State}
use Rattle.xd_auto.specs.Automaton.{Automaton, accepts, moves_at}
use Rattle.xd_empty.specs.Parts.{AreMarks, is_marked}
use Rattle.xd_read.specs.Grammar.{Terminal, QuotedText, Label, ParenL, ParenR, BracketR, Comma, End, Other, Spells, Begins}
use Rattle.xd_read.specs.Completes.{Frame, Completes}
use Rattle.xd_read.specs.declared.moves.Expect.TheVariants as expects
use Rattle.xd_read.proofs.Machine.{At, Done, step, spelled_completes, completes_spelled}
use Rattle.xd_stream.specs.StopByState.{BeginsAccepted}
use Rattle.xd_stream.specs.Fed.{open_behind, open_elements}
use Rattle.xd_stream.specs.Positions.{expected, takes_item, takes_close, takes_parens}
use Rattle.xd_stream.specs.Pairs.{begins_content, leads_behind, leads_over_text, leads_over_label}
use Rattle.xd_stream.specs.Standing.{ArePlaces, AreItemMarks, AreProper, Keeps, completes_by, groups, is_alive_at, is_sound, whole}
use Rattle.xd_stream.specs.Validating.{Ends, Goes, IsSameFor, Passes, Refuses, StandsAfter}
use Rattle.xd_stream.specs.declared.pairs.Pair.{Pair}
use Rattle.xd_stream.specs.declared.pairs.Waiting.{Waiting}
use Rattle.xd_stream.specs.declared.position.Position.{Position}
use Rattle.xd_stream.specs.declared.position.Position.TheVariants as positions
use Rattle.xd_stream.specs.declared.validator.Validator.{Validator}
use Rattle.xd_stream.specs.declared.validator.Refusal.{Refusal}
use Rattle.xd_stream.specs.declared.validator.Refusal.TheVariants as refusals
use Rattle.std.specs.Prelude.{Result, Ok, Err, IfErr, OnOk}
use Rattle.xd_doc.proofs.Joins.{join_empty-right}
use Rattle.xd_stream.proofs.AllPassLemmas.{any_same}
use Rattle.xd_stream.proofs.Grammar.{text_step, label_step, paren_step, close_step, end_step, paren_none, none_open, some_open, comma_none, paren_r_none, other_none, IsMore, IsClosing, went, begins_none, begins_some}
use Rattle.xd_stream.proofs.Alive.{alive_begins, dead_begins_none}
use Rattle.xd_stream.proofs.ValidatorKeepsLemmas.{text_taken, label_taken, close_taken}

-- the validators are for the same, with the same marks
pub record SameMarks (v w : Validator) : Type 0 where
  pub automaton : w.automaton ≡ v.automaton
  pub start : w.start ≡ v.start
  pub marks : w.marks.items ≡ v.marks.items
  pub items : w.with_items.items ≡ v.with_items.items

same_for : (v w : Validator) → SameMarks v w → IsSameFor v w
same_for v w s = record { automaton = s.automaton; start = s.start }

-- one more terminal
pub open_all : (n : ℕ) (ts us : List Terminal) → open_elements n (ts ++ us) ≡ open_elements (open_elements n ts) us
open_all n [] us = refl
open_all n (t ∷ ts) us = open_all (open_behind n t) ts us

open_more : (ts : List Terminal) (t : Terminal) → open_elements 0 (ts ++ t ∷ []) ≡ open_behind (open_elements 0 ts) t
open_more ts t = open_all 0 ts (t ∷ [])

-- what it keeps is enough
stands_with : (v w : Validator) (ts us : List Terminal) (at : Position) (now : List Pair) (wss : List (List Waiting)) → SameMarks v w → StandsAfter v ts → w.position ≡ at → w.pairs.items ≡ now → groups w.waiting.items (reverse w.places.items) ≡ wss
    → ArePlaces (length w.waiting.items) (reverse w.places.items) → open_elements 0 us ≡ length w.places.items → Keeps v.automaton v.start v.marks.items at now wss us → StandsAfter w us
stands_with v w ts us at now wss s h e n g p o k = record {
  keeps = rw (s.automaton, s.start, s.marks, e, n, g) k;
  marks = rw (s.automaton, s.marks) h.marks;
  items = rw (s.automaton, s.items) h.items;
  places = p;
  nesting = o;
}

module _ (v w : Validator) (s : SameMarks v w) where
  pub goes_text : (t : List ℕ) → takes_item v.position ≡ true → is_utf8 t ≡ true → w.position ≡ positions.More → w.waiting.items ≡ v.waiting.items → w.places.items ≡ v.places.items
      → ((f : Pair → Bool) → list_any f w.pairs.items ≡ leads_over_text v.automaton v.marks.items t f v.pairs.items) → Goes v (QuotedText t) w
  goes_text t takes proper at waiting places steps = record {
    same = same_for v w s;
    stands = λ ts h.
        stands_with v w ts (ts ++ QuotedText t ∷ []) positions.More w.pairs.items (groups v.waiting.items (reverse v.places.items)) s h at refl (rw (waiting, places) refl) (rw (waiting, places) h.places) (open_more ts (QuotedText t) ∙ h.nesting ∙ sym (ap length places))
        (text_taken v.automaton v.start v.marks.items h.marks v.position v.pairs.items w.pairs.items (groups v.waiting.items (reverse v.places.items)) ts t takes proper steps h.keeps);
    begins = λ ts h. begins_some ts (expected v.position) h.keeps.front h.keeps.frames h.keeps.grammar (QuotedText t) (At expects.More (join h.keeps.front (text t empty)) h.keeps.frames) (text_step h.keeps.front h.keeps.frames v.position t takes);
  }

  opened : (places : List ℕ) (n : ℕ) → reverse (places ++ n ∷ []) ≡ n ∷ reverse places
  opened places n = reverse-append places (n ∷ [])

  pub goes_label : (l : List ℕ) (ws : List Waiting) → takes_item v.position ≡ true → is_word l ≡ true → w.position ≡ positions.Content → w.waiting.items ≡ v.waiting.items ++ ws → w.places.items ≡ v.places.items ++ length v.waiting.items ∷ []
      → ((f : Waiting → Bool) → list_any f ws ≡ leads_over_label v.automaton v.marks.items l f v.pairs.items) → ((f : Pair → Bool) → list_any f w.pairs.items ≡ list_any (begins_content f) ws) → Goes v (Label l) w
  goes_label l ws takes proper at waiting places waits steps = record {
    same = same_for v w s;
    stands = λ ts h.
        stands_with v w ts (ts ++ Label l ∷ []) positions.Content w.pairs.items (ws ∷ groups v.waiting.items (reverse v.places.items)) s h at refl
        (rw (waiting, places, opened v.places.items (length v.waiting.items), drop-append_seam v.waiting.items ws, take-append_seam v.waiting.items ws) refl)
        (rw (waiting, places, opened v.places.items (length v.waiting.items)) (omega (arith, length-append v.waiting.items ws), h.places))
        (open_more ts (Label l) ∙ ap (λ n. n + 1) h.nesting ∙ sym (ap length places ∙ length-append v.places.items (length v.waiting.items ∷ [])))
        (label_taken v.automaton v.start v.marks.items h.marks v.position v.pairs.items w.pairs.items ws (groups v.waiting.items (reverse v.places.items)) ts l takes proper waits steps h.keeps);
    begins = λ ts h. begins_some ts (expected v.position) h.keeps.front h.keeps.frames h.keeps.grammar (Label l) (At expects.Content empty (record { label = l; before = h.keeps.front } ∷ h.keeps.frames)) (label_step h.keeps.front h.keeps.frames v.position l takes);
  }

  pub goes_close : (n : ℕ) → takes_close v.position ≡ true → w.position ≡ positions.More → v.places.items ≡ w.places.items ++ n ∷ [] → w.waiting.items ≡ take n v.waiting.items
      → ((f : Pair → Bool) → list_any f w.pairs.items ≡ list_any (leads_behind v.automaton v.pairs.items f) (drop n v.waiting.items)) → Goes v BracketR w
  goes_close n takes at places waiting steps = record {
    same = same_for v w s;
    stands = λ ts h.
        let rest = reverse w.places.items in
        let e : reverse v.places.items ≡ n ∷ rest = ap reverse places ∙ opened w.places.items n in
        let g : groups v.waiting.items (reverse v.places.items) ≡ drop n v.waiting.items ∷ groups (take n v.waiting.items) rest = ap (groups v.waiting.items) e in
        let p : ArePlaces (length v.waiting.items) (n ∷ rest) = subst (ArePlaces (length v.waiting.items)) e h.places in
        stands_with v w ts (ts ++ BracketR ∷ []) positions.More w.pairs.items (groups (take n v.waiting.items) rest) s h at refl (rw waiting refl)
        (rw (waiting, length-take-le n v.waiting.items p.0) p.1)
        (open_more ts BracketR ∙ (let a : length v.places.items ≡ length w.places.items + 1 = ap length places ∙ length-append w.places.items (n ∷ []) in omega (arith, a, h.nesting)))
        (close_taken v.automaton v.start v.marks.items h.marks v.position v.pairs.items w.pairs.items (drop n v.waiting.items) (groups (take n v.waiting.items) rest) ts takes steps
        (subst (λ (wss : List (List Waiting)). Keeps v.automaton v.start v.marks.items v.position v.pairs.items wss ts) g h.keeps));
    begins = λ ts h.
        let e : reverse v.places.items ≡ n ∷ reverse w.places.items = ap reverse places ∙ opened w.places.items n in
        begun ts h (subst (λ (ns : List ℕ). length h.keeps.frames ≡ length (groups v.waiting.items ns)) e h.keeps.depth);
  }
    where
      begun : (ts : List Terminal) (h : StandsAfter v ts) → length h.keeps.frames ≡ suc (length (groups (take n v.waiting.items) (reverse w.places.items))) → Begins (ts ++ BracketR ∷ [])
      begun ts h d = go h.keeps.frames h.keeps.grammar d
        where
          go : (frames : List Frame) → ((more : List Terminal) (x : Document) → (Spells (ts ++ more) x) ↔ Completes (expected v.position) h.keeps.front frames more x) → length frames ≡ suc (length (groups (take n v.waiting.items) (reverse w.places.items))) → Begins (ts ++ BracketR ∷ [])
          go [] grammar e = absurd (omega arith)
          go (f ∷ fs) grammar e = begins_some ts (expected v.position) h.keeps.front (f ∷ fs) grammar BracketR (At expects.More (join f.before (element f.label h.keeps.front empty)) fs) (close_step h.keeps.front f fs v.position takes)

  -- only the position is another
  pub goes_on : (t : Terminal) (at : Position) → ((front : Document) (fs : List Frame) → step (At (expected v.position) front fs) t ≡ Some (At (expected at) front fs)) → ((n : ℕ) → open_behind n t ≡ n) → w.position ≡ at → w.pairs.items ≡ v.pairs.items → w.waiting.items ≡ v.waiting.items → w.places.items ≡ v.places.items → Goes v t w
  goes_on t at steps same is pairs waiting places = record {
    same = same_for v w s;
    stands = λ ts h.
        stands_with v w ts (ts ++ t ∷ []) at v.pairs.items (groups v.waiting.items (reverse v.places.items)) s h is pairs (rw (waiting, places) refl) (rw (waiting, places) h.places) (open_more ts t ∙ same (open_elements 0 ts) ∙ h.nesting ∙ sym (ap length places))
        (record {
          front = h.keeps.front;
          frames = h.keeps.frames;
          depth = h.keeps.depth;
          grammar = went ts (expected v.position) h.keeps.front h.keeps.frames h.keeps.grammar t (At (expected at) h.keeps.front h.keeps.frames) (steps h.keeps.front h.keeps.frames);
          accepted = h.keeps.accepted;
          proper = h.keeps.proper;
          sound = h.keeps.sound;
          waiting = h.keeps.waiting;
        });
    begins = λ ts h. begins_some ts (expected v.position) h.keeps.front h.keeps.frames h.keeps.grammar t (At (expected at) h.keeps.front h.keeps.frames) (steps h.keeps.front h.keeps.frames);
  }

-- what no document goes on with
pub refuses_none : (v : Validator) (t : Terminal) → ((front : Document) (fs : List Frame) → step (At (expected v.position) front fs) t ≡ None) → Refuses v t refusals.Malformed
refuses_none v t none ts h b = begins_none ts (expected v.position) h.keeps.front h.keeps.frames h.keeps.grammar t (none h.keeps.front h.keeps.frames) b

pub refuses_other : (v : Validator) → Refuses v Other refusals.Malformed
refuses_other v = refuses_none v Other (λ front fs. other_none front fs v.position)

no_frames : (v : Validator) (ts : List Terminal) (h : StandsAfter v ts) → v.places.items ≡ [] → h.keeps.frames ≡ []
no_frames v ts h e = empty_list h.keeps.frames (h.keeps.depth ∙ ap (λ (ns : List ℕ). length (groups v.waiting.items (reverse ns))) e)
  where
    empty_list : (fs : List Frame) → length fs ≡ 0 → fs ≡ []
    empty_list [] l = refl
    empty_list (f ∷ fs) l = absurd (omega arith)

pub refuses_close : (v : Validator) → v.places.items ≡ [] → Refuses v BracketR refusals.Malformed
refuses_close v e ts h b =
    begins_none ts (expected v.position) h.keeps.front h.keeps.frames h.keeps.grammar BracketR
    (subst (λ (fs : List Frame). step (At (expected v.position) h.keeps.front fs) BracketR ≡ None) (sym (no_frames v ts h e)) (none_open h.keeps.front v.position)) b

long_groups : (ws : List Waiting) (ns : List ℕ) → length (groups ws ns) ≡ length ns
long_groups ws [] = refl
long_groups ws (n ∷ ns) = ap suc (long_groups (take n ws) ns)

-- a frame for each open element
pub depth_is : (v : Validator) (ts : List Terminal) (h : StandsAfter v ts) → length h.keeps.frames ≡ length v.places.items
depth_is v ts h = h.keeps.depth ∙ long_groups v.waiting.items (reverse v.places.items) ∙ length-reverse v.places.items

pub refuses_end : (v : Validator) → 0 < length v.places.items → Refuses v End refusals.Malformed
refuses_end v lt ts h b = go h.keeps.frames h.keeps.grammar (depth_is v ts h)
  where
    go : (frames : List Frame) → ((more : List Terminal) (x : Document) → (Spells (ts ++ more) x) ↔ Completes (expected v.position) h.keeps.front frames more x) → length frames ≡ length v.places.items → ⊥
    go [] grammar e = omega arith
    go (f ∷ fs) grammar e = begins_none ts (expected v.position) h.keeps.front (f ∷ fs) grammar End (some_open h.keeps.front f fs v.position) b

-- ---- the end

record EndsHere (v : Validator) (ts : List Terminal) (front : Document) : Type 0 where
  says : (more : List Terminal) (d : Document) → (Spells ((ts ++ End ∷ []) ++ more) d) ↔ ((more ≡ []) × (front ≡ d))
  proper : is_proper front ≡ true
  accepted : accepts v.automaton front v.start ≡ list_any (λ p. (moves_at v.automaton p.present).last) v.pairs.items

ends_here : (v : Validator) (ts : List Terminal) (h : StandsAfter v ts) → takes_close v.position ≡ true → v.places.items ≡ [] → EndsHere v ts h.keeps.front
ends_here v ts h takes none = go h.keeps.frames (groups v.waiting.items (reverse v.places.items)) (no_frames v ts h none) (ap (λ (ns : List ℕ). groups v.waiting.items (reverse ns)) none) h.keeps.grammar h.keeps.accepted h.keeps.proper
  where
    front : Document
    front = h.keeps.front

    and_true : (p : Pair) → completes_by v.automaton [] empty [] p ≡ (moves_at v.automaton p.present).last
    and_true p = right (moves_at v.automaton p.present).last
      where
        right : (b : Bool) → (b && true) ≡ b
        right true = refl
        right false = refl

    go : (frames : List Frame) (wss : List (List Waiting)) → frames ≡ [] → wss ≡ []
        → ((more : List Terminal) (d : Document) → (Spells (ts ++ more) d) ↔ Completes (expected v.position) h.keeps.front frames more d)
        → ((r : Document) (rests : List Document) → length rests ≡ length frames → accepts v.automaton (whole frames (join h.keeps.front r) rests) v.start ≡ list_any (completes_by v.automaton wss r rests) v.pairs.items)
        → ((r : Document) (rests : List Document) → is_proper r ≡ true → AreProper rests → is_proper (whole frames (join h.keeps.front r) rests) ≡ true)
        → EndsHere v ts h.keeps.front
    go [] [] e f grammar accepted proper = record {
      says = went ts (expected v.position) h.keeps.front [] grammar End (Done h.keeps.front) (end_step h.keeps.front v.position takes);
      proper = ap is_proper (sym (join_empty-right h.keeps.front)) ∙ proper empty [] refl tt;
      accepted = ap (λ d. accepts v.automaton d v.start) (sym (join_empty-right h.keeps.front)) ∙ accepted empty [] refl ∙ any_same (completes_by v.automaton [] empty []) (λ p. (moves_at v.automaton p.present).last) and_true v.pairs.items;
    }
    go (x ∷ frames) wss e f grammar accepted proper = absurd (cc)
    go [] (x ∷ wss) e f grammar accepted proper = absurd (cc)

pub ends : (v : Validator) → takes_close v.position ≡ true → v.places.items ≡ [] → list_any (λ p. (moves_at v.automaton p.present).last) v.pairs.items ≡ true → Ends v
ends v takes none some ts h =
    let e : EndsHere v ts h.keeps.front = ends_here v ts h takes none in
    (h.keeps.front, subst (λ (xs : List Terminal). Spells xs h.keeps.front) (append-nil (ts ++ End ∷ [])) ((e.says [] h.keeps.front).1 (refl, refl)), e.proper, e.accepted ∙ some)

pub refuses_outside : (v : Validator) → takes_close v.position ≡ true → v.places.items ≡ [] → list_any (λ p. (moves_at v.automaton p.present).last) v.pairs.items ≡ false → Refuses v End refusals.Outside
refuses_outside v takes none dead ts h =
    let e : EndsHere v ts h.keeps.front = ends_here v ts h takes none in (
      ([], h.keeps.front, (e.says [] h.keeps.front).1 (refl, refl)),
      λ b.
          let f = (e.says b.more b.document).0 b.spells in
          let t : true ≡ false = sym b.within.accepted ∙ ap (λ d. accepts v.automaton d v.start) (sym f.1) ∙ e.accepted ∙ dead in cc,
    )

-- ---- what is alive

pub begins_alive : (v : Validator) (ts : List Terminal) → StandsAfter v ts → list_any (is_alive_at v.automaton v.with_items.items v.position) v.pairs.items ≡ true → BeginsAccepted v.automaton v.start ts
begins_alive v ts h e = alive_begins v.automaton v.start v.marks.items v.with_items.items v.position v.pairs.items (groups v.waiting.items (reverse v.places.items)) ts h.keeps h.marks h.items e

pub begins_dead : (v : Validator) (ts : List Terminal) → StandsAfter v ts → list_any (is_alive_at v.automaton v.with_items.items v.position) v.pairs.items ≡ false → BeginsAccepted v.automaton v.start ts → ⊥
begins_dead v ts h e = dead_begins_none v.automaton v.start v.marks.items v.with_items.items v.position v.pairs.items (groups v.waiting.items (reverse v.places.items)) ts h.keeps h.items e

pub all_alive : (xs : List Pair) → not (length xs == 0) ≡ list_any (λ p. true) xs
all_alive [] = refl
all_alive (x ∷ xs) = ap not (ne_eqb (suc (length xs)) 0 (λ e. omega arith))

-- gone over and alive, it has gone past; gone over and dead, it refuses
pub passes_alive : (v w : Validator) (t : Terminal) → Goes v t w → ((ts : List Terminal) → StandsAfter w ts → BeginsAccepted w.automaton w.start ts) → Passes v t w
passes_alive v w t g alive = record {
  same = g.same;
  stands = g.stands;
  begins = λ ts h. subst (λ (a : Automaton). BeginsAccepted a v.start (ts ++ t ∷ [])) g.same.automaton (subst (λ (s : State). BeginsAccepted w.automaton s (ts ++ t ∷ [])) g.same.start (alive (ts ++ t ∷ []) (g.stands ts h)));
}

pub refuses_dead : (v w : Validator) (t : Terminal) → Goes v t w → ((ts : List Terminal) → StandsAfter w ts → BeginsAccepted w.automaton w.start ts → ⊥) → Refuses v t refusals.Outside
refuses_dead v w t g dead ts h =
    (g.begins ts h, λ b. dead (ts ++ t ∷ []) (g.stands ts h) (subst (λ (a : Automaton). BeginsAccepted a w.start (ts ++ t ∷ [])) (sym g.same.automaton) (subst (λ (s : State). BeginsAccepted v.automaton s (ts ++ t ∷ [])) (sym g.same.start) b)))

-- before the first token
pub stands_first : (v : Validator) → AreMarks v.automaton v.marks.items → AreItemMarks v.automaton v.with_items.items → v.position ≡ positions.Document → v.waiting.items ≡ [] → v.places.items ≡ []
    → ((f : Pair → Bool) → list_any f v.pairs.items ≡ (is_marked v.marks.items v.start && f (record { first = v.start; present = v.start }))) → StandsAfter v []
stands_first v marks items at waiting places pairs = record {
  keeps = rw (at, waiting, places) (record {
    front = empty;
    frames = [];
    depth = refl;
    grammar = λ more d. ((λ s. spelled_completes more d s), (λ c. completes_spelled more d c));
    accepted = accepted;
    proper = λ r rests p q. p;
    sound = pairs (λ p. not (is_sound v.marks.items [] p)) ∙ never (is_marked v.marks.items v.start);
    waiting = tt;
  });
  marks = marks;
  items = items;
  places = rw (waiting, places) tt;
  nesting = sym (ap length places);
}
  where
    never : (b : Bool) → (b && not (b && true)) ≡ false
    never true = refl
    never false = refl

    by_mark : (r : Document) (b : Bool) → is_marked v.marks.items v.start ≡ b → accepts v.automaton r v.start ≡ (b && (accepts v.automaton r v.start && true))
    by_mark r true e = right (accepts v.automaton r v.start)
      where
        right : (b : Bool) → b ≡ (b && true)
        right true = refl
        right false = refl
    by_mark r false e = marks.none v.start e r

    accepted : (r : Document) (rests : List Document) → length rests ≡ 0 → accepts v.automaton (whole [] (join empty r) rests) v.start ≡ list_any (completes_by v.automaton [] r rests) v.pairs.items
    accepted r [] n = by_mark r (is_marked v.marks.items v.start) refl ∙ sym (pairs (completes_by v.automaton [] r []))
    accepted r (x ∷ rests) n = absurd (omega arith)

-- what was added to nothing
pub fresh : {X : Type 0} (f : X → Bool) (old new : List X) (b : Bool) → old ≡ [] → list_any f new ≡ (list_any f old || b) → list_any f new ≡ b
fresh f old new b e h = rw e at h

pub test_refuses : {X : Type 0} (v w : Validator) (t : Terminal) (r : Result X Refusal) → Goes v t w → IfErr r (λ e. (ts : List Terminal) → StandsAfter w ts → BeginsAccepted w.automaton w.start ts → ⊥) → IfErr r (λ e. e ≡ refusals.Outside) → IfErr r (Refuses v t)
test_refuses v w t (Ok x) g dead is = tt
test_refuses v w t (Err e) g dead is = subst (Refuses v t) (sym is) (refuses_dead v w t g dead)

pub test_passes : {X : Type 0} (v w : Validator) (t : Terminal) (r : Result X Refusal) → Goes v t w → OnOk r ((ts : List Terminal) → StandsAfter w ts → BeginsAccepted w.automaton w.start ts) → OnOk r (Passes v t w)
test_passes v w t (Ok x) g alive = passes_alive v w t g alive
test_passes v w t (Err e) g alive = tt

-- the same of every text
pub test_passes_all : {X : Type 0} (v w : Validator) (r : Result X Refusal) → ((t : List ℕ) → is_utf8 t ≡ true → Goes v (QuotedText t) w) → OnOk r ((ts : List Terminal) → StandsAfter w ts → BeginsAccepted w.automaton w.start ts)
    → OnOk r ((t : List ℕ) → is_utf8 t ≡ true → Passes v (QuotedText t) w)
test_passes_all v w (Ok x) g alive = λ t u. passes_alive v w (QuotedText t) (g t u) alive
test_passes_all v w (Err e) g alive = tt

pub test_refuses_all : {X : Type 0} (v w : Validator) (r : Result X Refusal) → ((t : List ℕ) → is_utf8 t ≡ true → Goes v (QuotedText t) w) → IfErr r (λ e. (ts : List Terminal) → StandsAfter w ts → BeginsAccepted w.automaton w.start ts → ⊥)
    → IfErr r (λ e. e ≡ refusals.Outside) → IfErr r (λ e. (t : List ℕ) → is_utf8 t ≡ true → Refuses v (QuotedText t) e)
test_refuses_all v w (Ok x) g dead is = tt
test_refuses_all v w (Err e) g dead is = λ t u. subst (Refuses v (QuotedText t)) (sym is) (refuses_dead v w (QuotedText t) (g t u) dead)

-- ---- commas and parentheses

comma_step : (e : Position) → e ≡ positions.More → (front : Document) (fs : List Frame) → step (At (expected e) front fs) Comma ≡ Some (At expects.Item front fs)
comma_step e h front fs = subst (λ x. step (At (expected x) front fs) Comma ≡ Some (At expects.Item front fs)) (sym h) refl

paren_r_step : (e : Position) → e ≡ positions.Closing → (front : Document) (fs : List Frame) → step (At (expected e) front fs) ParenR ≡ Some (At expects.Closed front fs)
paren_r_step e h front fs = subst (λ x. step (At (expected x) front fs) ParenR ≡ Some (At expects.Closed front fs)) (sym h) refl

pub goes_comma : (v : Validator) → v.position ≡ positions.More → Goes v Comma (record v { position = positions.Item })
goes_comma v h = goes_on v (record v { position = positions.Item }) (record { automaton = refl; start = refl; marks = refl; items = refl }) Comma positions.Item (comma_step v.position h) (λ n. refl) refl refl refl refl

pub goes_paren_l : (v : Validator) → takes_parens v.position ≡ true → Goes v ParenL (record v { position = positions.Closing })
goes_paren_l v h = goes_on v (record v { position = positions.Closing }) (record { automaton = refl; start = refl; marks = refl; items = refl }) ParenL positions.Closing (λ front fs. paren_step front fs v.position h) (λ n. refl) refl refl refl refl

pub goes_paren_r : (v : Validator) → v.position ≡ positions.Closing → Goes v ParenR (record v { position = positions.Closed })
goes_paren_r v h = goes_on v (record v { position = positions.Closed }) (record { automaton = refl; start = refl; marks = refl; items = refl }) ParenR positions.Closed (paren_r_step v.position h) (λ n. refl) refl refl refl refl

is_more : (e : Position) → IsMore e → e ≡ positions.More
is_more positions.More h = refl
is_more e h = absurd h

is_closing : (e : Position) → IsClosing e → e ≡ positions.Closing
is_closing positions.Closing h = refl
is_closing e h = absurd h

pub refuses_comma : (v : Validator) → (v.position ≡ positions.More → ⊥) → Refuses v Comma refusals.Malformed
refuses_comma v h = refuses_none v Comma (λ front fs. comma_none front fs v.position (λ m. h (is_more v.position m)))

pub refuses_paren_l : (v : Validator) → takes_parens v.position ≡ false → Refuses v ParenL refusals.Malformed
refuses_paren_l v h = refuses_none v ParenL (λ front fs. paren_none front fs v.position h)

pub refuses_paren_r : (v : Validator) → (v.position ≡ positions.Closing → ⊥) → Refuses v ParenR refusals.Malformed
refuses_paren_r v h = refuses_none v ParenR (λ front fs. paren_r_none front fs v.position (λ m. h (is_closing v.position m)))

-- what has been gone over, it stands after
pub ready_behind : (v w : Validator) (t : Terminal) → Goes v t w → (ts : List Terminal) × StandsAfter v ts → (ts : List Terminal) × StandsAfter w ts
ready_behind v w t g r = (r.0 ++ t ∷ [], g.stands r.0 r.1)
