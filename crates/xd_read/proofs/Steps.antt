-- What the reader does at a token, and the machine.
use Rattle.std.proofs.Common.{◌≡◌, ℕ, ◌<◌, ◌≤◌, List, [], ◌∷◌, ◌++◌, length, take, drop, reverse, Option, Some, None, false, refl, sym, ap, subst, ◌∙◌, arith, length-append}
use Rattle.std.specs.List.{AllByRecursion}
use Rattle.std.proofs.Math.Seq.{take-length}
use Rattle.std.proofs.lemmas.List.{take-append-le, take-append-drop, drop-append-le, reverse-append, length-take-le}
use Rattle.xd_doc.specs.Document.{Document, empty, text, element, join}
use Rattle.xd_doc.specs.Stored.{document_at}
use Rattle.xd_doc.specs.StoredSeq.{BelongsTo}
use Rattle.xd_doc.specs.StoreNodes.{Keeps}
use Rattle.xd_doc.specs.declared.store.Seq.{Seq}
use Rattle.xd_lex.specs.declared.Kind.{Kind}
use Rattle.xd_lex.specs.declared.Kind.TheVariants as kinds
use Rattle.xd_lex.specs.LexedTokens.{is_last}
use Rattle.xd_lex.specs.Spelled.{unescaped}
use Rattle.xd_read.specs.Reading.{terminal, word_of}
use Rattle.xd_read.specs.Completes.{Frame}
use Rattle.xd_read.specs.Moves.{move_for}
use Rattle.xd_read.specs.Pending.{items_of, front_of, frames_of, IsInStore, AreMarks, IsReady, Passes, Ends, Stops}
use Rattle.xd_read.specs.declared.moves.Expect.{Expect}
use Rattle.xd_read.specs.declared.moves.Expect.TheVariants as expects
use Rattle.xd_read.specs.declared.moves.Move.{Move}
use Rattle.xd_read.specs.declared.moves.Move.TheVariants as moves
use Rattle.xd_read.specs.declared.reader.Finished.{Finished}
use Rattle.xd_read.specs.declared.reader.Finished.TheVariants.{Text, Element}
use Rattle.xd_read.specs.declared.reader.OpenElement.{OpenElement}
use Rattle.xd_read.proofs.Machine.{State, At, Done, Goes, step, forward, backward}
use Rattle.xd_read.proofs.StoreItems.{items_of-append, items_of-kept, in_store-kept}
use Rattle.xd_doc.proofs.Lists.{all_append, all_front, all_back}

-- what the machine does
abbrev pub act : Move → Document → List Frame → List ℕ → Option State
act moves.Text front fs t = Some (At expects.More (join front (text (unescaped t) empty)) fs)
act moves.Open front fs t = Some (At expects.Content empty (record { label = word_of t; before = front } ∷ fs))
act moves.Close front [] t = None
act moves.Close front (f ∷ fs) t = Some (At expects.More (join f.before (element f.label front empty)) fs)
act moves.End front [] t = Some (Done front)
act moves.End front (f ∷ fs) t = None
act (moves.Go e) front fs t = Some (At e front fs)
act moves.Refuse front fs t = None

acts : (e : Expect) (k : Kind) (t : List ℕ) (front : Document) (fs : List Frame) → step (At e front fs) (terminal k t) ≡ act (move_for e k) front fs t
acts expects.Document kinds.Word t front fs = refl
acts expects.Document k t front fs = refl
acts expects.Content kinds.Word t front [] = refl
acts expects.Content k t front [] = refl
acts expects.Content kinds.Word t front (f ∷ fs) = refl
acts expects.Content k t front (f ∷ fs) = refl
acts expects.More kinds.Word t front [] = refl
acts expects.More k t front [] = refl
acts expects.More kinds.Word t front (f ∷ fs) = refl
acts expects.More k t front (f ∷ fs) = refl
acts expects.Item kinds.Word t front fs = refl
acts expects.Item k t front fs = refl
acts expects.Closing kinds.Word t front fs = refl
acts expects.Closing k t front fs = refl
acts expects.Closed kinds.Word t front [] = refl
acts expects.Closed k t front [] = refl
acts expects.Closed kinds.Word t front (f ∷ fs) = refl
acts expects.Closed k t front (f ∷ fs) = refl

-- the kinds of tokens at which the reader moves so: only a move that ends or refuses comes at a
-- last token
abbrev MovesAt : Move → Kind → Type 0
MovesAt moves.Text k = k ≡ kinds.Text
MovesAt moves.Open k = k ≡ kinds.Label
MovesAt moves.Close k = is_last k ≡ false
MovesAt (moves.Go e) k = is_last k ≡ false
MovesAt moves.End k = k ≡ kinds.End
MovesAt moves.Refuse k = Unit {0}

moves_at : (e : Expect) (k : Kind) → MovesAt (move_for e k) k
moves_at expects.Document kinds.Word = tt
moves_at expects.Document kinds.Text = refl
moves_at expects.Document kinds.Label = refl
moves_at expects.Document kinds.ParenL = refl
moves_at expects.Document k = tt
moves_at expects.Content kinds.Text = refl
moves_at expects.Content kinds.Label = refl
moves_at expects.Content kinds.ParenL = refl
moves_at expects.Content kinds.BracketR = refl
moves_at expects.Content kinds.End = refl
moves_at expects.Content k = tt
moves_at expects.More kinds.Comma = refl
moves_at expects.More kinds.BracketR = refl
moves_at expects.More kinds.End = refl
moves_at expects.More k = tt
moves_at expects.Item kinds.Text = refl
moves_at expects.Item kinds.Label = refl
moves_at expects.Item k = tt
moves_at expects.Closing kinds.ParenR = refl
moves_at expects.Closing k = tt
moves_at expects.Closed kinds.BracketR = refl
moves_at expects.Closed kinds.End = refl
moves_at expects.Closed k = tt

moves_by : (e : Expect) (k : Kind) (m : Move) → move_for e k ≡ m → MovesAt m k
moves_by e k m h = subst (λ (x : Move). MovesAt x k) h (moves_at e k)

abbrev GoesOn : Move → Kind → Type 0
GoesOn moves.End k = k ≡ kinds.End
GoesOn moves.Refuse k = Unit {0}
GoesOn m k = is_last k ≡ false

goes_on : (m : Move) (k : Kind) → MovesAt m k → GoesOn m k
goes_on moves.Text k h = ap is_last h
goes_on moves.Open k h = ap is_last h
goes_on m k h = h

acted : (e : Expect) (k : Kind) (t : List ℕ) (front : Document) (fs : List Frame) (m : Move) (o : Option State) → move_for e k ≡ m → act m front fs t ≡ o → step (At e front fs) (terminal k t) ≡ o
acted e k t front fs m o h a = acts e k t front fs ∙ ap (λ (x : Move). act x front fs t) h ∙ a

pub passes_by : (ds : List Document) (e : Expect) (fs : List Finished) (os : List OpenElement) (k : Kind) (t : List ℕ) (m : Move) (ds' : List Document) (e' : Expect) (fs' : List Finished) (os' : List OpenElement) → move_for e k ≡ m → IsReady ds' fs' os' → act m (front_of ds fs (reverse os)) (frames_of ds fs (reverse os)) t ≡ Some (At e' (front_of ds' fs' (reverse os')) (frames_of ds' fs' (reverse os'))) → Passes ds e fs os (terminal k t) ds' e' fs' os'
passes_by ds e fs os k t m ds' e' fs' os' h r a =
    let s = acted e k t (front_of ds fs (reverse os)) (frames_of ds fs (reverse os)) m (Some (At e' (front_of ds' fs' (reverse os')) (frames_of ds' fs' (reverse os')))) h a in
    record {
      ready = r;
      same = λ ts d. (
        (λ c. subst (λ (o : Option State). Goes o ts d) s (forward (At e (front_of ds fs (reverse os)) (frames_of ds fs (reverse os))) (terminal k t) ts d c)),
        (λ c. backward (At e (front_of ds fs (reverse os)) (frames_of ds fs (reverse os))) (terminal k t) ts d (subst (λ (o : Option State). Goes o ts d) (sym s) c)),
      );
    }

pub stops_by : (ds : List Document) (e : Expect) (fs : List Finished) (os : List OpenElement) (k : Kind) (t : List ℕ) (m : Move) → move_for e k ≡ m → act m (front_of ds fs (reverse os)) (frames_of ds fs (reverse os)) t ≡ None → Stops ds e fs os (terminal k t)
stops_by ds e fs os k t m h a ts d c =
    subst (λ (o : Option State). Goes o ts d) (acted e k t (front_of ds fs (reverse os)) (frames_of ds fs (reverse os)) m None h a) (forward (At e (front_of ds fs (reverse os)) (frames_of ds fs (reverse os))) (terminal k t) ts d c)

-- ---- items and marks

marks_up : (n m : ℕ) (os : List OpenElement) → n ≤ m → AreMarks n os → AreMarks m os
marks_up n m [] le h = tt
marks_up n m (o ∷ os) le h = (omega (arith, h.0), h.1)

front_of-push : (ds : List Document) (fs ys : List Finished) (os : List OpenElement) → AreMarks (length fs) os → front_of ds (fs ++ ys) os ≡ join (front_of ds fs os) (items_of ds ys)
front_of-push ds fs ys [] h = items_of-append ds fs ys
front_of-push ds fs ys (o ∷ os) h = ap (items_of ds) (drop-append-le o.start fs ys h.0) ∙ items_of-append ds (drop o.start fs) ys

frames_of-push : (ds : List Document) (fs ys : List Finished) (os : List OpenElement) → AreMarks (length fs) os → frames_of ds (fs ++ ys) os ≡ frames_of ds fs os
frames_of-push ds fs ys [] h = refl
frames_of-push ds fs ys (o ∷ os) h = ap (λ (xs : List Finished). record { label = o.label; before = front_of ds xs os } ∷ frames_of ds xs os) (take-append-le o.start fs ys h.0)

pushed_marks : (fs ys : List Finished) (os : List OpenElement) → AreMarks (length fs) os → AreMarks (length (fs ++ ys)) os
pushed_marks fs ys os h = marks_up (length fs) (length (fs ++ ys)) os (omega (arith, length-append fs ys)) h

pub text_passes : (ds : List Document) (e : Expect) (fs : List Finished) (os : List OpenElement) (k : Kind) (t s : List ℕ) (fs' : List Finished) → move_for e k ≡ moves.Text → IsReady ds fs os → s ≡ unescaped t → fs' ≡ fs ++ Text s ∷ [] → Passes ds e fs os (terminal k t) ds expects.More fs' os
text_passes ds e fs os k t s fs' h r is pushed =
    subst (λ (x : List Finished). Passes ds e fs os (terminal k t) ds expects.More x os) (sym pushed)
    (passes_by ds e fs os k t moves.Text ds expects.More (fs ++ Text s ∷ []) os h
    (record { finished = all_append (IsInStore ds) fs (Text s ∷ []) r.finished (tt, tt); marks = pushed_marks fs (Text s ∷ []) (reverse os) r.marks })
    (rw (front_of-push ds fs (Text s ∷ []) (reverse os) r.marks, frames_of-push ds fs (Text s ∷ []) (reverse os) r.marks, is) refl))

open_last : (os : List OpenElement) (o : OpenElement) → reverse (os ++ o ∷ []) ≡ o ∷ reverse os
open_last os o = reverse-append os (o ∷ [])

nothing_behind : (ds : List Document) (fs : List Finished) → items_of ds (drop (length fs) fs) ≡ empty
nothing_behind ds [] = refl
nothing_behind ds (x ∷ fs) = nothing_behind ds fs

pub open_passes : (ds : List Document) (e : Expect) (fs : List Finished) (os : List OpenElement) (k : Kind) (t : List ℕ) (o : OpenElement) (os' : List OpenElement) → move_for e k ≡ moves.Open → IsReady ds fs os → o.label ≡ word_of t → o.start ≡ length fs → os' ≡ os ++ o ∷ [] → Passes ds e fs os (terminal k t) ds expects.Content fs os'
open_passes ds e fs os k t o os' h r label start pushed =
    subst (λ (x : List OpenElement). Passes ds e fs os (terminal k t) ds expects.Content fs x) (sym pushed)
    (passes_by ds e fs os k t moves.Open ds expects.Content fs (os ++ o ∷ []) h
    (record { finished = r.finished; marks = rw (open_last os o) (omega (arith, start), rw start r.marks) })
    (rw (open_last os o) (rw (start, nothing_behind ds fs, take-length fs, label) refl)))

all_drop : (ds : List Document) (n : ℕ) (fs : List Finished) → AllByRecursion (IsInStore ds) fs → AllByRecursion (IsInStore ds) (drop n fs)
all_drop ds n fs h = all_back (IsInStore ds) (take n fs) (drop n fs) (subst (AllByRecursion (IsInStore ds)) (sym (take-append-drop n fs)) h)

all_take : (ds : List Document) (n : ℕ) (fs : List Finished) → AllByRecursion (IsInStore ds) fs → AllByRecursion (IsInStore ds) (take n fs)
all_take ds n fs h = all_front (IsInStore ds) (take n fs) (drop n fs) (subst (AllByRecursion (IsInStore ds)) (sym (take-append-drop n fs)) h)

front_of-kept : (ds es : List Document) (fs : List Finished) (os : List OpenElement) → Keeps ds es → AllByRecursion (IsInStore ds) fs → front_of es fs os ≡ front_of ds fs os
front_of-kept ds es fs [] k h = items_of-kept ds es fs k h
front_of-kept ds es fs (o ∷ os) k h = items_of-kept ds es (drop o.start fs) k (all_drop ds o.start fs h)

frames_of-kept : (ds es : List Document) (fs : List Finished) (os : List OpenElement) → Keeps ds es → AllByRecursion (IsInStore ds) fs → frames_of es fs os ≡ frames_of ds fs os
frames_of-kept ds es fs [] k h = refl
frames_of-kept ds es fs (o ∷ os) k h =
    rw (front_of-kept ds es (take o.start fs) os k (all_take ds o.start fs h), frames_of-kept ds es (take o.start fs) os k (all_take ds o.start fs h)) refl

-- the last open element, and those before it
pub last_open : (ds : List Document) (fs : List Finished) (os front : List OpenElement) (o : OpenElement) → IsReady ds fs os → os ≡ front ++ o ∷ [] → o.start ≤ length fs
last_open ds fs os front o r e = (subst (AreMarks (length fs)) (open_last front o) (subst (λ (x : List OpenElement). AreMarks (length fs) (reverse x)) e r.marks)).0

closed_marks : (n : ℕ) (fs ys : List Finished) (os : List OpenElement) → n ≤ length fs → AreMarks n os → AreMarks (length (take n fs)) os
closed_marks n fs ys os le h = rw (length-take-le n fs le) h

pub close_passes : (ds : List Document) (e : Expect) (fs : List Finished) (os : List OpenElement) (k : Kind) (t : List ℕ) (es : List Document) (front : List OpenElement) (o : OpenElement) (seq : Seq) (fs' : List Finished) → move_for e k ≡ moves.Close → IsReady ds fs os → os ≡ front ++ o ∷ [] → Keeps ds es → BelongsTo es seq → document_at es seq ≡ items_of ds (drop o.start fs) → fs' ≡ take o.start fs ++ Element o.label seq ∷ [] → Passes ds e fs os (terminal k t) es expects.More fs' front
close_passes ds e fs os k t es front o seq fs' h r popped kept b is pushed =
    let le = last_open ds fs os front o r popped in
    let os_marks = subst (AreMarks (length fs)) (open_last front o) (subst (λ (x : List OpenElement). AreMarks (length fs) (reverse x)) popped r.marks) in
    let left = take o.start fs in
    let marks = closed_marks o.start fs [] (reverse front) le os_marks.1 in
    let left_in = all_take ds o.start fs r.finished in
    let made = Element o.label seq ∷ [] in
    subst (λ (x : List Finished). Passes ds e fs os (terminal k t) es expects.More x front) (sym pushed)
    (passes_by ds e fs os k t moves.Close es expects.More (left ++ made) front h
    (record { finished = all_append (IsInStore es) left made (in_store-kept ds es left kept left_in) (b, tt); marks = pushed_marks left made (reverse front) marks })
    (rw (popped, open_last front o, front_of-push es left made (reverse front) marks, frames_of-push es left made (reverse front) marks, front_of-kept ds es left (reverse front) kept left_in, frames_of-kept ds es left (reverse front) kept left_in, is) refl))

pub none_open : (ds : List Document) (e : Expect) (fs : List Finished) (os : List OpenElement) (k : Kind) (t : List ℕ) → move_for e k ≡ moves.Close → os ≡ [] → Stops ds e fs os (terminal k t)
none_open ds e fs os k t h is = subst (λ (x : List OpenElement). Stops ds e fs x (terminal k t)) (sym is) (stops_by ds e fs [] k t moves.Close h refl)

pub still_open : (ds : List Document) (e : Expect) (fs : List Finished) (os front : List OpenElement) (o : OpenElement) (k : Kind) (t : List ℕ) → move_for e k ≡ moves.End → os ≡ front ++ o ∷ [] → Stops ds e fs os (terminal k t)
still_open ds e fs os front o k t h is = stops_by ds e fs os k t moves.End h (rw (is, open_last front o) refl)

pub refused : (ds : List Document) (e : Expect) (fs : List Finished) (os : List OpenElement) (k : Kind) (t : List ℕ) → move_for e k ≡ moves.Refuse → Stops ds e fs os (terminal k t)
refused ds e fs os k t h = stops_by ds e fs os k t moves.Refuse h refl

pub goes : (ds : List Document) (e : Expect) (fs : List Finished) (os : List OpenElement) (k : Kind) (t : List ℕ) (e' : Expect) → move_for e k ≡ moves.Go e' → IsReady ds fs os → Passes ds e fs os (terminal k t) ds e' fs os
goes ds e fs os k t e' h r = passes_by ds e fs os k t (moves.Go e') ds e' fs os h r refl

pub ended : (ds : List Document) (e : Expect) (fs : List Finished) (os : List OpenElement) (k : Kind) (t : List ℕ) (d : Document) → move_for e k ≡ moves.End → os ≡ [] → d ≡ items_of ds fs → Ends ds e fs os (terminal k t) d
ended ds e fs os k t d h is same =
    subst (λ (x : List OpenElement). Ends ds e fs x (terminal k t) d) (sym is)
    (record { ended = backward (At e (items_of ds fs) []) (terminal k t) [] d (subst (λ (o : Option State). Goes o [] d) (sym (acted e k t (items_of ds fs) [] moves.End (Some (Done (items_of ds fs))) h refl)) (refl, sym same)) })

last_of : (o : OpenElement) (os : List OpenElement) → (front : List OpenElement) × (p : OpenElement) × (o ∷ os ≡ front ++ p ∷ [])
last_of o [] = ([], o, refl)
last_of o (p ∷ os) = let l = last_of p os in (o ∷ l.0, l.1, ap (λ (x : List OpenElement). o ∷ x) l.2)

pub some_open : (ds : List Document) (e : Expect) (fs : List Finished) (os : List OpenElement) (k : Kind) (t : List ℕ) → move_for e k ≡ moves.End → 0 < length os → Stops ds e fs os (terminal k t)
some_open ds e fs [] k t h lt = absurd (omega (arith, lt))
some_open ds e fs (o ∷ os) k t h lt = let l = last_of o os in still_open ds e fs (o ∷ os) l.0 l.1 k t h l.2
