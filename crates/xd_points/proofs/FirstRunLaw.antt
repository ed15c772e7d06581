-- A run is the first exactly where at each item no move before its own leads over the document; and
-- of each kind of runs a state has one just over what it accepts.
use Rattle.std.proofs.Common.{ℕ, zero, suc, ◌≡◌, Bool, true, false, ◌&&◌, ◌||◌, cond, List, [], ◌∷◌, ◌++◌, map, take, Some, refl, sym, ap, ◌∙◌, subst}
use Rattle.std.specs.List.{Contains, flat_map, list_any, slice_get}
use Rattle.xd_doc.specs.Document.{Document, empty, text, element}
use Rattle.xd_doc.specs.Classes.{class_has}
use Rattle.xd_doc.proofs.Bools.{and_left, and_right, or_left, or_right}
use Rattle.xd_doc.specs.Runs.{Run, at_end, at_text, at_element}
use Rattle.xd_auto.specs.declared.auto.State.{State}
use Rattle.xd_auto.specs.declared.auto.LabelMove.{LabelMove}
use Rattle.xd_auto.specs.declared.auto.TextMove.{TextMove}
use Rattle.xd_auto.specs.Automaton.{Automaton, accepts, moves_at, takes_word, takes_element as takes_over}
use Rattle.xd_auto.specs.Runs.{IsAcceptingRun, from_each, runs}
use Rattle.xd_auto.proofs.Anys.{IsSomeAnd-at, IsSomeAnd-parts}
use Rattle.xd_auto.proofs.Members.{first_in}
use Rattle.xd_auto.proofs.RunLaw.{runs_are_accepting, runs_law}
use Rattle.xd_points.specs.FirstRuns.{AcceptingRunsAreAll, AcceptsByEachKind, FirstRunsArePreferred, IsFirstRun, IsPreferred, IsRunBy, place_before}

-- ---- heads of lists

-- the first of two lists in a row
head_front : {X : Type 0} (xs ys : List X) (x : X) → slice_get xs 0 ≡ Some x → slice_get (xs ++ ys) 0 ≡ Some x
head_front [] ys x e = absurd (cc)
head_front (z ∷ xs) ys x e = e

head_map : {X Y : Type 0} (f : X → Y) (xs : List X) (x : X) → slice_get xs 0 ≡ Some x → slice_get (map f xs) 0 ≡ Some (f x)
head_map f [] x e = absurd (cc)
head_map f (z ∷ xs) x e = let same : z ≡ x = cc in ap (λ w. Some (f w)) same

head_flat : {X Y : Type 0} (f : X → List Y) (xs : List X) (x : X) (y : Y) → slice_get xs 0 ≡ Some x → slice_get (f x) 0 ≡ Some y → slice_get (flat_map f xs) 0 ≡ Some y
head_flat f [] x y e h = absurd (cc)
head_flat f (z ∷ xs) x y e h =
    let same : z ≡ x = cc in head_front (f z) (flat_map f xs) y (ap (λ w. slice_get (f w) 0) same ∙ h)

-- the members before one give nothing, so what it gives comes first
head_each : {X Y : Type 0} (f : ℕ → X → List Y) (p : X → Bool) (xs : List X) (n : ℕ) (x : X) (y : Y) → ((k : ℕ) (z : X) → p z ≡ false → f k z ≡ []) →
    slice_get xs n ≡ Some x → list_any p (take n xs) ≡ false → slice_get (f n x) 0 ≡ Some y → slice_get (from_each f xs) 0 ≡ Some y
head_each f p [] n x y none there before h = absurd (cc)
head_each f p (z ∷ xs) zero x y none there before h =
    let same : z ≡ x = cc in head_front (f 0 z) (from_each (λ k. f (suc k)) xs) y (ap (λ w. slice_get (f 0 w) 0) same ∙ h)
head_each f p (z ∷ xs) (suc n) x y none there before h =
    let more = head_each (λ k. f (suc k)) p xs n x y (λ k w e. none (suc k) w e) there (or_right (p z) (list_any p (take n xs)) before) h in
    ap (λ w. slice_get (w ++ from_each (λ k. f (suc k)) xs) 0) (none 0 z (or_left (p z) (list_any p (take n xs)) before)) ∙ more

-- ---- a state that accepts nothing has no run

no_runs : (a : Automaton) (d : Document) (s : State) → accepts a d s ≡ false → runs a d s ≡ []
no_runs a d s e = go (runs a d s) refl
  where
    go : (rs : List (Run ℕ)) → runs a d s ≡ rs → rs ≡ []
    go [] is = refl
    go (r ∷ rs) is =
        let among : Contains (runs a d s) r = subst (λ (ws : List (Run ℕ)). Contains ws r) (sym is) (first_in r rs) in
        let yes : accepts a d s ≡ true = (runs_law a s d).1 (r, (runs_are_accepting a s d r).0 among) in
        absurd (cc)

-- the runs over a text by one move
abbrev over_word : Automaton → List ℕ → Document → ℕ → TextMove → List (Run ℕ)
over_word a t rest n m = cond (class_has m.words t) (map (at_text n) (runs a rest m.rest)) []

-- the runs over an element by one move
abbrev over_label : Automaton → List ℕ → Document → Document → ℕ → LabelMove → List (Run ℕ)
over_label a l content rest n m = cond (class_has m.class l) (flat_map (λ c. map (at_element n c) (runs a rest m.rest)) (runs a content m.content)) []

word_none : (a : Automaton) (t : List ℕ) (rest : Document) (k : ℕ) (m : TextMove) → takes_word a t rest m ≡ false → over_word a t rest k m ≡ []
word_none a t rest k m e = go (class_has m.words t) e
  where
    go : (b : Bool) → (b && accepts a rest m.rest) ≡ false → cond b (map (at_text k) (runs a rest m.rest)) [] ≡ []
    go true h = ap (map (at_text k)) (no_runs a rest m.rest h)
    go false h = refl

flat_nothing : {X Y : Type 0} (xs : List X) → flat_map (λ (x : X). let none : List Y = [] in none) xs ≡ []
flat_nothing [] = refl
flat_nothing (x ∷ xs) = flat_nothing xs

label_none : (a : Automaton) (l : List ℕ) (content rest : Document) (k : ℕ) (m : LabelMove) → takes_over a l content rest m ≡ false → over_label a l content rest k m ≡ []
label_none a l content rest k m e = go (class_has m.class l) (accepts a content m.content) refl e
  where
    go : (b v : Bool) → accepts a content m.content ≡ v → (b && (v && accepts a rest m.rest)) ≡ false
        → cond b (flat_map (λ c. map (at_element k c) (runs a rest m.rest)) (runs a content m.content)) [] ≡ []
    go true true is h =
        let none = no_runs a rest m.rest h in
        ap (λ (rs : List (Run ℕ)). flat_map (λ c. map (at_element k c) rs) (runs a content m.content)) none ∙ flat_nothing (runs a content m.content)
    go true false is h = ap (flat_map (λ c. map (at_element k c) (runs a rest m.rest))) (no_runs a content m.content is)
    go false v is h = refl

-- ---- a preferred run is the first

pub preferred_first : (a : Automaton) (d : Document) (s : State) (run : Run ℕ) → IsPreferred a d s run → IsFirstRun a d s run
preferred_first a empty s at_end h = ap (λ b. slice_get (cond b (at_end ∷ []) []) 0) h
preferred_first a empty s (at_text n r) h = absurd h
preferred_first a empty s (at_element n c r) h = absurd h
preferred_first a (text t rest) s at_end h = absurd h
preferred_first a (text t rest) s (at_text n r) h =
    let f = IsSomeAnd-parts (slice_get (moves_at a s).texts n)
    (λ (m : TextMove). (class_has m.words t ≡ true) × (list_any (takes_word a t rest) (take n (moves_at a s).texts) ≡ false) × IsPreferred a rest m.rest r) h in
    head_each (over_word a t rest) (takes_word a t rest) (moves_at a s).texts n f.item (at_text n r) (word_none a t rest) f.is f.holds.1
    (ap (λ b. slice_get (cond b (map (at_text n) (runs a rest f.item.rest)) []) 0) f.holds.0
    ∙ head_map (at_text n) (runs a rest f.item.rest) r (preferred_first a rest f.item.rest r f.holds.2))
preferred_first a (text t rest) s (at_element n c r) h = absurd h
preferred_first a (element l content rest) s at_end h = absurd h
preferred_first a (element l content rest) s (at_text n r) h = absurd h
preferred_first a (element l content rest) s (at_element n c r) h =
    let f = IsSomeAnd-parts (slice_get (moves_at a s).labels n)
    (λ (m : LabelMove). (class_has m.class l ≡ true) × (list_any (takes_over a l content rest) (take n (moves_at a s).labels) ≡ false) × IsPreferred a content m.content c × IsPreferred a rest m.rest r) h in
    let over : Run ℕ → List (Run ℕ) = λ k. map (at_element n k) (runs a rest f.item.rest) in
    head_each (over_label a l content rest) (takes_over a l content rest) (moves_at a s).labels n f.item (at_element n c r) (label_none a l content rest) f.is f.holds.1
    (ap (λ b. slice_get (cond b (flat_map over (runs a content f.item.content)) []) 0) f.holds.0
    ∙ head_flat over (runs a content f.item.content) c (at_element n c r) (preferred_first a content f.item.content c f.holds.2)
    (head_map (at_element n c) (runs a rest f.item.rest) r (preferred_first a rest f.item.rest r f.holds.3)))

-- ---- what is accepted has a run of each kind

-- the first element that passes
record FoundFirst {X : Type 0} (p : X → Bool) (xs : List X) : Type 0 where
  place : ℕ
  item : X
  there : slice_get xs place ≡ Some item
  passes : p item ≡ true
  before : list_any p (take place xs) ≡ false

found_first : {X : Type 0} (p : X → Bool) (xs : List X) → list_any p xs ≡ true → FoundFirst p xs
found_first p [] e = absurd (cc)
found_first p (x ∷ xs) e = go (p x) refl e (λ h. found_first p xs h)
  where
    go : (b : Bool) → p x ≡ b → (b || list_any p xs) ≡ true → (list_any p xs ≡ true → FoundFirst p xs) → FoundFirst p (x ∷ xs)
    go true is h ih = record { place = zero; item = x; there = refl; passes = is; before = refl }
    go false is h ih =
        let more = ih h in
        record { place = suc more.place; item = more.item; there = more.there; passes = more.passes; before = ap (λ w. w || list_any p (take more.place xs)) is ∙ more.before }

-- and what stands before a place, where it must fail
before_place : {X : Type 0} (first : Bool) (p : X → Bool) (xs : List X) (n : ℕ) → list_any p (take n xs) ≡ false → list_any p (take (place_before first n) xs) ≡ false
before_place true p xs n e = e
before_place false p xs n e = refl

pub run_by : (first : Bool) (a : Automaton) (d : Document) (s : State) → accepts a d s ≡ true → (run : Run ℕ) × IsRunBy first a d s run
run_by first a empty s e = (at_end, e)
run_by first a (text t rest) s e =
    let f = found_first (takes_word a t rest) (moves_at a s).texts e in
    let r = run_by first a rest f.item.rest (and_right (class_has f.item.words t) (accepts a rest f.item.rest) f.passes) in (
      at_text f.place r.0,
      IsSomeAnd-at (slice_get (moves_at a s).texts f.place)
          (λ (m : TextMove). (class_has m.words t ≡ true) × (list_any (takes_word a t rest) (take (place_before first f.place) (moves_at a s).texts) ≡ false) × IsRunBy first a rest m.rest r.0) f.item f.there
          (and_left (class_has f.item.words t) (accepts a rest f.item.rest) f.passes, before_place first (takes_word a t rest) (moves_at a s).texts f.place f.before, r.1),
    )
run_by first a (element l content rest) s e =
    let f = found_first (takes_over a l content rest) (moves_at a s).labels e in
    let has = and_left (class_has f.item.class l) _ f.passes in
    let parts = and_right (class_has f.item.class l) _ f.passes in
    let c = run_by first a content f.item.content (and_left (accepts a content f.item.content) _ parts) in
    let r = run_by first a rest f.item.rest (and_right (accepts a content f.item.content) _ parts) in (
      at_element f.place c.0 r.0,
      IsSomeAnd-at (slice_get (moves_at a s).labels f.place)
          (λ (m : LabelMove). (class_has m.class l ≡ true) × (list_any (takes_over a l content rest) (take (place_before first f.place) (moves_at a s).labels) ≡ false) × IsRunBy first a content m.content c.0 × IsRunBy first a rest m.rest r.0)
          f.item f.there (has, before_place first (takes_over a l content rest) (moves_at a s).labels f.place f.before, c.1, r.1),
    )

-- ---- a run of each kind is an accepting one, and without `first` each accepting run is one

pub by_accepting : (first : Bool) (a : Automaton) (d : Document) (s : State) (run : Run ℕ) → IsRunBy first a d s run → IsAcceptingRun a d s run
by_accepting first a empty s at_end h = h
by_accepting first a empty s (at_text n r) h = absurd h
by_accepting first a empty s (at_element n c r) h = absurd h
by_accepting first a (text t rest) s at_end h = absurd h
by_accepting first a (text t rest) s (at_text n r) h =
    let f = IsSomeAnd-parts (slice_get (moves_at a s).texts n)
    (λ (m : TextMove). (class_has m.words t ≡ true) × (list_any (takes_word a t rest) (take (place_before first n) (moves_at a s).texts) ≡ false) × IsRunBy first a rest m.rest r) h in
    IsSomeAnd-at (slice_get (moves_at a s).texts n) (λ (m : TextMove). (class_has m.words t ≡ true) × IsAcceptingRun a rest m.rest r) f.item f.is
    (f.holds.0, by_accepting first a rest f.item.rest r f.holds.2)
by_accepting first a (text t rest) s (at_element n c r) h = absurd h
by_accepting first a (element l content rest) s at_end h = absurd h
by_accepting first a (element l content rest) s (at_text n r) h = absurd h
by_accepting first a (element l content rest) s (at_element n c r) h =
    let f = IsSomeAnd-parts (slice_get (moves_at a s).labels n)
    (λ (m : LabelMove). (class_has m.class l ≡ true) × (list_any (takes_over a l content rest) (take (place_before first n) (moves_at a s).labels) ≡ false) × IsRunBy first a content m.content c × IsRunBy first a rest m.rest r) h in
    IsSomeAnd-at (slice_get (moves_at a s).labels n) (λ (m : LabelMove). (class_has m.class l ≡ true) × IsAcceptingRun a content m.content c × IsAcceptingRun a rest m.rest r) f.item f.is
    (f.holds.0, by_accepting first a content f.item.content c f.holds.2, by_accepting first a rest f.item.rest r f.holds.3)

accepting_by : (a : Automaton) (d : Document) (s : State) (run : Run ℕ) → IsAcceptingRun a d s run → IsRunBy false a d s run
accepting_by a empty s at_end h = h
accepting_by a empty s (at_text n r) h = absurd h
accepting_by a empty s (at_element n c r) h = absurd h
accepting_by a (text t rest) s at_end h = absurd h
accepting_by a (text t rest) s (at_text n r) h =
    let f = IsSomeAnd-parts (slice_get (moves_at a s).texts n) (λ (m : TextMove). (class_has m.words t ≡ true) × IsAcceptingRun a rest m.rest r) h in
    IsSomeAnd-at (slice_get (moves_at a s).texts n)
    (λ (m : TextMove). (class_has m.words t ≡ true) × (list_any (takes_word a t rest) (take (place_before false n) (moves_at a s).texts) ≡ false) × IsRunBy false a rest m.rest r) f.item f.is
    (f.holds.0, refl, accepting_by a rest f.item.rest r f.holds.1)
accepting_by a (text t rest) s (at_element n c r) h = absurd h
accepting_by a (element l content rest) s at_end h = absurd h
accepting_by a (element l content rest) s (at_text n r) h = absurd h
accepting_by a (element l content rest) s (at_element n c r) h =
    let f = IsSomeAnd-parts (slice_get (moves_at a s).labels n) (λ (m : LabelMove). (class_has m.class l ≡ true) × IsAcceptingRun a content m.content c × IsAcceptingRun a rest m.rest r) h in
    IsSomeAnd-at (slice_get (moves_at a s).labels n)
    (λ (m : LabelMove). (class_has m.class l ≡ true) × (list_any (takes_over a l content rest) (take (place_before false n) (moves_at a s).labels) ≡ false) × IsRunBy false a content m.content c × IsRunBy false a rest m.rest r) f.item f.is
    (f.holds.0, refl, accepting_by a content f.item.content c f.holds.1, accepting_by a rest f.item.rest r f.holds.2)

pub accepting_runs_are_all : AcceptingRunsAreAll
accepting_runs_are_all a s d run = (accepting_by a d s run, by_accepting false a d s run)

pub by_accepts : (first : Bool) (a : Automaton) (d : Document) (s : State) (run : Run ℕ) → IsRunBy first a d s run → accepts a d s ≡ true
by_accepts first a d s run h = (runs_law a s d).1 (run, by_accepting first a d s run h)

pub accepts_by_each_kind : AcceptsByEachKind
accepts_by_each_kind first a s d = (run_by first a d s, λ r. by_accepts first a d s r.0 r.1)

-- ---- and the first run is preferred

head_in : {X : Type 0} (xs : List X) (x : X) → slice_get xs 0 ≡ Some x → Contains xs x
head_in [] x e = absurd (cc)
head_in (z ∷ xs) x e = let same : z ≡ x = cc in subst (λ w. Contains (z ∷ xs) w) same (first_in z xs)

pub first_accepts : (a : Automaton) (d : Document) (s : State) (run : Run ℕ) → IsFirstRun a d s run → IsAcceptingRun a d s run
first_accepts a d s run h = (runs_are_accepting a s d run).0 (head_in (runs a d s) run h)

first_preferred : (a : Automaton) (d : Document) (s : State) (run : Run ℕ) → IsFirstRun a d s run → IsPreferred a d s run
first_preferred a d s run h =
    let p = run_by true a d s ((runs_law a s d).1 (run, first_accepts a d s run h)) in
    let other = preferred_first a d s p.0 p.1 in
    let same : p.0 ≡ run = cc in
    subst (IsPreferred a d s) same p.1

pub first_runs_are_preferred : FirstRunsArePreferred
first_runs_are_preferred a s d run = (first_preferred a d s run, preferred_first a d s run)
