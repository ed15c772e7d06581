-- First runs, move by move.
use Rattle.std.proofs.Common.{ℕ, zero, suc, ◌≡◌, ◌<◌, Bool, true, false, ◌&&◌, cond, List, [], ◌∷◌, ◌++◌, map, flat_map, length, get_or, Option, Some, None, arith, refl, sym, ap, ◌∙◌}
use Rattle.std.specs.List.{list_any, Contains}
use Rattle.std.proofs.lemmas.Option.{slice_get-get_or}
use Rattle.xd_doc.specs.Document.{Document, empty, text, element, join}
use Rattle.xd_doc.specs.Classes.{class_has}
use Rattle.xd_doc.proofs.Bools.{and_left, and_right}
use Rattle.xd_doc.specs.Runs.{Run, at_text, at_element}
use Rattle.xd_auto.specs.declared.auto.State.{State}
use Rattle.xd_auto.specs.declared.auto.LabelMove.{LabelMove}
use Rattle.xd_auto.specs.declared.auto.TextMove.{TextMove}
use Rattle.xd_auto.specs.Automaton.{Automaton, accepts, moves_at, takes_element as takes_by_label, takes_word}
use Rattle.xd_auto.specs.Runs as Numbered
use Rattle.xd_auto.specs.Runs.{from_each}
use Rattle.xd_auto.specs.Traces.{text_rest_or, content_or, rest_or}
use Rattle.xd_auto.proofs.RunLaw.{over_word, over_label, runs_law, runs_are_accepting}
use Rattle.xd_pattern_runs.specs.Runs.{MarkedRun, if_marked}
use Rattle.xd_pattern_runs.specs.Laws.{first_of}
use Rattle.xd_patterns.specs.Marked.{Marking, with_marks}
use Rattle.xd_match.specs.First.{first_held, first_run, held_in}
use Rattle.xd_match.specs.Taking.{IsFirst}

runs_some : (a : Automaton) (d : Document) (s : State) → accepts a d s ≡ true → (r : Run ℕ) × (rs : List (Run ℕ)) × (Numbered.runs a d s ≡ r ∷ rs)
runs_some a d s e = go (Numbered.runs a d s) refl
  where
    go : (rs : List (Run ℕ)) → Numbered.runs a d s ≡ rs → (r : Run ℕ) × (ts : List (Run ℕ)) × (rs ≡ r ∷ ts)
    go (r ∷ rs) f = (r, rs, refl)
    go [] f =
        let run = (runs_law a s d).0 e in
        let there : Contains (Numbered.runs a d s) run.0 = (runs_are_accepting a s d run.0).1 run.1 in
        let none : length (Numbered.runs a d s) ≡ 0 = ap length f in
        absurd (omega (arith, there.1))

runs_none : (a : Automaton) (d : Document) (s : State) → accepts a d s ≡ false → Numbered.runs a d s ≡ []
runs_none a d s e = go (Numbered.runs a d s) refl
  where
    go : (rs : List (Run ℕ)) → Numbered.runs a d s ≡ rs → rs ≡ []
    go [] f = refl
    go (r ∷ rs) f =
        let there : Contains (r ∷ rs) r = (0, omega arith, refl) in
        let among : Contains (Numbered.runs a d s) r = rw f there in
        let yes : accepts a d s ≡ true = (runs_law a s d).1 (r, (runs_are_accepting a s d r).0 among) in
        absurd (let both : true ≡ false = sym yes ∙ e in cc)

pub first_some : (a : Automaton) (k : Marking) (d : Document) (s : State) → accepts a d s ≡ true → (r : MarkedRun) × (first_run a k d s ≡ Some r)
first_some a k d s e = let r = runs_some a d s e in (with_marks a k s r.0, ap (λ rs. first_of (map (with_marks a k s) rs)) r.2)

pub first_none : (a : Automaton) (k : Marking) (d : Document) (s : State) → accepts a d s ≡ false → first_run a k d s ≡ None
first_none a k d s e = ap (λ rs. first_of (map (with_marks a k s) rs)) (runs_none a d s e)

-- the first of the members that the parts of a list give is that of the first part that gives any
first_given : {A B : Type 0} (f : ℕ → A → List B) (xs : List A) (n : ℕ) (d : A) (r : B) (rs : List B) → n < length xs → ((i : ℕ) (e : A) → i < n → f i (get_or xs i e) ≡ []) →
    f n (get_or xs n d) ≡ r ∷ rs → (ts : List B) × (from_each f xs ≡ r ∷ ts)
first_given f [] n d r rs lt before here = absurd (omega arith)
first_given f (x ∷ xs) zero d r rs lt before here = (rs ++ from_each (λ m. f (suc m)) xs, ap (λ ys. ys ++ from_each (λ m. f (suc m)) xs) here)
first_given f (x ∷ xs) (suc n) d r rs lt before here =
    let later = first_given (λ m. f (suc m)) xs n d r rs (omega arith) (λ i e l. before (suc i) e (omega arith)) here in
    (later.0, ap (λ ys. ys ++ from_each (λ m. f (suc m)) xs) (before 0 x (omega arith)) ∙ later.1)

flat_none : {A B : Type 0} (f : A → List B) → ((x : A) → f x ≡ []) → (xs : List A) → flat_map f xs ≡ []
flat_none f h [] = refl
flat_none f h (x ∷ xs) = ap (λ ys. ys ++ flat_map f xs) (h x) ∙ flat_none f h xs

module _ (a : Automaton) (k : Marking) where
  no_word : (t : List ℕ) (d : Document) (n : ℕ) (m : TextMove) → takes_word a t d m ≡ false → over_word a t d n m ≡ []
  no_word t d n m e = go (class_has m.words t) e
    where
      go : (b : Bool) → (b && accepts a d m.rest) ≡ false → cond b (map (at_text n) (Numbered.runs a d m.rest)) [] ≡ []
      go true f = ap (map (at_text n)) (runs_none a d m.rest f)
      go false f = refl

  no_label : (l : List ℕ) (c d : Document) (n : ℕ) (m : LabelMove) → takes_by_label a l c d m ≡ false → over_label a l c d n m ≡ []
  no_label l c d n m e = go (class_has m.class l) (accepts a c m.content) refl e
    where
      go : (b p : Bool) → accepts a c m.content ≡ p → (b && (p && accepts a d m.rest)) ≡ false
          → cond b (flat_map (λ q. map (at_element n q) (Numbered.runs a d m.rest)) (Numbered.runs a c m.content)) [] ≡ []
      go false p h f = refl
      go true false h f = ap (flat_map (λ q. map (at_element n q) (Numbered.runs a d m.rest))) (runs_none a c m.content h)
      go true true h f = flat_none (λ q. map (at_element n q) (Numbered.runs a d m.rest)) (λ q. ap (map (at_element n q)) (runs_none a d m.rest f)) (Numbered.runs a c m.content)

  -- a move that leads over an item leads to states that accept what is left
  pub content_accepted : (l : List ℕ) (c d : Document) (m : LabelMove) → takes_by_label a l c d m ≡ true → accepts a c m.content ≡ true
  content_accepted l c d m h = and_left (accepts a c m.content) (accepts a d m.rest) (and_right (class_has m.class l) (accepts a c m.content && accepts a d m.rest) h)

  pub rest_accepted : (l : List ℕ) (c d : Document) (m : LabelMove) → takes_by_label a l c d m ≡ true → accepts a d m.rest ≡ true
  rest_accepted l c d m h = and_right (accepts a c m.content) (accepts a d m.rest) (and_right (class_has m.class l) (accepts a c m.content && accepts a d m.rest) h)

  pub word_accepted : (t : List ℕ) (d : Document) (m : TextMove) → takes_word a t d m ≡ true → accepts a d m.rest ≡ true
  word_accepted t d m h = and_right (class_has m.words t) (accepts a d m.rest) h

  -- what the first run over a text gives a variable
  pub held_text : (x : List ℕ) (n : ℕ) (t : List ℕ) (d : Document) (s : State) (m : TextMove) → IsFirst (takes_word a t d) (moves_at a s).texts n
      → first_held a k x (text t d) s ≡ join (if_marked (get_or (k s).texts n []) x (text t empty)) (first_held a k x d (get_or (moves_at a s).texts n m).rest)
  held_text x n t d s m first =
      let marks : List (List ℕ) = get_or (k s).texts n [] in
      let move : TextMove = get_or (moves_at a s).texts n m in
      let yes : (class_has move.words t && accepts a d move.rest) ≡ true = first.passes m in
      let rest = runs_some a d move.rest (word_accepted t d move yes) in
      let here : over_word a t d n move ≡ at_text n rest.0 ∷ map (at_text n) rest.1 =
      ap (λ b. cond b (map (at_text n) (Numbered.runs a d move.rest)) []) (and_left (class_has move.words t) (accepts a d move.rest) yes) ∙ ap (map (at_text n)) rest.2 in
      let all = first_given (over_word a t d) (moves_at a s).texts n m (at_text n rest.0) (map (at_text n) rest.1) first.within (λ i f l. no_word t d i (get_or (moves_at a s).texts i f) (first.before i f l)) here in
      ap (λ rs. held_in x (text t d) (first_of (map (with_marks a k s) rs))) all.1
      ∙ ap (λ (o : Option TextMove). join (if_marked marks x (text t empty)) (held_in x d (Some (with_marks a k (text_rest_or s o) rest.0)))) (slice_get-get_or (moves_at a s).texts n m first.within)
      ∙ ap (λ z. join (if_marked marks x (text t empty)) z) (sym (ap (λ rs. held_in x d (first_of (map (with_marks a k move.rest) rs))) rest.2))

  -- and over an element
  pub held_element : (x : List ℕ) (n : ℕ) (l : List ℕ) (c d : Document) (s : State) (m : LabelMove) → IsFirst (takes_by_label a l c d) (moves_at a s).labels n
      → first_held a k x (element l c d) s ≡ join (if_marked (get_or (k s).labels n []) x (element l c empty))
      (join (first_held a k x c (get_or (moves_at a s).labels n m).content) (first_held a k x d (get_or (moves_at a s).labels n m).rest))
  held_element x n l c d s m first =
      let marks : List (List ℕ) = get_or (k s).labels n [] in
      let move : LabelMove = get_or (moves_at a s).labels n m in
      let yes : takes_by_label a l c d move ≡ true = first.passes m in
      let inside = runs_some a c move.content (content_accepted l c d move yes) in
      let rest = runs_some a d move.rest (rest_accepted l c d move yes) in
      let over : Run ℕ → List (Run ℕ) = λ p. map (at_element n p) (Numbered.runs a d move.rest) in
      let here : over_label a l c d n move ≡ at_element n inside.0 rest.0 ∷ (map (at_element n inside.0) rest.1 ++ flat_map over inside.1) =
      ap (λ b. cond b (flat_map over (Numbered.runs a c move.content)) []) (and_left (class_has move.class l) (accepts a c move.content && accepts a d move.rest) yes)
      ∙ ap (flat_map over) inside.2 ∙ ap (λ rs. map (at_element n inside.0) rs ++ flat_map over inside.1) rest.2 in
      let all = first_given (over_label a l c d) (moves_at a s).labels n m (at_element n inside.0 rest.0) (map (at_element n inside.0) rest.1 ++ flat_map over inside.1) first.within
      (λ i f g. no_label l c d i (get_or (moves_at a s).labels i f) (first.before i f g)) here in
      ap (λ rs. held_in x (element l c d) (first_of (map (with_marks a k s) rs))) all.1
      ∙ ap (λ (o : Option LabelMove). join (if_marked marks x (element l c empty)) (join (held_in x c (Some (with_marks a k (content_or s o) inside.0))) (held_in x d (Some (with_marks a k (rest_or s o) rest.0)))))
      (slice_get-get_or (moves_at a s).labels n m first.within)
      ∙ ap (λ z. join (if_marked marks x (element l c empty)) (join z (held_in x d (Some (with_marks a k move.rest rest.0))))) (sym (ap (λ rs. held_in x c (first_of (map (with_marks a k move.content) rs))) inside.2))
      ∙ ap (λ z. join (if_marked marks x (element l c empty)) (join (first_held a k x c move.content) z)) (sym (ap (λ rs. held_in x d (first_of (map (with_marks a k move.rest) rs))) rest.2))

  -- an empty document gives nothing
  pub held_empty : (x : List ℕ) (s : State) → first_held a k x empty s ≡ empty
  held_empty x s = go (first_run a k empty s)
    where
      go : (o : Option MarkedRun) → held_in x empty o ≡ empty
      go None = refl
      go (Some r) = refl

-- the first that passes, where some does
pub find_first : {X : Type 0} (test : X → Bool) (xs : List X) → list_any test xs ≡ true → (n : ℕ) × IsFirst test xs n
find_first test [] e = absurd (cc)
find_first {X} test (x ∷ xs) e = go (test x) refl (λ h. find_first test xs h)
  where
    before : test x ≡ false → (n : ℕ) → IsFirst test xs n → (i : ℕ) (d : X) → i < suc n → test (get_or (x ∷ xs) i d) ≡ false
    before h n first zero d lt = h
    before h n first (suc i) d lt = first.before i d (omega arith)

    go : (b : Bool) → test x ≡ b → (list_any test xs ≡ true → (n : ℕ) × IsFirst test xs n) → (n : ℕ) × IsFirst test (x ∷ xs) n
    go true h later = (0, record { within = omega arith; passes = λ d. h; before = λ i d lt. absurd (omega arith) })
    go false h later =
        let rest : list_any test xs ≡ true = rw h at e in
        let r = later rest in (
          suc r.0,
          record { within = omega (arith, r.1.within); passes = r.1.passes; before = before h r.0 r.1 },
        )
