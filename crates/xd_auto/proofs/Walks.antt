-- What the walk over pairs keeps at each step.
use Rattle.std.proofs.Common.{ℕ, ◌≡◌, ◌≢◌, ◌⊎◌, ◌+◌, ◌<◌, ◌≤◌, Bool, List, [], ◌∷◌, ◌++◌, length, get_or, Some, None, is_some, arith, refl, sym, subst, ap, ◌∙◌, inl, inr}
use Rattle.std.specs.List.{AllPairs}
use Rattle.std.proofs.lemmas.Bool.{cases_eq, cases_lt}
use Rattle.std.proofs.lemmas.List.{get_or_append_left, get_or_at, length_push}
use Rattle.std.proofs.lemmas.List.Quantifiers.{all_pairs_push}
use Rattle.xd_doc.specs.Document.{Document}
use Rattle.xd_doc.specs.StoredSeq.{BelongsTo}
use Rattle.xd_doc.specs.StoreNodes.{node_seq}
use Rattle.xd_auto.specs.declared.auto.State.{State}
use Rattle.xd_auto.specs.declared.membership.Frame.{Frame}
use Rattle.xd_auto.specs.Automaton.{Automaton, IsState, accepts}
use Rattle.xd_auto.specs.Kept.{Answers, AreRight, IsRight, KeepsAnswer, KeepsAnswers, SameAnswers, kept_at}
use Rattle.xd_auto.proofs.Closed.{same_state}
use Rattle.xd_auto.proofs.LeftOutLemmas.{left_out_of-more}
use Rattle.xd_auto.specs.Membership.{FailsBefore, IsFrame, MayWait, Walk, bottom, from_node, steps_left, unknown_below}

abbrev pub frame : ℕ → State → ℕ → Frame
frame node state tried = record { node = node; state = state; tried = tried }

-- what holds at each place of a list and at the one after it
pub places_push : {X : Type 0} (P : ℕ → X → Type 0) (xs : List X) (y : X)
    → ((i : ℕ) (d : X) → i < length xs → P i (get_or xs i d)) → P (length xs) y
    → (i : ℕ) (d : X) → i < length (xs ++ y ∷ []) → P i (get_or (xs ++ y ∷ []) i d)
places_push P xs y h here i d lt =
    let len : length (xs ++ y ∷ []) ≡ length xs + 1 = length_push xs y in
    elim (cases_lt i (length xs)) [
      | inl l ↦ subst (P i) (sym (get_or_append_left xs (y ∷ []) d i l)) (h i d l)
      | inr g ↦
          let at : length xs ≡ i = omega arith in
          subst (P i) (sym (get_or_at xs y [] d i at)) (subst (λ k. P k y) at here)
    ]

pub places_front : {X : Type 0} (P : ℕ → X → Type 0) (xs : List X) (y : X)
    → ((i : ℕ) (d : X) → i < length (xs ++ y ∷ []) → P i (get_or (xs ++ y ∷ []) i d)) → (i : ℕ) (d : X) → i < length xs → P i (get_or xs i d)
places_front P xs y h i d lt =
    let more : i < length (xs ++ y ∷ []) = omega (arith, length_push xs y) in
    subst (P i) (get_or_append_left xs (y ∷ []) d i lt) (h i d more)

pub places_last : {X : Type 0} (P : ℕ → X → Type 0) (xs : List X) (y : X)
    → ((i : ℕ) (d : X) → i < length (xs ++ y ∷ []) → P i (get_or (xs ++ y ∷ []) i d)) → P (length xs) y
places_last P xs y h =
    let more : length xs < length (xs ++ y ∷ []) = omega (arith, length_push xs y) in
    subst (P (length xs)) (get_or_at xs y [] y (length xs) refl) (h (length xs) y more)

abbrev pub Falls : Frame → Frame → Type 0
Falls f g = g.node < f.node

pub falls_front : (xs : List Frame) (y : Frame) → AllPairs Falls (xs ++ y ∷ []) → AllPairs Falls xs
falls_front xs y h i j d lt below =
    let j_in : j < length (xs ++ y ∷ []) = omega (arith, length_push xs y) in
    let i_in : i < length xs = omega arith in
    rw (← get_or_append_left xs (y ∷ []) d i i_in, ← get_or_append_left xs (y ∷ []) d j below) (h i j d lt j_in)

pub falls_last : (xs : List Frame) (y : Frame) → AllPairs Falls (xs ++ y ∷ []) → (k : ℕ) (d : Frame) → k < length xs → y.node < (get_or xs k d).node
falls_last xs y h k d lt =
    let more : length xs < length (xs ++ y ∷ []) = omega (arith, length_push xs y) in
    let fact = h k (length xs) d lt more in
    rw (get_or_append_left xs (y ∷ []) d k lt, get_or_at xs y [] d (length xs) refl) at fact

-- an answer that is kept now was kept before, or is the one that came
pub some_same : (p n : ℕ) (t : State) (answer b : Bool) (m : ℕ) (old new : Answers) → KeepsAnswer n m answer old new → kept_at new p t.number ≡ Some b
    → ((p ≡ n) × (t.number ≡ m) × (b ≡ answer)) ⊎ (kept_at old p t.number ≡ Some b)
some_same p n t answer b m old new k e = go (cases_eq p n) (cases_eq t.number m)
  where
    go : (p ≡ n) ⊎ (p ≢ n) → (t.number ≡ m) ⊎ (t.number ≢ m) → ((p ≡ n) × (t.number ≡ m) × (b ≡ answer)) ⊎ (kept_at old p t.number ≡ Some b)
    go (inl x) (inl y) =
        let there : kept_at new p t.number ≡ Some answer = rw (x, y) k.there in
        let both : Some b ≡ Some answer = sym e ∙ there in
        inl (x, y, cc)
    go (inr x) o = inr (sym (k.others p t.number (inl x)) ∙ e)
    go (inl x) (inr y) = inr (sym (k.others p t.number (inr y)) ∙ e)

-- what was right stays so where a right answer is kept
pub right_kept : (a : Automaton) (ds : List Document) (n : ℕ) (s : State) (answer : Bool) (old new : Answers) → AreRight a ds old → KeepsAnswer n s.number answer old new
    → IsRight a ds n s answer → AreRight a ds new
right_kept a ds n s answer old new right k is p t b e =
    elim (some_same p n t answer b s.number old new k e) [
      | inl w ↦
          let states : s ≡ t = same_state s t (sym w.1) in
          rw (w.0, w.2, ← states) is
      | inr was ↦ right p t b was
    ]

pub right_same : (a : Automaton) (ds : List Document) (old new : Answers) → AreRight a ds old → SameAnswers old new → AreRight a ds new
right_same a ds old new right same p t b e = right p t b (sym (same p t.number) ∙ e)

pub keeps_one : (n m : ℕ) (answer : Bool) (old new : Answers) → kept_at old n m ≡ None → KeepsAnswer n m answer old new → KeepsAnswers old new
keeps_one n m answer old new was k p s b e = go (cases_eq p n) (cases_eq s m)
  where
    go : (p ≡ n) ⊎ (p ≢ n) → (s ≡ m) ⊎ (s ≢ m) → kept_at new p s ≡ Some b
    go (inl x) (inl y) =
        let none : kept_at old p s ≡ None = rw (x, y) was in
        let both : None ≡ Some b = sym none ∙ e in
        absurd (cc)
    go (inr x) o = k.others p s (inl x) ∙ e
    go (inl x) (inr y) = k.others p s (inr y) ∙ e

pub keeps_same : (old new : Answers) → SameAnswers old new → KeepsAnswers old new
keeps_same old new same p s b e = same p s ∙ e

pub keeps_on : (one two three : Answers) → KeepsAnswers one two → KeepsAnswers two three → KeepsAnswers one three
keeps_on one two three h g p s b e = g p s b (h p s b e)

-- the lowest frame is taken from the stack, or stays
pub root_done : (rest : List Frame) (f : Frame) (n : ℕ) (s : State) → bottom (rest ++ f ∷ []) ≡ Some (n, s)
    → (bottom rest ≡ Some (n, s)) ⊎ ((rest ≡ []) × (f.node ≡ n) × (f.state ≡ s))
root_done [] f n s e =
    let pair : (f.node, f.state) ≡ (n, s) = cc in
    inr (refl, ap (λ (x : ℕ × State). x.0) pair, ap (λ (x : ℕ × State). x.1) pair)
root_done (r ∷ rs) f n s e = inl e

pub root_waits : (rest : List Frame) (f g h : Frame) → g.node ≡ f.node → g.state ≡ f.state → bottom ((rest ++ g ∷ []) ++ h ∷ []) ≡ bottom (rest ++ f ∷ [])
root_waits [] f g h e k = rw (e, k) refl
root_waits (r ∷ rs) f g h e k = refl

not_empty : (rest : List Frame) (f : Frame) → rest ++ f ∷ [] ≡ [] → ⊥
not_empty rest f e = omega (arith, length_push rest f, ap length e)

module _ (a : Automaton) (ds : List Document) (top : ℕ) (s : State) where
  pub top_frame : (rows : Answers) (rest : List Frame) (f : Frame) → Walk a ds top s rows (rest ++ f ∷ []) → IsFrame a ds rows top (length rest) f
  top_frame rows rest f w = places_last (IsFrame a ds rows top) rest f w.frames

  pub root_waiting : (rows : Answers) (rest : List Frame) (f : Frame) → Walk a ds top s rows (rest ++ f ∷ []) → bottom (rest ++ f ∷ []) ≡ Some (top, s)
  root_waiting rows rest f w =
      elim w.root [
        | inl e ↦ e
        | inr h ↦ absurd (not_empty rest f h.0)
      ]

  -- the pair on top is settled
  pub walk_done : (rows new : Answers) (rest : List Frame) (f : Frame) (answer : Bool) → Walk a ds top s rows (rest ++ f ∷ [])
      → BelongsTo ds (node_seq f.node) → answer ≡ accepts a (from_node ds f.node) f.state → KeepsAnswer f.node f.state.number answer rows new
      → Walk a ds top s new rest
  walk_done rows new rest f answer w belongs is k = record {
    right = right_kept a ds f.node f.state answer rows new w.right k (record { belongs = belongs; state = (top_frame rows rest f w).state; is = is });
    frames = λ i d lt.
        let old : IsFrame a ds rows top i (get_or rest i d) = places_front (IsFrame a ds rows top) rest f w.frames i d lt in
        let less : f.node < (get_or rest i d).node = falls_last rest f w.falls i d lt in
        let ne : (get_or rest i d).node ≢ f.node = λ e. omega arith in
        record { high = old.high; state = old.state; unknown = k.others (get_or rest i d).node (get_or rest i d).state.number (inl ne) ∙ old.unknown; fails = old.fails };
    falls = falls_front rest f w.falls;
    root =
        elim (root_done rest f top s (root_waiting rows rest f w)) [
          | inl e ↦ inl e
          | inr h ↦ inr (
            h.0,
            subst (λ (n : ℕ). kept_at new n s.number ≡ Some (accepts a (from_node ds n) s)) h.1
                (subst (λ (t : State). kept_at new f.node t.number ≡ Some (accepts a (from_node ds f.node) t)) h.2 (k.there ∙ ap Some is)),
          )
        ];
  }

  -- the pair on top waits for an older one
  pub walk_waits : (rows : Answers) (rest : List Frame) (f : Frame) (n p : ℕ) (t : State) → Walk a ds top s rows (rest ++ f ∷ [])
      → FailsBefore a (from_node ds f.node) f.state n → FailsBefore a (from_node ds p) t 0 → MayWait a rows f.node p t
      → Walk a ds top s rows ((rest ++ frame f.node f.state n ∷ []) ++ frame p t 0 ∷ [])
  walk_waits rows rest f n p t w fails fails2 may =
      let here : IsFrame a ds rows top (length rest) f = top_frame rows rest f w in
      let high : f.node + length rest ≤ top = here.high in
      let older : p < f.node = may.older in
      let len : length (rest ++ frame f.node f.state n ∷ []) ≡ length rest + 1 = length_push rest (frame f.node f.state n) in
      let front : AllPairs Falls (rest ++ frame f.node f.state n ∷ []) =
      all_pairs_push Falls rest (frame f.node f.state n) (falls_front rest f w.falls) (falls_last rest f w.falls) in
      record {
        right = w.right;
        frames =
            places_push (IsFrame a ds rows top) (rest ++ frame f.node f.state n ∷ []) (frame p t 0)
            (places_push (IsFrame a ds rows top) rest (frame f.node f.state n) (places_front (IsFrame a ds rows top) rest f w.frames)
            (record { high = high; state = here.state; unknown = here.unknown; fails = fails }))
            (record { high = omega arith; state = may.state; unknown = may.unasked; fails = fails2 });
        falls =
            all_pairs_push Falls (rest ++ frame f.node f.state n ∷ []) (frame p t 0) front
            (places_push (λ (k : ℕ) (g : Frame). p < g.node) rest (frame f.node f.state n)
            (λ k d below. omega (arith, falls_last rest f w.falls k d below)) older);
        root = inl (root_waits rest f (frame f.node f.state n) (frame p t 0) refl refl ∙ root_waiting rows rest f w);
      }

-- a pair that is settled leaves fewer steps
pub steps_settle : (a : Automaton) (top : ℕ) (rows new : Answers) (rest : List Frame) (f : Frame) (answer : Bool) → f.node ≤ top → IsState a f.state
    → kept_at rows f.node f.state.number ≡ None → KeepsAnswer f.node f.state.number answer rows new
    → steps_left a top new rest < steps_left a top rows (rest ++ f ∷ [])
steps_settle a top rows new rest f answer below state none k =
    let less : unknown_below new (length a) (top + 1) + 1 ≡ unknown_below rows (length a) (top + 1) =
    left_out_of-more (λ t p. is_some (kept_at rows p t)) (λ t p. is_some (kept_at new p t)) f.state.number f.node (top + 1) (omega arith)
    (ap is_some none) (ap is_some k.there) (λ t j o. ap is_some (k.others j t o)) (length a) state in
    rw (← less) (omega (arith, length_push rest f))

-- and so does one that waits
pub steps_wait : (a : Automaton) (top : ℕ) (rows : Answers) (rest : List Frame) (f g h : Frame) → length rest < top
    → steps_left a top rows ((rest ++ g ∷ []) ++ h ∷ []) < steps_left a top rows (rest ++ f ∷ [])
steps_wait a top rows rest f g h lt = omega (arith, length_push rest f, length_push rest g, length_push (rest ++ g ∷ []) h)
