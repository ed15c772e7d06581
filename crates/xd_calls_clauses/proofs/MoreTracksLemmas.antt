-- Tracks are added, and say what the marks say: what stands together by these stands together by
-- the tracks.
use Rattle.std.proofs.Common.{◌≡◌, ◌⊎◌, inl, inr, ℕ, ◌+◌, ◌<◌, ◌≤◌, true, false, List, [], ◌∷◌, ◌++◌, length, get_or, arith, refl, sym, ap, subst, ◌∙◌}
use Rattle.std.specs.List.{All}
use Rattle.std.proofs.lemmas.Bool.{cases_lt, eqb-true, eq-eqb, and_from, or_left, or_right}
use Rattle.std.proofs.lemmas.List.Elements.{All-push}
use Rattle.std.proofs.lemmas.List.Folds.{list_any-append}
use Rattle.std.proofs.lemmas.Option.{slice_get_within}
use Rattle.xd_doc.specs.Document.{Document, empty, text, element}
use Rattle.xd_doc.proofs.Bools.{and_left, and_right, same_tests}
use Rattle.xd_doc.specs.Runs.{Run, at_end, at_text, at_element, IsTogether}
use Rattle.xd_auto.specs.declared.auto.State.{State}
use Rattle.xd_auto.specs.Automaton.{Automaton, IsClosed, IsState, moves_at}
use Rattle.xd_auto.specs.Runs.{IsAcceptingRun}
use Rattle.xd_auto.proofs.Anys.{found}
use Rattle.xd_auto.specs.declared.kind.MoveKind.{MoveKind}
use Rattle.xd_auto.specs.declared.kind.MoveKind.TheVariants as M
use Rattle.xd_auto.specs.Traces.{KeepsTogether, Owned, after_element, after_text, in_element, trace_of}
use Rattle.xd_auto.proofs.Steps.{All-there, closed_element, closed_text, takes_element_at, takes_text_at}
use Rattle.xd_bind.specs.Projection.{CanProject, has_track, is_kind, is_track, owned_by}
use Rattle.xd_bind.specs.declared.tracks.Track.{Track}
use Rattle.xd_bind.specs.declared.tracks.Tracks.{Tracks}
use Rattle.xd_patterns.specs.Held.{marking_of, variables_in}
use Rattle.xd_patterns.specs.declared.marked.Marked.{Marked}
use Rattle.xd_patterns.specs.Marked.{moves_of}
use Rattle.xd_calls_clauses.specs.Tracked.{IsOfMove, IsOfMoves, IsOfStates, IsTrue, MoreTracks, count_of, is_held}

-- ---- tracks are added

same_kind : (k : MoveKind) → is_kind k k ≡ true
same_kind M.Label = refl
same_kind M.Text = refl

kinds_same : (k l : MoveKind) → is_kind k l ≡ true → k ≡ l
kinds_same M.Label M.Label e = refl
kinds_same M.Label M.Text e = absurd (cc)
kinds_same M.Text M.Label e = absurd (cc)
kinds_same M.Text M.Text e = refl

-- a track is that of its own move and variable
own_track : (t : Track) → is_track t.variable t.kind t.state t.number t ≡ true
own_track t =
    and_from (is_kind t.kind t.kind) _ (same_kind t.kind)
    (and_from _ _ (eq-eqb t.state.number t.state.number refl) (and_from _ _ (eq-eqb t.number t.number refl) (eq-eqb t.variable t.variable refl)))

abbrev numbered : ℕ → State
numbered i = record { number = i }

module _ (a : Automaton) (m : Marked) where
  pub more_none : (here : State → MoveKind → ℕ → ℕ → Type 0) (old : List Track) → ((s : State) (k : MoveKind) (n x : ℕ) → here s k n x → is_held m s k n x ≡ true → ⊥) → MoreTracks a m here old old
  more_none here old none = record { sound = λ h. h; keeps = λ s k n x e. e; whole = λ s k n x i e. absurd (none s k n x i e) }

  pub more_one : (here : State → MoveKind → ℕ → ℕ → Type 0) (old new : List Track) (t : Track) → IsTrue a m t → new ≡ old ++ t ∷ []
      → ((s : State) (k : MoveKind) (n x : ℕ) → here s k n x → (s ≡ t.state) × (k ≡ t.kind) × (n ≡ t.number) × (x ≡ t.variable)) → MoreTracks a m here old new
  more_one here old new t is e only = record {
    sound = λ h. subst (All (IsTrue a m)) (sym e) (All-push (IsTrue a m) old t h is);
    keeps = λ s k n x h. subst (λ ts. has_track ts x k s n ≡ true) (sym e) (list_any-append (is_track x k s n) old (t ∷ []) ∙ or_left (has_track old x k s n) _ h);
    whole = λ s k n x i h.
        let o = only s k n x i in
        let mine : is_track x k s n t ≡ true = rw (o.0, o.1, o.2, o.3) (own_track t) in
        subst (λ ts. has_track ts x k s n ≡ true) (sym e)
        (list_any-append (is_track x k s n) old (t ∷ []) ∙ or_right (has_track old x k s n) _ (or_left (is_track x k s n t) false mine));
  }

  pub more_then : (one two here : State → MoveKind → ℕ → ℕ → Type 0) (old mid new : List Track) → MoreTracks a m one old mid → MoreTracks a m two mid new
      → ((s : State) (k : MoveKind) (n x : ℕ) → here s k n x → one s k n x ⊎ two s k n x) → MoreTracks a m here old new
  more_then one two here old mid new p q split = record {
    sound = λ h. q.sound (p.sound h);
    keeps = λ s k n x e. q.keeps s k n x (p.keeps s k n x e);
    whole = λ s k n x i e. go s k n x e (split s k n x i);
  }
    where
      go : (s : State) (k : MoveKind) (n x : ℕ) → is_held m s k n x ≡ true → one s k n x ⊎ two s k n x → has_track new x k s n ≡ true
      go s k n x e (inl i) = q.keeps s k n x (p.whole s k n x i e)
      go s k n x e (inr i) = q.whole s k n x i e

  -- one more variable of a move
  pub more_variable : (t : Track) (old mid new : List Track) → MoreTracks a m (IsOfMove t.state t.kind t.number t.variable) old mid → IsState a t.state
      → ((is_held m t.state t.kind t.number t.variable ≡ true) × (new ≡ mid ++ t ∷ [])) ⊎ ((is_held m t.state t.kind t.number t.variable ≡ false) × (new ≡ mid))
      → MoreTracks a m (IsOfMove t.state t.kind t.number (t.variable + 1)) old new
  more_variable t old mid new p is which =
      more_then (IsOfMove t.state t.kind t.number t.variable) here_last (IsOfMove t.state t.kind t.number (t.variable + 1)) old mid new p (last which) split
    where
      here_last : State → MoveKind → ℕ → ℕ → Type 0
      here_last s k n x = (s ≡ t.state) × (k ≡ t.kind) × (n ≡ t.number) × (x ≡ t.variable)

      last : ((is_held m t.state t.kind t.number t.variable ≡ true) × (new ≡ mid ++ t ∷ [])) ⊎ ((is_held m t.state t.kind t.number t.variable ≡ false) × (new ≡ mid)) → MoreTracks a m here_last mid new
      last (inl h) = more_one here_last mid new t (record { state = is; held = h.0 }) h.1 (λ s k n x i. i)
      last (inr h) = subst (MoreTracks a m here_last mid) (sym h.1) (more_none here_last mid (λ s k n x i e. none s k n x i e h.0))
        where
          none : (s : State) (k : MoveKind) (n x : ℕ) → here_last s k n x → is_held m s k n x ≡ true → is_held m t.state t.kind t.number t.variable ≡ false → ⊥
          none s k n x (i, j, l, q) e f = (let g : is_held m t.state t.kind t.number t.variable ≡ true = rw (sym i, sym j, sym l, sym q) e in absurd (cc))

      split : (s : State) (k : MoveKind) (n x : ℕ) → IsOfMove t.state t.kind t.number (t.variable + 1) s k n x → IsOfMove t.state t.kind t.number t.variable s k n x ⊎ here_last s k n x
      split s k n x (i, j, l, q) = go (cases_lt x t.variable)
        where
          go : (x < t.variable) ⊎ (t.variable ≤ x) → IsOfMove t.state t.kind t.number t.variable s k n x ⊎ here_last s k n x
          go (inl lt) = inl (i, j, l, lt)
          go (inr le) = inr (i, j, l, omega (arith, q, le))

  -- one more move of a state
  pub more_move : (state : State) (kind : MoveKind) (count variables : ℕ) (old mid new : List Track) → MoreTracks a m (IsOfMoves state kind count variables) old mid
      → MoreTracks a m (IsOfMove state kind count variables) mid new → MoreTracks a m (IsOfMoves state kind (count + 1) variables) old new
  more_move state kind count variables old mid new p q =
      more_then (IsOfMoves state kind count variables) (IsOfMove state kind count variables) (IsOfMoves state kind (count + 1) variables) old mid new p q split
    where
      split : (s : State) (k : MoveKind) (n x : ℕ) → IsOfMoves state kind (count + 1) variables s k n x → IsOfMoves state kind count variables s k n x ⊎ IsOfMove state kind count variables s k n x
      split s k n x (i, j, l, q) = go (cases_lt n count)
        where
          go : (n < count) ⊎ (count ≤ n) → IsOfMoves state kind count variables s k n x ⊎ IsOfMove state kind count variables s k n x
          go (inl lt) = inl (i, j, lt, q)
          go (inr le) = inr (i, j, omega (arith, l, le), q)

  -- all moves of one more state
  pub more_state : (state : State) (variables : ℕ) (old mid one new : List Track) → MoreTracks a m (IsOfStates a state.number variables) old mid
      → MoreTracks a m (IsOfMoves state M.Label (length (moves_at a state).labels) variables) mid one → MoreTracks a m (IsOfMoves state M.Text (length (moves_at a state).texts) variables) one new
      → MoreTracks a m (IsOfStates a (state.number + 1) variables) old new
  more_state state variables old mid one new p q r =
      more_then (IsOfStates a state.number variables) of_state (IsOfStates a (state.number + 1) variables) old mid new p
      (more_then of_labels of_texts of_state mid one new q r (λ s k n x i. i)) split
    where
      of_labels : State → MoveKind → ℕ → ℕ → Type 0
      of_labels = IsOfMoves state M.Label (length (moves_at a state).labels) variables

      of_texts : State → MoveKind → ℕ → ℕ → Type 0
      of_texts = IsOfMoves state M.Text (length (moves_at a state).texts) variables

      of_state : State → MoveKind → ℕ → ℕ → Type 0
      of_state s k n x = of_labels s k n x ⊎ of_texts s k n x

      kinds : (s : State) (k : MoveKind) (n x : ℕ) → s ≡ state → n < count_of (moves_at a s) k → x < variables → of_state s k n x
      kinds s M.Label n x i l q = inl (i, refl, subst (λ z. n < length (moves_at a z).labels) i l, q)
      kinds s M.Text n x i l q = inr (i, refl, subst (λ z. n < length (moves_at a z).texts) i l, q)

      split : (s : State) (k : MoveKind) (n x : ℕ) → IsOfStates a (state.number + 1) variables s k n x → IsOfStates a state.number variables s k n x ⊎ of_state s k n x
      split s k n x (i, l, q) = go (cases_lt s.number state.number)
        where
          go : (s.number < state.number) ⊎ (state.number ≤ s.number) → IsOfStates a state.number variables s k n x ⊎ of_state s k n x
          go (inl lt) = inl (lt, l, q)
          go (inr le) = (let same : s.number ≡ state.number = omega (arith, i, le) in inr (kinds s k n x (ap numbered same) l q))

-- ---- what stands together

-- what belongs to a variable by two rules that agree on the moves of all states
module _ (a : Automaton) (b c : Owned) (closed : IsClosed a)
    (texts : (s : State) (n : ℕ) → IsState a s → n < length (moves_at a s).texts → b.text s n ≡ c.text s n)
    (elements : (s : State) (n : ℕ) → IsState a s → n < length (moves_at a s).labels → b.element s n ≡ c.element s n) where
  traces_agree : (d : Document) (s : State) (run : Run ℕ) → IsState a s → IsAcceptingRun a d s run → trace_of a b s run ≡ trace_of a c s run
  traces_agree empty s at_end here h = refl
  traces_agree empty s (at_text n r) here h = absurd h
  traces_agree empty s (at_element n k r) here h = absurd h
  traces_agree (text t d) s at_end here h = absurd h
  traces_agree (text t d) s (at_text n r) here h =
      let f = takes_text_at a t d s n r h in
      let more = traces_agree d f.step.rest r (closed_text a s n f.step closed here f.there) f.rest in
      ap (λ v. at_text v (trace_of a b (after_text a s n) r)) (texts s n here (slice_get_within (moves_at a s).texts n f.step f.there))
      ∙ ap (λ y. at_text (c.text s n) y) (subst (λ q. trace_of a b q r ≡ trace_of a c q r) (sym f.onto) more)
  traces_agree (text t d) s (at_element n k r) here h = absurd h
  traces_agree (element l e d) s at_end here h = absurd h
  traces_agree (element l e d) s (at_text n r) here h = absurd h
  traces_agree (element l e d) s (at_element n k r) here h =
      let f = takes_element_at a l e d s n k r h in
      let below = closed_element a s n f.step closed here f.there in
      let inner = traces_agree e f.step.content k below.0 f.content in
      let more = traces_agree d f.step.rest r below.1 f.rest in
      ap (λ v. at_element v (trace_of a b (in_element a s n) k) (trace_of a b (after_element a s n) r)) (elements s n here (slice_get_within (moves_at a s).labels n f.step f.there))
      ∙ ap (λ y. at_element (c.element s n) y (trace_of a b (after_element a s n) r)) (subst (λ q. trace_of a b q k ≡ trace_of a c q k) (sym f.into) inner)
      ∙ ap (λ y. at_element (c.element s n) (trace_of a c (in_element a s n) k) y) (subst (λ q. trace_of a b q r ≡ trace_of a c q r) (sym f.onto) more)

  together_agree : (start : State) → IsState a start → KeepsTogether a b start → KeepsTogether a c start
  together_agree start here keeps d run acc = subst IsTogether (traces_agree d start run here acc) (keeps d run acc)

-- tracks of all moves, and the marks
module _ (a : Automaton) (m : Marked) (ts : List Track) (closed : IsClosed a) (more : MoreTracks a m (IsOfStates a (length a) (length (variables_in m))) [] ts) where
  pub all_true : All (IsTrue a m) ts
  all_true = more.sound (λ k d l. absurd (omega (arith, l)))

  has_held : (s : State) (k : MoveKind) (n x : ℕ) → has_track ts x k s n ≡ true → is_held m s k n x ≡ true
  has_held s k n x e =
      let f = found (is_track x k s n) ts e in
      let t : Track = f.item in
      let is : IsTrue a m t = All-there (IsTrue a m) ts f.place t all_true f.there in
      let rest = and_right (is_kind t.kind k) _ f.passes in
      let last = and_right _ _ rest in
      let kind : t.kind ≡ k = kinds_same t.kind k (and_left (is_kind t.kind k) _ f.passes) in
      let state : s.number ≡ t.state.number = eqb-true s.number t.state.number (and_left _ _ rest) in
      let number : t.number ≡ n = eqb-true t.number n (and_left _ _ last) in
      let variable : t.variable ≡ x = eqb-true t.variable x (and_right _ _ last) in
      subst (λ k. is_held m s k n x ≡ true) kind
      (subst (λ n. is_held m s t.kind n x ≡ true) number
      (subst (λ x. is_held m s t.kind t.number x ≡ true) variable
      (subst (λ i. is_held m (record { number = i }) t.kind t.number t.variable ≡ true) (sym state) is.held)))

  held_has : (s : State) (k : MoveKind) (n x : ℕ) → IsOfStates a (length a) (length (variables_in m)) s k n x → is_held m s k n x ≡ has_track ts x k s n
  held_has s k n x here = same_tests (is_held m s k n x) (has_track ts x k s n) (more.whole s k n x here) (has_held s k n x)

  pub tracked_together : (x : ℕ) → x < length (variables_in m) → (start : State) → IsState a start → KeepsTogether a (moves_of (marking_of m) (get_or (variables_in m) x [])) start
      → KeepsTogether a (owned_by ts x) start
  tracked_together x known start here keeps =
      together_agree a (moves_of (marking_of m) (get_or (variables_in m) x [])) (owned_by ts x) closed
      (λ s n i j. held_has s M.Text n x (i, j, known)) (λ s n i j. held_has s M.Label n x (i, j, known)) start here keeps

-- such tracks can be projected
pub can_project : (t : Tracks) (m : Marked) → IsClosed t.auto → MoreTracks t.auto m (IsOfStates t.auto (length t.auto) (length (variables_in m))) [] t.marks.items → IsState t.auto t.start
    → length t.variables.items ≤ length (variables_in m) → ((x : List ℕ) → KeepsTogether t.auto (moves_of (marking_of m) x) t.start) → CanProject t
can_project t m closed more start known keeps = record {
  start = start;
  marks = λ k d l. (all_true t.auto m t.marks.items closed more k d l).state;
  together = λ x l. tracked_together t.auto m t.marks.items closed more x (omega (arith, l, known)) t.start start (keeps (get_or (variables_in m) x []));
}
