-- Which points can be completed without the variable.
use Rattle.std.proofs.Common.{ℕ, ◌<◌, ◌≡◌, inl, inr, Bool, true, false, not, ◌&&◌, ◌||◌, cond, List, length, Option, Some, None, refl, sym, ap, ◌∙◌, subst, arith}
use Rattle.std.specs.List.{slice_get}
use Rattle.std.specs.Option.{is_some}
use Rattle.std.proofs.lemmas.Bool.{and_from}
use Rattle.xd_doc.specs.Document.{Document, empty, text, element, is_proper}
use Rattle.xd_doc.specs.Stored.{document_at}
use Rattle.xd_doc.proofs.Bools.{and_left, and_right}
use Rattle.xd_doc.specs.Runs.{Trace, at_end, at_text, at_element, IsFree}
use Rattle.xd_auto.specs.declared.auto.State.{State}
use Rattle.xd_auto.specs.declared.auto.LabelMove.{LabelMove}
use Rattle.xd_auto.specs.declared.auto.TextMove.{TextMove}
use Rattle.xd_auto.specs.Automaton.{Automaton, IsState, StateMoves, accepts, moves_at}
use Rattle.xd_auto.specs.Leading.{label_ends, text_ends}
use Rattle.xd_auto.specs.declared.leading.Ends.{Ends}
use Rattle.xd_auto.specs.Traces.{Owned, trace_of}
use Rattle.xd_least.specs.Least.{Knows, known_of}
use Rattle.xd_least.specs.declared.document.LeastDocument.{LeastDocument}
use Rattle.xd_points.specs.declared.patterns.PatternStates.{PatternStates}
use Rattle.xd_points.specs.declared.table.PointTable.{PointTable}
use Rattle.xd_points.specs.Meaning.{ServePoints, may_leave_out}
use Rattle.xd_points.specs.Points.{point_at}
use Rattle.xd_points.specs.Tables.{IsTableOf, is_left, left_of, pattern_of, point_count, point_means, points_of}
use Rattle.xd_points.proofs.MeaningLaw.{old_means}
use Rattle.xd_given.specs.Free.{AreFree, CanFinish, at_once, NoneGoesOn, by_element, by_text, goes_free, inside_in}
use Rattle.xd_given.specs.Outline.{IsDrawing, can_stop, leaf_free}
use Rattle.xd_given.specs.Owning.{GivesAlike, IsWhole, LeavesOutAlike, owns_first, point_moves}
use Rattle.xd_given.specs.Traced.{FreeFrom, HasRunAt, Traced}
use Rattle.xd_given.proofs.TraceLemmas.{Fits, fits, whole_free}
use Rattle.xd_given.proofs.PointTraces.{accepting, content_within, rest_within, run_of, run_on, text_within, traced}

pub true_false : {P : Type 0} (v : Bool) → v ≡ true → v ≡ false → P
true_false true e f = absurd (cc)
true_false false e f = absurd (cc)

-- a point with its pattern's state may be left out
pub left_out : (p : PatternStates) (t : PointTable) (s : State) → is_left p t s ≡ true → may_leave_out p (pattern_of t s) ≡ true
left_out p t s e = and_left (may_leave_out p (pattern_of t s)) _ (and_right _ _ e)

module _ (a : Automaton) (p : PatternStates) (t : PointTable) (b : Owned) (is : IsTableOf a p t) (serve : ServePoints a p) (alike : LeavesOutAlike p b) where
  -- what the left accepts is what the point means
  pub left_means : (d : Document) (s : State) → is_left p t s ≡ true → accepts a d (left_of t s) ≡ point_means a p t s d
  left_means d s e = old_means a p serve (point_at t.points.points.items s.number) d e

  -- where the point means what its left accepts, runs give the variable all, or nothing
  pub alike_at : (s : State) → is_left p t s ≡ true → GivesAlike p.auto b (pattern_of t s)
  alike_at s e = alike (pattern_of t s) (left_out p t s e)

  pub run_whole : (d : Document) (s : State) (trace : Trace) → is_left p t s ≡ true → owns_first b (pattern_of t s) ≡ true → HasRunAt a p t b d s trace → IsWhole trace
  run_whole d s trace e first h = subst IsWhole h.is ((alike_at s e).all first d h.run (accepting a p t b d s trace h))

  pub run_free : (d : Document) (s : State) (trace : Trace) → is_left p t s ≡ true → owns_first b (pattern_of t s) ≡ false → HasRunAt a p t b d s trace → IsFree trace
  run_free d s trace e first h = subst IsFree h.is ((alike_at s e).none first d h.run (accepting a p t b d s trace h))

  pub on_left : (d : Document) (s : State) → is_left p t s ≡ true → accepts a d (left_of t s) ≡ true → (trace : Trace) × HasRunAt a p t b d s trace
  on_left d s e h =
      let r = run_on a p t b is d s (sym (left_means d s e) ∙ h) in
      (trace_of p.auto b (pattern_of t s) r.0, record { run = r.0; at = r.1; is = refl })

  module _ (known : List (Option LeastDocument)) (ds : List Document) (knows : Knows a ds known) (lefts : (s : State) → s.number < point_count t → (left_of t s).number < length known) where
    -- a left that can be completed without the variable
    pub leaf_some : (s : State) → s.number < point_count t → is_left p t s ≡ true → leaf_free a t b known s ≡ true → FreeFrom a p t b s
    leaf_some s lt e h = go (owns_first b (pattern_of t s)) refl h
      where
        known_free : owns_first b (pattern_of t s) ≡ false → (o : Option LeastDocument) → known_of known (left_of t s) ≡ o → is_some o ≡ true → FreeFrom a p t b s
        known_free first None known_is h = absurd (cc)
        known_free first (Some f) known_is h =
            let l = knows.least (left_of t s) f known_is in
            let d : Document = document_at ds f.seq in
            let r = on_left d s e l.accepted in
            record { document = d; trace = r.0; proper = l.belongs.proper; traced = traced a p t b is d s r.0 lt r.1; free = run_free d s r.0 e first r.1 }

        go : (v : Bool) → owns_first b (pattern_of t s) ≡ v → cond v (moves_at a (left_of t s)).last (is_some (known_of known (left_of t s))) ≡ true → FreeFrom a p t b s
        go true first h = record { document = empty; trace = at_end; proper = refl; traced = sym (left_means empty s e) ∙ h; free = tt }
        go false first h = known_free first (known_of known (left_of t s)) refl h

    -- and one that can't
    pub leaf_none : (s : State) (d : Document) (trace : Trace) → s.number < point_count t → is_left p t s ≡ true → leaf_free a t b known s ≡ false → Traced a p t b d s trace → IsFree trace → ⊥
    leaf_none s d trace lt e h r f = go (owns_first b (pattern_of t s)) refl h
      where
        run : HasRunAt a p t b d s trace
        run = run_of a p t b is d s trace lt r

        accepted : accepts a d (left_of t s) ≡ true
        accepted = left_means d s e ∙ run.at.0

        known_none : (o : Option LeastDocument) → known_of known (left_of t s) ≡ o → is_some o ≡ false → ⊥
        known_none None known_is h = true_false (accepts a d (left_of t s)) accepted (knows.none (left_of t s) (lefts s lt) known_is d)
        known_none (Some f) known_is h = absurd (cc)

        go : (v : Bool) → owns_first b (pattern_of t s) ≡ v → cond v (moves_at a (left_of t s)).last (is_some (known_of known (left_of t s))) ≡ false → ⊥
        go true first h =
            let nothing : d ≡ empty = whole_free d trace (subst (λ (w : Trace). Fits d w) run.is (fits p.auto b d (pattern_of t s) run.run (pattern_of t s) (accepting a p t b d s trace run))) (run_whole d s trace e first run) f in
            true_false (accepts a empty (left_of t s)) (subst (λ (x : Document). accepts a x (left_of t s) ≡ true) nothing accepted) h
        go false first h = known_none (known_of known (left_of t s)) refl h

module _ (a : Automaton) (p : PatternStates) (t : PointTable) (b : Owned) (is : IsTableOf a p t) (leaf : State → Bool)
    (leaf_some : (s : State) → s.number < point_count t → is_left p t s ≡ true → leaf s ≡ true → FreeFrom a p t b s)
    (leaf_none : (s : State) (d : Document) (trace : Trace) → s.number < point_count t → is_left p t s ≡ true → leaf s ≡ false → Traced a p t b d s trace → IsFree trace → ⊥)
    (drawing : Automaton) (drawn : IsDrawing p t drawing) where
  text_here : (s : State) (k : ℕ) (m : TextMove) → s.number < point_count t → is_left p t s ≡ false → slice_get (moves_at drawing s).texts k ≡ Some m → slice_get (moves_at (points_of t) s).texts k ≡ Some m
  text_here s k m lt yet e = ap (λ (w : StateMoves). slice_get w.texts k) (sym (drawn.other s lt yet)) ∙ e

  label_here : (s : State) (k : ℕ) (m : LabelMove) → s.number < point_count t → is_left p t s ≡ false → slice_get (moves_at drawing s).labels k ≡ Some m → slice_get (moves_at (points_of t) s).labels k ≡ Some m
  label_here s k m lt yet e = ap (λ (w : StateMoves). slice_get w.labels k) (sym (drawn.other s lt yet)) ∙ e

  no_text : (s : State) (k : ℕ) (m : TextMove) → s.number < point_count t → is_left p t s ≡ true → slice_get (moves_at drawing s).texts k ≡ Some m → ⊥
  no_text s k m lt e h = let none = ap (λ (w : StateMoves). slice_get w.texts k) (sym (drawn.left s lt e)) ∙ h in cc

  no_label : (s : State) (k : ℕ) (m : LabelMove) → s.number < point_count t → is_left p t s ≡ true → slice_get (moves_at drawing s).labels k ≡ Some m → ⊥
  no_label s k m lt e h = let none = ap (λ (w : StateMoves). slice_get w.labels k) (sym (drawn.left s lt e)) ∙ h in cc

  -- a point with a move in the drawing has moves
  pub text_drawn : (s : State) (k : ℕ) (m : TextMove) → s.number < point_count t → slice_get (moves_at drawing s).texts k ≡ Some m → (is_left p t s ≡ false) × (slice_get (moves_at (points_of t) s).texts k ≡ Some m)
  text_drawn s k m lt e = go (is_left p t s) refl
    where
      go : (v : Bool) → is_left p t s ≡ v → (is_left p t s ≡ false) × (slice_get (moves_at (points_of t) s).texts k ≡ Some m)
      go true left = absurd (no_text s k m lt left e)
      go false yet = (yet, text_here s k m lt yet e)

  pub label_drawn : (s : State) (k : ℕ) (m : LabelMove) → s.number < point_count t → slice_get (moves_at drawing s).labels k ≡ Some m → (is_left p t s ≡ false) × (slice_get (moves_at (points_of t) s).labels k ≡ Some m)
  label_drawn s k m lt e = go (is_left p t s) refl
    where
      go : (v : Bool) → is_left p t s ≡ v → (is_left p t s ≡ false) × (slice_get (moves_at (points_of t) s).labels k ≡ Some m)
      go true left = absurd (no_label s k m lt left e)
      go false yet = (yet, label_here s k m lt yet e)

  last_means : (s : State) → s.number < point_count t → is_left p t s ≡ false → (moves_at drawing s).last ≡ point_means a p t s empty
  last_means s lt yet = ap (λ (w : StateMoves). w.last) (drawn.other s lt yet) ∙ is.expanded.whole.last s.number lt ∙ ap (λ v. v || point_means a p t s empty) yet

  -- a point that can be completed without the variable has a run that gives it nothing
  pub finishes : (s : State) → s.number < point_count t → CanFinish drawing (point_moves t b) (can_stop p t leaf drawing) s → FreeFrom a p t b s
  finishes s lt (at_once q e) = go (is_left p t q) refl e
    where
      go : (v : Bool) → is_left p t q ≡ v → cond v (leaf q) (moves_at drawing q).last ≡ true → FreeFrom a p t b q
      go true left h = leaf_some q lt left h
      go false yet h = record { document = empty; trace = at_end; proper = refl; traced = sym (last_means q lt yet) ∙ h; free = tt }
  finishes s lt (by_text q m n there own some h) =
      let here = text_drawn q n m lt there in
      let more = finishes m.rest (text_within a p t b is q n m lt here.0 here.1) h in
      record {
        document = text some.name more.document;
        trace = at_text false more.trace;
        proper = and_from _ (is_proper more.document) some.proper more.proper;
        traced = inr (here.0, record { number = n; step = m; there = here.1; has = some.has; owned = own; rest = more.traced });
        free = (refl, more.free);
      }
  finishes s lt (by_element q m n there own some h k) =
      let here = label_drawn q n m lt there in
      let inside = finishes m.content (content_within a p t b is q n m lt here.0 here.1) h in
      let more = finishes m.rest (rest_within a p t b is q n m lt here.0 here.1) k in
      record {
        document = element some.name inside.document more.document;
        trace = at_element false inside.trace more.trace;
        proper = and_from _ (is_proper inside.document && is_proper more.document) some.proper (and_from (is_proper inside.document) (is_proper more.document) inside.proper more.proper);
        traced = inr (here.0, record { number = n; step = m; there = here.1; has = some.has; owned = own; content = inside.traced; rest = more.traced });
        free = (refl, inside.free, more.free);
      }

  module _ (set : State → Bool) (are : AreFree drawing (point_moves t b) (can_stop p t leaf drawing) set) where
    point_there : (s : State) → s.number < point_count t → IsState drawing s
    point_there s lt = omega (arith, lt, drawn.sized, is.expanded.whole.count)

    -- moves of others lead back to what can be completed
    back : {M : Type 0} (ends : M → Ends) (owned : ℕ → Bool) (moves : List M) (s : State) (n : ℕ) (m : M) → (set s ≡ false → NoneGoesOn ends owned set moves) → slice_get moves n ≡ Some m → owned n ≡ false → inside_in set (ends m).inside ≡ true → set (ends m).behind ≡ true → set s ≡ true
    back ends owned moves s n m none there own inside behind = decide (set s) refl
      where
        decide : (v : Bool) → set s ≡ v → set s ≡ true
        decide true e = e
        decide false e =
            let free = and_from (set (ends m).behind) (not (owned n)) behind (ap not own) in
            true_false (goes_free owned set n (ends m)) (and_from (inside_in set (ends m).inside) (set (ends m).behind && not (owned n)) inside free) (none e n m there)

    stops : (s : State) (v : Bool) → s.number < point_count t → is_left p t s ≡ v → cond v (leaf s) (moves_at drawing s).last ≡ true → set s ≡ true
    stops s v lt left e = are.stop s (point_there s lt) (ap (λ w. cond w (leaf s) (moves_at drawing s).last) left ∙ e)

    left_goes : (d : Document) (s : State) (trace : Trace) → s.number < point_count t → is_left p t s ≡ true → Traced a p t b d s trace → IsFree trace → set s ≡ true
    left_goes d s trace lt left h f = go (leaf s) refl
      where
        go : (v : Bool) → leaf s ≡ v → set s ≡ true
        go true e = stops s true lt left e
        go false e = absurd (leaf_none s d trace lt left e h f)

    -- a point with a run that gives the variable nothing can be completed without it
    pub free_run : (d : Document) (s : State) (trace : Trace) → s.number < point_count t → Traced a p t b d s trace → IsFree trace → set s ≡ true
    free_run empty s at_end lt h f = go (is_left p t s) refl
      where
        go : (v : Bool) → is_left p t s ≡ v → set s ≡ true
        go true left = left_goes empty s at_end lt left h f
        go false yet = stops s false lt yet (last_means s lt yet ∙ h)
    free_run empty s (at_text own r) lt h f = absurd h
    free_run empty s (at_element own k r) lt h f = absurd h
    free_run (text c d) s at_end lt h f = absurd h
    free_run (text c d) s (at_text own r) lt (inl h) f = left_goes (text c d) s (at_text own r) lt h.left (inl h) f
    free_run (text c d) s (at_text own r) lt (inr (yet, h)) f =
        back text_ends ((point_moves t b).text s) (moves_at drawing s).texts s h.number h.step (λ e. (are.settled s (point_there s lt) e).texts)
        (ap (λ (w : StateMoves). slice_get w.texts h.number) (drawn.other s lt yet) ∙ h.there) (h.owned ∙ f.0) refl
        (free_run d h.step.rest r (text_within a p t b is s h.number h.step lt yet h.there) h.rest f.1)
    free_run (text c d) s (at_element own k r) lt h f = absurd h
    free_run (element l c d) s at_end lt h f = absurd h
    free_run (element l c d) s (at_text own r) lt h f = absurd h
    free_run (element l c d) s (at_element own k r) lt (inl h) f = left_goes (element l c d) s (at_element own k r) lt h.left (inl h) f
    free_run (element l c d) s (at_element own k r) lt (inr (yet, h)) f =
        back label_ends ((point_moves t b).element s) (moves_at drawing s).labels s h.number h.step (λ e. (are.settled s (point_there s lt) e).labels)
        (ap (λ (w : StateMoves). slice_get w.labels h.number) (drawn.other s lt yet) ∙ h.there) (h.owned ∙ f.0)
        (free_run c h.step.content k (content_within a p t b is s h.number h.step lt yet h.there) h.content f.1)
        (free_run d h.step.rest r (rest_within a p t b is s h.number h.step lt yet h.there) h.rest f.2)
