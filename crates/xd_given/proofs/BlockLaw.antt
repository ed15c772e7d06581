-- The states of a variable's blocks accept exactly what runs through points give it.
use Rattle.std.proofs.Common.{ℕ, ◌<◌, ◌≡◌, inl, inr, Bool, true, false, ◌&&◌, cond, List, Some, refl, sym, ap, ◌∙◌, subst}
use Rattle.std.specs.List.{list_any, slice_get}
use Rattle.std.proofs.lemmas.Bool.{and_from}
use Rattle.std.proofs.lemmas.Map.Keys.{any_passes_from_place}
use Rattle.xd_doc.specs.Document.{Document, empty, text, element, join, has_item, is_proper}
use Rattle.xd_doc.specs.Classes.{class_has}
use Rattle.xd_doc.proofs.Bools.{and_left, and_right}
use Rattle.xd_doc.proofs.Joins.{join_empty-right}
use Rattle.xd_doc.proofs.StoredLemmas.{is_empty}
use Rattle.xd_doc.proofs.Runs.{block_free, held_free}
use Rattle.xd_doc.specs.Runs.{Trace, at_end, at_text, at_element, held, IsFree, IsBlock, IsTogether}
use Rattle.xd_auto.specs.declared.auto.State.{State}
use Rattle.xd_auto.specs.declared.auto.LabelMove.{LabelMove}
use Rattle.xd_auto.specs.declared.auto.TextMove.{TextMove}
use Rattle.xd_auto.specs.Automaton.{Automaton, StateMoves, accepts, moves_at, takes_element, takes_word}
use Rattle.xd_auto.proofs.Anys.{found}
use Rattle.xd_auto.specs.Traces.{KeepsTogether, Owned, trace_of}
use Rattle.xd_points.specs.declared.patterns.PatternStates.{PatternStates}
use Rattle.xd_points.specs.declared.table.PointTable.{PointTable}
use Rattle.xd_points.specs.Meaning.{ServePoints}
use Rattle.xd_points.specs.Tables.{IsTableOf, is_left, left_of, pattern_of, point_count, point_means, points_of}
use Rattle.xd_given.specs.Blocks.{AreBlocks, is_tail, there, onward}
use Rattle.xd_given.specs.Outline.{IsDrawing, IsOutline}
use Rattle.xd_given.specs.Owning.{LeavesOutAlike, owns_first, point_moves}
use Rattle.xd_given.specs.Traced.{AcceptsGivenAt, AtLeft, FreeFrom, HasRunAt, IsGivenAt, Traced}
use Rattle.xd_given.proofs.TraceLemmas.{Fits, fits, front, front_free, front_held, front_whole, whole_block, whole_held}
use Rattle.xd_given.proofs.PointTraces.{accepting, content_within, rest_within, run_of, run_on, text_within, traced, traced_means}
use Rattle.xd_given.proofs.FreeLaw.{finishes, free_run, label_drawn, left_means, on_left, run_free, run_whole, text_drawn, true_false}
use Rattle.xd_bind.specs.Ahead.{IsAhead, is_start, past_text, past_element, in_content}
use Rattle.xd_given.specs.Chosen.{label_onto, owned_moves, text_onto}
use Rattle.xd_given.proofs.ChosenLemmas.{any_choice, choice}

-- a trace of the empty document is free
fits_empty : (t : Trace) → Fits empty t → IsFree t
fits_empty at_end h = tt
fits_empty (at_text own r) h = absurd h
fits_empty (at_element own k r) h = absurd h

-- one that begins with an item of the variable is a block
begins_block : (d : Document) (t : Trace) → IsTogether t → has_item (front d t) ≡ true → IsBlock t
begins_block empty t k some = absurd (cc)
begins_block (text c d) at_end k some = tt
begins_block (text c d) (at_text own r) (inl k) some = inl k
begins_block (text c d) (at_text own r) (inr k) some = absurd (let none : has_item (cond own (text c (front d r)) empty) ≡ false = rw k.0 refl in cc)
begins_block (text c d) (at_element own i r) k some = absurd (cc)
begins_block (element l c d) at_end k some = tt
begins_block (element l c d) (at_text own r) k some = absurd (cc)
begins_block (element l c d) (at_element own i r) (inl k) some = inl k
begins_block (element l c d) (at_element own i r) (inr k) some = absurd (let none : has_item (cond own (element l c (front d r)) empty) ≡ false = rw k.0 refl in cc)

-- what stands after, or in, an item that doesn't belong to the variable
text_back : (r : Trace) → IsTogether (at_text false r) → IsTogether r
text_back r (inl k) = absurd (let e : false ≡ true = k.0 in cc)
text_back r (inr k) = k.1

rest_back : (i r : Trace) → (IsFree r → ⊥) → IsTogether (at_element false i r) → IsTogether r
rest_back i r some (inl k) = absurd (let e : false ≡ true = k.0 in cc)
rest_back i r some (inr (e, inl k)) = k.1
rest_back i r some (inr (e, inr k)) = absurd (some k.1)

content_back : (i r : Trace) → (IsFree i → ⊥) → IsTogether (at_element false i r) → IsTogether i
content_back i r some (inl k) = absurd (let e : false ≡ true = k.0 in cc)
content_back i r some (inr (e, inl k)) = absurd (some k.0)
content_back i r some (inr (e, inr k)) = k.0

module _ (a : Automaton) (p : PatternStates) (t : PointTable) (b : Owned) (is : IsTableOf a p t) (serve : ServePoints a p) (alike : LeavesOutAlike p b) (leaf : State → Bool)
    (leaf_some : (s : State) → s.number < point_count t → is_left p t s ≡ true → leaf s ≡ true → FreeFrom a p t b s)
    (leaf_none : (s : State) (d : Document) (trace : Trace) → s.number < point_count t → is_left p t s ≡ true → leaf s ≡ false → Traced a p t b d s trace → IsFree trace → ⊥)
    (start : State) (begins : start.number < point_count t) (drawing : Automaton) (drawn : IsDrawing p t drawing) (marked : State → Bool) (order : List State) (w : IsOutline p t b leaf drawing start marked order) where
  text_of : (s : State) (k : ℕ) (m : TextMove) → s.number < point_count t → slice_get (moves_at drawing s).texts k ≡ Some m → (is_left p t s ≡ false) × (slice_get (moves_at (points_of t) s).texts k ≡ Some m)
  text_of = text_drawn a p t b is leaf leaf_some leaf_none drawing drawn

  label_of : (s : State) (k : ℕ) (m : LabelMove) → s.number < point_count t → slice_get (moves_at drawing s).labels k ≡ Some m → (is_left p t s ≡ false) × (slice_get (moves_at (points_of t) s).labels k ≡ Some m)
  label_of = label_drawn a p t b is leaf leaf_some leaf_none drawing drawn

  free_at : (s : State) → s.number < point_count t → marked s ≡ true → FreeFrom a p t b s
  free_at s lt e = finishes a p t b is leaf leaf_some leaf_none drawing drawn s lt (w.complete.sound s e)

  is_free_at : (d : Document) (s : State) (trace : Trace) → s.number < point_count t → Traced a p t b d s trace → IsFree trace → marked s ≡ true
  is_free_at = free_run a p t b is leaf leaf_some leaf_none drawing drawn marked w.complete

  abbrev Ahead : State → Type 0
  Ahead s = IsAhead drawing (point_moves t b) marked start s

  pub ahead_within : (s : State) → IsAhead drawing (point_moves t b) marked start s → s.number < point_count t
  ahead_within s is_start = begins
  ahead_within s (past_text q m n h there own) = let here = text_of q n m (ahead_within q h) there in text_within a p t b is q n m (ahead_within q h) here.0 here.1
  ahead_within s (past_element q m n h there own other) = let here = label_of q n m (ahead_within q h) there in rest_within a p t b is q n m (ahead_within q h) here.0 here.1
  ahead_within s (in_content q m n h there own other) = let here = label_of q n m (ahead_within q h) there in content_within a p t b is q n m (ahead_within q h) here.0 here.1

  -- a run from the start with one from a state ahead in it, and nothing else of the variable
  record FromStart (d : Document) (t' : Trace) : Type 0 where
    document : Document
    trace : Trace
    traced : Traced a p t b document start trace
    proper : is_proper d ≡ true → is_proper document ≡ true
    same : held document trace ≡ held d t'
    back : (IsFree t' → ⊥) → IsTogether trace → IsTogether t'

  from_start : (d : Document) (s : State) (r : Trace) → IsAhead drawing (point_moves t b) marked start s → Traced a p t b d s r → FromStart d r
  from_start d s r is_start h = record { document = d; trace = r; traced = h; proper = λ e. e; same = refl; back = λ some k. k }
  from_start d s r (past_text q m n before there own) h =
      let here = text_of q n m (ahead_within q before) there in
      let c = w.searched.filled_texts q m n before there own in
      let up = from_start (text c.name d) q (at_text false r) before (inr (here.0, record { number = n; step = m; there = here.1; has = c.has; owned = own; rest = h })) in
      record {
        document = up.document;
        trace = up.trace;
        traced = up.traced;
        proper = λ e. up.proper (and_from _ (is_proper d) c.proper e);
        same = up.same;
        back = λ some k. text_back r (up.back (λ f. some f.1) k);
      }
  from_start d s r (past_element q m n before there own other) h =
      let here = label_of q n m (ahead_within q before) there in
      let l = w.searched.filled q m n before there own in
      let c = free_at m.content (content_within a p t b is q n m (ahead_within q before) here.0 here.1) other in
      let up = from_start (element l.name c.document d) q (at_element false c.trace r) before
      (inr (here.0, record { number = n; step = m; there = here.1; has = l.has; owned = own; content = c.traced; rest = h })) in
      record {
        document = up.document;
        trace = up.trace;
        traced = up.traced;
        proper = λ e. up.proper (and_from _ (is_proper c.document && is_proper d) l.proper (and_from (is_proper c.document) (is_proper d) c.proper e));
        same = up.same ∙ ap (λ x. join x (held d r)) (held_free c.document c.trace c.free);
        back = λ some k. rest_back c.trace r some (up.back (λ f. some f.2) k);
      }
  from_start d s r (in_content q m n before there own other) h =
      let here = label_of q n m (ahead_within q before) there in
      let l = w.searched.filled q m n before there own in
      let c = free_at m.rest (rest_within a p t b is q n m (ahead_within q before) here.0 here.1) other in
      let up = from_start (element l.name d c.document) q (at_element false r c.trace) before
      (inr (here.0, record { number = n; step = m; there = here.1; has = l.has; owned = own; content = h; rest = c.traced })) in
      record {
        document = up.document;
        trace = up.trace;
        traced = up.traced;
        proper = λ e. up.proper (and_from _ (is_proper d && is_proper c.document) l.proper (and_from (is_proper d) (is_proper c.document) e c.proper));
        same = up.same ∙ ap (λ x. join (held d r) x) (held_free c.document c.trace c.free) ∙ join_empty-right (held d r);
        back = λ some k. content_back r c.trace some (up.back (λ f. some f.1) k);
      }

  -- where a point means what its left accepts, what is given is a block
  left_block : (d : Document) (s : State) (r : Trace) → AtLeft a p t b d s r → IsBlock r
  left_block d s r h = go (owns_first b (pattern_of t s)) refl
    where
      go : (v : Bool) → owns_first b (pattern_of t s) ≡ v → IsBlock r
      go true first = whole_block r (run_whole a p t b is serve alike d s r h.left first h.has)
      go false first = block_free r (run_free a p t b is serve alike d s r h.left first h.has)

  -- the block of a trace, from a state ahead of the start
  record BlockOf (e : Document) : Type 0 where
    state : State
    lies : IsAhead drawing (point_moves t b) marked start state
    document : Document
    trace : Trace
    traced : Traced a p t b document state trace
    block : IsBlock trace
    gives : held document trace ≡ e

  block_as : (e f : Document) → e ≡ f → BlockOf e → BlockOf f
  block_as e f same k =
      record { state = k.state; lies = k.lies; document = k.document; trace = k.trace; traced = k.traced; block = k.block; gives = k.gives ∙ same }

  text_there : (s : State) (k : ℕ) (m : TextMove) → s.number < point_count t → is_left p t s ≡ false → slice_get (moves_at (points_of t) s).texts k ≡ Some m → slice_get (moves_at drawing s).texts k ≡ Some m
  text_there s k m lt yet e = ap (λ (v : StateMoves). slice_get v.texts k) (drawn.other s lt yet) ∙ e

  label_there : (s : State) (k : ℕ) (m : LabelMove) → s.number < point_count t → is_left p t s ≡ false → slice_get (moves_at (points_of t) s).labels k ≡ Some m → slice_get (moves_at drawing s).labels k ≡ Some m
  label_there s k m lt yet e = ap (λ (v : StateMoves). slice_get v.labels k) (drawn.other s lt yet) ∙ e

  block_of : (d : Document) (s : State) (r : Trace) → IsAhead drawing (point_moves t b) marked start s → Traced a p t b d s r → IsTogether r → BlockOf (held d r)
  block_of empty s at_end q h k = record { state = s; lies = q; document = empty; trace = at_end; traced = h; block = tt; gives = refl }
  block_of empty s (at_text own r) q h k = absurd h
  block_of empty s (at_element own i r) q h k = absurd h
  block_of (text c d) s at_end q h k = absurd h
  block_of (text c d) s (at_text own r) q (inl h) k =
      record { state = s; lies = q; document = text c d; trace = at_text own r; traced = inl h; block = left_block (text c d) s (at_text own r) h; gives = refl }
  block_of (text c d) s (at_text own r) q (inr h) (inl k) =
      record { state = s; lies = q; document = text c d; trace = at_text own r; traced = inr h; block = inl k; gives = refl }
  block_of (text c d) s (at_text own r) q (inr (yet, h)) (inr (e, k)) =
      let drawn = text_there s h.number h.step (ahead_within s q) yet h.there in
      block_as (held d r) _ (rw e refl) (block_of d h.step.rest r (past_text s h.step h.number q drawn (h.owned ∙ e)) h.rest k)
  block_of (text c d) s (at_element own i r) q h k = absurd h
  block_of (element l c d) s at_end q h k = absurd h
  block_of (element l c d) s (at_text own r) q h k = absurd h
  block_of (element l c d) s (at_element own i r) q (inl h) k =
      record { state = s; lies = q; document = element l c d; trace = at_element own i r; traced = inl h; block = left_block (element l c d) s (at_element own i r) h; gives = refl }
  block_of (element l c d) s (at_element own i r) q (inr h) (inl k) =
      record { state = s; lies = q; document = element l c d; trace = at_element own i r; traced = inr h; block = inl k; gives = refl }
  block_of (element l c d) s (at_element own i r) q (inr (yet, h)) (inr (e, inl (f, k))) =
      let drawn = label_there s h.number h.step (ahead_within s q) yet h.there in
      let other = is_free_at c h.step.content i (content_within a p t b is s h.number h.step (ahead_within s q) yet h.there) h.content f in
      block_as (held d r) _ (rw (e, held_free c i f) refl) (block_of d h.step.rest r (past_element s h.step h.number q drawn (h.owned ∙ e) other) h.rest k)
  block_of (element l c d) s (at_element own i r) q (inr (yet, h)) (inr (e, inr (k, f))) =
      let drawn = label_there s h.number h.step (ahead_within s q) yet h.there in
      let other = is_free_at d h.step.rest r (rest_within a p t b is s h.number h.step (ahead_within s q) yet h.there) h.rest f in
      block_as (held c i) _ (rw (e, held_free d r f) (sym (join_empty-right (held c i))))
      (block_of c h.step.content i (in_content s h.step h.number q drawn (h.owned ∙ e) other) h.content k)

  module _ (places blocks : List State) (base : ℕ) (new : Automaton) (means : (s : State) (d : Document) → s.number < point_count t → accepts new d (there places s) ≡ point_means a p t s d)
      (lefts : (s : State) (d : Document) → s.number < point_count t → accepts new d (left_of t s) ≡ accepts a d (left_of t s)) (are : AreBlocks p t b base blocks)
      (filled : (s : State) → s.number < point_count t → moves_at new (onward base s) ≡ owned_moves (point_moves t b) (there places) (there blocks) s (moves_at drawing s) (marked s)) where
    moves_there : (s : State) → s.number < point_count t → is_tail p t b s ≡ false → moves_at new (there blocks s) ≡ owned_moves (point_moves t b) (there places) (there blocks) s (moves_at drawing s) (marked s)
    moves_there s lt other = ap (moves_at new) (are.other s lt other) ∙ filled s lt

    -- a run from the point whose front is the document
    record FrontFrom (s : State) (e : Document) : Type 0 where
      document : Document
      trace : Trace
      traced : Traced a p t b document s trace
      proper : is_proper e ≡ true → is_proper document ≡ true
      gives : front document trace ≡ e
      free : has_item e ≡ false → IsFree trace

    tail_front : (e : Document) (s : State) → s.number < point_count t → is_tail p t b s ≡ true → accepts new e (there blocks s) ≡ true → FrontFrom s e
    tail_front e s lt tail h =
        let left = and_left (is_left p t s) (owns_first b (pattern_of t s)) tail in
        let first = and_right (is_left p t s) (owns_first b (pattern_of t s)) tail in
        let accepted = sym (lefts s e lt) ∙ ap (accepts new e) (sym (are.tail s lt tail)) ∙ h in
        let r = on_left a p t b is serve alike e s left accepted in
        let whole = run_whole a p t b is serve alike e s r.0 left first r.1 in
        let fit : Fits e r.0 = subst (λ (v : Trace). Fits e v) (r.1).is (fits p.auto b e (pattern_of t s) (r.1).run (pattern_of t s) (accepting a p t b e s r.0 r.1)) in
        record {
          document = e;
          trace = r.0;
          traced = traced a p t b is e s r.0 lt r.1;
          proper = λ q. q;
          gives = front_whole e r.0 fit whole;
          free = λ none. fits_empty r.0 (subst (λ (x : Document). Fits x r.0) (is_empty e none) fit);
        }

    front_from : (e : Document) (s : State) → s.number < point_count t → accepts new e (there blocks s) ≡ true → FrontFrom s e
    front_from empty s lt h = go (is_tail p t b s) refl
      where
        go : (v : Bool) → is_tail p t b s ≡ v → FrontFrom s empty
        go true tail = tail_front empty s lt tail h
        go false other =
            let f = free_at s lt (ap (λ (m : StateMoves). m.last) (sym (moves_there s lt other)) ∙ h) in
            record { document = f.document; trace = f.trace; traced = f.traced; proper = λ q. f.proper; gives = front_free f.document f.trace f.free; free = λ none. f.free }
    front_from (text c e) s lt h = go (is_tail p t b s) refl (λ q below k. front_from e q below k)
      where
        go : (v : Bool) → is_tail p t b s ≡ v → ((q : State) → q.number < point_count t → accepts new e (there blocks q) ≡ true → FrontFrom q e) → FrontFrom s (text c e)
        go true tail more = tail_front (text c e) s lt tail h
        go false other more =
            let any = ap (λ (m : StateMoves). list_any (takes_word new c e) m.texts) (sym (moves_there s lt other)) ∙ h in
            let one = choice (text_onto (there blocks)) (takes_word new c e) ((point_moves t b).text s) (moves_at drawing s).texts any in
            let here = text_of s one.number one.item lt one.there in
            let f = more one.item.rest (text_within a p t b is s one.number one.item lt here.0 here.1) (and_right (class_has one.item.words c) _ one.passes) in
            record {
              document = text c f.document;
              trace = at_text true f.trace;
              traced = inr (here.0, record { number = one.number; step = one.item; there = here.1; has = and_left (class_has one.item.words c) _ one.passes; owned = one.picked; rest = f.traced });
              proper = λ q. and_from _ (is_proper f.document) (and_left _ (is_proper e) q) (f.proper (and_right _ (is_proper e) q));
              gives = ap (text c) f.gives;
              free = λ none. absurd (cc);
            }
    front_from (element l c e) s lt h = go (is_tail p t b s) refl (λ q below k. front_from e q below k)
      where
        go : (v : Bool) → is_tail p t b s ≡ v → ((q : State) → q.number < point_count t → accepts new e (there blocks q) ≡ true → FrontFrom q e) → FrontFrom s (element l c e)
        go true tail more = tail_front (element l c e) s lt tail h
        go false other more =
            let any = ap (λ (m : StateMoves). list_any (takes_element new l c e) m.labels) (sym (moves_there s lt other)) ∙ h in
            let one = choice (label_onto (there places) (there blocks)) (takes_element new l c e) ((point_moves t b).element s) (moves_at drawing s).labels any in
            let here = label_of s one.number one.item lt one.there in
            let both = and_right (class_has one.item.class l) _ one.passes in
            let inner = content_within a p t b is s one.number one.item lt here.0 here.1 in
            let run = run_on a p t b is c one.item.content (sym (means one.item.content c inner) ∙ and_left (accepts new c (there places one.item.content)) _ both) in
            let inside : Trace = trace_of p.auto b (pattern_of t one.item.content) run.0 in
            let f = more one.item.rest (rest_within a p t b is s one.number one.item lt here.0 here.1) (and_right (accepts new c (there places one.item.content)) _ both) in
            record {
              document = element l c f.document;
              trace = at_element true inside f.trace;
              traced = inr (
                here.0,
                record {
                  number = one.number;
                  step = one.item;
                  there = here.1;
                  has = and_left (class_has one.item.class l) _ one.passes;
                  owned = one.picked;
                  content = traced a p t b is c one.item.content inside inner (record { run = run.0; at = run.1; is = refl });
                  rest = f.traced;
                },
              );
              proper = λ q.
                  let parts = and_right _ (is_proper c && is_proper e) q in
                  and_from _ (is_proper c && is_proper f.document) (and_left _ (is_proper c && is_proper e) q)
                  (and_from (is_proper c) (is_proper f.document) (and_left (is_proper c) _ parts) (f.proper (and_right (is_proper c) _ parts)));
              gives = ap (element l c) f.gives;
              free = λ none. absurd (cc);
            }

    -- what the state of a point ahead of the start accepts is given
    pub given_ahead : KeepsTogether p.auto b (pattern_of t start) → (e : Document) (s : State) → IsAhead drawing (point_moves t b) marked start s → accepts new e (there blocks s) ≡ true → IsGivenAt a p t b start e
    given_ahead keeps e s ahead h = go (has_item e) refl
      where
        f : FrontFrom s e
        f = front_from e s (ahead_within s ahead) h

        up : FromStart f.document f.trace
        up = from_start f.document s f.trace ahead f.traced

        run : HasRunAt a p t b up.document start up.trace
        run = run_of a p t b is up.document start up.trace begins up.traced

        with_gives : held f.document f.trace ≡ e → IsGivenAt a p t b start e
        with_gives same = record { document = up.document; trace = up.trace; proper = λ q. up.proper (f.proper q); has = run; gives = up.same ∙ same }

        go : (v : Bool) → has_item e ≡ v → IsGivenAt a p t b start e
        go true some =
            let begun : has_item (front f.document f.trace) ≡ true = ap has_item f.gives ∙ some in
            let not_free : IsFree f.trace → ⊥ = λ free. true_false (has_item (front f.document f.trace)) begun (ap has_item (front_free f.document f.trace free)) in
            let together : IsTogether up.trace = subst IsTogether run.is (keeps up.document run.run (accepting a p t b up.document start up.trace run)) in
            with_gives (front_held f.document f.trace (begins_block f.document f.trace (up.back not_free together) begun) ∙ f.gives)
        go false none = with_gives (held_free f.document f.trace (f.free none) ∙ sym (is_empty e none))

    tail_accepts : (d : Document) (s : State) (r : Trace) → s.number < point_count t → Traced a p t b d s r → is_tail p t b s ≡ true → accepts new (held d r) (there blocks s) ≡ true
    tail_accepts d s r lt h tail =
        let left = and_left (is_left p t s) (owns_first b (pattern_of t s)) tail in
        let first = and_right (is_left p t s) (owns_first b (pattern_of t s)) tail in
        let run = run_of a p t b is d s r lt h in
        let fit : Fits d r = subst (λ (v : Trace). Fits d v) run.is (fits p.auto b d (pattern_of t s) run.run (pattern_of t s) (accepting a p t b d s r run)) in
        ap (λ x. accepts new x (there blocks s)) (whole_held d r fit (run_whole a p t b is serve alike d s r left first run))
        ∙ ap (accepts new d) (are.tail s lt tail) ∙ lefts s d lt ∙ left_means a p t b is serve alike d s left ∙ run.at.0

    -- unless it is a tail
    by_tail : (d : Document) (s : State) (r : Trace) → s.number < point_count t → Traced a p t b d s r → (is_tail p t b s ≡ false → accepts new (held d r) (there blocks s) ≡ true) → accepts new (held d r) (there blocks s) ≡ true
    by_tail d s r lt h more = go (is_tail p t b s) refl
      where
        go : (v : Bool) → is_tail p t b s ≡ v → accepts new (held d r) (there blocks s) ≡ true
        go true tail = tail_accepts d s r lt h tail
        go false other = more other

    -- a block may stop where what is left is free
    stops : (d : Document) (s : State) (r : Trace) → s.number < point_count t → Traced a p t b d s r → IsFree r → accepts new (held d r) (there blocks s) ≡ true
    stops d s r lt h f = by_tail d s r lt h (λ other.
        ap (λ e. accepts new e (there blocks s)) (held_free d r f) ∙ ap (λ (m : StateMoves). m.last) (moves_there s lt other) ∙ is_free_at d s r lt h f)

    left_stops : (d : Document) (s : State) (r : Trace) → s.number < point_count t → AtLeft a p t b d s r → Traced a p t b d s r → accepts new (held d r) (there blocks s) ≡ true
    left_stops d s r lt at h = go (owns_first b (pattern_of t s)) refl
      where
        go : (v : Bool) → owns_first b (pattern_of t s) ≡ v → accepts new (held d r) (there blocks s) ≡ true
        go true first = tail_accepts d s r lt h (and_from (is_left p t s) (owns_first b (pattern_of t s)) at.left first)
        go false first = stops d s r lt h (run_free a p t b is serve alike d s r at.left first at.has)

    accepts_block : (d : Document) (s : State) (r : Trace) → s.number < point_count t → Traced a p t b d s r → IsBlock r → accepts new (held d r) (there blocks s) ≡ true
    accepts_block empty s at_end lt h k = stops empty s at_end lt h tt
    accepts_block empty s (at_text own r) lt h k = absurd h
    accepts_block empty s (at_element own i r) lt h k = absurd h
    accepts_block (text c d) s at_end lt h k = absurd h
    accepts_block (text c d) s (at_text own r) lt (inl h) k = left_stops (text c d) s (at_text own r) lt h (inl h)
    accepts_block (text c d) s (at_text true r) lt (inr (yet, h)) (inl (e, k)) =
        let more = accepts_block d h.step.rest r (text_within a p t b is s h.number h.step lt yet h.there) h.rest k in
        by_tail (text c d) s (at_text true r) lt (inr (yet, h)) (λ other.
        ap (λ (m : StateMoves). list_any (takes_word new c (held d r)) m.texts) (moves_there s lt other)
        ∙ any_choice (text_onto (there blocks)) (takes_word new c (held d r)) ((point_moves t b).text s) (moves_at drawing s).texts h.number h.step (text_there s h.number h.step lt yet h.there) h.owned
        (and_from (class_has h.step.words c) _ h.has more))
    accepts_block (text c d) s (at_text false r) lt (inr (yet, h)) (inl (e, k)) = absurd (let no : false ≡ true = e in cc)
    accepts_block (text c d) s (at_text own r) lt (inr (yet, h)) (inr f) = stops (text c d) s (at_text own r) lt (inr (yet, h)) f
    accepts_block (text c d) s (at_element own i r) lt h k = absurd h
    accepts_block (element l c d) s at_end lt h k = absurd h
    accepts_block (element l c d) s (at_text own r) lt h k = absurd h
    accepts_block (element l c d) s (at_element own i r) lt (inl h) k = left_stops (element l c d) s (at_element own i r) lt h (inl h)
    accepts_block (element l c d) s (at_element true i r) lt (inr (yet, h)) (inl (e, f, k)) =
        let inner = content_within a p t b is s h.number h.step lt yet h.there in
        let inside = means h.step.content c inner ∙ traced_means a p t b is c h.step.content i inner h.content in
        let more = accepts_block d h.step.rest r (rest_within a p t b is s h.number h.step lt yet h.there) h.rest k in
        by_tail (element l c d) s (at_element true i r) lt (inr (yet, h)) (λ other.
        ap (λ x. accepts new (element l c (join x (held d r))) (there blocks s)) (held_free c i f)
        ∙ ap (λ (m : StateMoves). list_any (takes_element new l c (held d r)) m.labels) (moves_there s lt other)
        ∙ any_choice (label_onto (there places) (there blocks)) (takes_element new l c (held d r)) ((point_moves t b).element s) (moves_at drawing s).labels h.number h.step
        (label_there s h.number h.step lt yet h.there) h.owned
        (and_from (class_has h.step.class l) _ h.has (and_from (accepts new c (there places h.step.content)) _ inside more)))
    accepts_block (element l c d) s (at_element false i r) lt (inr (yet, h)) (inl (e, f, k)) = absurd (let no : false ≡ true = e in cc)
    accepts_block (element l c d) s (at_element own i r) lt (inr (yet, h)) (inr f) = stops (element l c d) s (at_element own i r) lt (inr (yet, h)) f

    -- what is given is accepted by the state of some point ahead of the start
    record FoundAhead (e : Document) : Type 0 where
      state : State
      place : ℕ
      there_is : slice_get order place ≡ Some state
      accepted : accepts new e (there blocks state) ≡ true

    found_ahead : KeepsTogether p.auto b (pattern_of t start) → (e : Document) → IsGivenAt a p t b start e → FoundAhead e
    found_ahead keeps e g =
        let together : IsTogether g.trace = subst IsTogether g.has.is (keeps g.document g.has.run (accepting a p t b g.document start g.trace g.has)) in
        let k = block_of g.document start g.trace is_start (traced a p t b is g.document start g.trace begins g.has) together in
        let at = w.searched.lists.complete k.state k.lies in
        record {
          state = k.state;
          place = at.0;
          there_is = at.1;
          accepted = ap (λ x. accepts new x (there blocks k.state)) (sym (k.gives ∙ g.gives)) ∙ accepts_block k.document k.state k.trace (ahead_within k.state k.lies) k.traced k.block;
        }

    -- a state that accepts what those of the points ahead do accepts exactly what is given
    pub given_law : KeepsTogether p.auto b (pattern_of t start) → (made : Automaton) (first : State) → ((e : Document) → accepts made e first ≡ list_any (λ s. accepts new e (there blocks s)) order)
        → AcceptsGivenAt a p t b start made first
    given_law keeps made first united e = (
      λ h.
          let f = found (λ s. accepts new e (there blocks s)) order (sym (united e) ∙ h) in
          given_ahead keeps e f.item (w.searched.lists.sound f.item f.place f.there) f.passes,
      λ g.
          let f = found_ahead keeps e g in
          united e ∙ any_passes_from_place (λ s. accepts new e (there blocks s)) order f.place f.state f.there_is f.accepted,
    )
