-- Runs through points and their traces.
use Rattle.std.proofs.Common.{ℕ, zero, suc, ◌<◌, ◌≡◌, inl, inr, nat_lt, true, false, ◌&&◌, List, [], ◌∷◌, Some, refl, sym, ap, ◌∙◌, subst, arith}
use Rattle.std.specs.List.{AllZip, slice_get}
use Rattle.std.proofs.lemmas.Option.{slice_get-get_or}
use Rattle.std.proofs.lemmas.Bool.Decides.{nat_tests}
use Rattle.xd_doc.specs.Document.{Document, empty, text, element}
use Rattle.xd_doc.proofs.Bools.{and_left, and_right}
use Rattle.xd_doc.specs.Runs.{Run, Trace, at_end, at_text, at_element}
use Rattle.xd_auto.specs.declared.auto.State.{State}
use Rattle.xd_auto.specs.declared.auto.LabelMove.{LabelMove}
use Rattle.xd_auto.specs.declared.auto.TextMove.{TextMove}
use Rattle.xd_auto.specs.Automaton.{Automaton, accepts, moves_at}
use Rattle.xd_auto.specs.Runs.{IsAcceptingRun}
use Rattle.xd_auto.specs.Traces.{Owned, trace_of, after_text, after_element, in_element, content_or, rest_or, text_rest_or}
use Rattle.xd_points.specs.declared.patterns.PatternStates.{PatternStates}
use Rattle.xd_points.specs.declared.table.PointTable.{PointTable}
use Rattle.xd_points.specs.Following.{Follows, IsRunAt}
use Rattle.xd_points.specs.Points.{HasMoves, IsLabelStep, IsTextStep, no_row, point_at, row_at}
use Rattle.xd_points.specs.Tables.{IsTableOf, is_left, label_origin, labels_in, number_or, pattern_of, point_count, point_means, points_of, text_origin, texts_in}
use Rattle.xd_points.proofs.FirstRunLaw.{by_accepting, run_by}
use Rattle.xd_points.proofs.FollowsLaw.{follows_all_runs, zip_there}
use Rattle.xd_given.specs.Owning.{point_moves}
use Rattle.xd_given.specs.Traced.{HasRunAt, Traced}

-- what stands beside an element of the first list
pub record Beside {X : Type 0} (R : X → ℕ → Type 0) (x : X) (ys : List ℕ) (k : ℕ) : Type 0 where
  pub number : ℕ
  pub there : slice_get ys k ≡ Some number
  pub related : R x number

beside : {X : Type 0} (R : X → ℕ → Type 0) (xs : List X) (ys : List ℕ) (k : ℕ) (x : X) → AllZip R xs ys → slice_get xs k ≡ Some x → Beside R x ys k
beside R [] ys k x h e = absurd (cc)
beside R (z ∷ xs) [] k x h e = absurd h
beside {X} R (z ∷ xs) (y ∷ ys) zero x h e =
    let one : z ≡ x = cc in
    record { number = y; there = refl; related = subst (λ (w : X). R w y) one h.0 }
beside R (z ∷ xs) (y ∷ ys) (suc k) x h e = let f = beside R xs ys k x h.1 e in record { number = f.number; there = f.there; related = f.related }

-- a run of each kind is an accepting one
pub accepting : (a : Automaton) (p : PatternStates) (t : PointTable) (b : Owned) (d : Document) (s : State) (trace : Trace) (h : HasRunAt a p t b d s trace) → IsAcceptingRun p.auto d (pattern_of t s) h.run
accepting a p t b d s trace h = by_accepting t.first p.auto d (pattern_of t s) h.run h.at.1

module _ (a : Automaton) (p : PatternStates) (t : PointTable) (b : Owned) (is : IsTableOf a p t) where
  has : (s : State) → s.number < point_count t → is_left p t s ≡ false → HasMoves t.first a p t.points s.number (row_at t.rows.items s.number)
  has s lt yet = is.expanded.has s.number (omega (arith, lt, is.every)) yet

  -- the run from a point that has moves leads to the points that its moves lead to
  pub text_step : (s : State) (k : ℕ) (m : TextMove) → s.number < point_count t → is_left p t s ≡ false → slice_get (moves_at (points_of t) s).texts k ≡ Some m
      → Beside (IsTextStep p.auto (pattern_of t s) t.points) m (row_at t.rows.items s.number).texts k
  text_step s k m lt yet e = beside (IsTextStep p.auto (pattern_of t s) t.points) (moves_at (points_of t) s).texts (row_at t.rows.items s.number).texts k m (has s lt yet).texts.steps e

  pub label_step : (s : State) (k : ℕ) (m : LabelMove) → s.number < point_count t → is_left p t s ≡ false → slice_get (moves_at (points_of t) s).labels k ≡ Some m
      → Beside (IsLabelStep p.auto (pattern_of t s) t.points) m (row_at t.rows.items s.number).labels k
  label_step s k m lt yet e = beside (IsLabelStep p.auto (pattern_of t s) t.points) (moves_at (points_of t) s).labels (row_at t.rows.items s.number).labels k m (has s lt yet).labels.steps e

  pub text_within : (s : State) (k : ℕ) (m : TextMove) → s.number < point_count t → is_left p t s ≡ false → slice_get (moves_at (points_of t) s).texts k ≡ Some m → m.rest.number < point_count t
  text_within s k m lt yet e = (text_step s k m lt yet e).related.leads.0.within

  pub content_within : (s : State) (k : ℕ) (m : LabelMove) → s.number < point_count t → is_left p t s ≡ false → slice_get (moves_at (points_of t) s).labels k ≡ Some m → m.content.number < point_count t
  content_within s k m lt yet e = (label_step s k m lt yet e).related.leads.0.within

  pub rest_within : (s : State) (k : ℕ) (m : LabelMove) → s.number < point_count t → is_left p t s ≡ false → slice_get (moves_at (points_of t) s).labels k ≡ Some m → m.rest.number < point_count t
  rest_within s k m lt yet e = (label_step s k m lt yet e).related.leads.1.0.within

  counted : (s : State) → s.number < point_count t → nat_lt s.number (point_count t) ≡ true
  counted s lt = grind (arith, nat_tests)

  row_there : (s : State) → s.number < point_count t → slice_get t.rows.items s.number ≡ Some (row_at t.rows.items s.number)
  row_there s lt = slice_get-get_or t.rows.items s.number no_row (omega (arith, lt, is.every))

  -- whose a point's move is
  text_owned : (s : State) (k n : ℕ) → s.number < point_count t → slice_get (row_at t.rows.items s.number).texts k ≡ Some n → (point_moves t b).text s k ≡ b.text (pattern_of t s) n
  text_owned s k n lt e =
      let origin : text_origin t s k ≡ n = ap (λ o. number_or (slice_get (texts_in o) k)) (row_there s lt) ∙ ap number_or e in
      ap (λ v. v && b.text (pattern_of t s) (text_origin t s k)) (counted s lt) ∙ ap (b.text (pattern_of t s)) origin

  label_owned : (s : State) (k n : ℕ) → s.number < point_count t → slice_get (row_at t.rows.items s.number).labels k ≡ Some n → (point_moves t b).element s k ≡ b.element (pattern_of t s) n
  label_owned s k n lt e =
      let origin : label_origin t s k ≡ n = ap (λ o. number_or (slice_get (labels_in o) k)) (row_there s lt) ∙ ap number_or e in
      ap (λ v. v && b.element (pattern_of t s) (label_origin t s k)) (counted s lt) ∙ ap (b.element (pattern_of t s)) origin

  follows_traced : (d : Document) (s : State) (run : Run ℕ) → s.number < point_count t → Follows t.first a p t.points t.rows.items d s.number run → Traced a p t b d s (trace_of p.auto b (pattern_of t s) run)
  follows_traced empty s at_end lt h = h.0
  follows_traced empty s (at_text n r) lt h = absurd h.1
  follows_traced empty s (at_element n k r) lt h = absurd h.1
  follows_traced (text c d) s at_end lt h = absurd h
  follows_traced (text c d) s (at_text n r) lt (inl h) = inl (record { left = h.0; has = record { run = at_text n r; at = h.1; is = refl } })
  follows_traced (text c d) s (at_text n r) lt (inr h) =
      let m = h.2 in
      let step = zip_there (IsTextStep p.auto (pattern_of t s) t.points) (moves_at (points_of t) s).texts (row_at t.rows.items s.number).texts h.1 n m (has s lt h.0).texts.steps h.3 h.4 in
      let to : after_text p.auto (pattern_of t s) n ≡ pattern_of t m.rest = ap (text_rest_or (pattern_of t s)) step.there ∙ sym step.leads.0.pattern_is in
      inr (
        h.0,
        record {
          number = h.1;
          step = m;
          there = h.3;
          has = h.5;
          owned = text_owned s h.1 n lt h.4;
          rest = subst (λ (q : State). Traced a p t b d m.rest (trace_of p.auto b q r)) (sym to) (follows_traced d m.rest r step.leads.0.within h.6);
        },
      )
  follows_traced (text c d) s (at_element n k r) lt h = absurd h
  follows_traced (element l c d) s at_end lt h = absurd h
  follows_traced (element l c d) s (at_text n r) lt h = absurd h
  follows_traced (element l c d) s (at_element n k r) lt (inl h) = inl (record { left = h.0; has = record { run = at_element n k r; at = h.1; is = refl } })
  follows_traced (element l c d) s (at_element n k r) lt (inr h) =
      let m = h.2 in
      let step = zip_there (IsLabelStep p.auto (pattern_of t s) t.points) (moves_at (points_of t) s).labels (row_at t.rows.items s.number).labels h.1 n m (has s lt h.0).labels.steps h.3 h.4 in
      let into : in_element p.auto (pattern_of t s) n ≡ pattern_of t m.content = ap (content_or (pattern_of t s)) step.there ∙ sym step.leads.0.pattern_is in
      let to : after_element p.auto (pattern_of t s) n ≡ pattern_of t m.rest = ap (rest_or (pattern_of t s)) step.there ∙ sym step.leads.1.0.pattern_is in
      inr (
        h.0,
        record {
          number = h.1;
          step = m;
          there = h.3;
          has = h.5;
          owned = label_owned s h.1 n lt h.4;
          content = subst (λ (q : State). Traced a p t b c m.content (trace_of p.auto b q k)) (sym into) (follows_traced c m.content k step.leads.0.within h.6);
          rest = subst (λ (q : State). Traced a p t b d m.rest (trace_of p.auto b q r)) (sym to) (follows_traced d m.rest r step.leads.1.0.within h.7);
        },
      )

  -- a run through the points with the trace
  record Followed (d : Document) (s : State) (trace : Trace) : Type 0 where
    run : Run ℕ
    follows : Follows t.first a p t.points t.rows.items d s.number run
    told : trace_of p.auto b (pattern_of t s) run ≡ trace

  back : (d : Document) (s : State) (run : Run ℕ) → s.number < point_count t → IsRunAt t.first a p t.points s.number d run → Follows t.first a p t.points t.rows.items d s.number run
  back d s run lt h = (follows_all_runs t.first a p t.points t.rows.items is.expanded is.every d s.number run lt).1 h

  followed_run : (d : Document) (s : State) (trace : Trace) → s.number < point_count t → HasRunAt a p t b d s trace → Followed d s trace
  followed_run d s trace lt h = record { run = h.run; follows = back d s h.run lt h.at; told = h.is }

  followed : (d : Document) (s : State) (trace : Trace) → s.number < point_count t → Traced a p t b d s trace → Followed d s trace
  followed empty s at_end lt h =
      let both = and_right (accepts a empty (point_at t.points.points.items s.number).left) _ h in
      record { run = at_end; follows = (h, and_left (accepts p.auto empty (pattern_of t s)) _ both); told = refl }
  followed empty s (at_text own r) lt h = absurd h
  followed empty s (at_element own k r) lt h = absurd h
  followed (text c d) s at_end lt h = absurd h
  followed (text c d) s (at_text own r) lt (inl h) = followed_run (text c d) s (at_text own r) lt h.has
  followed (text c d) s (at_text own r) lt (inr (yet, h)) =
      let f = text_step s h.number h.step lt yet h.there in
      let step = f.related in
      let to : after_text p.auto (pattern_of t s) f.number ≡ pattern_of t h.step.rest = ap (text_rest_or (pattern_of t s)) step.there ∙ sym step.leads.0.pattern_is in
      let rest = followed d h.step.rest r step.leads.0.within h.rest in
      let whose : b.text (pattern_of t s) f.number ≡ own = sym (text_owned s h.number f.number lt f.there) ∙ h.owned in
      record {
        run = at_text f.number rest.run;
        follows = inr (yet, h.number, h.step, h.there, f.there, h.has, rest.follows);
        told = ap (λ v. at_text v (trace_of p.auto b (after_text p.auto (pattern_of t s) f.number) rest.run)) whose
            ∙ ap (λ (q : State). at_text own (trace_of p.auto b q rest.run)) to ∙ ap (at_text own) rest.told;
      }
  followed (text c d) s (at_element own k r) lt h = absurd h
  followed (element l c d) s at_end lt h = absurd h
  followed (element l c d) s (at_text own r) lt h = absurd h
  followed (element l c d) s (at_element own k r) lt (inl h) = followed_run (element l c d) s (at_element own k r) lt h.has
  followed (element l c d) s (at_element own k r) lt (inr (yet, h)) =
      let f = label_step s h.number h.step lt yet h.there in
      let step = f.related in
      let into : in_element p.auto (pattern_of t s) f.number ≡ pattern_of t h.step.content = ap (content_or (pattern_of t s)) step.there ∙ sym step.leads.0.pattern_is in
      let to : after_element p.auto (pattern_of t s) f.number ≡ pattern_of t h.step.rest = ap (rest_or (pattern_of t s)) step.there ∙ sym step.leads.1.0.pattern_is in
      let inside = followed c h.step.content k step.leads.0.within h.content in
      let rest = followed d h.step.rest r step.leads.1.0.within h.rest in
      let whose : b.element (pattern_of t s) f.number ≡ own = sym (label_owned s h.number f.number lt f.there) ∙ h.owned in
      let in_run : Trace = trace_of p.auto b (in_element p.auto (pattern_of t s) f.number) inside.run in
      let to_run : Trace = trace_of p.auto b (after_element p.auto (pattern_of t s) f.number) rest.run in
      record {
        run = at_element f.number inside.run rest.run;
        follows = inr (yet, h.number, h.step, h.there, f.there, h.has, inside.follows, rest.follows);
        told = ap (λ v. at_element v in_run to_run) whose
            ∙ ap (λ (w : Trace). at_element own w to_run) (ap (λ (q : State). trace_of p.auto b q inside.run) into ∙ inside.told)
            ∙ ap (λ (w : Trace). at_element own k w) (ap (λ (q : State). trace_of p.auto b q rest.run) to ∙ rest.told);
      }

  -- what is traced has a run, and what has a run is traced
  pub run_of : (d : Document) (s : State) (trace : Trace) → s.number < point_count t → Traced a p t b d s trace → HasRunAt a p t b d s trace
  run_of d s trace lt h =
      let f = followed d s trace lt h in
      record { run = f.run; at = (follows_all_runs t.first a p t.points t.rows.items is.expanded is.every d s.number f.run lt).0 f.follows; is = f.told }

  pub traced : (d : Document) (s : State) (trace : Trace) → s.number < point_count t → HasRunAt a p t b d s trace → Traced a p t b d s trace
  traced d s trace lt h = subst (λ (w : Trace). Traced a p t b d s w) h.is (follows_traced d s h.run lt (back d s h.run lt h.at))

  pub traced_means : (d : Document) (s : State) (trace : Trace) → s.number < point_count t → Traced a p t b d s trace → point_means a p t s d ≡ true
  traced_means d s trace lt h = (run_of d s trace lt h).at.0

  -- a point has a run on what it means
  pub run_on : (d : Document) (s : State) → point_means a p t s d ≡ true → (run : Run ℕ) × IsRunAt t.first a p t.points s.number d run
  run_on d s h =
      let both = and_right (accepts a d (point_at t.points.points.items s.number).left) _ h in
      let r = run_by t.first p.auto d (pattern_of t s) (and_left (accepts p.auto d (pattern_of t s)) _ both) in
      (r.0, (h, r.1))
