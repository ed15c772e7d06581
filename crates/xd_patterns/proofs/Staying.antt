-- The states of patterns stay that while their automaton extends: old states have the runs that
-- they had.
use Rattle.std.proofs.Common.{◌≡◌, ℕ, suc, ◌↔◌, Bool, true, cond, List, [], ◌∷◌, ◌++◌, map, flat_map, get_or, option_map, Option, Some, None, refl, ap, sym, subst, ◌∙◌}
use Rattle.std.specs.List.{Contains, slice_get}
use Rattle.xd_doc.specs.Document.{Document, empty, text, element}
use Rattle.xd_doc.specs.Classes.{class_has}
use Rattle.xd_doc.specs.Runs.{Run, at_end, at_text, at_element, IsTogether}
use Rattle.xd_auto.specs.declared.auto.State.{State}
use Rattle.xd_auto.specs.declared.auto.LabelMove.{LabelMove}
use Rattle.xd_auto.specs.declared.auto.TextMove.{TextMove}
use Rattle.xd_auto.specs.Automaton.{Automaton, StateMoves, IsState, IsClosed, Extends, moves_at}
use Rattle.xd_auto.specs.Runs as Numbered
use Rattle.xd_auto.specs.Runs.{IsAcceptingRun, from_each}
use Rattle.xd_auto.specs.Traces.{text_rest_or, content_or, rest_or, after_text, in_element, after_element}
use Rattle.xd_auto.proofs.ExtendsLemmas.{keeps}
use Rattle.xd_auto.proofs.RunLaw.{over_word, over_label, runs_are_accepting}
use Rattle.xd_auto.proofs.Steps.{closed_text, closed_element}
use Rattle.xd_meaning.specs.Bindings.{variables_of}
use Rattle.xd_syntax.specs.Tree.{Tree, Definitions, occurrences}
use Rattle.xd_syntax.specs.Ways.{Takes}
use Rattle.xd_pattern_runs.specs.Runs.{MarkedRun, trace}
use Rattle.xd_pattern_runs.specs.Laws.{Agree, run_bindings, first_of}
use Rattle.xd_patterns.specs.Marked.{Marking, with_marks}
use Rattle.xd_patterns.specs.CompiledState.{IsCompiledState, CompiledStatesStay}

each_same : {A B : Type 0} (f g : ℕ → A → List B) (xs : List A) → ((n : ℕ) (x : A) → slice_get xs n ≡ Some x → f n x ≡ g n x) → from_each f xs ≡ from_each g xs
each_same f g [] h = refl
each_same f g (x ∷ xs) h =
    ap (λ z. z ++ from_each (λ n. f (suc n)) xs) (h 0 x refl)
    ∙ ap (λ z. g 0 x ++ z) (each_same (λ n. f (suc n)) (λ n. g (suc n)) xs (λ n y e. h (suc n) y e))

map_same : {A B : Type 0} (f g : A → B) (xs : List A) → ((x : A) → f x ≡ g x) → map f xs ≡ map g xs
map_same f g [] h = refl
map_same f g (x ∷ xs) h = ap (λ z. z ∷ map f xs) (h x) ∙ ap (λ zs. g x ∷ zs) (map_same f g xs h)

module _ (a b : Automaton) (closed : IsClosed a) (more : Extends a b) where
  text_onto : (s : State) → IsState a s → (n : ℕ) → IsState a (after_text a s n)
  text_onto s h n = go (slice_get (moves_at a s).texts n) refl
    where
      go : (o : Option TextMove) → slice_get (moves_at a s).texts n ≡ o → IsState a (text_rest_or s o)
      go None e = h
      go (Some m) e = closed_text a s n m closed h e

  label_onto : (s : State) → IsState a s → (n : ℕ) → IsState a (in_element a s n) × IsState a (after_element a s n)
  label_onto s h n = go (slice_get (moves_at a s).labels n) refl
    where
      go : (o : Option LabelMove) → slice_get (moves_at a s).labels n ≡ o → IsState a (content_or s o) × IsState a (rest_or s o)
      go None e = (h, h)
      go (Some m) e = closed_element a s n m closed h e

  runs_stay : (d : Document) (s : State) → IsState a s → Numbered.runs b d s ≡ Numbered.runs a d s
  runs_stay empty s h = ap (λ (m : StateMoves). cond m.last (at_end ∷ []) []) (more.moves s h)
  runs_stay (text t d) s h =
      ap (λ (m : StateMoves). from_each (over_word b t d) m.texts) (more.moves s h)
      ∙ each_same (over_word b t d) (over_word a t d) (moves_at a s).texts
      (λ n m e. ap (λ rs. cond (class_has m.words t) (map (at_text n) rs) []) (runs_stay d m.rest (closed_text a s n m closed h e)))
  runs_stay (element l c d) s h =
      ap (λ (m : StateMoves). from_each (over_label b l c d) m.labels) (more.moves s h)
      ∙ each_same (over_label b l c d) (over_label a l c d) (moves_at a s).labels
      (λ n m e.
      ap (λ rs. cond (class_has m.class l) (flat_map (λ k. map (at_element n k) (Numbered.runs b d m.rest)) rs) []) (runs_stay c m.content ((closed_element a s n m closed h e).0))
      ∙ ap (λ rs. cond (class_has m.class l) (flat_map (λ k. map (at_element n k) rs) (Numbered.runs a c m.content)) []) (runs_stay d m.rest ((closed_element a s n m closed h e).1)))

  old_run : (d : Document) (s : State) → IsState a s → (run : Run ℕ) → IsAcceptingRun b d s run → IsAcceptingRun a d s run
  old_run d s h run r = (runs_are_accepting a s d run).0 (subst (λ rs. Contains rs run) (runs_stay d s h) ((runs_are_accepting b s d run).1 r))

  new_run : (d : Document) (s : State) → IsState a s → (run : Run ℕ) → IsAcceptingRun a d s run → IsAcceptingRun b d s run
  new_run d s h run r = (runs_are_accepting b s d run).0 (subst (λ rs. Contains rs run) (sym (runs_stay d s h)) ((runs_are_accepting a s d run).1 r))

  marks_stay : (k : Marking) (run : Run ℕ) (s : State) → IsState a s → with_marks b k s run ≡ with_marks a k s run
  marks_stay k at_end s h = refl
  marks_stay k (at_text n r) s h =
      ap (λ (m : StateMoves). at_text (get_or (k s).texts n []) (with_marks b k (text_rest_or s (slice_get m.texts n)) r)) (more.moves s h)
      ∙ ap (λ (q : MarkedRun). at_text (get_or (k s).texts n []) q) (marks_stay k r (after_text a s n) (text_onto s h n))
  marks_stay k (at_element n c r) s h =
      ap (λ (m : StateMoves). at_element (get_or (k s).labels n []) (with_marks b k (content_or s (slice_get m.labels n)) c) (with_marks b k (rest_or s (slice_get m.labels n)) r)) (more.moves s h)
      ∙ ap (λ (q : MarkedRun). at_element (get_or (k s).labels n []) q (with_marks b k (after_element a s n) r)) (marks_stay k c (in_element a s n) ((label_onto s h n).0))
      ∙ ap (λ (q : MarkedRun). at_element (get_or (k s).labels n []) (with_marks a k (in_element a s n) c) q) (marks_stay k r (after_element a s n) ((label_onto s h n).1))

  compiled_stays : (E : Definitions) (P : Tree) (k : Marking) (s : State) → IsCompiledState E P a k s → IsCompiledState E P b k s
  compiled_stays E P k s c =
      let h = c.belongs in record {
        belongs = more.states s h;
        compiled = record {
          accepts = λ d. subst (λ (x : Bool). (x ≡ true) ↔ Takes E P d) (sym (keeps a b closed more d s h)) (c.compiled.accepts d);
          ways = λ d run i.
              let w = c.compiled.ways d run (old_run d s h run i) in
              (w.0, w.1, subst (λ z. Agree (occurrences P) d z (w.0).bindings) (sym (marks_stay k run s h)) w.2);
          runs = λ d w i.
              let r = c.compiled.runs d w i in
              (r.0, new_run d s h r.0 r.1, subst (λ z. Agree (occurrences P) d z w.bindings) (sym (marks_stay k r.0 s h)) r.2);
          together = λ d run i x. subst (λ (r : MarkedRun). IsTogether (trace x r)) (sym (marks_stay k run s h)) (c.compiled.together d run (old_run d s h run i) x);
          first_match = λ d.
              ap (λ rs. option_map (run_bindings (variables_of P) d) (first_of (map (with_marks b k s) rs))) (runs_stay d s h)
              ∙ ap (λ (rs : List MarkedRun). option_map (run_bindings (variables_of P) d) (first_of rs)) (map_same (with_marks b k s) (with_marks a k s) (Numbered.runs a d s) (λ r. marks_stay k r s h))
              ∙ c.compiled.first_match d;
        };
      }

pub compiled_states_stay : CompiledStatesStay
compiled_states_stay a b closed more E P k s c = compiled_stays a b closed more E P k s c
