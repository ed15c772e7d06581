-- Runs by numbers, and runs by marks.
use Rattle.std.proofs.Common.{◌≡◌, ℕ, suc, zero, ◌<◌, arith, Bool, true, false, cond, List, [], ◌∷◌, ◌++◌, map, flat_map, length, get_or, Option, Some, option_map, refl, ap, sym, subst, ◌∙◌, inl, inr}
use Rattle.std.specs.List.{Contains, slice_get}
use Rattle.xd_doc.specs.Document.{Document, empty, text, element}
use Rattle.xd_doc.specs.Classes.{class_has}
use Rattle.xd_doc.proofs.Lists.{map_append}
use Rattle.xd_doc.specs.Runs.{Run, at_end, at_text, at_element}
use Rattle.xd_doc.specs.Members.{IsOneOf}
use Rattle.xd_auto.specs.declared.auto.State.{State}
use Rattle.xd_auto.specs.declared.auto.LabelMove.{LabelMove}
use Rattle.xd_auto.specs.declared.auto.TextMove.{TextMove}
use Rattle.xd_auto.specs.Automaton.{Automaton, moves_at}
use Rattle.xd_auto.specs.Runs as Numbered
use Rattle.xd_auto.specs.Runs.{IsAcceptingRun, from_each}
use Rattle.xd_auto.specs.Traces.{text_rest_or, content_or, rest_or}
use Rattle.xd_auto.proofs.RunLaw.{over_word, over_label, runs_law, runs_are_accepting}
use Rattle.xd_meaning.specs.Bindings.{variables_of}
use Rattle.xd_syntax.specs.Tree.{Tree, Definitions, occurrences}
use Rattle.xd_syntax.specs.Ways.{Way, IsWholeWay}
use Rattle.xd_syntax.proofs.Members.{map_mem, mem_map, flat_same}
use Rattle.xd_laws.specs.Guarded.{Guarded}
use Rattle.xd_pattern_runs.specs.Runs.{MarkedRun, text_runs, element_runs, runs_by, start}
use Rattle.xd_pattern_runs.specs.Linear.{BindNothing, IsLinear}
use Rattle.xd_pattern_runs.specs.Laws.{Agree, run_bindings, first_of}
use Rattle.xd_pattern_runs.specs.Mirrors.{AreRunsOf, Mirrors, Ahead}
use Rattle.xd_pattern_runs.proofs.Alike.{flat_of_map, map_of_flat, map_of_map}
use Rattle.xd_pattern_runs.proofs.MirrorsLaw.{mirrors_run_of}
use Rattle.xd_patterns.specs.Marked.{Marking, marked_text, marked_label, with_each, marked_moves, with_marks, IsCompiled}

-- members by number, and members

among_contains : {A : Type 0} (xs : List A) (x : A) → IsOneOf x xs → Contains xs x
among_contains [] x m = absurd m
among_contains (y ∷ xs) x (inl e) = (0, omega arith, e)
among_contains (y ∷ xs) x (inr m) = let r = among_contains xs x m in (suc r.0, omega (arith, r.1), r.2)

contains_among : {A : Type 0} (xs : List A) (x : A) → Contains xs x → IsOneOf x xs
contains_among [] x c = absurd (omega (arith, c.1))
contains_among (y ∷ xs) x c = go c.0 c.1 c.2 (λ d. contains_among xs x d)
  where
    go : (i : ℕ) → i < length (y ∷ xs) → get_or (y ∷ xs) i x ≡ x → (Contains xs x → IsOneOf x xs) → IsOneOf x (y ∷ xs)
    go zero lt e rec = inl e
    go (suc i) lt e rec = inr (rec (i, omega arith, e))

-- marks in place of numbers

each_marked : {A B : Type 0} (F : List (List ℕ) → A → B) (W : Run ℕ → MarkedRun) (G : B → List MarkedRun) (f : ℕ → A → List (Run ℕ)) (ms : List (List (List ℕ))) (moves : List A) →
    ((n : ℕ) (m : A) → slice_get moves n ≡ Some m → map W (f n m) ≡ G (F (get_or ms n []) m)) → map W (from_each f moves) ≡ flat_map G (with_each F ms moves)
each_marked F W G f ms [] h = refl
each_marked F W G f [] (m ∷ moves) h =
    map_append W (f 0 m) (from_each (λ n. f (suc n)) moves)
    ∙ ap (λ z. z ++ map W (from_each (λ n. f (suc n)) moves)) (h 0 m refl)
    ∙ ap (λ z. G (F [] m) ++ z) (each_marked F W G (λ n. f (suc n)) [] moves (λ n q e. h (suc n) q e))
each_marked F W G f (xs ∷ ms) (m ∷ moves) h =
    map_append W (f 0 m) (from_each (λ n. f (suc n)) moves)
    ∙ ap (λ z. z ++ map W (from_each (λ n. f (suc n)) moves)) (h 0 m refl)
    ∙ ap (λ z. G (F xs m) ++ z) (each_marked F W G (λ n. f (suc n)) ms moves (λ n q e. h (suc n) q e))

module _ (a : Automaton) (k : Marking) where
  text_marked : (t : List ℕ) (d : Document) → ((q : State) → map (with_marks a k q) (Numbered.runs a d q) ≡ runs_by (marked_moves a k) d q) → (s : State) (n : ℕ) (m : TextMove) →
      slice_get (moves_at a s).texts n ≡ Some m → map (with_marks a k s) (over_word a t d n m) ≡ text_runs (runs_by (marked_moves a k) d) t (marked_text (get_or (k s).texts n []) m)
  text_marked t d h s n m e = go (class_has m.words t)
    where
      go : (b : Bool) → map (with_marks a k s) (cond b (map (at_text n) (Numbered.runs a d m.rest)) []) ≡ cond b (map (at_text (get_or (k s).texts n [])) (runs_by (marked_moves a k) d m.rest)) []
      go true =
          map_of_map (with_marks a k s) (at_text n) (Numbered.runs a d m.rest)
          ∙ ap (λ (o : Option TextMove). map (λ q. at_text (get_or (k s).texts n []) (with_marks a k (text_rest_or s o) q)) (Numbered.runs a d m.rest)) e
          ∙ sym (map_of_map (at_text (get_or (k s).texts n [])) (with_marks a k m.rest) (Numbered.runs a d m.rest))
          ∙ ap (map (at_text (get_or (k s).texts n []))) (h m.rest)
      go false = refl

  label_marked : (l : List ℕ) (c d : Document) → ((q : State) → map (with_marks a k q) (Numbered.runs a c q) ≡ runs_by (marked_moves a k) c q) →
      ((q : State) → map (with_marks a k q) (Numbered.runs a d q) ≡ runs_by (marked_moves a k) d q) → (s : State) (n : ℕ) (m : LabelMove) → slice_get (moves_at a s).labels n ≡ Some m →
      map (with_marks a k s) (over_label a l c d n m) ≡ element_runs (runs_by (marked_moves a k) c) (runs_by (marked_moves a k) d) l (marked_label (get_or (k s).labels n []) m)
  label_marked l c d g h s n m e = go (class_has m.class l)
    where
      one : (q : Run ℕ) → map (with_marks a k s) (map (at_element n q) (Numbered.runs a d m.rest)) ≡ map (at_element (get_or (k s).labels n []) (with_marks a k m.content q)) (runs_by (marked_moves a k) d m.rest)
      one q =
          map_of_map (with_marks a k s) (at_element n q) (Numbered.runs a d m.rest)
          ∙ ap (λ (o : Option LabelMove). map (λ r. at_element (get_or (k s).labels n []) (with_marks a k (content_or s o) q) (with_marks a k (rest_or s o) r)) (Numbered.runs a d m.rest)) e
          ∙ sym (map_of_map (at_element (get_or (k s).labels n []) (with_marks a k m.content q)) (with_marks a k m.rest) (Numbered.runs a d m.rest))
          ∙ ap (map (at_element (get_or (k s).labels n []) (with_marks a k m.content q))) (h m.rest)

      go : (b : Bool) → map (with_marks a k s) (cond b (flat_map (λ q. map (at_element n q) (Numbered.runs a d m.rest)) (Numbered.runs a c m.content)) [])
          ≡ cond b (flat_map (λ q. map (at_element (get_or (k s).labels n []) q) (runs_by (marked_moves a k) d m.rest)) (runs_by (marked_moves a k) c m.content)) []
      go true =
          map_of_flat (with_marks a k s) (λ q. map (at_element n q) (Numbered.runs a d m.rest)) (Numbered.runs a c m.content)
          ∙ flat_same (λ q. map (with_marks a k s) (map (at_element n q) (Numbered.runs a d m.rest)))
          (λ q. map (at_element (get_or (k s).labels n []) (with_marks a k m.content q)) (runs_by (marked_moves a k) d m.rest)) (Numbered.runs a c m.content) (λ q i. one q)
          ∙ sym (flat_of_map (λ q. map (at_element (get_or (k s).labels n []) q) (runs_by (marked_moves a k) d m.rest)) (with_marks a k m.content) (Numbered.runs a c m.content))
          ∙ ap (flat_map (λ q. map (at_element (get_or (k s).labels n []) q) (runs_by (marked_moves a k) d m.rest))) (g m.content)
      go false = refl

  all_marked : (d : Document) (s : State) → map (with_marks a k s) (Numbered.runs a d s) ≡ runs_by (marked_moves a k) d s
  all_marked empty s = go (moves_at a s).last
    where
      go : (b : Bool) → map (with_marks a k s) (cond b (at_end ∷ []) []) ≡ cond b (at_end ∷ []) []
      go true = refl
      go false = refl
  all_marked (text t d) s =
      each_marked marked_text (with_marks a k s) (text_runs (runs_by (marked_moves a k) d) t) (over_word a t d) (k s).texts (moves_at a s).texts
      (λ n m e. text_marked t d (λ q. all_marked d q) s n m e)
  all_marked (element l c d) s =
      each_marked marked_label (with_marks a k s) (element_runs (runs_by (marked_moves a k) c) (runs_by (marked_moves a k) d) l) (over_label a l c d) (k s).labels (moves_at a s).labels
      (λ n m e. label_marked l c d (λ q. all_marked c q) (λ q. all_marked d q) s n m e)

  marked_mem : (d : Document) (s : State) (run : Run ℕ) → IsAcceptingRun a d s run → IsOneOf (with_marks a k s run) (runs_by (marked_moves a k) d s)
  marked_mem d s run h =
      subst (IsOneOf (with_marks a k s run)) (all_marked d s) (map_mem (with_marks a k s) run (Numbered.runs a d s) (contains_among (Numbered.runs a d s) run ((runs_are_accepting a s d run).1 h)))

  mem_marked : (d : Document) (s : State) (r : MarkedRun) → IsOneOf r (runs_by (marked_moves a k) d s) → (run : Run ℕ) × IsAcceptingRun a d s run × (with_marks a k s run ≡ r)
  mem_marked d s r m =
      let q = mem_map (with_marks a k s) r (Numbered.runs a d s) (subst (IsOneOf r) (sym (all_marked d s)) m) in
      (q.0, (runs_are_accepting a s d q.0).0 (among_contains (Numbered.runs a d s) q.0 q.1), q.2)

-- a state whose marked moves mirror a linear pattern is that pattern's
pub mirrored_is_compiled : (E : Definitions) → Guarded E → BindNothing E → (P : Tree) → IsLinear P → (a : Automaton) (k : Marking) (A : Ahead State) →
    Mirrors E (marked_moves a k) A → (s : State) → A s ≡ Some (start P) → IsCompiled E P a k s
mirrored_is_compiled E guarded none P l a k A mirrors s e = compiled (mirrors_run_of E guarded none P l (marked_moves a k) A mirrors s e)
  where
    way : AreRunsOf E P (marked_moves a k) s → (d : Document) (w : Way) → IsWholeWay E P d w → (run : Run ℕ) × IsAcceptingRun a d s run × Agree (occurrences P) d (with_marks a k s run) w.bindings
    way h d w m =
        let r = h.runs d w m in
        let q = mem_marked a k d s r.0 r.1 in
        (q.0, q.1, subst (λ z. Agree (occurrences P) d z w.bindings) (sym q.2) r.2)

    compiled : AreRunsOf E P (marked_moves a k) s → IsCompiled E P a k s
    compiled h = record {
      accepts = λ d. (
        λ t. let r = (runs_law a s d).0 t in let q = h.ways d (with_marks a k s r.0) (marked_mem a k d s r.0 r.1) in (q.0, q.1),
        λ t. let q = way h d t.0 t.1 in (runs_law a s d).1 (q.0, q.1),
      );
      ways = λ d run i. h.ways d (with_marks a k s run) (marked_mem a k d s run i);
      runs = way h;
      together = λ d run i. h.together d (with_marks a k s run) (marked_mem a k d s run i);
      first_match = λ d. ap (λ rs. option_map (run_bindings (variables_of P) d) (first_of rs)) (all_marked a k d s) ∙ h.first_match d;
    }
