-- What first runs of a compiled pattern give its variables is what its first matches bind them to.
use Rattle.std.proofs.Common.{◌≡◌, ℕ, Bool, true, false, ◌||◌, cond, List, [], ◌∷◌, ◌++◌, map, Option, Some, None, IsSomeAnd, option_map, refl, ap, sym, subst, ◌∙◌}
use Rattle.std.specs.List.{slice_get}
use Rattle.std.specs.Str.{bytes_eq}
use Rattle.xd_doc.specs.Document.{Document, is_proper}
use Rattle.xd_doc.specs.Runs.{Run, held}
use Rattle.xd_auto.specs.declared.auto.State.{State}
use Rattle.xd_auto.specs.Automaton.{Automaton, accepts}
use Rattle.xd_auto.specs.Runs as Numbered
use Rattle.xd_syntax.specs.Words.{has_word}
use Rattle.xd_syntax.specs.Tree.{Definitions}
use Rattle.xd_syntax.specs.Placed.{PlacedTree, unplaced}
use Rattle.xd_meaning.specs.Bindings.{variables_of, bound_to, bindings_in}
use Rattle.xd_meaning.specs.FirstMatch.{first}
use Rattle.xd_meaning.specs.Meaning.{Environment, looked_up}
use Rattle.xd_laws.proofs.DecisionLemmas.{first_way}
use Rattle.xd_laws.proofs.Unfoldings.{same_word_eq}
use Rattle.xd_pattern_runs.specs.Runs.{MarkedRun, trace}
use Rattle.xd_pattern_runs.specs.Laws.{first_of, run_bindings}
use Rattle.xd_auto.specs.Traces.{trace_of}
use Rattle.xd_points.specs.declared.patterns.PatternStates.{PatternStates}
use Rattle.xd_given.specs.Given.{IsFirstGivenAlone}
use Rattle.xd_patterns.specs.Marked.{Marking, IsCompiled, with_marks, moves_of}
use Rattle.xd_patterns.proofs.MarksLaw.{owned_trace}
use Rattle.xd_clauses.specs.Clauses.{Accepted}
use Rattle.xd_clauses.proofs.NumberedLemmas.{alone_joined, alone_parts}
use Rattle.xd_prefer.specs.Preferred.{Prefers}

-- what is looked up among what a run gives
looked_up-run : (xs : List (List ℕ)) (d : Document) (r : MarkedRun) (x : List ℕ) → has_word xs x ≡ true → looked_up (run_bindings xs d r) x ≡ Some (held d (trace x r))
looked_up-run [] d r x h = absurd (cc)
looked_up-run (y ∷ ys) d r x h = go (bytes_eq y x) refl h (λ k. looked_up-run ys d r x k)
  where
    go : (b : Bool) → bytes_eq y x ≡ b → (b || has_word ys x) ≡ true → (has_word ys x ≡ true → looked_up (run_bindings ys d r) x ≡ Some (held d (trace x r)))
        → cond b (Some (held d (trace y r))) (looked_up (run_bindings ys d r) x) ≡ Some (held d (trace x r))
    go true e k more = ap (λ w. Some (held d (trace w r))) (same_word_eq y x e)
    go false e k more = more k

-- what is looked up among the bindings of these variables
looked_up-in : (vs : Environment) (xs : List (List ℕ)) (x : List ℕ) → has_word xs x ≡ true → looked_up (bindings_in xs vs) x ≡ looked_up vs x
looked_up-in vs [] x h = absurd (cc)
looked_up-in vs (y ∷ ys) x h = go (looked_up vs y) refl (bytes_eq y x) refl h (λ k. looked_up-in vs ys x k)
  where
    missing : (zs : List (List ℕ)) → looked_up vs x ≡ None → looked_up (bindings_in zs vs) x ≡ None
    missing [] n = refl
    missing (z ∷ zs) n = put (looked_up vs z) refl (bytes_eq z x) refl (missing zs n)
      where
        put : (o : Option Document) → looked_up vs z ≡ o → (b : Bool) → bytes_eq z x ≡ b → looked_up (bindings_in zs vs) x ≡ None → looked_up (bound_to z o ++ bindings_in zs vs) x ≡ None
        put None e b q rec = rec
        put (Some d) e true q rec = let same : looked_up vs x ≡ Some d = ap (looked_up vs) (sym (same_word_eq z x q)) ∙ e in absurd (cc)
        put (Some d) e false q rec = ap (λ b. cond b (Some d) (looked_up (bindings_in zs vs) x)) q ∙ rec

    go : (o : Option Document) → looked_up vs y ≡ o → (b : Bool) → bytes_eq y x ≡ b → (b || has_word ys x) ≡ true → (has_word ys x ≡ true → looked_up (bindings_in ys vs) x ≡ looked_up vs x)
        → looked_up (bound_to y o ++ bindings_in ys vs) x ≡ looked_up vs x
    go None e true q k rec =
        let none : looked_up vs x ≡ None = ap (looked_up vs) (sym (same_word_eq y x q)) ∙ e in
        missing ys none ∙ sym none
    go None e false q k rec = rec k
    go (Some d) e true q k rec =
        ap (λ b. cond b (Some d) (looked_up (bindings_in ys vs) x)) q ∙ sym e ∙ ap (looked_up vs) (same_word_eq y x q)
    go (Some d) e false q k rec = ap (λ b. cond b (Some d) (looked_up (bindings_in ys vs) x)) q ∙ rec k

-- the first of some runs with their marks
first_marked : (f : Run ℕ → MarkedRun) (rs : List (Run ℕ)) (r : Run ℕ) → slice_get rs 0 ≡ Some r → first_of (map f rs) ≡ Some (f r)
first_marked f [] r e = absurd (cc)
first_marked f (z ∷ rs) r e = let same : z ≡ r = cc in ap (λ w. Some (f w)) same

some_first : (f : Run ℕ → MarkedRun) (rs : List (Run ℕ)) (r : MarkedRun) → first_of (map f rs) ≡ Some r → (z : Run ℕ) × (slice_get rs 0 ≡ Some z) × (f z ≡ r)
some_first f [] r e = absurd (cc)
some_first f (z ∷ rs) r e = (z, refl, let same : f z ≡ r = cc in same)

mapped_some : {A B : Type 0} (f : A → B) (o : Option A) (b : B) → option_map f o ≡ Some b → (a : A) × (o ≡ Some a) × (f a ≡ b)
mapped_some f None b e = absurd (cc)
mapped_some f (Some a) b e = (a, refl, let same : f a ≡ b = cc in same)

module _ (E : Definitions) (P : PlacedTree) (p : PatternStates) (k : Marking) (s : State) (c : IsCompiled E (unplaced P) p.auto k s) (x : List ℕ) (there : has_word (variables_of (unplaced P)) x ≡ true) where
  held_is : (d : Document) (run : Run ℕ) → held d (trace x (with_marks p.auto k s run)) ≡ held d (trace_of p.auto (moves_of k x) s run)
  held_is d run = ap (held d) (owned_trace p.auto k x s run)

  -- the first run and the first match give the variable the same
  both_give : (d : Document) (run : Run ℕ) (bs : Environment) → run_bindings (variables_of (unplaced P)) d (with_marks p.auto k s run) ≡ bindings_in (variables_of (unplaced P)) bs
      → looked_up bs x ≡ Some (held d (trace_of p.auto (moves_of k x) s run))
  both_give d run bs same =
      sym (looked_up-in bs (variables_of (unplaced P)) x there) ∙ ap (λ (vs : Environment). looked_up vs x) (sym same)
      ∙ looked_up-run (variables_of (unplaced P)) d (with_marks p.auto k s run) x there ∙ ap (λ e. Some e) (held_is d run)

  pub prefers : (q : Automaton) (t : State) (e : Document) → is_proper e ≡ true → IsFirstGivenAlone q p (moves_of k x) t s [] e → Prefers E (Accepted q t) [] P x e
  prefers q t e proper g =
      let d = g.document in
      let vars = variables_of (unplaced P) in
      let given : option_map (bindings_in vars) (first E (unplaced P) d) ≡ Some (run_bindings vars d (with_marks p.auto k s g.run)) =
      sym (c.first_match d) ∙ ap (option_map (run_bindings vars d)) (first_marked (with_marks p.auto k s) (Numbered.runs p.auto d s) g.run g.first) in
      let m = mapped_some (bindings_in vars) (first E (unplaced P) d) (run_bindings vars d (with_marks p.auto k s g.run)) given in
      let is : looked_up m.0 x ≡ Some e = both_give d g.run m.0 (sym m.2) ∙ ap (λ w. Some w) g.gives in
      let comes : accepts q d t ≡ true = (alone_parts (accepts q d t) (accepts p.auto d s) g.alone).0 in
      (d, (g.proper proper, comes, tt), subst (λ (o : Option Environment). IsSomeAnd o (λ bs. looked_up bs x ≡ Some e)) (sym m.1) is)

  pub preferred : (q : Automaton) (t : State) (e : Document) → Prefers E (Accepted q t) [] P x e → IsFirstGivenAlone q p (moves_of k x) t s [] e
  preferred q t e w = go (first E (unplaced P) w.0) refl w.2
    where
      go : (o : Option Environment) → first E (unplaced P) w.0 ≡ o → IsSomeAnd o (λ bs. looked_up bs x ≡ Some e) → IsFirstGivenAlone q p (moves_of k x) t s [] e
      go None f h = absurd h
      go (Some bs) f h =
          let d = w.0 in
          let vars = variables_of (unplaced P) in
          let given : option_map (run_bindings vars d) (first_of (map (with_marks p.auto k s) (Numbered.runs p.auto d s))) ≡ Some (bindings_in vars bs) =
          c.first_match d ∙ ap (option_map (bindings_in vars)) f in
          let m = mapped_some (run_bindings vars d) (first_of (map (with_marks p.auto k s) (Numbered.runs p.auto d s))) (bindings_in vars bs) given in
          let z = some_first (with_marks p.auto k s) (Numbered.runs p.auto d s) m.0 m.1 in
          let same : run_bindings vars d (with_marks p.auto k s z.0) ≡ bindings_in vars bs = ap (run_bindings vars d) z.2 ∙ m.2 in
          let found : Some (held d (trace_of p.auto (moves_of k x) s z.0)) ≡ Some e = sym (both_give d z.0 bs same) ∙ h in
          let way = first_way E (unplaced P) d bs f in
          record {
            document = d;
            proper = λ _. (w.1).0;
            run = z.0;
            first = z.1;
            gives = one_some (held d (trace_of p.auto (moves_of k x) s z.0)) e found;
            alone = alone_joined (accepts q d t) (accepts p.auto d s) (w.1).1 ((c.accepts d).1 (way.0, way.1));
          }
        where
          one_some : (u v : Document) → ◌≡◌ {A = Option Document} (Some u) (Some v) → u ≡ v
          one_some u v q = cc
