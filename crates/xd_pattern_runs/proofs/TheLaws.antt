-- The laws of runs.
use Rattle.xd_doc.proofs.Joins.{join_empty-right}
use Rattle.xd_laws.proofs.OrderedBindings.{has_once}
use Rattle.xd_meaning.specs.Bindings.{variables_of, first_bindings, bindings_in, bound_to}
use Rattle.std.specs.Prelude.{option_map}
use Rattle.std.proofs.Common.{◌≡◌, ◌↔◌, ℕ, Bool, true, false, cond, List, [], ◌∷◌, ◌++◌, map, flat_map, Option, Some, None, refl, ap, sym, subst, ◌∙◌, inl, inr, ◌||◌}
use Rattle.std.specs.Str.{bytes_eq}
use Rattle.std.proofs.lemmas.Slice.Eq.{bytes_eq-Decides}
use Rattle.xd_doc.specs.Document.{Document, empty}
use Rattle.xd_doc.specs.Runs.{held}
use Rattle.xd_doc.specs.Members.{IsOneOf}
use Rattle.xd_syntax.specs.Words.{has_word}
use Rattle.xd_syntax.specs.Tree.{Tree, Empty, Text, Words, Name, Elem, Seq, Alt, Star, Plus, Opt, Val, Definitions, occurrences}
use Rattle.xd_laws.specs.Laws.{bare}
use Rattle.xd_syntax.specs.Fits.{Fits}
use Rattle.xd_syntax.specs.Ways.{Way, IsWholeWay, is_whole, ways}
use Rattle.xd_meaning.specs.FirstMatch.{first, first_whole}
use Rattle.xd_laws.specs.Guarded.{Guarded}
use Rattle.xd_meaning.specs.Meaning.{looked_up}
use Rattle.xd_laws.proofs.Bare.{fits_bare, bare_fits}
use Rattle.xd_syntax.proofs.Members.{mem_flat, flat_mem, mem_map, map_mem, cond_true}
use Rattle.xd_laws.proofs.Unfoldings.{takes_fits, fits_takes}
use Rattle.xd_laws.proofs.FitsWays.{cond_in}
use Rattle.xd_pattern_runs.specs.Runs.{MarkedRun, runs, start, trace}
use Rattle.xd_pattern_runs.specs.Linear.{BindNothing, IsApart, IsLinear, given, joined}
use Rattle.xd_pattern_runs.specs.Laws.{Agree, GivenOnce, GivenNever, FirstRunIsFirstMatch, RunsAreWays, WaysAreRuns, RunsDecide, run_bindings, first_of}
use Rattle.xd_pattern_runs.specs.Alike.{Holding, Alike, pick}
use Rattle.xd_pattern_runs.proofs.Alike.{alike_trans, alike_same, flat_of_map}
use Rattle.xd_pattern_runs.proofs.Means.{means_one, share, nothing_left}
use Rattle.xd_pattern_runs.proofs.Bindings.{bound_once, unbound}
use Rattle.xd_pattern_runs.proofs.Factor.{piece, apart_none}
use Rattle.xd_pattern_runs.proofs.RunsMean.{done, outcome, runs_mean, fine_start}

-- where variables occur again, though not within their own binders, the run gives all that is bound
-- to them, joined
abbrev AgreeJoined : Document → MarkedRun → List (List ℕ × Document) → Type 0
AgreeJoined d r bs = (x : List ℕ) → joined (given x bs) ≡ held d (trace x r)

abbrev FirstAgreeJoined : Document → List MarkedRun → Option (List (List ℕ × Document)) → Type 0
FirstAgreeJoined d [] None = Unit {0}
FirstAgreeJoined d [] (Some bs) = ⊥
FirstAgreeJoined d (r ∷ rs) None = ⊥
FirstAgreeJoined d (r ∷ rs) (Some bs) = AgreeJoined d r bs

-- there is a first run exactly where there is a first match, and they agree
abbrev FirstAgree : List (List ℕ) → Document → List MarkedRun → Option (List (List ℕ × Document)) → Type 0
FirstAgree xs d [] None = Unit {0}
FirstAgree xs d [] (Some bs) = ⊥
FirstAgree xs d (r ∷ rs) None = ⊥
FirstAgree xs d (r ∷ rs) (Some bs) = Agree xs d r bs

pub apart : (T : Tree) → IsLinear T → IsApart T
apart Empty l = tt
apart Text l = tt
apart (Words w) l = tt
apart (Name x) l = tt
apart (Elem c T) l = apart T l
apart (Seq T U) l = (apart T l.0, apart U l.1)
apart (Alt T U) l = (apart T l.0, apart U l.1)
apart (Star T) l = apart_none T l
apart (Plus T) l = apart_none T l
apart (Opt T) l = apart_none T l
apart (Val x T) l = (l.0, apart T l.1)

abbrev pub gives : List (List ℕ × Document) → Holding
gives bs = λ x. joined (given x bs)

abbrev pub whole_one : Way → List Holding
whole_one w = cond (is_whole w) (gives w.bindings ∷ []) []

-- the runs of a pattern, and what its whole ways bind
pub runs_ways : (E : Definitions) → Guarded E → BindNothing E → (P : Tree) → IsApart P → (d : Document) → Alike (map (outcome d) (runs E d (start P))) (flat_map whole_one (ways E P d))
runs_ways E guarded none P a d =
    alike_trans (runs_mean E guarded none d (start P) (fine_start P a))
    (alike_same (ap done (means_one E (piece [] P) d) ∙ flat_of_map (λ v. cond (nothing_left v) (v.holds ∷ []) []) (share []) (ways E P d)))

abbrev gives_some : Option (List (List ℕ × Document)) → Option Holding
gives_some None = None
gives_some (Some bs) = Some (gives bs)

pick_whole : (ws : List Way) → pick (λ h. Some h) (flat_map whole_one ws) ≡ gives_some (first_whole ws)
pick_whole [] = refl
pick_whole (w ∷ ws) = go (is_whole w) (pick_whole ws)
  where
    go : (b : Bool) → pick (λ h. Some h) (flat_map whole_one ws) ≡ gives_some (first_whole ws) →
        pick (λ h. Some h) (cond b (gives w.bindings ∷ []) [] ++ flat_map whole_one ws) ≡ gives_some (cond b (Some w.bindings) (first_whole ws))
    go true e = refl
    go false e = e

abbrev or_nothing : Option Holding → Holding
or_nothing None = λ x. empty
or_nothing (Some h) = h

first_joined : (d : Document) (rs : List MarkedRun) (o : Option (List (List ℕ × Document))) → pick (λ h. Some h) (map (outcome d) rs) ≡ gives_some o → FirstAgreeJoined d rs o
first_joined d [] None e = tt
first_joined d [] (Some bs) e = cc
first_joined d (r ∷ rs) None e = cc
first_joined d (r ∷ rs) (Some bs) e = λ x. sym (ap (λ o. or_nothing o x) e)

-- runs that hold what the whole ways give
abbrev pub HoldWays : Definitions → Tree → Document → List MarkedRun → Type 0
HoldWays E P d rs = Alike (map (outcome d) rs) (flat_map whole_one (ways E P d))

first_of_apart : (E : Definitions) (P : Tree) (d : Document) (rs : List MarkedRun) → HoldWays E P d rs → FirstAgreeJoined d rs (first E P d)
first_of_apart E P d rs h = first_joined d rs (first E P d) (h.first (λ k. Some k) ∙ pick_whole (ways E P d))

-- a single document, joined, is that document
one_joined : (ds : List Document) (e h : Document) → ds ≡ e ∷ [] → joined ds ≡ h → ds ≡ h ∷ []
one_joined ds e h i j = i ∙ ap (λ z. z ∷ []) (sym (join_empty-right e) ∙ sym (ap joined i) ∙ j)

agrees : (E : Definitions) → BindNothing E → (P : Tree) → IsLinear P → (d : Document) (r : MarkedRun) (w : Way) → IsOneOf w (ways E P d) → AgreeJoined d r w.bindings → Agree (occurrences P) d r w.bindings
agrees E none P l d r w m h x = go (has_word (occurrences P) x) refl
  where
    go : (b : Bool) → has_word (occurrences P) x ≡ b → given x w.bindings ≡ cond b (held d (trace x r) ∷ []) []
    go true k = let i = bound_once E none P l x k d w m in one_joined (given x w.bindings) i.0 (held d (trace x r)) i.1 (h x)
    go false k = unbound E none P x k d w m

-- bindings of a variable, looked up and listed

pub given_never : GivenNever
given_never x [] h = (refl, λ f m. m)
given_never x (b ∷ bs) h = go (bytes_eq b.0 x) refl h (given_never x bs)
  where
    go : (t : Bool) → bytes_eq b.0 x ≡ t → cond t (b.1 ∷ given x bs) (given x bs) ≡ [] → (given x bs ≡ [] → (looked_up bs x ≡ None) × ((f : Document) → IsOneOf (x, f) bs → ⊥)) →
        (cond t (Some b.1) (looked_up bs x) ≡ None) × ((f : Document) → IsOneOf (x, f) (b ∷ bs) → ⊥)
    go true e k rec = cc
    go false e k rec = let r = rec k in (r.0, λ f m. other f m r.1)
      where
        other : (f : Document) → IsOneOf (x, f) (b ∷ bs) → ((g : Document) → IsOneOf (x, g) bs → ⊥) → ⊥
        other f (inl i) n = let s : bytes_eq b.0 x ≡ true = (bytes_eq-Decides b.0 x).1 (ap (λ (q : List ℕ × Document). q.0) i) in cc
        other f (inr m) n = n f m

pub given_once : GivenOnce
given_once x [] e h = cc
given_once x (b ∷ bs) e h = go (bytes_eq b.0 x) refl h (given_once x bs e)
  where
    first_of : (ds : List Document) → b.1 ∷ ds ≡ e ∷ [] → (b.1 ≡ e) × (ds ≡ [])
    first_of ds k = (cc, cc)

    go : (t : Bool) → bytes_eq b.0 x ≡ t → cond t (b.1 ∷ given x bs) (given x bs) ≡ e ∷ [] →
        (given x bs ≡ e ∷ [] → (looked_up bs x ≡ Some e) × ((f : Document) → IsOneOf (x, f) bs ↔ (f ≡ e))) →
        (cond t (Some b.1) (looked_up bs x) ≡ Some e) × ((f : Document) → IsOneOf (x, f) (b ∷ bs) ↔ (f ≡ e))
    go true q k rec =
        let s = first_of (given x bs) k in
        let n = given_never x bs s.1 in
        (ap Some s.0, λ f. (λ m. here f m s.0 n.1, λ i. inl (ap (λ z. (z, b.1)) ((bytes_eq-Decides b.0 x).0 q) ∙ ap (λ z. (x, z)) (s.0 ∙ sym i))))
      where
        here : (f : Document) → IsOneOf (x, f) (b ∷ bs) → b.1 ≡ e → ((g : Document) → IsOneOf (x, g) bs → ⊥) → f ≡ e
        here f (inl i) s n = sym (ap (λ (z : List ℕ × Document). z.1) i) ∙ s
        here f (inr m) s n = absurd (n f m)
    go false q k rec =
        let r = rec k in (r.0, λ f. (λ m. there f m (r.1 f).0, λ i. inr ((r.1 f).1 i)))
      where
        there : (f : Document) → IsOneOf (x, f) (b ∷ bs) → (IsOneOf (x, f) bs → f ≡ e) → f ≡ e
        there f (inl i) n = let s : bytes_eq b.0 x ≡ true = (bytes_eq-Decides b.0 x).1 (ap (λ (z : List ℕ × Document). z.0) i) in cc
        there f (inr m) n = n m

first_is_way : (ws : List Way) (bs : List (List ℕ × Document)) → first_whole ws ≡ Some bs → (w : Way) × IsOneOf w ws × (w.bindings ≡ bs)
first_is_way [] bs e = cc
first_is_way (w ∷ ws) bs e = go (is_whole w) e (first_is_way ws bs)
  where
    go : (b : Bool) → cond b (Some w.bindings) (first_whole ws) ≡ Some bs → (first_whole ws ≡ Some bs → (v : Way) × IsOneOf v ws × (v.bindings ≡ bs)) →
        (v : Way) × IsOneOf v (w ∷ ws) × (v.bindings ≡ bs)
    go true k rec = (w, inl refl, cc)
    go false k rec = let r = rec k in (r.0, inr r.1, r.2)

first_agree : (E : Definitions) → BindNothing E → (P : Tree) → IsLinear P → (d : Document) (rs : List MarkedRun) (o : Option (List (List ℕ × Document))) → first E P d ≡ o →
    FirstAgreeJoined d rs o → FirstAgree (occurrences P) d rs o
first_agree E none P l d [] None e h = tt
first_agree E none P l d [] (Some bs) e h = h
first_agree E none P l d (r ∷ rs) None e h = h
first_agree E none P l d (r ∷ rs) (Some bs) e h =
    let q = first_is_way (ways E P d) bs e in
    subst (Agree (occurrences P) d r) q.2 (agrees E none P l d r q.0 q.1 (subst (AgreeJoined d r) (sym q.2) h))

-- each variable as the run gives it, in order
in_order : (P : Tree) (d : Document) (r : MarkedRun) (bs : List (List ℕ × Document)) → Agree (occurrences P) d r bs → (xs : List (List ℕ)) →
    ((x : List ℕ) → has_word xs x ≡ true → has_word (occurrences P) x ≡ true) → run_bindings xs d r ≡ bindings_in xs bs
in_order P d r bs a [] h = refl
in_order P d r bs a (x ∷ xs) h =
    let there : has_word (occurrences P) x ≡ true = h x (ap (λ b. b || has_word xs x) ((bytes_eq-Decides x x).1 refl)) in
    let given_x : given x bs ≡ held d (trace x r) ∷ [] = a x ∙ ap (λ b. cond b (held d (trace x r) ∷ []) []) there in
    let found : looked_up bs x ≡ Some (held d (trace x r)) = (given_once x bs (held d (trace x r)) given_x).0 in
    ap (λ z. (x, held d (trace x r)) ∷ z) (in_order P d r bs a xs (λ y k. h y (or_true (bytes_eq x y) (has_word xs y) k)))
    ∙ ap (λ o. bound_to x o ++ bindings_in xs bs) (sym found)
  where
    or_true : (b c : Bool) → c ≡ true → (b || c) ≡ true
    or_true true c e = refl
    or_true false c e = e

first_binds : (E : Definitions) (P : Tree) (d : Document) (rs : List MarkedRun) (o : Option (List (List ℕ × Document))) → FirstAgree (occurrences P) d rs o →
    option_map (run_bindings (variables_of P) d) (first_of rs) ≡ option_map (bindings_in (variables_of P)) o
first_binds E P d [] None a = refl
first_binds E P d [] (Some bs) a = absurd a
first_binds E P d (r ∷ rs) None a = absurd a
first_binds E P d (r ∷ rs) (Some bs) a = ap (λ z. Some z) (in_order P d r bs a (variables_of P) (has_once (occurrences P)))

-- for a linear pattern
module _ (E : Definitions) (guarded : Guarded E) (none : BindNothing E) (P : Tree) (l : IsLinear P) (d : Document) (rs : List MarkedRun) (h : HoldWays E P d rs) where
  pub first_is_first : option_map (run_bindings (variables_of P) d) (first_of rs) ≡ first_bindings E P d
  first_is_first = first_binds E P d rs (first E P d) (first_agree E none P l d rs (first E P d) refl (first_of_apart E P d rs h))

  pub run_is_way : (r : MarkedRun) → IsOneOf r rs → (w : Way) × IsWholeWay E P d w × Agree (occurrences P) d r w.bindings
  run_is_way r m =
      let q = mem_flat whole_one (outcome d r) (ways E P d) (h.into (outcome d r) (map_mem (outcome d) r rs m)) in
      let c = cond_true (is_whole q.0) (outcome d r) _ q.2 in
      (q.0, (q.1, c.0), agrees E none P l d r q.0 q.1 (same q.0 c.1))
    where
      same : (w : Way) → IsOneOf (outcome d r) (gives w.bindings ∷ []) → AgreeJoined d r w.bindings
      same w (inl e) = λ x. ap (λ (k : Holding). k x) e
      same w (inr o) = absurd o

  pub way_is_run : (w : Way) → IsWholeWay E P d w → (r : MarkedRun) × IsOneOf r rs × Agree (occurrences P) d r w.bindings
  way_is_run w m =
      let i = flat_mem whole_one (gives w.bindings) w (ways E P d) m.0 (cond_in (is_whole w) (gives w.bindings) (gives w.bindings ∷ []) m.1 (inl refl)) in
      let q = mem_map (outcome d) (gives w.bindings) rs (h.back (gives w.bindings) i) in
      (q.0, q.1, agrees E none P l d q.0 w m.0 (λ x. sym (ap (λ (k : Holding). k x) q.2)))

  pub run_where_fits : ((r : MarkedRun) × IsOneOf r rs) ↔ Fits E (bare P) d
  run_where_fits = (
    λ t. let q = run_is_way t.0 t.1 in fits_bare E (takes_fits E P d (q.0, q.1)),
    λ f. let t = fits_takes E guarded P d (bare_fits E P d f) in let q = way_is_run t.0 t.1 in (q.0, q.1),
  )

pub first_run_is_first_match : FirstRunIsFirstMatch
first_run_is_first_match E guarded none P l d = first_is_first E guarded none P l d (runs E d (start P)) (runs_ways E guarded none P (apart P l) d)

pub runs_are_ways : RunsAreWays
runs_are_ways E guarded none P l d = run_is_way E guarded none P l d (runs E d (start P)) (runs_ways E guarded none P (apart P l) d)

pub ways_are_runs : WaysAreRuns
ways_are_runs E guarded none P l d = way_is_run E guarded none P l d (runs E d (start P)) (runs_ways E guarded none P (apart P l) d)

pub runs_decide : RunsDecide
runs_decide E guarded none P l d = run_where_fits E guarded none P l d (runs E d (start P)) (runs_ways E guarded none P (apart P l) d)
