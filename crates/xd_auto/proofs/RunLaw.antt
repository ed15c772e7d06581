-- A state accepts a document exactly where it has an accepting run over it, and the list of runs
-- has just these.
use Rattle.std.proofs.Common.{ℕ, ◌≡◌, true, cond, List, [], ◌∷◌, map, subst}
use Rattle.std.specs.List.{Contains, flat_map, slice_get}
use Rattle.std.proofs.lemmas.Bool.{and_from}
use Rattle.std.proofs.lemmas.Map.Keys.{any_passes_from_place}
use Rattle.xd_doc.specs.Document.{Document, empty, text, element}
use Rattle.xd_doc.specs.Classes.{class_has}
use Rattle.xd_doc.proofs.Bools.{and_left, and_right}
use Rattle.xd_doc.specs.Runs.{Run, at_end, at_text, at_element}
use Rattle.xd_auto.specs.declared.auto.State.{State}
use Rattle.xd_auto.specs.declared.auto.LabelMove.{LabelMove}
use Rattle.xd_auto.specs.declared.auto.TextMove.{TextMove}
use Rattle.xd_auto.specs.Automaton.{takes_word, takes_element as takes_over, Automaton, accepts, moves_at}
use Rattle.xd_auto.specs.Runs.{IsAcceptingRun, AcceptsByRuns, RunsAreAccepting, runs}
use Rattle.xd_auto.proofs.Members.{in_cond, of_cond, in_each, of_each, in_flat, of_flat, in_map, of_map, first_in, only_in}
use Rattle.xd_auto.proofs.Anys.{found, IsSomeAnd-at, IsSomeAnd-parts}

run_of : (a : Automaton) (d : Document) (s : State) → accepts a d s ≡ true → (run : Run ℕ) × IsAcceptingRun a d s run
run_of a empty s e = (at_end, e)
run_of a (text t rest) s e =
    let f = found (takes_word a t rest) (moves_at a s).texts e in
    let r = run_of a rest f.item.rest (and_right (class_has f.item.words t) (accepts a rest f.item.rest) f.passes) in (
      at_text f.place r.0,
      IsSomeAnd-at (slice_get (moves_at a s).texts f.place) (λ (m : TextMove). (class_has m.words t ≡ true) × IsAcceptingRun a rest m.rest r.0) f.item f.there
          (and_left (class_has f.item.words t) (accepts a rest f.item.rest) f.passes, r.1),
    )
run_of a (element l content rest) s e =
    let f = found (takes_over a l content rest) (moves_at a s).labels e in
    let has = and_left (class_has f.item.class l) _ f.passes in
    let parts = and_right (class_has f.item.class l) _ f.passes in
    let c = run_of a content f.item.content (and_left (accepts a content f.item.content) _ parts) in
    let r = run_of a rest f.item.rest (and_right (accepts a content f.item.content) _ parts) in (
      at_element f.place c.0 r.0,
      IsSomeAnd-at (slice_get (moves_at a s).labels f.place)
          (λ (m : LabelMove). (class_has m.class l ≡ true) × IsAcceptingRun a content m.content c.0 × IsAcceptingRun a rest m.rest r.0) f.item f.there (has, c.1, r.1),
    )

accepted_by : (a : Automaton) (d : Document) (s : State) (run : Run ℕ) → IsAcceptingRun a d s run → accepts a d s ≡ true
accepted_by a empty s at_end h = h
accepted_by a empty s (at_text n r) h = absurd h
accepted_by a empty s (at_element n c r) h = absurd h
accepted_by a (text t rest) s at_end h = absurd h
accepted_by a (text t rest) s (at_text n r) h =
    let f = IsSomeAnd-parts (slice_get (moves_at a s).texts n) (λ (m : TextMove). (class_has m.words t ≡ true) × IsAcceptingRun a rest m.rest r) h in
    any_passes_from_place (takes_word a t rest) (moves_at a s).texts n f.item f.is
    (and_from (class_has f.item.words t) (accepts a rest f.item.rest) f.holds.0 (accepted_by a rest f.item.rest r f.holds.1))
accepted_by a (text t rest) s (at_element n c r) h = absurd h
accepted_by a (element l content rest) s at_end h = absurd h
accepted_by a (element l content rest) s (at_text n r) h = absurd h
accepted_by a (element l content rest) s (at_element n c r) h =
    let f = IsSomeAnd-parts (slice_get (moves_at a s).labels n)
    (λ (m : LabelMove). (class_has m.class l ≡ true) × IsAcceptingRun a content m.content c × IsAcceptingRun a rest m.rest r) h in
    any_passes_from_place (takes_over a l content rest) (moves_at a s).labels n f.item f.is
    (and_from (class_has f.item.class l) _ f.holds.0
    (and_from (accepts a content f.item.content) (accepts a rest f.item.rest)
    (accepted_by a content f.item.content c f.holds.1) (accepted_by a rest f.item.rest r f.holds.2)))

-- the runs over a text by one move
abbrev pub over_word : Automaton → List ℕ → Document → ℕ → TextMove → List (Run ℕ)
over_word a t rest n m = cond (class_has m.words t) (map (at_text n) (runs a rest m.rest)) []

-- the runs over an element by one move
abbrev pub over_label : Automaton → List ℕ → Document → Document → ℕ → LabelMove → List (Run ℕ)
over_label a l content rest n m = cond (class_has m.class l) (flat_map (λ c. map (at_element n c) (runs a rest m.rest)) (runs a content m.content)) []

listed : (a : Automaton) (d : Document) (s : State) (run : Run ℕ) → Contains (runs a d s) run → IsAcceptingRun a d s run
listed a empty s run c =
    let r = of_cond (moves_at a s).last (at_end ∷ []) run c in subst (IsAcceptingRun a empty s) (only_in at_end run r.1) r.0
listed a (text t rest) s run c =
    let r = of_each (over_word a t rest) (moves_at a s).texts run c in
    let b = of_cond (class_has (r.1).words t) _ run r.3 in
    let q = of_map (at_text r.0) (runs a rest (r.1).rest) run b.1 in
    subst (IsAcceptingRun a (text t rest) s) q.2
    (IsSomeAnd-at (slice_get (moves_at a s).texts r.0) (λ (m : TextMove). (class_has m.words t ≡ true) × IsAcceptingRun a rest m.rest q.0) r.1 r.2 (b.0, listed a rest (r.1).rest q.0 q.1))
listed a (element l content rest) s run c =
    let r = of_each (over_label a l content rest) (moves_at a s).labels run c in
    let b = of_cond (class_has (r.1).class l) _ run r.3 in
    let p = of_flat (λ k. map (at_element r.0 k) (runs a rest (r.1).rest)) (runs a content (r.1).content) run b.1 in
    let q = of_map (at_element r.0 p.0) (runs a rest (r.1).rest) run p.2 in
    subst (IsAcceptingRun a (element l content rest) s) q.2
    (IsSomeAnd-at (slice_get (moves_at a s).labels r.0)
    (λ (m : LabelMove). (class_has m.class l ≡ true) × IsAcceptingRun a content m.content p.0 × IsAcceptingRun a rest m.rest q.0) r.1 r.2
    (b.0, listed a content (r.1).content p.0 p.1, listed a rest (r.1).rest q.0 q.1))

in_list : (a : Automaton) (d : Document) (s : State) (run : Run ℕ) → IsAcceptingRun a d s run → Contains (runs a d s) run
in_list a empty s at_end h = in_cond (moves_at a s).last (at_end ∷ []) at_end h (first_in at_end [])
in_list a empty s (at_text n r) h = absurd h
in_list a empty s (at_element n c r) h = absurd h
in_list a (text t rest) s at_end h = absurd h
in_list a (text t rest) s (at_text n r) h =
    let f = IsSomeAnd-parts (slice_get (moves_at a s).texts n) (λ (m : TextMove). (class_has m.words t ≡ true) × IsAcceptingRun a rest m.rest r) h in
    in_each (over_word a t rest) (moves_at a s).texts n f.item (at_text n r) f.is
    (in_cond (class_has f.item.words t) _ (at_text n r) f.holds.0
    (in_map (at_text n) (runs a rest f.item.rest) r (in_list a rest f.item.rest r f.holds.1)))
in_list a (text t rest) s (at_element n c r) h = absurd h
in_list a (element l content rest) s at_end h = absurd h
in_list a (element l content rest) s (at_text n r) h = absurd h
in_list a (element l content rest) s (at_element n k r) h =
    let f = IsSomeAnd-parts (slice_get (moves_at a s).labels n)
    (λ (m : LabelMove). (class_has m.class l ≡ true) × IsAcceptingRun a content m.content k × IsAcceptingRun a rest m.rest r) h in
    in_each (over_label a l content rest) (moves_at a s).labels n f.item (at_element n k r) f.is
    (in_cond (class_has f.item.class l) _ (at_element n k r) f.holds.0
    (in_flat (λ q. map (at_element n q) (runs a rest f.item.rest)) (runs a content f.item.content) k (at_element n k r) (in_list a content f.item.content k f.holds.1)
    (in_map (at_element n k) (runs a rest f.item.rest) r (in_list a rest f.item.rest r f.holds.2))))

pub runs_are_accepting : (a : Automaton) (s : State) → RunsAreAccepting a s
runs_are_accepting a s d run = (listed a d s run, in_list a d s run)

pub runs_law : (a : Automaton) (s : State) → AcceptsByRuns a s
runs_law a s d = (λ e. run_of a d s e, λ r. accepted_by a d s r.0 r.1)
