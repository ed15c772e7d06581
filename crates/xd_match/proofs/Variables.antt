-- Variables, each once, and what is bound to them.
use Rattle.std.proofs.Common.{ℕ, suc, ◌≡◌, ◌<◌, Bool, true, false, not, ◌||◌, cond, List, [], ◌∷◌, length, get_or, Option, Some, None, Vec, option_map, arith, refl, sym, ap, subst, ◌∙◌}
use Rattle.std.specs.List.{AllByRecursion, IsDistinct, filter}
use Rattle.std.specs.Str.{bytes_eq}
use Rattle.xd_doc.specs.Document.{Document}
use Rattle.xd_doc.specs.Stored.{document_at}
use Rattle.xd_doc.specs.StoredSeq.{BelongsTo}
use Rattle.xd_doc.specs.declared.store.Seq.{Seq}
use Rattle.xd_doc.specs.Runs.{held}
use Rattle.xd_auto.specs.declared.auto.State.{State}
use Rattle.xd_auto.specs.Automaton.{Automaton}
use Rattle.xd_syntax.specs.Words.{has_word}
use Rattle.xd_meaning.specs.Bindings.{each_once}
use Rattle.xd_syntax.specs.NameFaults.{without}
use Rattle.xd_meaning.specs.Meaning.{Environment}
use Rattle.xd_pattern_runs.specs.Runs.{MarkedRun, trace}
use Rattle.xd_pattern_runs.specs.Laws.{run_bindings}
use Rattle.xd_patterns.specs.Marked.{Marking}
use Rattle.xd_patterns.specs.Variables.{words_of}
use Rattle.xd_patterns.proofs.VariableLemmas.{number_held}
use Rattle.xd_match.specs.First.{AreHeld, first_run, held_in}
use Rattle.xd_match.specs.Matches.{AreBindings, ScopeStands, environment_in, named}
use Rattle.xd_match.proofs.Taken.{AreMarked}

all_filter : {A : Type 0} (P : A → Type 0) (p : A → Bool) (ys : List A) → AllByRecursion P ys → AllByRecursion P (filter p ys)
all_filter P p [] h = tt
all_filter P p (y ∷ ys) h = go (p y) (all_filter P p ys h.1)
  where
    go : (b : Bool) → AllByRecursion P (filter p ys) → AllByRecursion P (cond b (y ∷ filter p ys) (filter p ys))
    go true r = (h.0, r)
    go false r = r

distinct_filter : (p : List ℕ → Bool) (ys : List (List ℕ)) → IsDistinct bytes_eq ys → IsDistinct bytes_eq (filter p ys)
unfolding IsDistinct
distinct_filter p [] h = h
distinct_filter p (y ∷ ys) h = go (p y) (distinct_filter p ys h.1)
  where
    go : (b : Bool) → IsDistinct bytes_eq (filter p ys) → IsDistinct bytes_eq (cond b (y ∷ filter p ys) (filter p ys))
    go true r = (all_filter (λ z. bytes_eq y z ≡ false) p ys h.0, r)
    go false r = r

others : (x : List ℕ) (ys : List (List ℕ)) → AllByRecursion (λ y. bytes_eq x y ≡ false) (without (x ∷ []) ys)
others x [] = tt
others x (y ∷ ys) = go (bytes_eq x y) refl (others x ys)
  where
    go : (b : Bool) → bytes_eq x y ≡ b → AllByRecursion (λ z. bytes_eq x z ≡ false) (without (x ∷ []) ys) →
        AllByRecursion (λ z. bytes_eq x z ≡ false) (cond (not (b || false)) (y ∷ without (x ∷ []) ys) (without (x ∷ []) ys))
    go true e r = r
    go false e r = (e, r)

pub once_distinct : (xs : List (List ℕ)) → IsDistinct bytes_eq (each_once xs)
unfolding IsDistinct
once_distinct [] = tt
once_distinct (x ∷ xs) = (others x (each_once xs), distinct_filter (λ z. not (has_word (x ∷ []) z)) (each_once xs) (once_distinct xs))

-- numbers of variables, and their words
pub marked_by : (vs : List (List ℕ)) → IsDistinct bytes_eq vs → (ms : List ℕ) (words : List (List ℕ)) → words_of vs ms ≡ words → AreMarked vs ms words
marked_by vs distinct ms words e x lt = number_held vs distinct x lt ms ∙ ap (λ (ws : List (List ℕ)). has_word ws (get_or vs x [])) e

named_is : (ds : List Document) (d : Document) (r : MarkedRun) (vs : List (List ℕ)) (bound : List Seq) → length bound ≡ length vs →
    ((x : ℕ) (e : Seq) → x < length vs → document_at ds (get_or bound x e) ≡ held d (trace (get_or vs x []) r)) → environment_in ds (named vs bound) ≡ run_bindings vs d r
named_is ds d r [] bound n h = refl
named_is ds d r (v ∷ vs) [] n h = absurd (omega arith)
named_is ds d r (v ∷ vs) (s ∷ bound) n h =
    ap (λ (z : Document). (v, z) ∷ environment_in ds (named vs bound)) (h 0 s (omega arith))
    ∙ ap (λ (z : Environment). (v, held d (trace v r)) ∷ z) (named_is ds d r vs bound (omega arith) (λ x e lt. h (suc x) e (omega arith)))

named_stands : (ds : List Document) (vs : List (List ℕ)) (bound : List Seq) → length bound ≡ length vs → ((x : ℕ) (e : Seq) → x < length vs → BelongsTo ds (get_or bound x e)) → ScopeStands ds (named vs bound)
named_stands ds [] bound n h = tt
named_stands ds (v ∷ vs) [] n h = tt
named_stands ds (v ∷ vs) (s ∷ bound) n h = (h 0 s (omega arith), named_stands ds vs bound (omega arith) (λ x e lt. h (suc x) e (omega arith)))

pub bindings_named : {S : Type 0} (a : Automaton) (k : Marking) (d : Document) (s : State) (vs : List (List ℕ)) (ds : List Document) (bound : List Seq) (pairs : Vec (List ℕ × Seq) S) →
    AreHeld a k d s vs ds bound → pairs.items ≡ named vs bound → AreBindings ds (option_map (run_bindings vs d) (first_run a k d s)) (Some pairs)
bindings_named {S = S} a k d s vs ds bound pairs h e =
    subst (λ (o : Option MarkedRun). AreBindings {S = S} ds (option_map (run_bindings vs d) o) (Some pairs)) (sym h.run.1) (
      ap (environment_in ds) e
          ∙ named_is ds d h.run.0 vs bound h.count (λ x f lt. h.bindings x f lt ∙ ap (held_in (get_or vs x []) d) h.run.1),
      subst (ScopeStands ds) (sym e) (named_stands ds vs bound h.count h.belong),
    )

pub nothing_bound : (S : Type 0) (a : Automaton) (k : Marking) (d : Document) (s : State) (vs : List (List ℕ)) (ds : List Document) → first_run a k d s ≡ None →
    AreBindings {S = S} ds (option_map (run_bindings vs d) (first_run a k d s)) None
nothing_bound S a k d s vs ds e = subst (λ (o : Option MarkedRun). AreBindings {S = S} ds (option_map (run_bindings vs d) o) None) (sym e) tt
