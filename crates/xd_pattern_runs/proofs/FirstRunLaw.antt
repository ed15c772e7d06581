-- Acceptance, and the first run.
use Rattle.xd_pattern_runs.specs.Laws.{first_of}
use Rattle.std.proofs.Common.{◌≡◌, ℕ, Bool, true, false, ◌&&◌, ◌||◌, cond, List, [], ◌∷◌, ◌++◌, map, flat_map, Option, Some, None, refl, ap, sym, ◌∙◌, inl}
use Rattle.std.specs.List.{list_any}
use Rattle.xd_doc.specs.Document.{Document, empty, text, element}
use Rattle.xd_doc.specs.Classes.{class_has}
use Rattle.xd_doc.specs.Runs.{at_end, at_text, at_element}
use Rattle.xd_doc.specs.Members.{IsOneOf}
use Rattle.xd_pattern_runs.specs.Runs.{TextMove, ElementMove, Moves, MarkedRun, text_runs, element_runs, runs_by}
use Rattle.xd_pattern_runs.specs.FirstRun.{accepts_by, text_then_run, element_then_run, first_over_text, first_over_element, first_by, AcceptsByRuns, FirstMovesFirst}

abbrev is_filled : List MarkedRun → Bool
is_filled [] = false
is_filled (r ∷ rs) = true

filled_append : (L M : List MarkedRun) → is_filled (L ++ M) ≡ (is_filled L || is_filled M)
filled_append [] M = refl
filled_append (r ∷ L) M = refl

filled_map : (f : MarkedRun → MarkedRun) (L : List MarkedRun) → is_filled (map f L) ≡ is_filled L
filled_map f [] = refl
filled_map f (r ∷ L) = refl

-- runs over a content and over what follows
filled_both : (f : MarkedRun → MarkedRun → MarkedRun) (L M : List MarkedRun) → is_filled (flat_map (λ k. map (f k) M) L) ≡ (is_filled L && is_filled M)
filled_both f [] M = refl
filled_both f (k ∷ L) [] = filled_both f L [] ∙ nothing (is_filled L)
  where
    nothing : (b : Bool) → (b && false) ≡ false
    nothing true = refl
    nothing false = refl
filled_both f (k ∷ L) (r ∷ M) = refl

filled_cond : (b : Bool) (L : List MarkedRun) → is_filled (cond b L []) ≡ (b && is_filled L)
filled_cond true L = refl
filled_cond false L = refl

filled_any : {A : Type 0} (f : A → List MarkedRun) (p : A → Bool) → ((x : A) → p x ≡ is_filled (f x)) → (xs : List A) → list_any p xs ≡ is_filled (flat_map f xs)
filled_any f p h [] = refl
filled_any f p h (x ∷ xs) =
    ap (λ b. b || list_any p xs) (h x) ∙ ap (λ b. is_filled (f x) || b) (filled_any f p h xs) ∙ sym (filled_append (f x) (flat_map f xs))

module _ {S : Type 0} (M : S → Moves S) where
  by_text_filled : (t : List ℕ) (d : Document) → ((s : S) → accepts_by M d s ≡ is_filled (runs_by M d s)) → (m : TextMove S) →
      (class_has m.words t && accepts_by M d m.rest) ≡ is_filled (text_runs (runs_by M d) t m)
  by_text_filled t d h m =
      ap (λ b. class_has m.words t && b) (h m.rest ∙ sym (filled_map (at_text m.marks) (runs_by M d m.rest)))
      ∙ sym (filled_cond (class_has m.words t) (map (at_text m.marks) (runs_by M d m.rest)))

  by_element_filled : (l : List ℕ) (c d : Document) → ((s : S) → accepts_by M c s ≡ is_filled (runs_by M c s)) → ((s : S) → accepts_by M d s ≡ is_filled (runs_by M d s)) → (m : ElementMove S) →
      (class_has m.class l && (accepts_by M c m.content && accepts_by M d m.rest)) ≡ is_filled (element_runs (runs_by M c) (runs_by M d) l m)
  by_element_filled l c d g h m =
      ap (λ b. class_has m.class l && (b && accepts_by M d m.rest)) (g m.content)
      ∙ ap (λ b. class_has m.class l && (is_filled (runs_by M c m.content) && b)) (h m.rest)
      ∙ ap (λ b. class_has m.class l && b) (sym (filled_both (at_element m.marks) (runs_by M c m.content) (runs_by M d m.rest)))
      ∙ sym (filled_cond (class_has m.class l) (flat_map (λ k. map (at_element m.marks k) (runs_by M d m.rest)) (runs_by M c m.content)))

  accepts_filled : (d : Document) (s : S) → accepts_by M d s ≡ is_filled (runs_by M d s)
  accepts_filled empty s = go (M s).last
    where
      go : (b : Bool) → b ≡ is_filled (cond b (at_end ∷ []) [])
      go true = refl
      go false = refl
  accepts_filled (text t d) s = filled_any (text_runs (runs_by M d) t) (λ m. class_has m.words t && accepts_by M d m.rest) (by_text_filled t d (accepts_filled d)) (M s).texts
  accepts_filled (element l c d) s =
      filled_any (element_runs (runs_by M c) (runs_by M d) l) (λ m. class_has m.class l && (accepts_by M c m.content && accepts_by M d m.rest))
      (by_element_filled l c d (accepts_filled c) (accepts_filled d)) (M s).elements

  -- the first of runs, by the first part that has any
  first_append : (L N : List MarkedRun) → first_of (L ++ N) ≡ cond (is_filled L) (first_of L) (first_of N)
  first_append [] N = refl
  first_append (r ∷ L) N = refl

  first_map : (xs : List (List ℕ)) (L : List MarkedRun) → text_then_run xs (first_of L) ≡ first_of (map (at_text xs) L)
  first_map xs [] = refl
  first_map xs (r ∷ L) = refl

  first_both : (xs : List (List ℕ)) (L N : List MarkedRun) → (is_filled L && is_filled N) ≡ true → element_then_run xs (first_of L) (first_of N) ≡ first_of (flat_map (λ k. map (at_element xs k) N) L)
  first_both xs [] N h = cc
  first_both xs (k ∷ L) [] h = cc
  first_both xs (k ∷ L) (r ∷ N) h = refl

  one_text : (t : List ℕ) (d : Document) → ((s : S) → first_by M d s ≡ first_of (runs_by M d s)) → (m : TextMove S) (o : Option MarkedRun) →
      cond (is_filled (text_runs (runs_by M d) t m)) (text_then_run m.marks (first_by M d m.rest)) o
      ≡ cond (is_filled (text_runs (runs_by M d) t m)) (first_of (text_runs (runs_by M d) t m)) o
  one_text t d h m o = go (class_has m.words t)
    where
      go : (b : Bool) → cond (is_filled (cond b (map (at_text m.marks) (runs_by M d m.rest)) [])) (text_then_run m.marks (first_by M d m.rest)) o
          ≡ cond (is_filled (cond b (map (at_text m.marks) (runs_by M d m.rest)) [])) (first_of (cond b (map (at_text m.marks) (runs_by M d m.rest)) [])) o
      go true = ap (λ p. cond (is_filled (map (at_text m.marks) (runs_by M d m.rest))) p o) (ap (text_then_run m.marks) (h m.rest) ∙ first_map m.marks (runs_by M d m.rest))
      go false = refl

  text_first : (t : List ℕ) (d : Document) → ((s : S) → first_by M d s ≡ first_of (runs_by M d s)) → (ms : List (TextMove S)) →
      first_over_text (accepts_by M d) (first_by M d) t ms ≡ first_of (flat_map (text_runs (runs_by M d) t) ms)
  text_first t d h [] = refl
  text_first t d h (m ∷ ms) =
      ap (λ b. cond b (text_then_run m.marks (first_by M d m.rest)) (first_over_text (accepts_by M d) (first_by M d) t ms)) (by_text_filled t d (accepts_filled d) m)
      ∙ one_text t d h m (first_over_text (accepts_by M d) (first_by M d) t ms)
      ∙ ap (λ o. cond (is_filled (text_runs (runs_by M d) t m)) (first_of (text_runs (runs_by M d) t m)) o) (text_first t d h ms)
      ∙ sym (first_append (text_runs (runs_by M d) t m) (flat_map (text_runs (runs_by M d) t) ms))

  one_element : (l : List ℕ) (c d : Document) → ((s : S) → first_by M c s ≡ first_of (runs_by M c s)) → ((s : S) → first_by M d s ≡ first_of (runs_by M d s)) → (m : ElementMove S) →
      (o : Option MarkedRun) → cond (is_filled (element_runs (runs_by M c) (runs_by M d) l m)) (element_then_run m.marks (first_by M c m.content) (first_by M d m.rest)) o
      ≡ cond (is_filled (element_runs (runs_by M c) (runs_by M d) l m)) (first_of (element_runs (runs_by M c) (runs_by M d) l m)) o
  one_element l c d g h m o = go (class_has m.class l) (is_filled (runs_by M c m.content) && is_filled (runs_by M d m.rest)) refl
    where
      both : List MarkedRun
      both = flat_map (λ k. map (at_element m.marks k) (runs_by M d m.rest)) (runs_by M c m.content)

      go : (b a : Bool) → (is_filled (runs_by M c m.content) && is_filled (runs_by M d m.rest)) ≡ a →
          cond (is_filled (cond b both [])) (element_then_run m.marks (first_by M c m.content) (first_by M d m.rest)) o ≡ cond (is_filled (cond b both [])) (first_of (cond b both [])) o
      go false a e = refl
      go true true e =
          ap (λ p. cond (is_filled both) p o)
          (ap (λ p. element_then_run m.marks p (first_by M d m.rest)) (g m.content) ∙ ap (element_then_run m.marks (first_of (runs_by M c m.content))) (h m.rest)
          ∙ first_both m.marks (runs_by M c m.content) (runs_by M d m.rest) e)
      go true false e =
          let f : is_filled both ≡ false = filled_both (at_element m.marks) (runs_by M c m.content) (runs_by M d m.rest) ∙ e in
          ap (λ b. cond b (element_then_run m.marks (first_by M c m.content) (first_by M d m.rest)) o) f ∙ sym (ap (λ b. cond b (first_of both) o) f)

  element_first : (l : List ℕ) (c d : Document) → ((s : S) → first_by M c s ≡ first_of (runs_by M c s)) → ((s : S) → first_by M d s ≡ first_of (runs_by M d s)) → (ms : List (ElementMove S)) →
      first_over_element (accepts_by M c) (first_by M c) (accepts_by M d) (first_by M d) l ms ≡ first_of (flat_map (element_runs (runs_by M c) (runs_by M d) l) ms)
  element_first l c d g h [] = refl
  element_first l c d g h (m ∷ ms) =
      ap (λ b. cond b (element_then_run m.marks (first_by M c m.content) (first_by M d m.rest)) (first_over_element (accepts_by M c) (first_by M c) (accepts_by M d) (first_by M d) l ms))
      (by_element_filled l c d (accepts_filled c) (accepts_filled d) m)
      ∙ one_element l c d g h m (first_over_element (accepts_by M c) (first_by M c) (accepts_by M d) (first_by M d) l ms)
      ∙ ap (λ o. cond (is_filled (element_runs (runs_by M c) (runs_by M d) l m)) (first_of (element_runs (runs_by M c) (runs_by M d) l m)) o) (element_first l c d g h ms)
      ∙ sym (first_append (element_runs (runs_by M c) (runs_by M d) l m) (flat_map (element_runs (runs_by M c) (runs_by M d) l) ms))

  first_is_first : (d : Document) (s : S) → first_by M d s ≡ first_of (runs_by M d s)
  first_is_first empty s = go (M s).last
    where
      go : (b : Bool) → cond b (Some at_end) None ≡ first_of (cond b (at_end ∷ []) [])
      go true = refl
      go false = refl
  first_is_first (text t d) s = text_first t d (first_is_first d) (M s).texts
  first_is_first (element l c d) s = element_first l c d (first_is_first c) (first_is_first d) (M s).elements

filled_run : (rs : List MarkedRun) → is_filled rs ≡ true → (r : MarkedRun) × IsOneOf r rs
filled_run [] h = cc
filled_run (r ∷ rs) h = (r, inl refl)

run_filled : (rs : List MarkedRun) (r : MarkedRun) → IsOneOf r rs → is_filled rs ≡ true
run_filled [] r m = absurd m
run_filled (q ∷ rs) r m = refl

pub accepts_by_runs : AcceptsByRuns
accepts_by_runs M d s =
    (λ h. filled_run (runs_by M d s) (sym (accepts_filled M d s) ∙ h), λ r. accepts_filled M d s ∙ run_filled (runs_by M d s) r.0 r.1)

pub first_moves_first : FirstMovesFirst
first_moves_first M d s = first_is_first M d s
