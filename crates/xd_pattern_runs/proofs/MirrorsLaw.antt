-- The runs from a state are those of what stands ahead of it.
use Rattle.xd_pattern_runs.proofs.Factor.{stop_there}
use Rattle.std.specs.List.{AllZip}
use Rattle.std.proofs.Common.{◌≡◌, ℕ, Bool, true, false, cond, List, [], ◌∷◌, map, flat_map, Some, ap, sym, ◌∙◌, refl, inl, inr}
use Rattle.xd_doc.specs.Document.{Document, empty, text, element}
use Rattle.xd_doc.specs.Classes.{class_has}
use Rattle.xd_doc.specs.Runs.{at_end, at_text, at_element}
use Rattle.xd_doc.specs.Members.{IsOneOf}
use Rattle.xd_syntax.specs.Tree.{Tree, Definitions}
use Rattle.xd_laws.specs.Guarded.{Guarded}
use Rattle.xd_pattern_runs.specs.Runs.{Continuation, start, TextMove, ElementMove, Moves, choices, texts_of, elements_of, text_runs, element_runs, runs_by, runs, Choice, stop, take_text, take_element, has_stop}
use Rattle.xd_pattern_runs.specs.Mirrors.{Ahead, SameText, SameElement, Mirrors, AreRunsOf, MirrorsRun}
use Rattle.xd_pattern_runs.specs.Linear.{BindNothing, IsLinear}
use Rattle.xd_pattern_runs.specs.Alike.{Alike}
use Rattle.xd_pattern_runs.proofs.Alike.{alike_refl, alike_same, alike_trans, alike_append, alike_flat, alike_each, alike_map}
use Rattle.xd_pattern_runs.proofs.RunsMean.{outcome, by_text, by_element, texts_flat, elements_flat}
use Rattle.xd_pattern_runs.proofs.TheLaws.{HoldWays, apart, runs_ways, first_is_first, run_is_way, way_is_run, run_where_fits}
use Rattle.xd_pattern_runs.proofs.TogetherLaw.{runs_keep_together}

zip_alike : {A B C : Type 0} (Q : A → B → Type 0) (f : A → List C) (g : B → List C) → ((x : A) (y : B) → Q x y → Alike (f x) (g y)) → (xs : List A) (ys : List B) → AllZip Q xs ys →
    Alike (flat_map f xs) (flat_map g ys)
zip_alike Q f g h [] [] a = alike_refl []
zip_alike Q f g h [] (y ∷ ys) a = absurd a
zip_alike Q f g h (x ∷ xs) [] a = absurd a
zip_alike Q f g h (x ∷ xs) (y ∷ ys) a = alike_append (h x y a.0) (zip_alike Q f g h xs ys a.1)

-- lists that are alike have a stop both, or none
stop_has : (cs : List Choice) → IsOneOf stop cs → has_stop cs ≡ true
stop_has [] m = absurd m
stop_has (stop ∷ cs) m = refl
stop_has (take_text w xs R ∷ cs) (inl e) = cc
stop_has (take_text w xs R ∷ cs) (inr m) = stop_has cs m
stop_has (take_element c C xs R ∷ cs) (inl e) = cc
stop_has (take_element c C xs R ∷ cs) (inr m) = stop_has cs m

same_stops : (cs ds : List Choice) → Alike cs ds → has_stop cs ≡ has_stop ds
same_stops cs ds a = go (has_stop cs) (has_stop ds) refl refl
  where
    go : (b c : Bool) → has_stop cs ≡ b → has_stop ds ≡ c → b ≡ c
    go true true e f = refl
    go false false e f = refl
    go true false e f = sym (stop_has ds (a.into stop (stop_there cs e))) ∙ f
    go false true e f = sym e ∙ stop_has cs (a.back stop (stop_there ds f))

module _ {S : Type 0} (E : Definitions) (M : S → Moves S) (A : Ahead S) (mirrors : Mirrors E M A) where
  text_alike : (t : List ℕ) (d : Document) → ((s : S) (K : Continuation) → A s ≡ Some K → Alike (runs_by M d s) (runs E d K)) → (m : TextMove S) (n : TextMove Continuation) → SameText A m n →
      Alike (text_runs (runs_by M d) t m) (text_runs (runs E d) t n)
  text_alike t d h m n q =
      alike_trans
      (alike_same (
      ap (λ w. cond (class_has w t) (map (at_text m.marks) (runs_by M d m.rest)) []) q.words
      ∙ ap (λ xs. cond (class_has n.words t) (map (at_text xs) (runs_by M d m.rest)) []) q.marks))
      (go (class_has n.words t))
    where
      go : (b : Bool) → Alike (cond b (map (at_text n.marks) (runs_by M d m.rest)) []) (cond b (map (at_text n.marks) (runs E d n.rest)) [])
      go true = alike_map (at_text n.marks) (h m.rest n.rest q.rest)
      go false = alike_refl []

  element_alike : (l : List ℕ) (k d : Document) → ((s : S) (K : Continuation) → A s ≡ Some K → Alike (runs_by M k s) (runs E k K)) →
      ((s : S) (K : Continuation) → A s ≡ Some K → Alike (runs_by M d s) (runs E d K)) → (m : ElementMove S) (n : ElementMove Continuation) → SameElement A m n →
      Alike (element_runs (runs_by M k) (runs_by M d) l m) (element_runs (runs E k) (runs E d) l n)
  element_alike l k d g h m n q =
      alike_trans
      (alike_same (
      ap (λ c. cond (class_has c l) (flat_map (λ r. map (at_element m.marks r) (runs_by M d m.rest)) (runs_by M k m.content)) []) q.class
      ∙ ap (λ xs. cond (class_has n.class l) (flat_map (λ r. map (at_element xs r) (runs_by M d m.rest)) (runs_by M k m.content)) []) q.marks))
      (go (class_has n.class l))
    where
      go : (b : Bool) → Alike (cond b (flat_map (λ r. map (at_element n.marks r) (runs_by M d m.rest)) (runs_by M k m.content)) [])
          (cond b (flat_map (λ r. map (at_element n.marks r) (runs E d n.rest)) (runs E k n.content)) [])
      go true =
          alike_trans (alike_flat (λ r. map (at_element n.marks r) (runs_by M d m.rest)) (g m.content n.content q.content))
          (alike_each (λ r. map (at_element n.marks r) (runs_by M d m.rest)) (λ r. map (at_element n.marks r) (runs E d n.rest)) (runs E k n.content)
          (λ r i. alike_map (at_element n.marks r) (h m.rest n.rest q.rest)))
      go false = alike_refl []

  runs_alike : (d : Document) (s : S) (K : Continuation) → A s ≡ Some K → Alike (runs_by M d s) (runs E d K)
  runs_alike empty s K e =
      let f = mirrors.found s K e in alike_same (ap (λ b. cond b (at_end ∷ []) []) (f.2.last ∙ same_stops f.0 (choices E K) f.1))
  runs_alike (text t d) s K e =
      let f = mirrors.found s K e in
      alike_trans
      (zip_alike (SameText A) (text_runs (runs_by M d) t) (text_runs (runs E d) t) (text_alike t d (λ z L i. runs_alike d z L i)) (M s).texts (texts_of f.0) f.2.texts)
      (alike_trans (alike_same (texts_flat (text_runs (runs E d) t) f.0))
      (alike_trans (alike_flat (by_text (text_runs (runs E d) t)) f.1) (alike_same (sym (texts_flat (text_runs (runs E d) t) (choices E K))))))
  runs_alike (element l k d) s K e =
      let f = mirrors.found s K e in
      alike_trans
      (zip_alike (SameElement A) (element_runs (runs_by M k) (runs_by M d) l) (element_runs (runs E k) (runs E d) l)
      (element_alike l k d (λ z L i. runs_alike k z L i) (λ z L i. runs_alike d z L i)) (M s).elements (elements_of f.0) f.2.elements)
      (alike_trans (alike_same (elements_flat (element_runs (runs E k) (runs E d) l) f.0))
      (alike_trans (alike_flat (by_element (element_runs (runs E k) (runs E d) l)) f.1) (alike_same (sym (elements_flat (element_runs (runs E k) (runs E d) l) (choices E K))))))

-- with states of any kind
pub mirrors_run_of : {S : Type 0} (E : Definitions) → Guarded E → BindNothing E → (P : Tree) → IsLinear P → (M : S → Moves S) (A : Ahead S) → Mirrors E M A →
    (s : S) → A s ≡ Some (start P) → AreRunsOf E P M s
mirrors_run_of E guarded none P l M A mirrors s e =
    let h : (d : Document) → HoldWays E P d (runs_by M d s) =
    λ d. alike_trans (alike_map (outcome d) (runs_alike E M A mirrors d s (start P) e)) (runs_ways E guarded none P (apart P l) d) in
    record {
      first_match = λ d. first_is_first E guarded none P l d (runs_by M d s) (h d);
      ways = λ d. run_is_way E guarded none P l d (runs_by M d s) (h d);
      runs = λ d. way_is_run E guarded none P l d (runs_by M d s) (h d);
      fits = λ d. run_where_fits E guarded none P l d (runs_by M d s) (h d);
      together = λ d r m. runs_keep_together E none P l d r ((runs_alike E M A mirrors d s (start P) e).into r m);
    }

pub mirrors_run : MirrorsRun
mirrors_run E guarded none P l M A mirrors s e = mirrors_run_of E guarded none P l M A mirrors s e
