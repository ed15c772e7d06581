-- Bindings in the order of the pattern's variables.
use Rattle.std.proofs.Common.{◌≡◌, ℕ, Bool, true, false, not, cond, ◌||◌, inl, inr, List, [], ◌∷◌, ◌++◌, map, Option, Some, None, refl, ap, sym, subst, ◌∙◌}
use Rattle.std.specs.Prelude.{option_map}
use Rattle.std.specs.List.{filter}
use Rattle.std.specs.Str.{bytes_eq}
use Rattle.std.proofs.lemmas.Slice.Eq.{bytes_eq-Decides}
use Rattle.std.proofs.lemmas.Bool.{or_left, or_right}
use Rattle.xd_doc.specs.Document.{Document}
use Rattle.xd_syntax.specs.Words.{has_word}
use Rattle.xd_syntax.specs.Tree.{occurrences}
use Rattle.xd_syntax.specs.Placed.{unplaced}
use Rattle.xd_syntax.specs.Ways.{unfoldings, Way}
use Rattle.xd_meaning.specs.FirstMatch.{first}
use Rattle.xd_syntax.specs.NameFaults.{without}
use Rattle.xd_syntax.proofs.NotLinear.{linearity_same}
use Rattle.xd_meaning.specs.Meaning.{Environment, looked_up}
use Rattle.xd_meaning.specs.Bindings.{each_once, variables_of, bound_to, bindings_in}
use Rattle.xd_syntax.specs.Program.{names_of}
use Rattle.xd_laws.specs.Laws.{BindingsAgree, BindingsAreInOrder}
use Rattle.xd_laws.proofs.Unfoldings.{same_word_eq}
use Rattle.xd_laws.proofs.WordLists.{either}
use Rattle.xd_laws.proofs.WayShapes.{IsWay, way_shape}
use Rattle.xd_laws.proofs.BoundVariables.{binds, binds_some, looked_up-binds, bound_in}
use Rattle.xd_laws.proofs.LinearPatterns.{left_without, binds_variables}
use Rattle.xd_laws.proofs.SuitsLemmas.{bind_nothing}
use Rattle.xd_laws.proofs.DecisionLemmas.{first_way}

-- a word is in the list of each once exactly where it is in the list
pub once_has : (xs : List (List ℕ)) (x : List ℕ) → has_word xs x ≡ true → has_word (each_once xs) x ≡ true
once_has [] x h = h
once_has (y ∷ ys) x h =
    elim (either (bytes_eq y x) (has_word ys x) h) [
      | inl a ↦ or_left (bytes_eq y x) (has_word (without (y ∷ []) (each_once ys)) x) a
      | inr b ↦
          or_right (bytes_eq y x) (has_word (without (y ∷ []) (each_once ys)) x)
          (left_without (y ∷ []) (each_once ys) x (once_has ys x b.1) (rw b.0 refl))
    ]

filter_has : (p : List ℕ → Bool) (xs : List (List ℕ)) (x : List ℕ) → has_word (filter p xs) x ≡ true → has_word xs x ≡ true
filter_has p [] x h = h
filter_has p (y ∷ ys) x h = go (p y) h (λ k. filter_has p ys x k)
  where
    go : (b : Bool) → has_word (cond b (y ∷ filter p ys) (filter p ys)) x ≡ true → (has_word (filter p ys) x ≡ true → has_word ys x ≡ true) → has_word (y ∷ ys) x ≡ true
    go true k rec =
        elim (either (bytes_eq y x) (has_word (filter p ys) x) k)
        [ inl a ↦ or_left (bytes_eq y x) (has_word ys x) a | inr b ↦ or_right (bytes_eq y x) (has_word ys x) (rec b.1) ]
    go false k rec = or_right (bytes_eq y x) (has_word ys x) (rec k)

pub has_once : (xs : List (List ℕ)) (x : List ℕ) → has_word (each_once xs) x ≡ true → has_word xs x ≡ true
has_once [] x h = h
has_once (y ∷ ys) x h =
    elim (either (bytes_eq y x) (has_word (without (y ∷ []) (each_once ys)) x) h) [
      | inl a ↦ or_left (bytes_eq y x) (has_word ys x) a
      | inr b ↦ or_right (bytes_eq y x) (has_word ys x) (has_once ys x (filter_has (λ z. not (has_word (y ∷ []) z)) (each_once ys) x b.1))
    ]

-- what is looked up among the bindings of these variables
looked_up-in : (vs : Environment) (xs : List (List ℕ)) (x : List ℕ) → looked_up (bindings_in xs vs) x ≡ cond (has_word xs x) (looked_up vs x) None
looked_up-in vs [] x = refl
looked_up-in vs (y ∷ ys) x = go (looked_up vs y) refl (bytes_eq y x) refl (looked_up-in vs ys x)
  where
    go : (o : Option Document) → looked_up vs y ≡ o → (b : Bool) → bytes_eq y x ≡ b → looked_up (bindings_in ys vs) x ≡ cond (has_word ys x) (looked_up vs x) None →
        looked_up (bound_to y o ++ bindings_in ys vs) x ≡ cond (b || has_word ys x) (looked_up vs x) None
    go None e true q rec =
        let n : looked_up vs x ≡ None = ap (looked_up vs) (sym (same_word_eq y x q)) ∙ e in
        rec ∙ ap (λ o. cond (has_word ys x) o None) n ∙ same_ends (has_word ys x) ∙ sym n
      where
        same_ends : (b : Bool) → cond {A = Option Document} b None None ≡ None
        same_ends true = refl
        same_ends false = refl
    go None e false q rec = rec
    go (Some d) e true q rec = rw q (sym (ap (looked_up vs) (sym (same_word_eq y x q)) ∙ e))
    go (Some d) e false q rec = rw q rec

mapped : {A B : Type 0} (f : A → B) (o : Option A) (a : A) (b : B) → o ≡ Some a → option_map f o ≡ Some b → f a ≡ b
mapped f None a b e k = absurd (cc)
mapped f (Some c) a b e k = let i : c ≡ a = cc in let j : f c ≡ b = cc in ap f (sym i) ∙ j

pub bindings_agree : BindingsAgree
bindings_agree P proper Q d vs ws e k x =
    subst (λ us. looked_up us x ≡ looked_up vs x) (mapped (bindings_in (variables_of Q)) (first (names_of P) Q d) vs ws e k)
    (looked_up-in vs (variables_of Q) x ∙ go (has_word (variables_of Q) x) refl (looked_up vs x) refl)
  where
    way : (w : Way) × IsWay (names_of P) Q d w × (w.bindings ≡ vs)
    way = let r = first_way (names_of P) Q d vs e in (r.0, way_shape (names_of P) (unfoldings (names_of P) d) Q d r.0 (r.1).0, r.2)

    go : (b : Bool) → has_word (variables_of Q) x ≡ b → (o : Option Document) → looked_up vs x ≡ o → cond b o None ≡ o
    go true h o q = refl
    go false h None q = refl
    go false h (Some c) q =
        let l : binds (way.0).bindings x ≡ true = subst (λ us. binds us x ≡ true) (sym way.2) (looked_up-binds vs x c q) in
        let m : has_word (variables_of Q) x ≡ true = once_has (occurrences Q) x (bound_in (names_of P) (bind_nothing P proper) way.1 x l) in
        absurd (cc)

in_order : (vs : Environment) (xs : List (List ℕ)) → ((x : List ℕ) → has_word xs x ≡ true → binds vs x ≡ true) → map (λ v. v.0) (bindings_in xs vs) ≡ xs
in_order vs [] h = refl
in_order vs (y ∷ ys) h =
    let r = binds_some vs y (h y (or_left (bytes_eq y y) (has_word ys y) ((bytes_eq-Decides y y).1 refl))) in
    ap (λ o. map (λ v. v.0) (bound_to y o ++ bindings_in ys vs)) r.1 ∙ ap (λ l. y ∷ l) (in_order vs ys (λ x k. h x (or_right (bytes_eq y x) (has_word ys x) k)))

pub bindings_in_order : BindingsAreInOrder
bindings_in_order E Q no_fault d ws k = by_first (first E (unplaced Q) d) refl k
  where
    by_first : (o : Option Environment) → first E (unplaced Q) d ≡ o → option_map (bindings_in (variables_of (unplaced Q))) o ≡ Some ws →
        map (λ v. v.0) ws ≡ variables_of (unplaced Q)
    by_first None e q = absurd (cc)
    by_first (Some vs) e q =
        let r = first_way E (unplaced Q) d vs e in
        let w = way_shape E (unfoldings E d) (unplaced Q) d r.0 (r.1).0 in
        let same : bindings_in (variables_of (unplaced Q)) vs ≡ ws = cc in
        subst (λ us. map (λ v. v.0) us ≡ variables_of (unplaced Q)) same
        (in_order vs (variables_of (unplaced Q))
        (λ x h. subst (λ us. binds us x ≡ true) r.2 (binds_variables E Q d r.0 (sym (linearity_same Q) ∙ no_fault) w x (has_once (occurrences (unplaced Q)) x h))))
