-- A pattern without faults of linearity is linear.
use Rattle.std.proofs.Common.{◌≡◌, ℕ, Bool, true, false, not, cond, ◌&&◌, ◌||◌, List, [], ◌∷◌, ◌++◌, refl, ap, sym, subst, ◌∙◌}
use Rattle.std.specs.List.{filter}
use Rattle.std.specs.Str.{bytes_eq}
use Rattle.std.proofs.lemmas.Slice.Eq.{bytes_eq-Decides}
use Rattle.std.proofs.lemmas.Bool.{or_parts}
use Rattle.xd_base.specs.declared.Place.{Place}
use Rattle.xd_doc.proofs.Bools.{and_parts}
use Rattle.xd_doc.proofs.Lists.{append_none_parts}
use Rattle.xd_syntax.specs.Words.{has_word}
use Rattle.xd_syntax.specs.Placed.{PlacedTree, Empty_at, Text_at, Words_at, Name_at, Elem_at, Seq_at, Alt_at, Star_at, Plus_at, Opt_at, Val_at, unplaced, variables}
use Rattle.xd_syntax.specs.NameFaults.{fault_if, in_each_branch, lacking_somewhere, without, linearity_faults, unknown_types}
use Rattle.xd_syntax.specs.NotLinear.{not_linear}
use Rattle.xd_syntax.proofs.NotLinear.{linearity_same, has_word_both}
use Rattle.xd_syntax.specs.declared.fault.FaultKind.TheVariants.{NotLinear}
use Rattle.xd_syntax.specs.Tree.{occurrences}
use Rattle.xd_syntax.proofs.Words.{filter_at}
use Rattle.xd_laws.proofs.LinearPatterns.{no_fault_if}
use Rattle.xd_laws.proofs.WordLists.{has_word_left, has_word_right}
use Rattle.xd_pattern_runs.specs.Linear.{IsLinear}
use Rattle.xd_pattern_runs.specs.Laws.{NoFaultIsLinear}
use Rattle.xd_pattern_runs.proofs.Bindings.{in_neither}

has_word_filter : (p : List ℕ → Bool) (xs : List (List ℕ)) (w : List ℕ) → has_word (filter p xs) w ≡ (p w && has_word xs w)
has_word_filter p [] w = and_false (p w)
  where
    and_false : (b : Bool) → false ≡ (b && false)
    and_false true = refl
    and_false false = refl
has_word_filter p (x ∷ xs) w = filter_at p x w xs (has_word_filter p xs w) (p x) (bytes_eq x w) refl refl

has_word_without : (gone xs : List (List ℕ)) (w : List ℕ) → has_word gone w ≡ false → has_word (without gone xs) w ≡ has_word xs w
has_word_without gone xs w h = has_word_filter (λ x. not (has_word gone x)) xs w ∙ ap (λ b. not b && has_word xs w) h

variables_unplaced : (P : PlacedTree) → occurrences (unplaced P) ≡ variables P
variables_unplaced (Empty_at p) = refl
variables_unplaced (Text_at p) = refl
variables_unplaced (Words_at p k) = refl
variables_unplaced (Name_at p x) = refl
variables_unplaced (Elem_at p c T) = variables_unplaced T
variables_unplaced (Seq_at p T U) = ap (λ xs. xs ++ occurrences (unplaced U)) (variables_unplaced T) ∙ ap (λ xs. variables T ++ xs) (variables_unplaced U)
variables_unplaced (Alt_at p T U) = ap (λ xs. xs ++ occurrences (unplaced U)) (variables_unplaced T) ∙ ap (λ xs. variables T ++ xs) (variables_unplaced U)
variables_unplaced (Star_at p T) = variables_unplaced T
variables_unplaced (Plus_at p T) = variables_unplaced T
variables_unplaced (Opt_at p T) = variables_unplaced T
variables_unplaced (Val_at p x q T) = ap (λ xs. x ∷ xs) (variables_unplaced T)

or_second : (a b : Bool) → (a || b) ≡ true → a ≡ false → b ≡ true
or_second true b h e = cc
or_second false b h e = h

-- a word of two lists is in the first, or in the second alone
in_either : (xs ys : List (List ℕ)) (x : List ℕ) → has_word (xs ++ ys) x ≡ true → (P : Type 0) → (has_word xs x ≡ true → P) → (has_word xs x ≡ false → has_word ys x ≡ true → P) → P
in_either xs ys x h P f g = go (has_word xs x) refl
  where
    go : (b : Bool) → has_word xs x ≡ b → P
    go true e = f e
    go false e = g e (or_second _ _ (sym (has_word_both xs ys x) ∙ h) e)

-- the variable of a binder, or one inside
of_binder : (y : List ℕ) (xs : List (List ℕ)) (x : List ℕ) → has_word (y ∷ xs) x ≡ true → (P : Type 0) → (y ≡ x → P) → (bytes_eq y x ≡ false → has_word xs x ≡ true → P) → P
of_binder y xs x h P f g = go (bytes_eq y x) refl
  where
    go : (b : Bool) → bytes_eq y x ≡ b → P
    go true e = f ((bytes_eq-Decides y x).0 e)
    go false e = g e (or_second _ _ h e)

-- a binder's own fault is missing
free_binder : (r : Bool) (earlier partial : List (List ℕ)) (y : List ℕ) (q : Place) → fault_if (r || (has_word earlier y || has_word partial y)) q (NotLinear y) ≡ [] →
    (r ≡ false) × (has_word earlier y ≡ false) × (has_word partial y ≡ false)
free_binder r earlier partial y q e =
    let a = or_parts r (has_word earlier y || has_word partial y) (no_fault_if _ q (NotLinear y) e) in
    let b = or_parts (has_word earlier y) (has_word partial y) a.1 in (a.0, b.0, b.1)

-- no variable occurred before
earlier_free : (T : PlacedTree) (r : Bool) (earlier partial : List (List ℕ)) (inner : Bool) → not_linear r earlier partial inner T ≡ [] →
    (x : List ℕ) → has_word (variables T) x ≡ true → has_word earlier x ≡ false
earlier_free (Empty_at p) r earlier partial inner e x h = cc
earlier_free (Text_at p) r earlier partial inner e x h = cc
earlier_free (Words_at p k) r earlier partial inner e x h = cc
earlier_free (Name_at p y) r earlier partial inner e x h = cc
earlier_free (Elem_at p c T) r earlier partial inner e x h = earlier_free T r earlier partial false e x h
earlier_free (Seq_at p T U) r earlier partial inner e x h =
    let k = append_none_parts (not_linear r earlier partial false T) _ e in
    in_either (variables T) (variables U) x h (has_word earlier x ≡ false) (λ a. earlier_free T r earlier partial false k.0 x a)
    (λ a b. (in_neither (variables T) earlier x (earlier_free U r (variables T ++ earlier) (without (variables T) partial) false k.1 x b)).1)
earlier_free (Alt_at p T U) r earlier partial inner e x h =
    let k = append_none_parts (not_linear r earlier (cond inner partial (lacking_somewhere (Alt_at p T U) ++ partial)) false T) _ e in
    in_either (variables T) (variables U) x h (has_word earlier x ≡ false) (λ a. earlier_free T r earlier _ false k.0 x a) (λ a b. earlier_free U r earlier _ true k.1 x b)
earlier_free (Star_at p T) r earlier partial inner e x h = earlier_free T true earlier partial false e x h
earlier_free (Plus_at p T) r earlier partial inner e x h = earlier_free T true earlier partial false e x h
earlier_free (Opt_at p T) r earlier partial inner e x h = earlier_free T true earlier partial false e x h
earlier_free (Val_at p y q T) r earlier partial inner e x h =
    let k = append_none_parts (fault_if (r || (has_word earlier y || has_word partial y)) q (NotLinear y)) _ e in
    of_binder y (variables T) x h (has_word earlier x ≡ false) (λ s. subst (λ z. has_word earlier z ≡ false) s (free_binder r earlier partial y q k.0).1)
    (λ a b. (or_parts (bytes_eq y x) (has_word earlier x) (earlier_free T r (y ∷ earlier) (without (y ∷ []) partial) false k.1 x b)).1)

-- no variable is lacking in a branch around
partial_free : (T : PlacedTree) (r : Bool) (earlier partial : List (List ℕ)) (inner : Bool) → not_linear r earlier partial inner T ≡ [] →
    (x : List ℕ) → has_word (variables T) x ≡ true → has_word partial x ≡ false
partial_free (Empty_at p) r earlier partial inner e x h = cc
partial_free (Text_at p) r earlier partial inner e x h = cc
partial_free (Words_at p k) r earlier partial inner e x h = cc
partial_free (Name_at p y) r earlier partial inner e x h = cc
partial_free (Elem_at p c T) r earlier partial inner e x h = partial_free T r earlier partial false e x h
partial_free (Seq_at p T U) r earlier partial inner e x h =
    let k = append_none_parts (not_linear r earlier partial false T) _ e in
    in_either (variables T) (variables U) x h (has_word partial x ≡ false) (λ a. partial_free T r earlier partial false k.0 x a)
    (λ a b. sym (has_word_without (variables T) partial x a) ∙ partial_free U r (variables T ++ earlier) (without (variables T) partial) false k.1 x b)
partial_free (Alt_at p T U) r earlier partial inner e x h =
    let lacked : List (List ℕ) = cond inner partial (lacking_somewhere (Alt_at p T U) ++ partial) in
    let k = append_none_parts (not_linear r earlier lacked false T) _ e in
    outer inner (in_either (variables T) (variables U) x h (has_word lacked x ≡ false) (λ a. partial_free T r earlier lacked false k.0 x a)
    (λ a b. sym (has_word_without (variables T) lacked x a) ∙ partial_free U r earlier (without (variables T) lacked) true k.1 x b))
  where
    outer : (i : Bool) → has_word (cond i partial (lacking_somewhere (Alt_at p T U) ++ partial)) x ≡ false → has_word partial x ≡ false
    outer true f = f
    outer false f = (in_neither (lacking_somewhere (Alt_at p T U)) partial x f).1
partial_free (Star_at p T) r earlier partial inner e x h = partial_free T true earlier partial false e x h
partial_free (Plus_at p T) r earlier partial inner e x h = partial_free T true earlier partial false e x h
partial_free (Opt_at p T) r earlier partial inner e x h = partial_free T true earlier partial false e x h
partial_free (Val_at p y q T) r earlier partial inner e x h =
    let k = append_none_parts (fault_if (r || (has_word earlier y || has_word partial y)) q (NotLinear y)) _ e in
    of_binder y (variables T) x h (has_word partial x ≡ false) (λ s. subst (λ z. has_word partial z ≡ false) s (free_binder r earlier partial y q k.0).2)
    (λ a b. sym (has_word_without (y ∷ []) partial x (ap (λ t. t || false) a)) ∙ partial_free T r (y ∷ earlier) (without (y ∷ []) partial) false k.1 x b)

-- nothing is bound under a repetition or an option
repeated_none : (T : PlacedTree) (earlier partial : List (List ℕ)) (inner : Bool) → not_linear true earlier partial inner T ≡ [] → variables T ≡ []
repeated_none (Empty_at p) earlier partial inner e = refl
repeated_none (Text_at p) earlier partial inner e = refl
repeated_none (Words_at p k) earlier partial inner e = refl
repeated_none (Name_at p y) earlier partial inner e = refl
repeated_none (Elem_at p c T) earlier partial inner e = repeated_none T earlier partial false e
repeated_none (Seq_at p T U) earlier partial inner e =
    let k = append_none_parts (not_linear true earlier partial false T) _ e in
    ap (λ xs. xs ++ variables U) (repeated_none T earlier partial false k.0) ∙ repeated_none U (variables T ++ earlier) (without (variables T) partial) false k.1
repeated_none (Alt_at p T U) earlier partial inner e =
    let lacked : List (List ℕ) = cond inner partial (lacking_somewhere (Alt_at p T U) ++ partial) in
    let k = append_none_parts (not_linear true earlier lacked false T) _ e in
    ap (λ xs. xs ++ variables U) (repeated_none T earlier lacked false k.0) ∙ repeated_none U earlier (without (variables T) lacked) true k.1
repeated_none (Star_at p T) earlier partial inner e = repeated_none T earlier partial false e
repeated_none (Plus_at p T) earlier partial inner e = repeated_none T earlier partial false e
repeated_none (Opt_at p T) earlier partial inner e = repeated_none T earlier partial false e
repeated_none (Val_at p y q T) earlier partial inner e =
    let k = append_none_parts (fault_if (true || (has_word earlier y || has_word partial y)) q (NotLinear y)) _ e in
    let f = (free_binder true earlier partial y q k.0).0 in cc

-- each variable is in each branch
abbrev IsEverywhere : PlacedTree → Type 0
IsEverywhere A = (x : List ℕ) → has_word (variables A) x ≡ true → in_each_branch x A ≡ true

everywhere : (p : Place) (T U : PlacedTree) (r : Bool) (earlier partial : List (List ℕ)) → not_linear r earlier partial false (Alt_at p T U) ≡ [] → IsEverywhere (Alt_at p T U)
everywhere p T U r earlier partial e x h = go (in_each_branch x (Alt_at p T U)) refl
  where
    free : has_word (lacking_somewhere (Alt_at p T U) ++ partial) x ≡ false
    free =
        let lacked : List (List ℕ) = lacking_somewhere (Alt_at p T U) ++ partial in
        let k = append_none_parts (not_linear r earlier lacked false T) _ e in
        in_either (variables T) (variables U) x h (has_word lacked x ≡ false) (λ a. partial_free T r earlier lacked false k.0 x a)
        (λ a b. sym (has_word_without (variables T) lacked x a) ∙ partial_free U r earlier (without (variables T) lacked) true k.1 x b)

    go : (b : Bool) → in_each_branch x (Alt_at p T U) ≡ b → in_each_branch x (Alt_at p T U) ≡ true
    go true i = i
    go false i =
        let l = (in_neither (lacking_somewhere (Alt_at p T U)) partial x free).0 in
        let m : has_word (lacking_somewhere (Alt_at p T U)) x ≡ (not (in_each_branch x (Alt_at p T U)) && has_word (variables (Alt_at p T U)) x) =
        has_word_filter (λ z. not (in_each_branch z (Alt_at p T U))) (variables (Alt_at p T U)) x in
        let n : (not (in_each_branch x (Alt_at p T U)) && has_word (variables (Alt_at p T U)) x) ≡ true = ap (λ b. not b && has_word (variables (Alt_at p T U)) x) i ∙ h in
        cc

-- a word of each branch is a word
each_is_word : (A : PlacedTree) (x : List ℕ) → in_each_branch x A ≡ true → has_word (variables A) x ≡ true
each_is_word (Empty_at p) x h = h
each_is_word (Text_at p) x h = h
each_is_word (Words_at p k) x h = h
each_is_word (Name_at p y) x h = h
each_is_word (Elem_at p c T) x h = h
each_is_word (Seq_at p T U) x h = h
each_is_word (Alt_at p T U) x h =
    has_word_both (variables T) (variables U) x ∙ ap (λ b. b || has_word (variables U) x) (and_parts (has_word (variables T) x) (in_each_branch x U) h).0
each_is_word (Star_at p T) x h = h
each_is_word (Plus_at p T) x h = h
each_is_word (Opt_at p T) x h = h
each_is_word (Val_at p y q T) x h = h

branches_same : (p : Place) (T U : PlacedTree) → IsEverywhere (Alt_at p T U) → (x : List ℕ) → has_word (variables T) x ≡ has_word (variables U) x
branches_same p T U f x = go (has_word (variables T) x) (has_word (variables U) x) refl refl
  where
    both : has_word (variables T ++ variables U) x ≡ true → (has_word (variables T) x ≡ true) × (has_word (variables U) x ≡ true)
    both h = let k = and_parts (has_word (variables T) x) (in_each_branch x U) (f x h) in (k.0, each_is_word U x k.1)

    go : (a b : Bool) → has_word (variables T) x ≡ a → has_word (variables U) x ≡ b → has_word (variables T) x ≡ has_word (variables U) x
    go true b i j = i ∙ sym (both (has_word_left (variables T) (variables U) x i)).1
    go false true i j = (both (has_word_right (variables T) (variables U) x j)).0 ∙ sym j
    go false false i j = i ∙ sym j

rest_everywhere : (p : Place) (T U : PlacedTree) → IsEverywhere (Alt_at p T U) → IsEverywhere U
rest_everywhere p T U f x h = (and_parts (has_word (variables T) x) (in_each_branch x U) (f x (has_word_right (variables T) (variables U) x h))).1

placed_word : (P : PlacedTree) (x : List ℕ) → has_word (occurrences (unplaced P)) x ≡ has_word (variables P) x
placed_word P x = ap (λ xs. has_word xs x) (variables_unplaced P)

apart_parts : (T U : PlacedTree) → ((x : List ℕ) → has_word (variables U) x ≡ true → has_word (variables T) x ≡ false) →
    (x : List ℕ) → has_word (occurrences (unplaced T)) x ≡ true → has_word (occurrences (unplaced U)) x ≡ false
apart_parts T U f x h = go (has_word (variables U) x) refl
  where
    go : (b : Bool) → has_word (variables U) x ≡ b → has_word (occurrences (unplaced U)) x ≡ false
    go true e = let k = f x e in let m : has_word (variables T) x ≡ true = sym (placed_word T x) ∙ h in cc
    go false e = placed_word U x ∙ e

linear_of : (A : PlacedTree) (r : Bool) (earlier partial : List (List ℕ)) (inner : Bool) → not_linear r earlier partial inner A ≡ [] → (inner ≡ true → IsEverywhere A) → IsLinear (unplaced A)
linear_of (Empty_at p) r earlier partial inner e f = tt
linear_of (Text_at p) r earlier partial inner e f = tt
linear_of (Words_at p k) r earlier partial inner e f = tt
linear_of (Name_at p y) r earlier partial inner e f = tt
linear_of (Elem_at p c T) r earlier partial inner e f = linear_of T r earlier partial false e (λ i. cc)
linear_of (Seq_at p T U) r earlier partial inner e f =
    let k = append_none_parts (not_linear r earlier partial false T) _ e in (
      linear_of T r earlier partial false k.0 (λ i. cc),
      linear_of U r (variables T ++ earlier) (without (variables T) partial) false k.1 (λ i. cc),
      apart_parts T U (λ x h. (in_neither (variables T) earlier x (earlier_free U r (variables T ++ earlier) (without (variables T) partial) false k.1 x h)).0),
    )
linear_of (Alt_at p T U) r earlier partial inner e f =
    let lacked : List (List ℕ) = cond inner partial (lacking_somewhere (Alt_at p T U) ++ partial) in
    let k = append_none_parts (not_linear r earlier lacked false T) _ e in
    let all = each inner e f in (
      linear_of T r earlier lacked false k.0 (λ i. cc),
      linear_of U r earlier (without (variables T) lacked) true k.1 (λ i. rest_everywhere p T U all),
      λ x. placed_word T x ∙ branches_same p T U all x ∙ sym (placed_word U x),
    )
  where
    each : (i : Bool) → not_linear r earlier partial i (Alt_at p T U) ≡ [] → (i ≡ true → IsEverywhere (Alt_at p T U)) → IsEverywhere (Alt_at p T U)
    each true j g = g refl
    each false j g = everywhere p T U r earlier partial j
linear_of (Star_at p T) r earlier partial inner e f = variables_unplaced T ∙ repeated_none T earlier partial false e
linear_of (Plus_at p T) r earlier partial inner e f = variables_unplaced T ∙ repeated_none T earlier partial false e
linear_of (Opt_at p T) r earlier partial inner e f = variables_unplaced T ∙ repeated_none T earlier partial false e
linear_of (Val_at p y q T) r earlier partial inner e f =
    let k = append_none_parts (fault_if (r || (has_word earlier y || has_word partial y)) q (NotLinear y)) _ e in
    (placed_word T y ∙ fresh, linear_of T r (y ∷ earlier) (without (y ∷ []) partial) false k.1 (λ i. cc))
  where
    same : bytes_eq y y ≡ true
    same = (bytes_eq-Decides y y).1 refl

    fresh : has_word (variables T) y ≡ false
    fresh =
        let k = append_none_parts (fault_if (r || (has_word earlier y || has_word partial y)) q (NotLinear y)) _ e in
        go (has_word (variables T) y) refl (λ h. (or_parts (bytes_eq y y) (has_word earlier y) (earlier_free T r (y ∷ earlier) (without (y ∷ []) partial) false k.1 y h)).0)
      where
        go : (b : Bool) → has_word (variables T) y ≡ b → (has_word (variables T) y ≡ true → bytes_eq y y ≡ false) → has_word (variables T) y ≡ false
        go true i g = let m = g i in let s : bytes_eq y y ≡ true = same in cc
        go false i g = i

pub no_fault_is_linear : NoFaultIsLinear
no_fault_is_linear known A e =
    let k = append_none_parts (unknown_types known A) (linearity_faults A) e in linear_of A false [] [] false (sym (linearity_same A) ∙ k.1) (λ i. cc)
