-- The occurrences that are wrong are those that are found not linear from left to right.
use Rattle.std.proofs.Common.{◌≡◌, ℕ, Bool, true, false, not, cond, ◌||◌, List, [], ◌∷◌, ◌++◌, map, flat_map, refl, ap, sym, ◌∙◌, append_assoc}
use Rattle.std.specs.Str.{bytes_eq}
use Rattle.std.specs.List.{filter}
use Rattle.std.proofs.lemmas.List.Elements.{filter-append}
use Rattle.xd_base.specs.declared.Place.{Place}
use Rattle.xd_syntax.specs.Words.{has_word}
use Rattle.xd_syntax.specs.Placed.{PlacedTree, Empty_at, Text_at, Words_at, Name_at, Elem_at, Seq_at, Alt_at, Star_at, Plus_at, Opt_at, Val_at, variables}
use Rattle.xd_syntax.specs.NameFaults.{Occurrence, fault_if, lacking_somewhere, without, wrong_if, wrong_among, first_wrong, by_branches, occurrences_in, linearity_faults}
use Rattle.xd_syntax.specs.NotLinear.{not_linear}
use Rattle.xd_syntax.specs.declared.fault.Fault.{Fault}
use Rattle.xd_syntax.specs.declared.fault.FaultKind.{FaultKind}
use Rattle.xd_syntax.specs.declared.fault.FaultKind.TheVariants.{NotLinear}

-- the faults of occurrences where this stands around and before
abbrev faults_with : Bool → List (List ℕ) → List (List ℕ) → List Occurrence → List Fault
faults_with r e q [] = []
faults_with r e q (o ∷ os) =
    fault_if (o.is_wrong || (r || (has_word e o.word || has_word q o.word))) o.place (NotLinear o.word)
    ++ faults_with r e (without (o.word ∷ []) q) os

abbrev words : List Occurrence → List (List ℕ)
words os = map (λ (o : Occurrence). o.word) os

-- ---- the words of occurrences

words_append : (ms ns : List Occurrence) → words (ms ++ ns) ≡ words ms ++ words ns
words_append [] ns = refl
words_append (m ∷ ms) ns = ap (λ ws. m.word ∷ ws) (words_append ms ns)

words_among : (xs : List (List ℕ)) (ms : List Occurrence) → words (wrong_among xs ms) ≡ words ms
words_among xs [] = refl
words_among xs (m ∷ ms) = ap (λ ws. m.word ∷ ws) (words_among xs ms)

words_all : (ms : List Occurrence) → words (map (wrong_if true) ms) ≡ words ms
words_all [] = refl
words_all (m ∷ ms) = ap (λ ws. m.word ∷ ws) (words_all ms)

words_first : (xs : List (List ℕ)) (ms : List Occurrence) → words (first_wrong xs ms) ≡ words ms
words_first xs [] = refl
words_first xs (m ∷ ms) = ap (λ ws. m.word ∷ ws) (words_first (without (m.word ∷ []) xs) ms)

words_branches : (T : PlacedTree) (ms : List Occurrence) → words (by_branches T ms) ≡ words ms
words_branches (Empty_at p) ms = refl
words_branches (Text_at p) ms = refl
words_branches (Words_at p w) ms = refl
words_branches (Name_at p x) ms = refl
words_branches (Elem_at p c T) ms = refl
words_branches (Seq_at p T U) ms = refl
words_branches (Alt_at p T U) ms = words_first (lacking_somewhere (Alt_at p T U)) ms
words_branches (Star_at p T) ms = refl
words_branches (Plus_at p T) ms = refl
words_branches (Opt_at p T) ms = refl
words_branches (Val_at p x q T) ms = refl

words_rows : (T U : PlacedTree) → words (occurrences_in T) ≡ variables T → words (occurrences_in U) ≡ variables U →
    words (by_branches T (occurrences_in T) ++ wrong_among (variables T) (by_branches U (occurrences_in U))) ≡ variables T ++ variables U
words_rows T U h k =
    words_append (by_branches T (occurrences_in T)) (wrong_among (variables T) (by_branches U (occurrences_in U)))
    ∙ ap (λ ws. ws ++ words (wrong_among (variables T) (by_branches U (occurrences_in U)))) (words_branches T (occurrences_in T) ∙ h)
    ∙ ap (λ ws. variables T ++ ws) (words_among (variables T) (by_branches U (occurrences_in U)) ∙ words_branches U (occurrences_in U) ∙ k)

words_in : (T : PlacedTree) → words (occurrences_in T) ≡ variables T
words_in (Empty_at p) = refl
words_in (Text_at p) = refl
words_in (Words_at p w) = refl
words_in (Name_at p x) = refl
words_in (Elem_at p c T) = words_branches T (occurrences_in T) ∙ words_in T
words_in (Seq_at p T U) = words_rows T U (words_in T) (words_in U)
words_in (Alt_at p T U) =
    words_append (by_branches T (occurrences_in T)) (occurrences_in U)
    ∙ ap (λ ws. ws ++ words (occurrences_in U)) (words_branches T (occurrences_in T) ∙ words_in T)
    ∙ ap (λ ws. variables T ++ ws) (words_in U)
words_in (Star_at p T) = words_all (by_branches T (occurrences_in T)) ∙ words_branches T (occurrences_in T) ∙ words_in T
words_in (Plus_at p T) = words_all (by_branches T (occurrences_in T)) ∙ words_branches T (occurrences_in T) ∙ words_in T
words_in (Opt_at p T) = words_all (by_branches T (occurrences_in T)) ∙ words_branches T (occurrences_in T) ∙ words_in T
words_in (Val_at p x q T) =
    ap (λ ws. x ∷ ws) (words_among (x ∷ []) (by_branches T (occurrences_in T)) ∙ words_branches T (occurrences_in T) ∙ words_in T)

words_of : (T : PlacedTree) → words (by_branches T (occurrences_in T)) ≡ variables T
words_of T = words_branches T (occurrences_in T) ∙ words_in T

-- ---- words that are left out

without_none : (q : List (List ℕ)) → without [] q ≡ q
without_none [] = refl
without_none (x ∷ q) = ap (λ xs. x ∷ xs) (without_none q)

-- one word and then others
without_more : (w : List ℕ) (ws q : List (List ℕ)) → without (w ∷ ws) q ≡ without ws (without (w ∷ []) q)
without_more w ws [] = refl
without_more w ws (x ∷ q) = go (bytes_eq w x) refl (without_more w ws q)
  where
    kept : (b : Bool) → without (w ∷ ws) q ≡ without ws (without (w ∷ []) q) →
        cond b (x ∷ without (w ∷ ws) q) (without (w ∷ ws) q) ≡ cond b (x ∷ without ws (without (w ∷ []) q)) (without ws (without (w ∷ []) q))
    kept true h = ap (λ xs. x ∷ xs) h
    kept false h = h

    go : (b : Bool) → bytes_eq w x ≡ b → without (w ∷ ws) q ≡ without ws (without (w ∷ []) q) → without (w ∷ ws) (x ∷ q) ≡ without ws (without (w ∷ []) (x ∷ q))
    go true e h = rw (e) h
    go false e h = rw (e) (kept (not (has_word ws x)) h)

-- ---- faults of occurrences

faults_append : (r : Bool) (e q : List (List ℕ)) (ms ns : List Occurrence) →
    faults_with r e q (ms ++ ns) ≡ faults_with r e q ms ++ faults_with r e (without (words ms) q) ns
faults_append r e q [] ns = ap (λ xs. faults_with r e xs ns) (sym (without_none q))
faults_append r e q (m ∷ ms) ns =
    let own : List Fault = fault_if (m.is_wrong || (r || (has_word e m.word || has_word q m.word))) m.place (NotLinear m.word) in
    let left : List (List ℕ) = without (m.word ∷ []) q in
    ap (λ fs. own ++ fs) (faults_append r e left ms ns)
    ∙ sym (append_assoc own (faults_with r e left ms) (faults_with r e (without (words ms) left) ns))
    ∙ ap (λ xs. (own ++ faults_with r e left ms) ++ faults_with r e xs ns) (sym (without_more m.word (words ms) q))

pub has_word_both : (xs ys : List (List ℕ)) (w : List ℕ) → has_word (xs ++ ys) w ≡ (has_word xs w || has_word ys w)
has_word_both [] ys w = refl
has_word_both (x ∷ xs) ys w = go (bytes_eq x w) (has_word_both xs ys w)
  where
    go : (b : Bool) → has_word (xs ++ ys) w ≡ (has_word xs w || has_word ys w) → (b || has_word (xs ++ ys) w) ≡ ((b || has_word xs w) || has_word ys w)
    go true h = refl
    go false h = h

-- a fault is the same by equal tests, before equal faults
same_faults : (a b : Bool) (p : Place) (k : FaultKind) (fs gs : List Fault) → a ≡ b → fs ≡ gs → fault_if a p k ++ fs ≡ fault_if b p k ++ gs
same_faults a b p k fs gs h i = ap (λ c. fault_if c p k ++ fs) h ∙ ap (λ z. fault_if b p k ++ z) i

earlier_too : (w a r b c : Bool) → ((w || a) || (r || (b || c))) ≡ (w || (r || ((a || b) || c)))
earlier_too true a r b c = refl
earlier_too false true true b c = refl
earlier_too false true false b c = refl
earlier_too false false r b c = refl

faults_among : (r : Bool) (e q xs : List (List ℕ)) (ms : List Occurrence) → faults_with r e q (wrong_among xs ms) ≡ faults_with r (xs ++ e) q ms
faults_among r e q xs [] = refl
faults_among r e q xs (m ∷ ms) =
    same_faults _ _ _ _ _ _
    (earlier_too m.is_wrong (has_word xs m.word) r (has_word e m.word) (has_word q m.word)
    ∙ ap (λ b. m.is_wrong || (r || (b || has_word q m.word))) (sym (has_word_both xs e m.word)))
    (faults_among r e (without (m.word ∷ []) q) xs ms)

repeated_too : (w r b : Bool) → ((w || true) || (r || b)) ≡ (w || (true || b))
repeated_too true r b = refl
repeated_too false r b = refl

faults_repeated : (r : Bool) (e q : List (List ℕ)) (ms : List Occurrence) → faults_with r e q (map (wrong_if true) ms) ≡ faults_with true e q ms
faults_repeated r e q [] = refl
faults_repeated r e q (m ∷ ms) =
    same_faults _ _ _ _ _ _
    (repeated_too m.is_wrong r (has_word e m.word || has_word q m.word))
    (faults_repeated r e (without (m.word ∷ []) q) ms)

partial_too : (w a r b c : Bool) → ((w || a) || (r || (b || c))) ≡ (w || (r || (b || (a || c))))
partial_too true a r b c = refl
partial_too false true true b c = refl
partial_too false true false true c = refl
partial_too false true false false c = refl
partial_too false false r b c = refl

faults_first : (r : Bool) (e q xs : List (List ℕ)) (ms : List Occurrence) → faults_with r e q (first_wrong xs ms) ≡ faults_with r e (xs ++ q) ms
faults_first r e q xs [] = refl
faults_first r e q xs (m ∷ ms) =
    same_faults _ _ _ _ _ _
    (partial_too m.is_wrong (has_word xs m.word) r (has_word e m.word) (has_word q m.word)
    ∙ ap (λ b. m.is_wrong || (r || (has_word e m.word || b))) (sym (has_word_both xs q m.word)))
    (faults_first r e (without (m.word ∷ []) q) (without (m.word ∷ []) xs) ms
    ∙ ap (λ z. faults_with r e z ms) (sym (filter-append (λ x. not (has_word (m.word ∷ []) x)) xs q)))

-- ---- both ways agree

-- the occurrences of a pattern: whole, or as the rest of an alternative
abbrev seen : Bool → PlacedTree → List Occurrence
seen inner T = cond inner (occurrences_in T) (by_branches T (occurrences_in T))

abbrev Agree : Bool → PlacedTree → Bool → List (List ℕ) → List (List ℕ) → Type 0
Agree inner T r e q = faults_with r e q (seen inner T) ≡ not_linear r e q inner T

agree_rows : (T U : PlacedTree) (r : Bool) (e q : List (List ℕ)) → Agree false T r e q → Agree false U r (variables T ++ e) (without (variables T) q) →
    faults_with r e q (seen false T ++ wrong_among (variables T) (seen false U))
    ≡ not_linear r e q false T ++ not_linear r (variables T ++ e) (without (variables T) q) false U
agree_rows T U r e q h k =
    faults_append r e q (seen false T) (wrong_among (variables T) (seen false U))
    ∙ ap (λ fs. fs ++ faults_with r e (without (words (seen false T)) q) (wrong_among (variables T) (seen false U))) h
    ∙ ap (λ xs. not_linear r e q false T ++ faults_with r e (without xs q) (wrong_among (variables T) (seen false U))) (words_of T)
    ∙ ap (λ fs. not_linear r e q false T ++ fs) (faults_among r e (without (variables T) q) (variables T) (seen false U) ∙ k)

agree_branches : (T U : PlacedTree) (r : Bool) (e q : List (List ℕ)) → Agree false T r e q → Agree true U r e (without (variables T) q) →
    faults_with r e q (seen false T ++ occurrences_in U) ≡ not_linear r e q false T ++ not_linear r e (without (variables T) q) true U
agree_branches T U r e q h k =
    faults_append r e q (seen false T) (occurrences_in U)
    ∙ ap (λ fs. fs ++ faults_with r e (without (words (seen false T)) q) (occurrences_in U)) h
    ∙ ap (λ xs. not_linear r e q false T ++ faults_with r e (without xs q) (occurrences_in U)) (words_of T)
    ∙ ap (λ fs. not_linear r e q false T ++ fs) k

agree_variable : (x : List ℕ) (z : Place) (T : PlacedTree) (r : Bool) (e q : List (List ℕ)) → Agree false T r (x ∷ e) (without (x ∷ []) q) →
    fault_if (r || (has_word e x || has_word q x)) z (NotLinear x) ++ faults_with r e (without (x ∷ []) q) (wrong_among (x ∷ []) (seen false T))
    ≡ fault_if (r || (has_word e x || has_word q x)) z (NotLinear x) ++ not_linear r (x ∷ e) (without (x ∷ []) q) false T
agree_variable x z T r e q h =
    ap (λ fs. fault_if (r || (has_word e x || has_word q x)) z (NotLinear x) ++ fs) (faults_among r e (without (x ∷ []) q) (x ∷ []) (seen false T) ∙ h)

agree : (inner : Bool) (T : PlacedTree) (r : Bool) (e q : List (List ℕ)) → Agree inner T r e q
agree true (Empty_at p) r e q = refl
agree false (Empty_at p) r e q = refl
agree true (Text_at p) r e q = refl
agree false (Text_at p) r e q = refl
agree true (Words_at p w) r e q = refl
agree false (Words_at p w) r e q = refl
agree true (Name_at p x) r e q = refl
agree false (Name_at p x) r e q = refl
agree true (Elem_at p c T) r e q = agree false T r e q
agree false (Elem_at p c T) r e q = agree false T r e q
agree true (Seq_at p T U) r e q = agree_rows T U r e q (agree false T r e q) (agree false U r (variables T ++ e) (without (variables T) q))
agree false (Seq_at p T U) r e q = agree_rows T U r e q (agree false T r e q) (agree false U r (variables T ++ e) (without (variables T) q))
agree true (Alt_at p T U) r e q = agree_branches T U r e q (agree false T r e q) (agree true U r e (without (variables T) q))
agree false (Alt_at p T U) r e q =
    let lacked : List (List ℕ) = lacking_somewhere (Alt_at p T U) ++ q in
    faults_first r e q (lacking_somewhere (Alt_at p T U)) (occurrences_in (Alt_at p T U))
    ∙ agree_branches T U r e lacked (agree false T r e lacked) (agree true U r e (without (variables T) lacked))
agree true (Star_at p T) r e q = faults_repeated r e q (seen false T) ∙ agree false T true e q
agree false (Star_at p T) r e q = faults_repeated r e q (seen false T) ∙ agree false T true e q
agree true (Plus_at p T) r e q = faults_repeated r e q (seen false T) ∙ agree false T true e q
agree false (Plus_at p T) r e q = faults_repeated r e q (seen false T) ∙ agree false T true e q
agree true (Opt_at p T) r e q = faults_repeated r e q (seen false T) ∙ agree false T true e q
agree false (Opt_at p T) r e q = faults_repeated r e q (seen false T) ∙ agree false T true e q
agree true (Val_at p x z T) r e q = agree_variable x z T r e q (agree false T r (x ∷ e) (without (x ∷ []) q))
agree false (Val_at p x z T) r e q = agree_variable x z T r e q (agree false T r (x ∷ e) (without (x ∷ []) q))

-- nothing stands around or before
or_nothing : (b : Bool) → b ≡ (b || (false || (false || false)))
or_nothing true = refl
or_nothing false = refl

faults_alone : (ms : List Occurrence) → flat_map (λ (o : Occurrence). fault_if o.is_wrong o.place (NotLinear o.word)) ms ≡ faults_with false [] [] ms
faults_alone [] = refl
faults_alone (m ∷ ms) = same_faults _ _ _ _ _ _ (or_nothing m.is_wrong) (faults_alone ms)

pub linearity_same : (P : PlacedTree) → linearity_faults P ≡ not_linear false [] [] false P
linearity_same P = faults_alone (by_branches P (occurrences_in P)) ∙ agree false P false [] []
