-- Sets and counts of words against lists of words.
use Rattle.std.proofs.Common.{◌≡◌, ℕ, suc, ◌+◌, ◌-◌, ◌<◌, ◌≤◌, arith, Bool, true, false, not, cond, ◌&&◌, ◌||◌, nat_lt, List, [], ◌∷◌, ◌++◌, length, refl, ap, sym, ◌∙◌, subst, lt-ltb, zero-add, drop, get_or, drop-cons, add-one, Option, Some, unwrap_or, Result, Ok, Err}
use Rattle.std.specs.List.{list_any}
use Rattle.std.specs.Result.{is_ok, OnOk, OnErr}
use Rattle.std.specs.Ordering.{nat_cmp, is_eq}
use Rattle.std.specs.BTreeMap.{is_at}
use Rattle.std.specs.Cmp.Lexicographic.{slice_cmp, nat_list_eq_equiv}
use Rattle.std.specs.Str.{bytes_eq}
use Rattle.std.proofs.lemmas.Map.Text.{is_eq-slice_cmp}
use Rattle.std.proofs.lemmas.Slice.Eq.{bytes_eq-Decides}
use Rattle.xd_doc.proofs.Bools.{or_true}
use Rattle.xd_syntax.specs.Words.{has_word}
use Rattle.xd_names.specs.Counts.{occurrences}

-- a set has the words that its keys are
pub keys_have : (w : List ℕ) (ks : List (List ℕ)) → list_any (is_at (slice_cmp nat_cmp w)) ks ≡ has_word ks w
keys_have w [] = refl
keys_have w (k ∷ ks) =
    let a : is_eq (slice_cmp nat_cmp w k) ≡ bytes_eq k w = is_eq-slice_cmp w k ∙ nat_list_eq_equiv.symm w k in
    let b = keys_have w ks in
    rw (a, b) refl

cond_true : (b c : Bool) → cond b true c ≡ (b || c)
cond_true true c = refl
cond_true false c = refl

cond_false : (b c : Bool) → cond b false c ≡ (not b && c)
cond_false true c = refl
cond_false false c = refl

-- after an insertion
pub keys_add : (v w : List ℕ) (old new : List (List ℕ)) →
    list_any (is_at (slice_cmp nat_cmp w)) new ≡ cond (is_at (slice_cmp nat_cmp v) w) true (list_any (is_at (slice_cmp nat_cmp w)) old) →
    has_word new w ≡ (bytes_eq v w || has_word old w)
keys_add v w old new u = sym (keys_have w new) ∙ u ∙ cond_true (is_eq (slice_cmp nat_cmp v w)) _ ∙ ap (λ b. b || list_any (is_at (slice_cmp nat_cmp w)) old) (is_eq-slice_cmp v w) ∙ ap (λ b. bytes_eq v w || b) (keys_have w old)

-- after a removal
pub keys_remove : (v w : List ℕ) (old new : List (List ℕ)) →
    list_any (is_at (slice_cmp nat_cmp w)) new ≡ cond (is_at (slice_cmp nat_cmp v) w) false (list_any (is_at (slice_cmp nat_cmp w)) old) →
    has_word new w ≡ (not (bytes_eq v w) && has_word old w)
keys_remove v w old new u = sym (keys_have w new) ∙ u ∙ cond_false (is_eq (slice_cmp nat_cmp v w)) _ ∙ ap (λ b. not b && list_any (is_at (slice_cmp nat_cmp w)) old) (is_eq-slice_cmp v w) ∙ ap (λ b. not (bytes_eq v w) && b) (keys_have w old)

-- a word is there where it occurs once or more
count_has_at : (w : List ℕ) (xs : List (List ℕ)) → nat_lt 0 (occurrences xs w) ≡ has_word xs w → (b : Bool) →
    nat_lt 0 (cond b 1 0 + occurrences xs w) ≡ (b || has_word xs w)
count_has_at w xs i true = lt-ltb 0 (1 + occurrences xs w) (omega arith)
count_has_at w xs i false = ap (nat_lt 0) (zero-add (occurrences xs w)) ∙ i

pub count_has : (w : List ℕ) (xs : List (List ℕ)) → nat_lt 0 (occurrences xs w) ≡ has_word xs w
count_has w [] = refl
count_has w (x ∷ xs) = count_has_at w xs (count_has w xs) (bytes_eq x w)

occurrences-push : (xs : List (List ℕ)) (v w : List ℕ) → occurrences (xs ++ v ∷ []) w ≡ occurrences xs w + cond (bytes_eq v w) 1 0
occurrences-push [] v w = omega arith
occurrences-push (x ∷ xs) v w = let i = occurrences-push xs v w in omega arith

pub occurrences-le-length : (xs : List (List ℕ)) (w : List ℕ) → occurrences xs w ≤ length xs
occurrences-le-length [] w = omega arith
occurrences-le-length (x ∷ xs) w = at (bytes_eq x w) (occurrences-le-length xs w)
  where
    at : (b : Bool) → occurrences xs w ≤ length xs → cond b 1 0 + occurrences xs w ≤ suc (length xs)
    at true i = omega arith
    at false i = omega arith

push_at : (v w : List ℕ) (xs : List (List ℕ)) (n : ℕ) (old : Option ℕ) → n ≡ occurrences xs v → unwrap_or old 0 ≡ occurrences xs w → (b : Bool) → bytes_eq v w ≡ b →
    unwrap_or (cond b (Some (n + 1)) old) 0 ≡ occurrences (xs ++ v ∷ []) w
push_at v w xs n old a o true e =
    let same : v ≡ w = (bytes_eq-Decides v w).0 e in
    let q : occurrences (xs ++ v ∷ []) w ≡ occurrences xs w + 1 = subst (λ b. occurrences (xs ++ v ∷ []) w ≡ occurrences xs w + cond b 1 0) e (occurrences-push xs v w) in
    let k : occurrences xs v ≡ occurrences xs w = ap (occurrences xs) same in
    omega arith
push_at v w xs n old a o false e =
    let q : occurrences (xs ++ v ∷ []) w ≡ occurrences xs w + 0 = subst (λ b. occurrences (xs ++ v ∷ []) w ≡ occurrences xs w + cond b 1 0) e (occurrences-push xs v w) in
    omega arith

-- the map after one more occurrence
pub count_push : (v w : List ℕ) (xs : List (List ℕ)) (n : ℕ) (old new : Option ℕ) → n ≡ occurrences xs v → unwrap_or old 0 ≡ occurrences xs w →
    new ≡ cond (is_eq (slice_cmp nat_cmp v w)) (Some (n + 1)) old → unwrap_or new 0 ≡ occurrences (xs ++ v ∷ []) w
count_push v w xs n old new a o u =
    ap (λ p. unwrap_or p 0) (u ∙ ap (λ b. cond b (Some (n + 1)) old) (is_eq-slice_cmp v w)) ∙ push_at v w xs n old a o (bytes_eq v w) refl

pop_at : (v w : List ℕ) (xs : List (List ℕ)) (n : ℕ) (old : Option ℕ) → n ≡ occurrences (xs ++ v ∷ []) v → unwrap_or old 0 ≡ occurrences (xs ++ v ∷ []) w → (b : Bool) → bytes_eq v w ≡ b →
    unwrap_or (cond b (Some (n - 1)) old) 0 ≡ occurrences xs w
pop_at v w xs n old a o true e =
    let same : v ≡ w = (bytes_eq-Decides v w).0 e in
    let q : occurrences (xs ++ v ∷ []) w ≡ occurrences xs w + 1 = subst (λ b. occurrences (xs ++ v ∷ []) w ≡ occurrences xs w + cond b 1 0) e (occurrences-push xs v w) in
    let k : occurrences (xs ++ v ∷ []) v ≡ occurrences (xs ++ v ∷ []) w = ap (occurrences (xs ++ v ∷ [])) same in
    omega arith
pop_at v w xs n old a o false e =
    let q : occurrences (xs ++ v ∷ []) w ≡ occurrences xs w + 0 = subst (λ b. occurrences (xs ++ v ∷ []) w ≡ occurrences xs w + cond b 1 0) e (occurrences-push xs v w) in
    omega arith

-- the map after one occurrence less
pub count_pop : (v w : List ℕ) (xs : List (List ℕ)) (n : ℕ) (old new : Option ℕ) → n ≡ occurrences (xs ++ v ∷ []) v → unwrap_or old 0 ≡ occurrences (xs ++ v ∷ []) w →
    new ≡ cond (is_eq (slice_cmp nat_cmp v w)) (Some (n - 1)) old → unwrap_or new 0 ≡ occurrences xs w
count_pop v w xs n old new a o u =
    ap (λ p. unwrap_or p 0) (u ∙ ap (λ b. cond b (Some (n - 1)) old) (is_eq-slice_cmp v w)) ∙ pop_at v w xs n old a o (bytes_eq v w) refl

-- the last word occurs
pub occurs_last : (v : List ℕ) (xs : List (List ℕ)) → 1 ≤ occurrences (xs ++ v ∷ []) v
occurs_last v xs =
    let q : occurrences (xs ++ v ∷ []) v ≡ occurrences xs v + 1 = subst (λ b. occurrences (xs ++ v ∷ []) v ≡ occurrences xs v + cond b 1 0) (nat_list_eq_equiv.refl v) (occurrences-push xs v v) in
    omega arith

-- what holds of success
pub on_ok : {T E : Type 0} (r : Result T E) (P : Type 0) → is_ok r ≡ true → OnOk r P → P
on_ok (Ok x) P e h = h
on_ok (Err x) P e h = absurd (cc)

-- what holds of failure
pub on_err : {T E : Type 0} (r : Result T E) (P : Type 0) → is_ok r ≡ false → OnErr r P → P
on_err (Ok x) P e h = absurd (cc)
on_err (Err x) P e h = h

kept_at : (g : List ℕ → Bool) (v w : List ℕ) (m new r x : Bool) (a : Bool) → g v ≡ a → (b : Bool) → bytes_eq v w ≡ b → new ≡ cond a (b || m) m →
    (m || (g w && (b || r))) ≡ x → (new || (g w && r)) ≡ x
kept_at g v w m new r x true e true h n i =
    let f : g w ≡ true = ap g (sym ((bytes_eq-Decides v w).0 h)) ∙ e in
    let j : (m || true) ≡ x = subst (λ c. (m || (c && true)) ≡ x) f i in
    ap (λ c. c || (g w && r)) n ∙ sym (or_true m) ∙ j
kept_at g v w m new r x false e true h n i =
    let f : g w ≡ false = ap g (sym ((bytes_eq-Decides v w).0 h)) ∙ e in
    let j : (m || false) ≡ x = subst (λ c. (m || (c && true)) ≡ x) f i in
    ap (λ c. c || (g w && r)) n ∙ ap (λ c. m || (c && r)) f ∙ j
kept_at g v w m new r x true e false h n i = ap (λ c. c || (g w && r)) n ∙ i
kept_at g v w m new r x false e false h n i = ap (λ c. c || (g w && r)) n ∙ i

-- a step over the word v: it is kept where it passes
pub kept_yes : (g : List ℕ → Bool) (v w : List ℕ) (m new r x : Bool) → g v ≡ true → new ≡ (bytes_eq v w || m) → (m || (g w && (bytes_eq v w || r))) ≡ x → (new || (g w && r)) ≡ x
kept_yes g v w m new r x e n i = kept_at g v w m new r x true e (bytes_eq v w) refl n i

pub kept_no : (g : List ℕ → Bool) (v w : List ℕ) (m new r x : Bool) → g v ≡ false → new ≡ m → (m || (g w && (bytes_eq v w || r))) ≡ x → (new || (g w && r)) ≡ x
kept_no g v w m new r x e n i = kept_at g v w m new r x false e (bytes_eq v w) refl n i

-- the item of a loop
pub drop_item : {X : Type 0} (xs : List X) (i : ℕ) (x : X) → i < length xs → x ≡ get_or xs i x → drop i xs ≡ x ∷ drop (i + 1) xs
drop_item xs i x h e = rw (drop-cons xs i x, add-one, ← e) refl

pub drop_at : {X : Type 0} (xs : List X) (i : ℕ) (d : X) → i < length xs → drop i xs ≡ get_or xs i d ∷ drop (i + 1) xs
drop_at xs i d h = rw (drop-cons xs i d, add-one) refl
