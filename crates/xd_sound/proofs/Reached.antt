-- The nodes that a node reaches, and the walk that meets each of them once.
use Rattle.std.proofs.Common.{◌≡◌, ℕ, zero, suc, ◌+◌, ◌<◌, ◌≤◌, ◌⊎◌, inl, inr, ⊎_elim, Bool, true, cond, max, List, [], ◌∷◌, ◌++◌, map, reverse, length, take, get_or, ◌-◌, refl, ap, sym, subst, ◌∙◌, arith, length-append}
use Rattle.std.specs.List.{AllByRecursion, Contains, sum_by, list_all}
use Rattle.std.specs.List.Sorted.{IsPermutation}
use Rattle.std.proofs.Math.Nat.{le-max_left, le-max_right}
use Rattle.std.proofs.lemmas.Bool.{and_parts, and_from, cases_lt}
use Rattle.std.proofs.lemmas.List.Elements.{All-contains, All-from_recursion, Contains-get_or, Contains-append_cases, Contains-append_left, Contains-append_right, Contains-push, Contains-push_cases}
use Rattle.std.proofs.lemmas.List.{get_or-reverse, length-reverse}
use Rattle.std.proofs.lemmas.List.Sorted.{Contains-permutation, IsPermutation-reverse, IsPermutation-sym, sum_by_popped, sum_by-IsPermutation}
use Rattle.std.proofs.lemmas.List.Sums.{sum_by-append, sum_by-cons}
use Rattle.xd_doc.proofs.CopyLemmas.{none_contained, front_or_rest}
use Rattle.xd_doc.proofs.Bools.{same_tests}
use Rattle.xd_doc.proofs.Numbers.{itself as same_le, le_suc}
use Rattle.xd_syntax.specs.Tree.{Tree, Empty, Text, Words, Name, Elem, Seq, Alt, Star, Plus, Opt, Val, seq_of, is_empty, uses_only}
use Rattle.xd_syntax.specs.TreeForms.{alt_of, size}
use Rattle.xd_syntax.specs.TypeText.{sequence_level, postfix_level, primary_level}
use Rattle.xd_syntax.specs.TypeDepth.{depth, depth_at_level}
use Rattle.xd_syntax.specs.Table.{Row, Form, empty_form, text_form, words_form, name_form, elem_form, seq_form, alt_form, star_form, plus_form, opt_form, val_form, form_tree, tree_at, AreBuilt, CanFollow}
use Rattle.xd_syntax.specs.Nodes.{form_parts, form_at, no_row, parts_of}
use Rattle.xd_sound.specs.Adopt.{Reaches, itself, part, AreRising, AreReached, form_known}
use Rattle.xd_syntax.proofs.Trees.{tree_is, follows_at, parts_at}
use Rattle.xd_syntax.proofs.NodeParts.{form_parts_below}

-- ---- what holds of each part
pub each_contained : (P : ℕ → Type 0) (is : List ℕ) → ((i : ℕ) → Contains is i → P i) → AllByRecursion P is
each_contained P [] f = tt
each_contained P (i ∷ is) f = (f i (0, omega arith, refl), each_contained P is (λ j c. f j (Contains-append_right (i ∷ []) is j c)))

pub contained_each : (P : ℕ → Type 0) (is : List ℕ) (i : ℕ) → AllByRecursion P is → Contains is i → P i
contained_each P is i a c = All-contains P is i (All-from_recursion P is a) c

-- ---- names
seq_known : (known : List (List ℕ)) (t : ℕ → Tree) (is : List ℕ) → uses_only known (seq_of (map t is)) ≡ true → AllByRecursion (λ i. uses_only known (t i) ≡ true) is
seq_known known t [] e = tt
seq_known known t (i ∷ []) e = (e, tt)
seq_known known t (i ∷ (j ∷ js)) e = let b = and_parts (uses_only known (t i)) (uses_only known (seq_of (map t (j ∷ js)))) e in (b.0, seq_known known t (j ∷ js) b.1)

alt_known : (known : List (List ℕ)) (t : ℕ → Tree) (is : List ℕ) → uses_only known (alt_of (map t is)) ≡ true → AllByRecursion (λ i. uses_only known (t i) ≡ true) is
alt_known known t [] e = tt
alt_known known t (i ∷ []) e = (e, tt)
alt_known known t (i ∷ (j ∷ js)) e = let b = and_parts (uses_only known (t i)) (uses_only known (alt_of (map t (j ∷ js)))) e in (b.0, alt_known known t (j ∷ js) b.1)

-- what uses known names alone has parts that do
parts_known : (known : List (List ℕ)) (t : ℕ → Tree) (f : Form) → uses_only known (form_tree t f) ≡ true → AllByRecursion (λ i. uses_only known (t i) ≡ true) (form_parts f)
parts_known known t empty_form e = tt
parts_known known t text_form e = tt
parts_known known t (words_form w) e = tt
parts_known known t (name_form w) e = tt
parts_known known t (elem_form c i) e = (e, tt)
parts_known known t (seq_form is) e = seq_known known t is e
parts_known known t (alt_form is) e = alt_known known t is e
parts_known known t (star_form i) e = (e, tt)
parts_known known t (plus_form i) e = (e, tt)
parts_known known t (opt_form i) e = (e, tt)
parts_known known t (val_form x q i) e = (e, tt)

own_known : (known : List (List ℕ)) (t : ℕ → Tree) (f : Form) → uses_only known (form_tree t f) ≡ true → form_known known f ≡ true
own_known known t empty_form e = refl
own_known known t text_form e = refl
own_known known t (words_form w) e = refl
own_known known t (name_form w) e = e
own_known known t (elem_form c i) e = refl
own_known known t (seq_form is) e = refl
own_known known t (alt_form is) e = refl
own_known known t (star_form i) e = refl
own_known known t (plus_form i) e = refl
own_known known t (opt_form i) e = refl
own_known known t (val_form x q i) e = refl

pub known_seq : (known : List (List ℕ)) (t : ℕ → Tree) (is : List ℕ) → AllByRecursion (λ i. uses_only known (t i) ≡ true) is → uses_only known (seq_of (map t is)) ≡ true
known_seq known t [] a = refl
known_seq known t (i ∷ []) a = a.0
known_seq known t (i ∷ (j ∷ js)) a = and_from (uses_only known (t i)) (uses_only known (seq_of (map t (j ∷ js)))) a.0 (known_seq known t (j ∷ js) a.1)

pub known_alt : (known : List (List ℕ)) (t : ℕ → Tree) (is : List ℕ) → AllByRecursion (λ i. uses_only known (t i) ≡ true) is → uses_only known (alt_of (map t is)) ≡ true
known_alt known t [] a = refl
known_alt known t (i ∷ []) a = a.0
known_alt known t (i ∷ (j ∷ js)) a = and_from (uses_only known (t i)) (uses_only known (alt_of (map t (j ∷ js)))) a.0 (known_alt known t (j ∷ js) a.1)

-- and back
known_form : (known : List (List ℕ)) (t : ℕ → Tree) (f : Form) → form_known known f ≡ true → AllByRecursion (λ i. uses_only known (t i) ≡ true) (form_parts f) → uses_only known (form_tree t f) ≡ true
known_form known t empty_form e a = refl
known_form known t text_form e a = refl
known_form known t (words_form w) e a = refl
known_form known t (name_form w) e a = e
known_form known t (elem_form c i) e a = a.0
known_form known t (seq_form is) e a = known_seq known t is a
known_form known t (alt_form is) e a = known_alt known t is a
known_form known t (star_form i) e a = a.0
known_form known t (plus_form i) e a = a.0
known_form known t (opt_form i) e a = a.0
known_form known t (val_form x q i) e a = a.0

pub any_below_sequence : (T : Tree) → depth T ≤ depth_at_level sequence_level T
any_below_sequence Empty = omega arith
any_below_sequence Text = omega arith
any_below_sequence (Words w) = omega arith
any_below_sequence (Name x) = omega arith
any_below_sequence (Elem c T) = same_le _
any_below_sequence (Seq T U) = same_le _
any_below_sequence (Alt T U) = le_suc _
any_below_sequence (Star T) = same_le _
any_below_sequence (Plus T) = same_le _
any_below_sequence (Opt T) = same_le _
any_below_sequence (Val x T) = any_below_sequence T

pub sequence_below_postfix : (T : Tree) → depth_at_level sequence_level T ≤ depth_at_level postfix_level T
sequence_below_postfix Empty = omega arith
sequence_below_postfix Text = omega arith
sequence_below_postfix (Words w) = omega arith
sequence_below_postfix (Name x) = omega arith
sequence_below_postfix (Elem c T) = same_le _
sequence_below_postfix (Seq T U) = le_suc _
sequence_below_postfix (Alt T U) = same_le _
sequence_below_postfix (Star T) = same_le _
sequence_below_postfix (Plus T) = same_le _
sequence_below_postfix (Opt T) = same_le _
sequence_below_postfix (Val x T) = sequence_below_postfix T

pub postfix_below_primary : (T : Tree) → depth_at_level postfix_level T ≤ depth_at_level primary_level T
postfix_below_primary Empty = omega arith
postfix_below_primary Text = omega arith
postfix_below_primary (Words w) = omega arith
postfix_below_primary (Name x) = omega arith
postfix_below_primary (Elem c T) = same_le _
postfix_below_primary (Seq T U) = same_le _
postfix_below_primary (Alt T U) = same_le _
postfix_below_primary (Star T) = le_suc _
postfix_below_primary (Plus T) = le_suc _
postfix_below_primary (Opt T) = le_suc _
postfix_below_primary (Val x T) = postfix_below_primary T

any_below_primary : (T : Tree) → depth T ≤ depth_at_level primary_level T
any_below_primary T =
    let a = any_below_sequence T in
    let b = sequence_below_postfix T in
    let c = postfix_below_primary T in
    omega arith

any_below_postfix : (T : Tree) → depth T ≤ depth_at_level postfix_level T
any_below_postfix T = let a = any_below_sequence T in let b = sequence_below_postfix T in omega arith

left_below : (a b c n : ℕ) → a ≤ b → max b c ≤ n → a ≤ n
left_below a b c n h k = let l = le-max_left b c in omega arith

right_below : (b c n : ℕ) → max b c ≤ n → c ≤ n
right_below b c n k = let l = le-max_right b c in omega arith

seq_within : (n : ℕ) (t : ℕ → Tree) (is : List ℕ) → depth_at_level sequence_level (seq_of (map t is)) ≤ n → AllByRecursion (λ i. depth (t i) ≤ n) is
seq_within n t [] h = tt
seq_within n t (i ∷ []) h = (let a = any_below_sequence (t i) in omega arith, tt)
seq_within n t (i ∷ (j ∷ js)) h =
    let rest = depth_at_level sequence_level (seq_of (map t (j ∷ js))) in (
      left_below (depth (t i)) (depth_at_level postfix_level (t i)) rest n (any_below_postfix (t i)) h,
      seq_within n t (j ∷ js) (right_below (depth_at_level postfix_level (t i)) rest n h),
    )

seq_parts_within : (n : ℕ) (t : ℕ → Tree) (is : List ℕ) → depth (seq_of (map t is)) ≤ n → AllByRecursion (λ i. depth (t i) ≤ n) is
seq_parts_within n t [] h = tt
seq_parts_within n t (i ∷ []) h = (h, tt)
seq_parts_within n t (i ∷ (j ∷ js)) h = seq_within n t (i ∷ (j ∷ js)) h

alt_parts_within : (n : ℕ) (t : ℕ → Tree) (is : List ℕ) → depth (alt_of (map t is)) ≤ n → AllByRecursion (λ i. depth (t i) ≤ n) is
alt_parts_within n t [] h = tt
alt_parts_within n t (i ∷ []) h = (h, tt)
alt_parts_within n t (i ∷ (j ∷ js)) h =
    let rest = depth (alt_of (map t (j ∷ js))) in (
      left_below (depth (t i)) (depth_at_level sequence_level (t i)) rest n (any_below_sequence (t i)) h,
      alt_parts_within n t (j ∷ js) (right_below (depth_at_level sequence_level (t i)) rest n h),
    )

content_within : (n : ℕ) (T : Tree) → cond (is_empty T) 0 (depth T) + 1 ≤ n → depth T ≤ n
content_within n Empty h = h
content_within n Text h = omega arith
content_within n (Words w) h = omega arith
content_within n (Name x) h = omega arith
content_within n (Elem c T) h = omega arith
content_within n (Seq T U) h = omega arith
content_within n (Alt T U) h = omega arith
content_within n (Star T) h = omega arith
content_within n (Plus T) h = omega arith
content_within n (Opt T) h = omega arith
content_within n (Val x T) h = omega arith

primary_within : (n : ℕ) (T : Tree) → depth_at_level primary_level T ≤ n → depth T ≤ n
primary_within n T h = let a = any_below_primary T in omega arith

-- a part is no deeper than the whole
parts_within : (n : ℕ) (t : ℕ → Tree) (f : Form) → depth (form_tree t f) ≤ n → AllByRecursion (λ i. depth (t i) ≤ n) (form_parts f)
parts_within n t empty_form h = tt
parts_within n t text_form h = tt
parts_within n t (words_form w) h = tt
parts_within n t (name_form w) h = tt
parts_within n t (elem_form c i) h = (content_within n (t i) h, tt)
parts_within n t (seq_form is) h = seq_parts_within n t is h
parts_within n t (alt_form is) h = alt_parts_within n t is h
parts_within n t (star_form i) h = (primary_within n (t i) h, tt)
parts_within n t (plus_form i) h = (primary_within n (t i) h, tt)
parts_within n t (opt_form i) h = (primary_within n (t i) h, tt)
parts_within n t (val_form x q i) h = (h, tt)

-- ---- size
size_seq : (t : ℕ → Tree) (i : ℕ) (is : List ℕ) → sum_by (λ j. size (t j)) (i ∷ is) + length is ≤ size (seq_of (map t (i ∷ is)))
size_seq t i [] = let e = sum_by-cons (λ j. size (t j)) i [] in omega arith
size_seq t i (j ∷ js) = let e = sum_by-cons (λ k. size (t k)) i (j ∷ js) in let r = size_seq t j js in omega arith

size_alt : (t : ℕ → Tree) (i : ℕ) (is : List ℕ) → sum_by (λ j. size (t j)) (i ∷ is) + length is ≤ size (alt_of (map t (i ∷ is)))
size_alt t i [] = let e = sum_by-cons (λ j. size (t j)) i [] in omega arith
size_alt t i (j ∷ js) = let e = sum_by-cons (λ k. size (t k)) i (j ∷ js) in let r = size_alt t j js in omega arith

size_one : (t : ℕ → Tree) (i : ℕ) → sum_by (λ j. size (t j)) (i ∷ []) < size (t i) + 1
size_one t i = let e = sum_by-cons (λ j. size (t j)) i [] in omega arith

-- the parts of a node are smaller than it, all of them together
parts_smaller : (b : Bool) (rs : List Row) (t : ℕ → Tree) (f : Form) → CanFollow b rs f → sum_by (λ i. size (t i)) (form_parts f) < size (form_tree t f)
parts_smaller b rs t empty_form p = omega arith
parts_smaller b rs t text_form p = omega arith
parts_smaller b rs t (words_form w) p = omega arith
parts_smaller b rs t (name_form w) p = omega arith
parts_smaller b rs t (elem_form c i) p = size_one t i
parts_smaller b rs t (seq_form []) p = absurd (let h = p.0 in omega arith)
parts_smaller b rs t (seq_form (i ∷ is)) p = let h = p.0 in let r = size_seq t i is in omega arith
parts_smaller b rs t (alt_form []) p = absurd (let h = p.0 in omega arith)
parts_smaller b rs t (alt_form (i ∷ is)) p = let h = p.0 in let r = size_alt t i is in omega arith
parts_smaller b rs t (star_form i) p = size_one t i
parts_smaller b rs t (plus_form i) p = size_one t i
parts_smaller b rs t (opt_form i) p = size_one t i
parts_smaller b rs t (val_form x q i) p = size_one t i

some_size : (T : Tree) → 1 ≤ size T
some_size Empty = omega arith
some_size Text = omega arith
some_size (Words w) = omega arith
some_size (Name x) = omega arith
some_size (Elem c T) = omega arith
some_size (Seq T U) = omega arith
some_size (Alt T U) = omega arith
some_size (Star T) = omega arith
some_size (Plus T) = omega arith
some_size (Opt T) = omega arith
some_size (Val x T) = omega arith

-- ---- nodes of a table that is built
node_is : (b : Bool) (rows : List Row) → AreBuilt b rows → (i : ℕ) → i < length rows → tree_at rows i ≡ form_tree (tree_at rows) (form_at rows i)
node_is b rows built i h = tree_is b rows i no_row built h

pub older_parts : (b : Bool) (rows : List Row) → AreBuilt b rows → (i : ℕ) → i < length rows → AllByRecursion (λ j. j < i) (parts_of rows i)
older_parts b rows built i h = form_parts_below i (form_at rows i) (parts_at b rows i no_row built h)

abbrev pub weight : List Row → ℕ → ℕ
weight rows i = size (tree_at rows i)

lighter_parts : (b : Bool) (rows : List Row) → AreBuilt b rows → (i : ℕ) → i < length rows → sum_by (weight rows) (parts_of rows i) < weight rows i
lighter_parts b rows built i h =
    let f : Form = form_at rows i in
    let e : weight rows i ≡ size (form_tree (tree_at rows) f) = ap size (node_is b rows built i h) in
    let l = parts_smaller b (take i rows) (tree_at rows) f (follows_at b rows i no_row built h) in
    omega arith

-- ---- what passes from a node to those that it reaches
pub reached_older : (b : Bool) (rows : List Row) (from : ℕ) → AreBuilt b rows → from < length rows → (i : ℕ) → Reaches rows from i → i ≤ from
reached_older b rows from built h _ itself = same_le from
reached_older b rows from built h _ (part {j} i r c) =
    let k = reached_older b rows from built h i r in
    let l : j < i = contained_each (λ m. m < i) (parts_of rows i) j (older_parts b rows built i (omega arith)) c in
    omega arith

pub reached_known : (b : Bool) (rows : List Row) (from : ℕ) → AreBuilt b rows → from < length rows → (known : List (List ℕ)) → uses_only known (tree_at rows from) ≡ true →
    (i : ℕ) → Reaches rows from i → uses_only known (tree_at rows i) ≡ true
reached_known b rows from built h known e _ itself = e
reached_known b rows from built h known e _ (part {j} i r c) =
    let k = reached_older b rows from built h i r in
    let u = sym (ap (uses_only known) (node_is b rows built i (omega arith))) ∙ reached_known b rows from built h known e i r in
    contained_each (λ m. uses_only known (tree_at rows m) ≡ true) (parts_of rows i) j (parts_known known (tree_at rows) (form_at rows i) u) c

pub reached_within : (b : Bool) (rows : List Row) (from : ℕ) → AreBuilt b rows → from < length rows → (i : ℕ) → Reaches rows from i → depth (tree_at rows i) ≤ depth (tree_at rows from)
reached_within b rows from built h _ itself = same_le (depth (tree_at rows from))
reached_within b rows from built h _ (part {j} i r c) =
    let n = depth (tree_at rows from) in
    let k = reached_older b rows from built h i r in
    let u = subst (λ (T : Tree). depth T ≤ n) (node_is b rows built i (omega arith)) (reached_within b rows from built h i r) in
    contained_each (λ m. depth (tree_at rows m) ≤ n) (parts_of rows i) j (parts_within n (tree_at rows) (form_at rows i) u) c

-- ---- a type uses known names alone where each name that it reaches is known
all_each : (p : ℕ → Bool) (is : List ℕ) → list_all p is ≡ true → AllByRecursion (λ i. p i ≡ true) is
all_each p [] e = tt
all_each p (i ∷ is) e = let b = and_parts (p i) (list_all p is) e in (b.0, all_each p is b.1)

each_all : (p : ℕ → Bool) (is : List ℕ) → AllByRecursion (λ i. p i ≡ true) is → list_all p is ≡ true
each_all p [] a = refl
each_all p (i ∷ is) a = and_from (p i) (list_all p is) a.0 (each_all p is a.1)

known_up : (b : Bool) (rows : List Row) (from : ℕ) → AreBuilt b rows → from < length rows → (known : List (List ℕ)) →
    ((i : ℕ) → Reaches rows from i → form_known known (form_at rows i) ≡ true) → (n i : ℕ) → i < n → Reaches rows from i → uses_only known (tree_at rows i) ≡ true
known_up b rows from built h known k zero i l r = absurd (omega arith)
known_up b rows from built h known k (suc n) i l r =
    let o = reached_older b rows from built h i r in
    let a = older_parts b rows built i (omega arith) in
    ap (uses_only known) (node_is b rows built i (omega arith))
    ∙ known_form known (tree_at rows) (form_at rows i) (k i r)
    (each_contained (λ m. uses_only known (tree_at rows m) ≡ true) (parts_of rows i)
    (λ j c. known_up b rows from built h known k n j (let m : j < i = contained_each (λ m. m < i) (parts_of rows i) j a c in omega arith) (part i r c)))

pub all_known : (b : Bool) (rows : List Row) (from : ℕ) (is : List ℕ) → AreBuilt b rows → from < length rows → AreReached rows from is → (known : List (List ℕ)) →
    list_all (λ i. form_known known (form_at rows i)) is ≡ uses_only known (tree_at rows from)
all_known b rows from is built h reached known =
    same_tests (list_all p is) (uses_only known (tree_at rows from))
    (λ e. known_up b rows from built h known (λ i r. contained_each (λ j. p j ≡ true) is i (all_each p is e) ((reached.exact i).1 r)) (suc from) from (omega arith) itself)
    (λ e. each_all p is (each_contained (λ j. p j ≡ true) is (λ i c. (let r = (reached.exact i).0 c in own i r (reached_known b rows from built h known e i r)))))
  where
    p : ℕ → Bool
    p i = form_known known (form_at rows i)

    own : (i : ℕ) → Reaches rows from i → uses_only known (tree_at rows i) ≡ true → p i ≡ true
    own i r e =
        let o = reached_older b rows from built h i r in
        own_known known (tree_at rows) (form_at rows i) (sym (ap (uses_only known) (node_is b rows built i (omega arith))) ∙ e)

-- ---- the walk
-- what waits once parts do
pub record Waits (old more new : List ℕ) : Type 0 where
  pub before : (i : ℕ) → Contains old i → Contains new i
  pub here : (i : ℕ) → Contains more i → Contains new i
  pub cases : (i : ℕ) → Contains new i → Contains old i ⊎ Contains more i
  pub total : (f : ℕ → ℕ) → sum_by f new ≡ sum_by f old + sum_by f more

pub waits : (old parts new : List ℕ) → IsPermutation (old ++ parts) new → Waits old parts new
waits old parts new h = record {
  before = λ i c. Contains-permutation (old ++ parts) new i h (Contains-append_left old parts i c);
  here = λ i c. Contains-permutation (old ++ parts) new i h (Contains-append_right old parts i c);
  cases = λ i c. Contains-append_cases old parts i (Contains-permutation new (old ++ parts) i (IsPermutation-sym (old ++ parts) new h) c);
  total = λ f. sum_by-IsPermutation f (old ++ parts) new h ∙ sum_by-append f old parts;
}

-- what waits once the greatest is taken
pub record Takes (old : List ℕ) (p : ℕ) (new : List ℕ) : Type 0 where
  pub here : Contains old p
  pub after : (i : ℕ) → Contains new i → Contains old i
  pub cases : (i : ℕ) → Contains old i → (i ≡ p) ⊎ Contains new i
  pub total : (f : ℕ → ℕ) → sum_by f new + f p ≡ sum_by f old

pub takes : (old new : List ℕ) (p : ℕ) → IsPermutation old (p ∷ new) → Takes old p new
takes old new p h =
    let back = IsPermutation-sym old (p ∷ new) h in
    record {
      here = Contains-permutation (p ∷ new) old p back (0, omega arith, refl);
      after = λ i c. Contains-permutation (p ∷ new) old i back (Contains-append_right (p ∷ []) new i c);
      cases = λ i c. ⊎_elim (λ (e : p ≡ i). inl (sym e)) (λ w. inr w) (front_or_rest p i new (Contains-permutation old (p ∷ new) i h c));
      total = λ f. sum_by_popped f p old new h;
    }

-- each is greater than those after it
abbrev pub AreFalling : List ℕ → Type 0
AreFalling [] = Unit {0}
AreFalling (i ∷ is) = AllByRecursion (λ j. j < i) is × AreFalling is

falling_at : (is : List ℕ) → AreFalling is → (m n : ℕ) → m < n → n < length is → get_or is n 0 < get_or is m 0
falling_at [] a m n h l = absurd (omega arith)
falling_at (i ∷ is) a m zero h l = absurd (omega arith)
falling_at (i ∷ is) a zero (suc n) h l = contained_each (λ j. j < i) is (get_or is n 0) a.0 (Contains-get_or is n 0 (omega arith))
falling_at (i ∷ is) a (suc m) (suc n) h l = falling_at is a.1 m n (omega arith) (omega arith)

rising_back : (is : List ℕ) → AreFalling is → AreRising (reverse is)
rising_back is a m n h l =
    let r = length-reverse is in
    let x = get_or-reverse is m 0 (omega arith) in
    let y = get_or-reverse is n 0 (omega arith) in
    let f = falling_at is a (length is - 1 - n) (length is - 1 - m) (omega arith) (omega arith) in
    rw (x, y) f

falling_push : (is : List ℕ) (p : ℕ) → AreFalling is → ((i : ℕ) → Contains is i → p < i) → AreFalling (is ++ p ∷ [])
falling_push [] p a f = (tt, tt)
falling_push (i ∷ is) p a f = (
  each_contained (λ j. j < i) (is ++ p ∷ []) (λ j c. ⊎_elim (λ d. contained_each (λ k. k < i) is j a.0 d) (λ (e : p ≡ j). (let l = f i (0, omega arith, refl) in omega arith)) (Contains-push_cases is p j c)),
  falling_push is p a.1 (λ j c. f j (Contains-append_right (i ∷ []) is j c)),
)

-- Each node that is reached is met or waits. Each node of a tree that waits is paid for once.
pub record Walked (rows : List Row) (from above : ℕ) (waiting reached : List ℕ) : Type 0 where
  pub sound : (i : ℕ) → Contains waiting i → Reaches rows from i
  pub order : (i : ℕ) → Contains waiting i → (i < above) ⊎ Contains reached i
  pub falling : AreFalling reached
  pub low : (i : ℕ) → Contains reached i → above ≤ i
  pub within : (i : ℕ) → Contains reached i → Reaches rows from i
  pub start : Contains waiting from ⊎ Contains reached from
  pub closed : (i j : ℕ) → Contains reached i → Contains (parts_of rows i) j → Contains waiting j ⊎ Contains reached j
  pub few : length reached + sum_by (weight rows) waiting ≤ weight rows from

pub walk_begins : (rows : List Row) (from above : ℕ) (waiting : List ℕ) → from < above → IsPermutation (from ∷ []) waiting → Walked rows from above waiting []
walk_begins rows from above waiting h p =
    let w = waits [] (from ∷ []) waiting p in
    let only : (i : ℕ) → Contains waiting i → from ≡ i = λ i c. ⊎_elim
    (λ n. absurd (none_contained i n))
    (λ d. ⊎_elim (λ (e : from ≡ i). e) (λ n. absurd (none_contained i n)) (front_or_rest from i [] d))
    (w.cases i c) in
    record {
      sound = λ i c. subst (Reaches rows from) (only i c) itself;
      order = λ i c. inl (let e = only i c in omega arith);
      falling = tt;
      low = λ i c. absurd (none_contained i c);
      within = λ i c. absurd (none_contained i c);
      start = inl (w.here from (0, omega arith, refl));
      closed = λ i j c d. absurd (none_contained i c);
      few = let t = w.total (weight rows) in let e = sum_by-cons (weight rows) from [] in omega arith;
    }

-- the greatest that waits was met before
pub walk_again : (rows : List Row) (from above p : ℕ) (old new reached : List ℕ) → Walked rows from above old reached → Takes old p new → above ≤ p → Walked rows from above new reached
walk_again rows from above p old new reached w t h =
    let here : Contains reached p = ⊎_elim (λ l. absurd (omega arith)) (λ c. c) (w.order p t.here) in
    let still : (j : ℕ) → Contains old j ⊎ Contains reached j → Contains new j ⊎ Contains reached j = λ j s. ⊎_elim
    (λ c. ⊎_elim (λ (e : j ≡ p). inr (rw e here)) (λ d. inl d) (t.cases j c))
    (λ c. inr c)
    s in
    record {
      sound = λ i c. w.sound i (t.after i c);
      order = λ i c. w.order i (t.after i c);
      falling = w.falling;
      low = w.low;
      within = w.within;
      start = still from w.start;
      closed = λ i j c d. still j (w.closed i j c d);
      few = let s = t.total (weight rows) in let f = w.few in omega arith;
    }

-- it is met for the first time, and its parts wait
pub walk_on : (b : Bool) (rows : List Row) (from above p : ℕ) (old middle new reached : List ℕ) → AreBuilt b rows → p < length rows → Walked rows from above old reached → Takes old p middle →
    p < above → ((i : ℕ) → Contains middle i → i ≤ p) → Waits middle (parts_of rows p) new → Walked rows from p new (reached ++ p ∷ [])
walk_on b rows from above p old middle new reached built inside w t h most more =
    let here : Reaches rows from p = w.sound p t.here in
    let last : Contains (reached ++ p ∷ []) p = Contains-push reached p in
    let kept : (j : ℕ) → Contains reached j → Contains (reached ++ p ∷ []) j = λ j c. Contains-append_left reached (p ∷ []) j c in
    let still : (j : ℕ) → Contains old j ⊎ Contains reached j → Contains new j ⊎ Contains (reached ++ p ∷ []) j = λ j s. ⊎_elim
    (λ c. ⊎_elim (λ (e : j ≡ p). inr (rw e last)) (λ d. inl (more.before j d)) (t.cases j c))
    (λ c. inr (kept j c))
    s in
    record {
      sound = λ i c. ⊎_elim (λ d. w.sound i (t.after i d)) (λ d. part p here d) (more.cases i c);
      order = λ i c. ⊎_elim
          (λ d. (let m = most i d in below i m))
          (λ d. inl (contained_each (λ j. j < p) (parts_of rows p) i (older_parts b rows built p inside) d))
          (more.cases i c);
      falling = falling_push reached p w.falling (λ i c. (let l = w.low i c in omega arith));
      low = λ i c. ⊎_elim (λ d. (let l = w.low i d in omega arith)) (λ (e : p ≡ i). omega arith) (Contains-push_cases reached p i c);
      within = λ i c. ⊎_elim (λ d. w.within i d) (λ (e : p ≡ i). subst (Reaches rows from) e here) (Contains-push_cases reached p i c);
      start = still from w.start;
      closed = λ i j c d. ⊎_elim
          (λ k. still j (w.closed i j k d))
          (λ (e : p ≡ i). inl (more.here j (subst (λ q. Contains (parts_of rows q) j) (sym e) d)))
          (Contains-push_cases reached p i c);
      few =
          let s = t.total (weight rows) in
          let m = more.total (weight rows) in
          let l = lighter_parts b rows built p inside in
          let n = length-append reached (p ∷ []) in
          let f = w.few in
          omega arith;
    }
  where
    below : (i : ℕ) → i ≤ p → (i < p) ⊎ Contains (reached ++ p ∷ []) i
    below i m = ⊎_elim (λ (l : i < p). inl l) (λ (g : p ≤ i). inr (let e : p ≡ i = omega arith in rw (← e) (Contains-push reached p))) (cases_lt i p)

-- nothing waits
pub walk_ends : (rows : List Row) (from above : ℕ) (waiting reached : List ℕ) → Walked rows from above waiting reached → ((i : ℕ) → Contains waiting i → ⊥) → AreReached rows from (reverse reached)
walk_ends rows from above waiting reached w none = record {
  rising = rising_back reached w.falling;
  exact = λ i. (λ c. w.within i (Contains-permutation (reverse reached) reached i (IsPermutation-sym reached (reverse reached) turned) c), λ r. Contains-permutation reached (reverse reached) i turned (found i r));
  few = let f = w.few in let l = length-reverse reached in omega arith;
}
  where
    turned : IsPermutation reached (reverse reached)
    turned = IsPermutation-reverse reached

    met : (i : ℕ) → Contains waiting i ⊎ Contains reached i → Contains reached i
    met i (inl c) = absurd (none i c)
    met i (inr c) = c

    found : (i : ℕ) → Reaches rows from i → Contains reached i
    found _ itself = met from w.start
    found _ (part {j} i r c) = met j (w.closed i j (found i r) c)

-- the walk's steps get lighter
pub lighter_again : (rows : List Row) (p : ℕ) (old new : List ℕ) → Takes old p new → sum_by (weight rows) new < sum_by (weight rows) old
lighter_again rows p old new t = let s = t.total (weight rows) in let o = some_size (tree_at rows p) in omega arith

pub lighter_on : (b : Bool) (rows : List Row) (p : ℕ) (old middle new : List ℕ) → AreBuilt b rows → p < length rows → Takes old p middle → Waits middle (parts_of rows p) new →
    sum_by (weight rows) new < sum_by (weight rows) old
lighter_on b rows p old middle new built inside t more =
    let s = t.total (weight rows) in
    let m = more.total (weight rows) in
    let l = lighter_parts b rows built p inside in
    omega arith
