-- Names that are found one after the other.
use Rattle.std.proofs.Common.{◌≡◌, ◌≢◌, ℕ, ◌+◌, ◌<◌, ◌≤◌, ◌^◌, Bool, true, false, cond, ◌||◌, List, [], ◌∷◌, ◌++◌, length, drop, get_or, refl, ap, sym, ◌∙◌, subst, append_assoc, append-nil, add-one, drop-cons, drop_of_length-le, arith}
use Rattle.std.specs.List.{AllByRecursion, list_any}
use Rattle.std.specs.BTreeMap.{is_at}
use Rattle.std.specs.Ordering.{nat_cmp, is_eq}
use Rattle.std.specs.Cmp.Lexicographic.{slice_cmp}
use Rattle.std.specs.Str.{bytes_eq}
use Rattle.std.proofs.lemmas.Bool.{or_from}
use Rattle.std.proofs.lemmas.Map.Text.{is_eq-slice_cmp}
use Rattle.xd_doc.proofs.SortedNames.{or_false}
use Rattle.xd_syntax.specs.Words.{any_word, has_word}
use Rattle.xd_syntax.specs.Keywords.{is_type_name}
use Rattle.xd_shown.specs.FreeNames.{AreDistinct, AreNewNames}
use Rattle.xd_shown.specs.Shown.{shown_name, AreNamedFrom, no_more, skipped, given}
use Rattle.xd_shown.proofs.NameLaws.{name_proper, name_other, other_names}

-- the same of numbers below 2 ^ 64
pub data NamedFrom (taken : List (List ℕ)) : ℕ → List (List ℕ) → Type 0 where
  ends : {n : ℕ} → NamedFrom taken n []
  passes : {n : ℕ} {ws : List (List ℕ)} → n < 2 ^ 64 → has_word taken (shown_name n) ≡ true → NamedFrom taken (n + 1) ws → NamedFrom taken n ws
  names : {n : ℕ} {ws : List (List ℕ)} → n < 2 ^ 64 → has_word taken (shown_name n) ≡ false → NamedFrom taken (n + 1) ws → NamedFrom taken n (shown_name n ∷ ws)

pub are_named : {taken : List (List ℕ)} {n : ℕ} {ws : List (List ℕ)} → NamedFrom taken n ws → AreNamedFrom taken n ws
are_named ends = no_more
are_named (passes h t r) = skipped t (are_named r)
are_named (names h t r) = given t (are_named r)

all_proper : {taken : List (List ℕ)} {n : ℕ} {ws : List (List ℕ)} → NamedFrom taken n ws → AllByRecursion (λ w. is_type_name w ≡ true) ws
all_proper ends = tt
all_proper (passes h t r) = all_proper r
all_proper (names {n} h t r) = (name_proper n h, all_proper r)

none_any : {taken : List (List ℕ)} {n : ℕ} {ws : List (List ℕ)} → NamedFrom taken n ws → has_word ws any_word ≡ false
none_any ends = refl
none_any (passes h t r) = none_any r
none_any (names {n} {ws} h t r) = or_from (bytes_eq (shown_name n) any_word) (has_word ws any_word) (name_other n) (none_any r)

-- a name before them is none of them
not_later : {taken : List (List ℕ)} {n : ℕ} {ws : List (List ℕ)} (m : ℕ) → m < n → m < 2 ^ 64 → NamedFrom taken n ws → has_word ws (shown_name m) ≡ false
not_later m l k ends = refl
not_later m l k (passes {n} h t r) = not_later m (omega arith) k r
not_later m l k (names {n} {ws} h t r) =
    let d : n ≢ m = omega arith in or_from (bytes_eq (shown_name n) (shown_name m)) (has_word ws (shown_name m)) (other_names n m h k d) (not_later m (omega arith) k r)

all_distinct : {taken : List (List ℕ)} {n : ℕ} {ws : List (List ℕ)} → NamedFrom taken n ws → AreDistinct ws
all_distinct ends = tt
all_distinct (passes h t r) = all_distinct r
all_distinct (names {n} h t r) = (not_later n (omega arith) h r, all_distinct r)

pub are_new : {taken : List (List ℕ)} {n : ℕ} {ws : List (List ℕ)} → NamedFrom taken n ws → AreNewNames ws
are_new r = record { proper = all_proper r; not_any = none_any r; distinct = all_distinct r }

-- ---- sets of words
-- a word is among the keys, as the tree looks it up
abbrev pub has_key : List (List ℕ) → List ℕ → Bool
has_key ks w = list_any (is_at (slice_cmp nat_cmp w)) ks

or_moved : (a b r x : Bool) → (a || (b || r)) ≡ x → (cond b true a || r) ≡ x
or_moved true true r x e = e
or_moved true false r x e = e
or_moved false true r x e = e
or_moved false false r x e = e

-- Of these words, those before the place were added.
pub record AreAdded (words : List (List ℕ)) (place : ℕ) (keys : List (List ℕ)) : Type 0 where
  pub all : (w : List ℕ) → (has_key keys w || has_word (drop place words) w) ≡ has_word words w

pub none_added : (words : List (List ℕ)) → AreAdded words 0 []
none_added words = record { all = λ w. refl }

pub one_added : (words : List (List ℕ)) (place : ℕ) (v u : List ℕ) (old new : List (List ℕ)) → AreAdded words place old → place < length words → v ≡ get_or words place v → u ≡ v →
    ((w : List ℕ) → has_key new w ≡ cond (is_at (slice_cmp nat_cmp u) w) true (has_key old w)) → AreAdded words (place + 1) new
one_added words place v u old new a l e s h = record { all = step }
  where
    step : (w : List ℕ) → (has_key new w || has_word (drop (place + 1) words) w) ≡ has_word words w
    step w =
        let r = has_word (drop (place + 1) words) w in
        let d : drop place words ≡ v ∷ drop (place + 1) words = rw (drop-cons words place v, add-one, ← e) refl in
        let f : is_eq (slice_cmp nat_cmp u w) ≡ bytes_eq v w = is_eq-slice_cmp u w ∙ ap (λ x. bytes_eq x w) s in
        ap (λ b. b || r) (h w ∙ ap (λ b. cond b true (has_key old w)) f)
        ∙ or_moved (has_key old w) (bytes_eq v w) r (has_word words w) (subst (λ ws. (has_key old w || has_word ws w) ≡ has_word words w) d (a.all w))

pub all_added : (words : List (List ℕ)) (place : ℕ) (keys : List (List ℕ)) → AreAdded words place keys → length words ≤ place → (w : List ℕ) → has_key keys w ≡ has_word words w
all_added words place keys a l w =
    sym (or_false (has_key keys w)) ∙ subst (λ ws. (has_key keys w || has_word ws w) ≡ has_word words w) (drop_of_length-le words {i = place} l) (a.all w)

-- ---- the search
-- So many numbers were tried, and these words found. Of the names of the other numbers, just those
-- that are left are taken.
pub record IsSearch (taken : List (List ℕ)) (number : ℕ) (left words : List (List ℕ)) : Type 0 where
  pub found : (rest : List (List ℕ)) → NamedFrom taken (number + 1) rest → NamedFrom taken 1 (words ++ rest)
  pub ahead : (m : ℕ) → number < m → m < 2 ^ 64 → has_key left (shown_name m) ≡ has_word taken (shown_name m)

pub search_begins : (taken left : List (List ℕ)) → ((w : List ℕ) → has_key left w ≡ has_word taken w) → IsSearch taken 0 left []
search_begins taken left h = record { found = λ rest r. r; ahead = λ m l k. h (shown_name m) }

-- what is ahead once a name is taken off
still_ahead : (taken : List (List ℕ)) (number : ℕ) (left less words : List (List ℕ)) → IsSearch taken number left words → number + 1 < 2 ^ 64 →
    ((w : List ℕ) → has_key less w ≡ cond (is_at (slice_cmp nat_cmp (shown_name (number + 1))) w) false (has_key left w)) →
    (m : ℕ) → number + 1 < m → m < 2 ^ 64 → has_key less (shown_name m) ≡ has_word taken (shown_name m)
still_ahead taken number left less words s h u m l k =
    let d : number + 1 ≢ m = omega arith in
    let e : is_eq (slice_cmp nat_cmp (shown_name (number + 1)) (shown_name m)) ≡ false = is_eq-slice_cmp (shown_name (number + 1)) (shown_name m) ∙ other_names (number + 1) m h k d in
    u (shown_name m) ∙ ap (λ b. cond b false (has_key left (shown_name m))) e ∙ s.ahead m (omega arith) k

-- the next number's name is taken
pub search_passes : (taken : List (List ℕ)) (number : ℕ) (left less words : List (List ℕ)) → IsSearch taken number left words → number + 1 < 2 ^ 64 →
    ((w : List ℕ) → has_key less w ≡ cond (is_at (slice_cmp nat_cmp (shown_name (number + 1))) w) false (has_key left w)) →
    has_key left (shown_name (number + 1)) ≡ true → IsSearch taken (number + 1) less words
search_passes taken number left less words s h u t =
    record {
      found = λ rest r. s.found rest (passes h (sym (s.ahead (number + 1) (omega arith) h) ∙ t) r);
      ahead = still_ahead taken number left less words s h u;
    }

-- it is not
pub search_finds : (taken : List (List ℕ)) (number : ℕ) (left less words : List (List ℕ)) → IsSearch taken number left words → number + 1 < 2 ^ 64 →
    ((w : List ℕ) → has_key less w ≡ cond (is_at (slice_cmp nat_cmp (shown_name (number + 1))) w) false (has_key left w)) →
    has_key left (shown_name (number + 1)) ≡ false → IsSearch taken (number + 1) less (words ++ shown_name (number + 1) ∷ [])
search_finds taken number left less words s h u t =
    let w = shown_name (number + 1) in
    record {
      found = λ rest r. subst (NamedFrom taken 1) (sym (append_assoc words (w ∷ []) rest)) (s.found (w ∷ rest) (names h (sym (s.ahead (number + 1) (omega arith) h) ∙ t) r));
      ahead = still_ahead taken number left less words s h u;
    }

-- all that were found
pub search_ends : (taken : List (List ℕ)) (number : ℕ) (left words : List (List ℕ)) → IsSearch taken number left words → NamedFrom taken 1 words
search_ends taken number left words s = subst (NamedFrom taken 1) (append-nil words) (s.found [] ends)

-- So many names are wanted, and so many are found. Each number that was tried gave a name, or took
-- one off those that were taken.
pub record IsNaming (taken : List (List ℕ)) (number count found most : ℕ) (left words : List (List ℕ)) : Type 0 where
  pub so_far : IsSearch taken number left words
  pub tried : number + length left ≡ found + most
  pub within : found ≤ count
  pub few : most < 2 ^ 63

-- a number's name is taken: one name is left less
pub naming_passes : (taken : List (List ℕ)) (number count found most : ℕ) (left less words : List (List ℕ)) (w : List ℕ) (r : Bool) → IsNaming taken number count found most left words →
    number + 1 < 2 ^ 64 → w ≡ shown_name (number + 1) → r ≡ has_key left w → r ≡ true →
    ((v : List ℕ) → has_key less v ≡ cond (is_at (slice_cmp nat_cmp w) v) false (has_key left v)) → length less + cond r 1 0 ≡ length left →
    IsNaming taken (number + 1) count found most less words
naming_passes taken number count found most left less words w r s h e t b u l =
    let there : has_key left (shown_name (number + 1)) ≡ true = ap (has_key left) (sym e) ∙ sym t ∙ b in
    let off = subst (λ x. (v : List ℕ) → has_key less v ≡ cond (is_at (slice_cmp nat_cmp x) v) false (has_key left v)) e u in
    let fewer : length less + 1 ≡ length left = subst (λ c. length less + cond c 1 0 ≡ length left) b l in
    let tried = s.tried in
    record { so_far = search_passes taken number left less words s.so_far h off there; tried = omega arith; within = s.within; few = s.few }

-- it is not: it is the next one
pub naming_finds : (taken : List (List ℕ)) (number count found most more : ℕ) (left less words made : List (List ℕ)) (w : List ℕ) (r : Bool) →
    IsNaming taken number count found most left words → number + 1 < 2 ^ 64 → w ≡ shown_name (number + 1) → r ≡ has_key left w → r ≡ false →
    ((v : List ℕ) → has_key less v ≡ cond (is_at (slice_cmp nat_cmp w) v) false (has_key left v)) → length less + cond r 1 0 ≡ length left →
    made ≡ words ++ w ∷ [] → more ≡ found + 1 → more ≤ count → IsNaming taken (number + 1) count more most less made
naming_finds taken number count found most more left less words made w r s h e t b u l m n k =
    let free : has_key left (shown_name (number + 1)) ≡ false = ap (has_key left) (sym e) ∙ sym t ∙ b in
    let off = subst (λ x. (v : List ℕ) → has_key less v ≡ cond (is_at (slice_cmp nat_cmp x) v) false (has_key left v)) e u in
    let same : length less + 0 ≡ length left = subst (λ c. length less + cond c 1 0 ≡ length left) b l in
    let tried = s.tried in
    let added : words ++ shown_name (number + 1) ∷ [] ≡ made = ap (λ x. words ++ x ∷ []) (sym e) ∙ sym m in
    record {
      so_far = subst (IsSearch taken (number + 1) less) added (search_finds taken number left less words s.so_far h off free);
      tried = omega arith;
      within = k;
      few = s.few;
    }
