-- Which moves match names of a class.
use Rattle.std.proofs.Common.{◌≡◌, ℕ, zero, suc, ◌<◌, Bool, true, false, ◌&&◌, ◌||◌, List, [], ◌∷◌, ◌++◌, ◌+◌, length, get_or, take, filter, nat_lt, cond, refl, sym, ap, subst, ◌∙◌, arith}
use Rattle.std.specs.Cmp.{both_ways}
use Rattle.std.specs.List.{list_any}
use Rattle.std.proofs.lemmas.Bool.Decides.{nat_tests}
use Rattle.std.proofs.lemmas.List.Folds.{list_any-append, list_any_at, list_any_more}
use Rattle.xd_doc.proofs.SortedNames.{or_false}
use Rattle.xd_doc.proofs.Bools.{and_left, or_join, or_true}
use Rattle.xd_doc.proofs.Lists.{all_push}
use Rattle.xd_auto.specs.Matching.{AreMatching}
use Rattle.xd_boole.specs.Groups.{AllPass, passes_at}
use Rattle.xd_boole.specs.Matching.{AddsThose}
use Rattle.xd_boole.proofs.Lists.{all_at}

pub passes_any : {M : Type 0} (t : M → Bool) (ms : List M) (k : ℕ) → passes_at t ms k ≡ true → list_any t ms ≡ true
passes_any t [] k e = absurd (cc)
passes_any t (m ∷ ms) zero e = ap (λ w. w || list_any t ms) e
passes_any t (m ∷ ms) (suc k) e = ap (λ w. t m || w) (passes_any t ms k e) ∙ or_true (t m)

-- the place of an element that passes
record Place {M : Type 0} (t : M → Bool) (ms : List M) : Type 0 where
  number : ℕ
  within : number < length ms
  passes : passes_at t ms number ≡ true
  here : (d : M) → t (get_or ms number d) ≡ true

any_place : {M : Type 0} (t : M → Bool) (ms : List M) → list_any t ms ≡ true → Place t ms
any_place t [] e = absurd (cc)
any_place t (m ∷ ms) e = go (t m) refl e (λ h. any_place t ms h)
  where
    go : (b : Bool) → t m ≡ b → (b || list_any t ms) ≡ true → (list_any t ms ≡ true → Place t ms) → Place t (m ∷ ms)
    go true is h more = record { number = zero; within = omega arith; passes = is; here = λ d. is }
    go false is h more = let p = more h in record { number = suc p.number; within = omega (arith, p.within); passes = p.passes; here = p.here }

some_number : {M : Type 0} (t : M → Bool) (ms : List M) (ks : List ℕ) → list_any (passes_at t ms) ks ≡ true → list_any t ms ≡ true
some_number t ms [] e = absurd (cc)
some_number t ms (k ∷ ks) e = go (passes_at t ms k) refl e (λ h. some_number t ms ks h)
  where
    go : (b : Bool) → passes_at t ms k ≡ b → (b || list_any (passes_at t ms) ks) ≡ true → (list_any (passes_at t ms) ks ≡ true → list_any t ms ≡ true) → list_any t ms ≡ true
    go true is h more = passes_any t ms k is
    go false is h more = more h

-- of a name that the move has, the moves that may share a name with it tell what all moves do
pub matching_tells : {M : Type 0} (has : M → List ℕ → Bool) (t : M → Bool) (step : M) (moves : List M) (numbers : List ℕ) → AreMatching has step moves numbers
    → (x : List ℕ) → has step x ≡ true → list_any (passes_at (λ m. has m x && t m) moves) numbers ≡ list_any (λ m. has m x && t m) moves
matching_tells {M} has t step moves numbers are x takes =
    both_ways (list_any (passes_at (λ m. has m x && t m) moves) numbers) (list_any (λ m. has m x && t m) moves)
    (some_number (λ m. has m x && t m) moves numbers)
    (λ e.
    let p = any_place (λ m. has m x && t m) moves e in
    let d = first moves p.within in
    let among = are.cover p.number d x p.within takes (and_left (has (get_or moves p.number d) x) (t (get_or moves p.number d)) (p.here d)) in
    list_any_at (passes_at (λ m. has m x && t m) moves) numbers among.0 p.number among.1 (ap (passes_at (λ m. has m x && t m) moves) among.2 ∙ p.passes))
  where
    first : {n : ℕ} (ms : List M) → n < length ms → M
    first [] lt = absurd (omega arith)
    first (m ∷ ms) lt = m

-- ---- moves before a place

-- a test of a number that passes only before the place
passes_before : {M : Type 0} (t : M → Bool) (ms : List M) (n k : ℕ) → (nat_lt k n && passes_at t ms k) ≡ passes_at t (take n ms) k
passes_before t ms zero k = go (nat_lt k zero) refl
  where
    go : (b : Bool) → nat_lt k zero ≡ b → (b && passes_at t ms k) ≡ false
    go true e = absurd (grind (arith, nat_tests))
    go false e = refl
passes_before t [] (suc n) k = and_false (nat_lt k (suc n))
  where
    and_false : (b : Bool) → (b && false) ≡ false
    and_false true = refl
    and_false false = refl
passes_before t (m ∷ ms) (suc n) zero = ap (λ w. w && t m) (let e : nat_lt zero (suc n) ≡ true = grind (arith, nat_tests) in e)
passes_before t (m ∷ ms) (suc n) (suc k) = ap (λ w. w && passes_at t ms k) (lowered k n) ∙ passes_before t ms n k
  where
    lowered : (k n : ℕ) → nat_lt (suc k) (suc n) ≡ nat_lt k n
    lowered k n = both_ways (nat_lt (suc k) (suc n)) (nat_lt k n) (λ e. grind (arith, nat_tests)) (λ e. grind (arith, nat_tests))

any_filtered : (f p : ℕ → Bool) (ks : List ℕ) → list_any p (filter f ks) ≡ list_any (λ k. f k && p k) ks
any_filtered f p [] = refl
any_filtered f p (k ∷ ks) = go (f k) (any_filtered f p ks)
  where
    go : (b : Bool) → list_any p (filter f ks) ≡ list_any (λ k. f k && p k) ks → list_any p (cond b (k ∷ filter f ks) (filter f ks)) ≡ ((b && p k) || list_any (λ k. f k && p k) ks)
    go true h = ap (λ w. p k || w) h
    go false h = h

any_same : (f g : ℕ → Bool) (ks : List ℕ) → ((k : ℕ) → f k ≡ g k) → list_any f ks ≡ list_any g ks
any_same f g [] h = refl
any_same f g (k ∷ ks) h = ap (λ w. w || list_any f ks) (h k) ∙ ap (λ w. g k || w) (any_same f g ks h)

-- where a move stands before the place
record Before {M : Type 0} (ms : List M) (n k : ℕ) : Type 0 where
  within : k < length ms
  same : (d : M) → get_or (take n ms) k d ≡ get_or ms k d

before : {M : Type 0} (ms : List M) (n k : ℕ) → k < length (take n ms) → Before ms n k
before ms zero k lt = absurd (omega arith)
before [] (suc n) k lt = absurd (omega arith)
before (m ∷ ms) (suc n) zero lt = record { within = omega arith; same = λ d. refl }
before (m ∷ ms) (suc n) (suc k) lt = let b = before ms n k (omega arith) in record { within = omega (arith, b.within); same = b.same }

-- of the moves that may share a name with a move those before a place tell what all moves before it
-- do
pub matching_before : {M : Type 0} (has : M → List ℕ → Bool) (t : M → Bool) (step : M) (moves : List M) (numbers : List ℕ) (n : ℕ) → AreMatching has step moves numbers
    → (x : List ℕ) → has step x ≡ true → list_any (passes_at (λ m. has m x && t m) moves) (filter (λ k. nat_lt k n) numbers) ≡ list_any (λ m. has m x && t m) (take n moves)
matching_before {M} has t step moves numbers n are x takes =
    let p : M → Bool = λ m. has m x && t m in
    any_filtered (λ k. nat_lt k n) (passes_at p moves) numbers
    ∙ any_same (λ k. nat_lt k n && passes_at p moves k) (passes_at p (take n moves)) numbers (passes_before p moves n)
    ∙ both_ways (list_any (passes_at p (take n moves)) numbers) (list_any p (take n moves))
    (some_number p (take n moves) numbers)
    (λ e.
    let f = any_place p (take n moves) e in
    let d = first (take n moves) f.within in
    let b = before moves n f.number f.within in
    let among = are.cover f.number d x b.within takes (ap (λ m. has m x) (sym (b.same d)) ∙ and_left (has (get_or (take n moves) f.number d) x) (t (get_or (take n moves) f.number d)) (f.here d)) in
    list_any_at (passes_at p (take n moves)) numbers among.0 f.number among.1 (ap (passes_at p (take n moves)) among.2 ∙ f.passes))
  where
    first : {n : ℕ} (ms : List M) → n < length ms → M
    first [] lt = absurd (omega arith)
    first (m ∷ ms) lt = m

-- ---- moves by their numbers

-- the test of a number is that of the element there
pub passes_there : {M : Type 0} (t : M → Bool) (ms : List M) (k : ℕ) (m : M) → k < length ms → m ≡ get_or ms k m → passes_at t ms k ≡ t m
passes_there {M} t [] k m lt at = absurd (omega arith)
passes_there {M} t (n ∷ ms) zero m lt at = ap t (sym at)
passes_there {M} t (n ∷ ms) (suc k) m lt at = passes_there t ms k m (omega arith) at

-- one of the moves by their numbers was added
pub adds_none : {M : Type 0} (moves : List M) (numbers : List ℕ) (old : List M) → AddsThose moves (take 0 numbers) old old
adds_none moves numbers old = record { taken = λ t. sym (or_false (list_any t old)); all = λ t h k. h }

pub adds_more : {M : Type 0} (moves : List M) (numbers : List ℕ) (i k : ℕ) (m : M) (initial old new : List M) → i < length numbers → k ≡ get_or numbers i k → k < length moves → m ≡ get_or moves k m
    → new ≡ old ++ m ∷ [] → AddsThose moves (take i numbers) initial old → AddsThose moves (take (i + 1) numbers) initial new
adds_more {M} moves numbers i k m initial old new lt at within is added before = record {
  taken = λ t.
      ap (list_any t) added ∙ list_any-append t old (m ∷ []) ∙ ap (λ w. list_any t old || w) (or_false (t m))
      ∙ ap (λ w. w || t m) (before.taken t) ∙ or_join (list_any t initial) (list_any (passes_at t moves) (take i numbers)) (t m)
      ∙ ap (λ w. list_any t initial || w)
      (ap (λ w. list_any (passes_at t moves) (take i numbers) || w) (sym (passes_there t moves k m within is)) ∙ number_more (passes_at t moves) numbers i k lt at);
  all = λ t h all. subst (AllPass t) (sym added) (all_push (λ w. t w ≡ true) old m (before.all t h all) (all_at (λ w. t w ≡ true) moves all k m within is));
}
  where
    number_more : (p : ℕ → Bool) (ks : List ℕ) (n j : ℕ) → n < length ks → j ≡ get_or ks n j → (list_any p (take n ks) || p j) ≡ list_any p (take (n + 1) ks)
    number_more p ks n j l e = ap (λ w. list_any p (take n ks) || p w) e ∙ sym (list_any_more p ks n j l)

pub adds_all : {M : Type 0} (moves : List M) (numbers : List ℕ) (i : ℕ) (old new : List M) → take i numbers ≡ numbers → AddsThose moves (take i numbers) old new → AddsThose moves numbers old new
adds_all moves numbers i old new whole h = subst (λ ks. AddsThose moves ks old new) whole h
