-- Laws of equations for several unknowns.
use Rattle.std.proofs.Common.{◌≡◌, ◌⊎◌, ◌↔◌, inl, inr, ℕ, zero, suc, ◌+◌, ◌<◌, ◌≤◌, nat_eq, Bool, true, false, not, ◌&&◌, refl, sym, ap, ◌∙◌, subst, List, [], ◌∷◌, length, get_or, set, arith}
use Rattle.std.specs.List.{AllByRecursion}
use Rattle.xd_doc.specs.Document.{Document}
use Rattle.xd_doc.proofs.Lists.{all_more}
use Rattle.xd_doc.proofs.Numbers.{less_cases}
use Rattle.xd_syntax.specs.Table.{Row}
use Rattle.xd_same_types.specs.Grown.{GrowsTypes}
use Rattle.xd_same_types.specs.Same.{Meaning}
use Rattle.xd_show_solve.specs.Equations.{Product, Side, Unknowns, SideTakes, SomeTakes, ConstantTakes, Equals, IsFine, IsFineSide, IsSolved, IsReplaced, SideTops, SumStands, allowed_but, side_in}
use Rattle.xd_show_solve.specs.Systems.{AreEquations, AreFineSums, AllStand, LacksUnknown, ReplacesAt, TakesOut, IsSolution, SumsTops, is_alive, all_alive}
use Rattle.xd_show_solve.specs.declared.sums.Term.{Term}
use Rattle.xd_show_solve.specs.declared.sums.Sum.{Sum}
use Rattle.xd_same_types.proofs.Ids.{got}
use Rattle.std.proofs.lemmas.Bool.Decides.{nat_tests}
use Rattle.xd_show_solve.proofs.SolveLaws.{fine_other}
use Rattle.xd_same_types.proofs.Facts.{none_or, or_same, iff_then, iff_back}
use Rattle.xd_show_solve.proofs.SumSteps.{products, side_kept, stands_kept}
use Rattle.xd_show_solve.proofs.ReduceLaws.{all_stand_kept}
use Rattle.xd_show_solve.proofs.SideLaws.{iff_refl}

-- a side without the unknown stays as it is
fine_products : (allowed : ℕ → Bool) (ranks : List ℕ) (bound i : ℕ) (a : List Row) (ts : List Term) → AllByRecursion (λ (t : Term). nat_eq t.to i ≡ false) ts →
    AllByRecursion (IsFine allowed ranks bound) (products a ts) → AllByRecursion (IsFine (allowed_but allowed i) ranks bound) (products a ts)
fine_products allowed ranks bound i a [] l h = tt
fine_products allowed ranks bound i a (t ∷ ts) l h = (fine_other allowed ranks bound i _ l.0 h.0, fine_products allowed ranks bound i a ts l.1 h.1)

pub lacking_stays : (a : List Row) (i : ℕ) (by : Side) (s : Sum) → LacksUnknown i s → IsReplaced i by (side_in a s) (side_in a s)
lacking_stays a i by s l = record {
  takes = λ N X eq d. iff_refl (SideTakes N X d (side_in a s));
  fine = λ allowed ranks bound f g. fine_products allowed ranks bound i a s.terms.items l f;
  tops = λ known g f. f;
}

pub set_other : {A : Type 0} (xs : List A) (k i : ℕ) (y d : A) → (i ≡ k → ⊥) → get_or (set xs k y) i d ≡ get_or xs i d
set_other [] k i y d n = refl
set_other (x ∷ xs) zero zero y d n = absurd (n refl)
set_other (x ∷ xs) zero (suc i) y d n = refl
set_other (x ∷ xs) (suc k) zero y d n = refl
set_other (x ∷ xs) (suc k) (suc i) y d n = set_other xs k i y d (λ e. n (ap suc e))

pub set_here : {A : Type 0} (xs : List A) (k : ℕ) (y d : A) → k < length xs → get_or (set xs k y) k d ≡ y
set_here [] k y d l = absurd (omega arith)
set_here (x ∷ xs) zero y d l = refl
set_here (x ∷ xs) (suc k) y d l = let m : k < length xs = omega arith in set_here xs k y d m

pub set_count : {A : Type 0} (xs : List A) (k : ℕ) (y : A) → length (set xs k y) ≡ length xs
set_count [] k y = refl
set_count (x ∷ xs) zero y = refl
set_count (x ∷ xs) (suc k) y = ap suc (set_count xs k y)

pub all_stand_set : (a b : List Row) → GrowsTypes a b → (sums : List Sum) (k : ℕ) (made : Sum) → AllStand a sums → SumStands b made → AllStand b (set sums k made)
all_stand_set a b k [] i made h m = tt
all_stand_set a b k (s ∷ ss) zero made h m = (m, all_stand_kept ss h.1)
  where
    all_stand_kept : (ss : List Sum) → AllStand a ss → AllStand b ss
    all_stand_kept [] h = tt
    all_stand_kept (s ∷ ss) h = (stands_kept a b k s h.0, all_stand_kept ss h.1)
all_stand_set a b k (s ∷ ss) (suc i) made h m = (stands_kept a b k s h.0, all_stand_set a b k ss i made h.1 m)

-- a right side in the place of one
pub replaces_set : (a b : List Row) → GrowsTypes a b → (gone : ℕ) (own : Sum) → SumStands a own → (sums : List Sum) (k : ℕ) (s made : Sum) → k < length sums → s ≡ get_or sums k s →
    IsReplaced gone (side_in a own) (side_in a s) (side_in b made) → ReplacesAt a b gone own k sums (set sums k made)
replaces_set a b ab gone own h sums k s made l e r = record {
  count = set_count sums k made;
  others = λ i d n. set_other sums k i made d n;
  here = λ x t p q.
      let xs : x ≡ s = p ∙ same_read sums k x s l ∙ sym e in
      let ts : t ≡ made = q ∙ set_here sums k made t l in
      subst (λ y. IsReplaced gone (side_in b own) (side_in a y) (side_in b t)) (sym xs)
      (subst (λ y. IsReplaced gone (side_in b own) (side_in a s) (side_in b y)) (sym ts)
      (subst (λ y. IsReplaced gone y (side_in a s) (side_in b made)) (sym (side_kept a b ab own h)) r));
}
  where
    same_read : (xs : List Sum) (k : ℕ) (d f : Sum) → k < length xs → get_or xs k d ≡ get_or xs k f
    same_read [] k d f l = absurd (omega arith)
    same_read (x ∷ xs) zero d f l = refl
    same_read (x ∷ xs) (suc k) d f l = let m : k < length xs = omega arith in same_read xs k d f m

-- a right side that stays
pub replaces_none : (a : List Row) (gone : ℕ) (own : Sum) (sums : List Sum) (k : ℕ) (s : Sum) → k < length sums → s ≡ get_or sums k s → LacksUnknown gone s → ReplacesAt a a gone own k sums sums
replaces_none a gone own sums k s l e u = record {
  count = refl;
  others = λ i d n. refl;
  here = λ x t p q.
      let xs : x ≡ s = p ∙ same_read sums k x s l ∙ sym e in
      let ts : t ≡ s = q ∙ same_read sums k t s l ∙ sym e in
      subst (λ y. IsReplaced gone (side_in a own) (side_in a y) (side_in a t)) (sym xs)
      (subst (λ y. IsReplaced gone (side_in a own) (side_in a s) (side_in a y)) (sym ts) (lacking_stays a gone (side_in a own) s u));
}
  where
    same_read : (xs : List Sum) (k : ℕ) (d f : Sum) → k < length xs → get_or xs k d ≡ get_or xs k f
    same_read [] k d f l = absurd (omega arith)
    same_read (x ∷ xs) zero d f l = refl
    same_read (x ∷ xs) (suc k) d f l = let m : k < length xs = omega arith in same_read xs k d f m

-- the first right sides were written anew, and the others stand as they stood
pub record ReplacesFirst (old new : List Row) (gone : ℕ) (own : Sum) (n : ℕ) (before after : List Sum) : Type 0 where
  pub count : length after ≡ length before
  pub done : (i : ℕ) (s t : Sum) → i < n → i < length before → s ≡ get_or before i s → t ≡ get_or after i t → IsReplaced gone (side_in new own) (side_in old s) (side_in new t)
  pub left : (i : ℕ) (s : Sum) → n ≤ i → get_or after i s ≡ get_or before i s

-- none of them yet
pub replaces_first_none : (a m : List Row) (gone : ℕ) (own : Sum) (sums : List Sum) → ReplacesFirst a m gone own 0 sums sums
replaces_first_none a m gone own sums = record {
  count = refl;
  done = λ i s t l m p q. absurd (omega arith);
  left = λ i s l. refl;
}

-- one more
pub replaces_first_more : (a m b : List Row) → GrowsTypes a m → GrowsTypes m b → (gone : ℕ) (own : Sum) → SumStands m own → (n : ℕ) (sums now new : List Sum) → AllStand a sums → AllStand m now →
    ReplacesFirst a m gone own n sums now → ReplacesAt m b gone own n now new → n < length sums → ReplacesFirst a b gone own (n + 1) sums new
replaces_first_more a m b am mb gone own h n sums now new hs hn f r l = record {
  count = r.count ∙ f.count;
  done = λ i s t k j p q. go i s t j p q (less_cases i n k);
  left = λ i s k. let d : i ≡ n → ⊥ = λ e. absurd (omega arith) in let z : n ≤ i = omega arith in r.others i s d ∙ f.left i s z;
}
  where
    stands_at : (c : List Row) (ss : List Sum) (i : ℕ) (s : Sum) → AllStand c ss → i < length ss → s ≡ get_or ss i s → SumStands c s
    stands_at c [] i s x y z = absurd (omega arith)
    stands_at c (u ∷ us) zero s x y z = subst (SumStands c) (sym z) x.0
    stands_at c (u ∷ us) (suc i) s x y z = let w : i < length us = omega arith in stands_at c us i s x.1 w z

    old_own : side_in b own ≡ side_in m own
    old_own = side_kept m b mb own h

    go : (i : ℕ) (s t : Sum) → i < length sums → s ≡ get_or sums i s → t ≡ get_or new i t → (i < n) ⊎ (i ≡ n) → IsReplaced gone (side_in b own) (side_in a s) (side_in b t)
    go i s t j p q (inl k) =
        let d : i ≡ n → ⊥ = λ e. absurd (omega arith) in
        let q2 : t ≡ get_or now i t = q ∙ r.others i t d in
        let c : i < length now = let e = f.count in omega arith in
        let st = stands_at m now i t hn c q2 in
        subst (λ y. IsReplaced gone y (side_in a s) (side_in b t)) (sym old_own)
        (subst (λ y. IsReplaced gone (side_in m own) (side_in a s) y) (sym (side_kept m b mb t st)) (f.done i s t k j p q2))
    go i s t j p q (inr e) =
        let p2 : s ≡ get_or sums n s = subst (λ x. s ≡ get_or sums x s) e p in
        let q2 : t ≡ get_or new n t = subst (λ x. t ≡ get_or new x t) e q in
        let z : n ≤ n = omega arith in
        let p3 : s ≡ get_or now n s = p2 ∙ sym (f.left n s z) in
        let sa = stands_at a sums i s hs j p in
        subst (λ y. IsReplaced gone (side_in b own) y (side_in b t)) (side_kept a m am s sa) (r.here s t p3 q2)

-- what is alive and is not taken out stays alive
alive_stays : (alive : List Bool) (gone j : ℕ) → allowed_but (is_alive alive) gone j ≡ true → is_alive (set alive gone false) j ≡ true
alive_stays alive gone j h =
    let both = and_parts (is_alive alive j) (not (nat_eq j gone)) h in
    let d : j ≡ gone → ⊥ = λ e. not_itself j gone both.1 e in
    set_other alive gone j false false d ∙ both.0
  where
    and_parts : (p q : Bool) → (p && q) ≡ true → (p ≡ true) × (q ≡ true)
    and_parts true q k = (refl, k)
    and_parts false q k = cc

    not_itself : (j g : ℕ) → not (nat_eq j g) ≡ true → j ≡ g → ⊥
    not_itself j g k e = grind (arith, nat_tests)

alive_was : (alive : List Bool) (gone j : ℕ) → gone < length alive → is_alive (set alive gone false) j ≡ true → (j ≡ gone → ⊥) × (is_alive alive j ≡ true)
alive_was alive gone j l h =
    let d : j ≡ gone → ⊥ = λ e. dead e in (d, sym (set_other alive gone j false false d) ∙ h)
  where
    dead : j ≡ gone → ⊥
    dead e = let x : is_alive (set alive gone false) gone ≡ true = subst (λ k. is_alive (set alive gone false) k ≡ true) e h in let y = set_here alive gone false false l in cc

fine_alive : (alive : List Bool) (gone bound : ℕ) (ranks : List ℕ) (ps : List Product) → AllByRecursion (IsFine (allowed_but (is_alive alive) gone) ranks bound) ps → AllByRecursion (IsFine (is_alive (set alive gone false)) ranks bound) ps
fine_alive alive gone bound ranks ps h =
    all_more (IsFine (allowed_but (is_alive alive) gone) ranks bound) (IsFine (is_alive (set alive gone false)) ranks bound) ps
    (λ p f. record { use_allowed = alive_stays alive gone p.to f.use_allowed; guarded = f.guarded }) h

-- an unknown is taken out
pub takes_out : (a m b : List Row) → GrowsTypes m b → (gone : ℕ) (own : Sum) (alive : List Bool) (sums now : List Sum) (s : Sum) → gone < length sums → length alive ≡ length sums → is_alive alive gone ≡ true → s ≡ get_or sums gone s →
    IsSolved gone (side_in a s) (side_in m own) → SumStands m own → (n : ℕ) → length sums ≤ n → ReplacesFirst a b gone own n sums now → TakesOut a b gone alive (set alive gone false) sums now
takes_out a m b mb gone own alive sums now s l c g e solved st n whole f = record {
  count = f.count;
  alive = refl;
  equations = λ N X ranks fine eqs. λ i t k v q.
      let j : i < length sums = let x = f.count in omega arith in
      let gl : gone < length alive = omega arith in
      let was = alive_was alive gone i gl v in
      let r = replaced_at i t j q in
      let eq = subst (Equals N X gone) (sym own_kept) (solved.equals N X (is_alive alive) ranks (fine gone s l g e) (eqs gone s l g e)) in
      λ d. iff_then (eqs i (old_at i t) j was.1 (old_is i t j) d) (iff_back (r.takes N X eq d));
  fine = λ ranks fine. λ i t k v q.
      let j : i < length sums = let x = f.count in omega arith in
      let gl : gone < length alive = omega arith in
      let was = alive_was alive gone i gl v in
      let r = replaced_at i t j q in
      let own_fine = subst (λ y. IsFineSide (allowed_but (is_alive alive) gone) ranks (get_or ranks gone 0) y) (sym own_kept) (solved.fine (is_alive alive) ranks (get_or ranks gone 0) (fine gone s l g e)) in
      fine_alive alive gone (get_or ranks i 0) ranks (side_in b t).products (r.fine (is_alive alive) ranks (get_or ranks i 0) (fine i (old_at i t) j was.1 (old_is i t j)) own_fine);
  tops = λ known h. λ i t k q.
      let j : i < length sums = let x = f.count in omega arith in
      let own_tops = subst (SideTops known) (sym own_kept) (solved.tops known (h gone s l e)) in
      (replaced_at i t j q).tops known own_tops (h i (old_at i t) j (old_is i t j));
}
  where
    own_kept : side_in b own ≡ side_in m own
    own_kept = side_kept m b mb own st

    old_at : (i : ℕ) → Sum → Sum
    old_at i t = get_or sums i t

    old_is : (i : ℕ) (t : Sum) → i < length sums → old_at i t ≡ get_or sums i (old_at i t)
    old_is i t j = got sums i t j

    replaced_at : (i : ℕ) (t : Sum) → i < length sums → t ≡ get_or now i t → IsReplaced gone (side_in b own) (side_in a (old_at i t)) (side_in b t)
    replaced_at i t j q = let k : i < n = omega arith in f.done i (old_at i t) t k j (old_is i t j) q

-- how many unknowns are alive
abbrev pub living : List Bool → ℕ
living [] = 0
living (true ∷ bs) = living bs + 1
living (false ∷ bs) = living bs

pub fewer_living : (bs : List Bool) (k : ℕ) → is_alive bs k ≡ true → living (set bs k false) < living bs
fewer_living [] k e = cc
fewer_living (true ∷ bs) zero e = omega arith
fewer_living (false ∷ bs) zero e = cc
fewer_living (true ∷ bs) (suc k) e = let i = fewer_living bs k e in omega arith
fewer_living (false ∷ bs) (suc k) e = fewer_living bs k e

-- what the equations say after some unknowns were taken out
pub record StillHold (old new : List Row) (sums0 : List Sum) (alive : List Bool) (sums : List Sum) : Type 0 where
  pub equations : (N : Meaning) (X : Unknowns) (ranks : List ℕ) → AreFineSums old (all_alive sums0) ranks sums0 → AreEquations N X old (all_alive sums0) sums0 → AreEquations N X new alive sums
  pub fine : (ranks : List ℕ) → AreFineSums old (all_alive sums0) ranks sums0 → AreFineSums new alive ranks sums
  pub tops : (known : List (List ℕ)) → SumsTops known old sums0 → SumsTops known new sums

pub hold_first : (a : List Row) (sums : List Sum) (alive : List Bool) → alive ≡ all_alive sums → StillHold a a sums alive sums
hold_first a sums alive e = subst (λ x. StillHold a a sums x sums) (sym e) (record { equations = λ N X ranks f q. q; fine = λ ranks f. f; tops = λ known h. h })

pub hold_more : (a m b : List Row) (sums0 sums new : List Sum) (alive left : List Bool) (gone : ℕ) → StillHold a m sums0 alive sums → TakesOut m b gone alive left sums new → StillHold a b sums0 left new
hold_more a m b sums0 sums new alive left gone h t = record {
  equations = λ N X ranks f q. t.equations N X ranks (h.fine ranks f) (h.equations N X ranks f q);
  fine = λ ranks f. t.fine ranks (h.fine ranks f);
  tops = λ known f. t.tops known (h.tops known f);
}

alive_within : (bs : List Bool) (j : ℕ) → is_alive bs j ≡ true → j < length bs
alive_within [] j e = cc
alive_within (b ∷ bs) zero e = omega arith
alive_within (b ∷ bs) (suc j) e = let i = alive_within bs j e in omega arith

nothing_allowed : (allowed : ℕ → Bool) (ranks : List ℕ) (bound : ℕ) (ps : List Product) → ((j : ℕ) → allowed j ≡ true → ⊥) → AllByRecursion (IsFine allowed ranks bound) ps → ps ≡ []
nothing_allowed allowed ranks bound [] n h = refl
nothing_allowed allowed ranks bound (p ∷ ps) n h = absurd (n p.to (h.0).use_allowed)

no_products : (N : Meaning) (X : Unknowns) (d : Document) (s : Side) → s.products ≡ [] → SideTakes N X d s ↔ ConstantTakes N d s.constant
no_products N X d s e = iff_then (or_same (subst (λ ps. SomeTakes N X d ps ↔ ⊥) (sym e) (iff_refl ⊥)) (iff_refl (ConstantTakes N d s.constant))) none_or

-- the first unknown is left alone
pub last_left : (a m b : List Row) (sums0 sums : List Sum) (alive : List Bool) (s own : Sum) → StillHold a m sums0 alive sums → length alive ≡ length sums → 0 < length sums → is_alive alive 0 ≡ true →
    ((i : ℕ) → 0 < i → i < length sums → is_alive alive i ≡ false) → s ≡ get_or sums 0 s → IsSolved 0 (side_in m s) (side_in b own) → IsSolution a b sums0 own.constant
last_left a m b sums0 sums alive s own h c l z dead e solved = record {
  exact = λ N X ranks f q d.
      let fine = h.fine ranks f 0 s l z e in
      let eq = solved.equals N X (is_alive alive) ranks fine (h.equations N X ranks f q 0 s l z e) in
      let none = nothing_allowed (allowed_but (is_alive alive) 0) ranks (get_or ranks 0 0) (side_in b own).products others (solved.fine (is_alive alive) ranks (get_or ranks 0 0) fine) in
      iff_then (eq d) (no_products N X d (side_in b own) none);
  tops = λ known f. (solved.tops known (h.tops known f 0 s l e)).1;
}
  where
    and_parts : (p q : Bool) → (p && q) ≡ true → (p ≡ true) × (q ≡ true)
    and_parts true q k = (refl, k)
    and_parts false q k = cc

    others : (j : ℕ) → allowed_but (is_alive alive) 0 j ≡ true → ⊥
    others zero k = absurd (let r = and_parts (is_alive alive 0) (not (nat_eq 0 0)) k in let t = r.1 in cc)
    others (suc j) k =
        let r = and_parts (is_alive alive (suc j)) (not (nat_eq (suc j) 0)) k in
        let w = alive_within alive (suc j) r.0 in
        let p : 0 < suc j = omega arith in
        let i : suc j < length sums = omega arith in
        let t = dead (suc j) p i in let u = r.0 in absurd (cc_of t u)
      where
        cc_of : is_alive alive (suc j) ≡ false → is_alive alive (suc j) ≡ true → ⊥
        cc_of t u = let w : false ≡ true = sym t ∙ u in cc

pub still_alive : (alive : List Bool) (gone : ℕ) → 0 < gone → is_alive alive 0 ≡ true → is_alive (set alive gone false) 0 ≡ true
still_alive alive gone l e = let d : 0 ≡ gone → ⊥ = λ q. absurd (omega arith) in set_other alive gone 0 false false d ∙ e

pub left_count : (alive : List Bool) (gone : ℕ) → length (set alive gone false) ≡ length alive
left_count alive gone = set_count alive gone false

pub first_alive : (sums : List Sum) (alive : List Bool) → alive ≡ all_alive sums → 0 < length sums → (is_alive alive 0 ≡ true) × (length alive ≡ length sums)
first_alive [] alive e l = absurd (omega arith)
first_alive (s ∷ ss) alive e l = (ap (λ x. is_alive x 0) e, ap length e ∙ count (s ∷ ss))
  where
    count : (xs : List Sum) → length (all_alive xs) ≡ length xs
    count [] = refl
    count (x ∷ xs) = ap suc (count xs)
