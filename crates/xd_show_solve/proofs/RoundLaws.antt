-- Laws of unknowns that are taken out at once.
use Rattle.std.proofs.Common.{◌≡◌, ◌⊎◌, inl, inr, ℕ, zero, suc, ◌+◌, ◌<◌, ◌≤◌, nat_eq, Bool, true, false, not, ◌&&◌, refl, sym, ap, ◌∙◌, subst, List, [], ◌∷◌, ◌++◌, length, get_or, set, Option, Some, None, arith}
use Rattle.std.specs.List.{AllByRecursion}
use Rattle.std.specs.Option.{IfSome}
use Rattle.xd_doc.proofs.Bools.{and_parts, not_true}
use Rattle.xd_doc.proofs.Lists.{all_more, all_there, all_but_last}
use Rattle.xd_doc.proofs.Numbers.{less_cases}
use Rattle.xd_syntax.specs.Tree.{Tree}
use Rattle.xd_syntax.specs.Table.{Row}
use Rattle.xd_same_types.specs.Grown.{GrowsTypes}
use Rattle.xd_same_types.specs.Same.{FitsAs, HasTops, Meaning, TakesItem}
use Rattle.xd_show_solve.specs.Equations.{AddsMultiple, AddsProduct, Equals, IsFine, IsFineSide, IsSolved, Product, ProductTakes, SameSide, Side, SideTakes, SideTops, SumStands, Unknowns, allowed_but, products, side_in}
use Rattle.xd_show_solve.specs.Rounds.{AddsTaken, AreApart, AreOwns, IsOwn, IsTaken, IsTakenUnless, LackOut, LeavesAlive, OwnsEqual, OwnsFine, OwnsStand, OwnsTops, TakesAt, TakesEach, TakesSome, allowed_still, has_sum, is_out, own_at}
use Rattle.xd_show_solve.specs.Systems.{AllStand, AreEquations, AreFineSums, SumsTops, is_alive}
use Rattle.xd_show_solve.specs.declared.sums.Term.{Term}
use Rattle.xd_show_solve.specs.declared.sums.Sum.{Sum}
use Rattle.xd_same_types.proofs.Facts.{iff_back, iff_then, or_same}
use Rattle.xd_same_types.proofs.Ids.{got}
use Rattle.xd_show_solve.proofs.SideLaws.{a_side, iff_refl}
use Rattle.xd_show_solve.proofs.SolveLaws.{side_pushed}
use Rattle.xd_show_solve.proofs.SumLaws.{fine_above, split_same}
use Rattle.xd_show_solve.proofs.SumSteps.{side_kept, stands_kept}
use Rattle.xd_show_solve.proofs.SystemLaws.{StillHold, living, set_count, set_here, set_other}

-- what is allowed and isn't taken out
still : (allowed : ℕ → Bool) (owns : List (Option Sum)) (j : ℕ) → allowed j ≡ true → is_out owns j ≡ false → allowed_still allowed owns j ≡ true
still allowed owns j a o = subst (λ b. (b && not (is_out owns j)) ≡ true) (sym a) (ap not o)

-- one product after the other
pub taken_none : (types : List Row) (owns : List (Option Sum)) (o : Option Tree) → IsTaken types owns (a_side [] o) (a_side [] o)
taken_none types owns o = record {
  takes = λ N X eq d. iff_refl (SideTakes N X d (a_side [] o));
  fine = λ allowed ranks bound f g. tt;
  tops = λ known g f. f;
}

pub taken_more : (types : List Row) (owns : List (Option Sum)) (now new : Side) (o : Option Tree) (ps : List Product) (p : Product) → IsTaken types owns (a_side ps o) now → AddsTaken types owns now p new → IsTaken types owns (a_side (ps ++ p ∷ []) o) new
taken_more types owns now new o ps p h a = record {
  takes = λ N X eq d. iff_then (a.takes N X eq d) (iff_then (or_same (h.takes N X eq d) (iff_refl (ProductTakes N X d p))) (iff_back (side_pushed N X d ps p o)));
  fine = λ allowed ranks bound f g.
      let l = all_but_last (IsFine allowed ranks bound) ps p f in a.fine allowed ranks bound l.1 g (h.fine allowed ranks bound l.0 g);
  tops = λ known g f. let l = all_but_last (λ (q : Product). HasTops known q.by) ps p f.0 in a.tops known l.1 g (h.tops known g (l.0, f.1));
}

pub taken_other : (types : List Row) (owns : List (Option Sum)) (now new : Side) (p : Product) → is_out owns p.to ≡ false → AddsProduct now p new → AddsTaken types owns now p new
taken_other types owns now new p e a = record {
  takes = λ N X eq d. a.takes N X d;
  fine = λ allowed ranks bound f g h. a.fine (allowed_still allowed owns) ranks bound h (record { use_allowed = still allowed owns p.to f.use_allowed e; guarded = f.guarded });
  tops = λ known t g h. a.tops known h t;
}

pub taken_own : (types : List Row) (owns : List (Option Sum)) (now new : Side) (p : Product) (own : Sum) → own_at owns p.to ≡ Some own → AddsMultiple now p.by (side_in types own) new → AddsTaken types owns now p new
taken_own types owns now new p own e a = record {
  takes = λ N X eq d.
      let all = split_same (FitsAs N p.by) (λ x. X p.to x ≡ true) (FitsAs N p.by) (λ x. SideTakes N X x (side_in types own)) (λ x. iff_refl (FitsAs N p.by x)) (eq p.to own e) d in
      iff_then (a.takes N X d) (or_same (iff_refl (SideTakes N X d now)) (iff_back all));
  fine = λ allowed ranks bound f g h. go allowed ranks bound (g p.to own e) h f.guarded;
  tops = λ known t g h. a.tops known h t (g p.to own e);
}
  where
    go : (allowed : ℕ → Bool) (ranks : List ℕ) (bound : ℕ) → IsFineSide (allowed_still allowed owns) ranks (get_or ranks p.to 0) (side_in types own) → IsFineSide (allowed_still allowed owns) ranks bound now →
        TakesItem p.by ⊎ (get_or ranks p.to 0 < bound) → IsFineSide (allowed_still allowed owns) ranks bound new
    go allowed ranks bound g k (inl t) =
        a.guarded (allowed_still allowed owns) ranks bound k t (all_more (IsFine (allowed_still allowed owns) ranks (get_or ranks p.to 0)) (λ (q : Product). allowed_still allowed owns q.to ≡ true) (side_in types own).products (λ q z. z.use_allowed) g)
    go allowed ranks bound g k (inr l) =
        let m : get_or ranks p.to 0 ≤ bound = omega arith in
        a.fine (allowed_still allowed owns) ranks bound k (fine_above (allowed_still allowed owns) ranks (get_or ranks p.to 0) bound (side_in types own).products m g)

pub taken_same : (types : List Row) (owns : List (Option Sum)) (s mid new : Side) → IsTaken types owns s mid → SameSide mid new → IsTaken types owns s new
taken_same types owns s mid new h k = record {
  takes = λ N X eq d. iff_then (k.takes N X d) (h.takes N X eq d);
  fine = λ allowed ranks bound f g. k.fine (allowed_still allowed owns) ranks bound (h.fine allowed ranks bound f g);
  tops = λ known g f. k.tops known (h.tops known g f);
}

-- with the table that was there first
pub taken_before : (m n : List Row) → GrowsTypes m n → (owns : List (Option Sum)) → OwnsStand m owns → (s t : Side) → IsTaken n owns s t → IsTaken m owns s t
taken_before m n k owns st s t h = record {
  takes = λ N X eq. h.takes N X (λ i own e. subst (Equals N X i) (sym (stays i own e)) (eq i own e));
  fine = λ allowed ranks bound f g. h.fine allowed ranks bound f (λ i own e. subst (IsFineSide (allowed_still allowed owns) ranks (get_or ranks i 0)) (sym (stays i own e)) (g i own e));
  tops = λ known g f. h.tops known (λ i own e. subst (SideTops known) (sym (stays i own e)) (g i own e)) f;
}
  where
    stays : (i : ℕ) (own : Sum) → own_at owns i ≡ Some own → side_in n own ≡ side_in m own
    stays i own e = side_kept m n k own (st i own e)

pub added_before : (m n : List Row) → GrowsTypes m n → (owns : List (Option Sum)) → OwnsStand m owns → (now : Side) (p : Product) (new : Side) → AddsTaken n owns now p new → AddsTaken m owns now p new
added_before m n k owns st now p new h = record {
  takes = λ N X eq. h.takes N X (λ i own e. subst (Equals N X i) (sym (stays i own e)) (eq i own e));
  fine = λ allowed ranks bound f g. h.fine allowed ranks bound f (λ i own e. subst (IsFineSide (allowed_still allowed owns) ranks (get_or ranks i 0)) (sym (stays i own e)) (g i own e));
  tops = λ known t g f. h.tops known t (λ i own e. subst (SideTops known) (sym (stays i own e)) (g i own e)) f;
}
  where
    stays : (i : ℕ) (own : Sum) → own_at owns i ≡ Some own → side_in n own ≡ side_in m own
    stays i own e = side_kept m n k own (st i own e)

unless_before : (m n : List Row) → GrowsTypes m n → (owns : List (Option Sum)) → OwnsStand m owns → (out : Bool) (s t : Side) → IsTakenUnless out n owns s t → IsTakenUnless out m owns s t
unless_before m n k owns st out s t h = record {
  taken = λ e. taken_before m n k owns st s t (h.taken e);
  tops = λ known g f. h.tops known (λ i own e. subst (SideTops known) (sym (side_kept m n k own (st i own e))) (g i own e)) f;
}

pub unless_taken : (types : List Row) (owns : List (Option Sum)) (out : Bool) (s t : Side) → IsTaken types owns s t → IsTakenUnless out types owns s t
unless_taken types owns out s t h = record { taken = λ e. h; tops = h.tops }

-- a side without unknowns that are taken out stays as it is
fine_lacking : (allowed : ℕ → Bool) (ranks : List ℕ) (bound : ℕ) (owns : List (Option Sum)) (a : List Row) (ts : List Term) → LackOut owns ts →
    AllByRecursion (IsFine allowed ranks bound) (products a ts) → AllByRecursion (IsFine (allowed_still allowed owns) ranks bound) (products a ts)
fine_lacking allowed ranks bound owns a [] l h = tt
fine_lacking allowed ranks bound owns a (t ∷ ts) l h = (record { use_allowed = still allowed owns t.to (h.0).use_allowed l.0; guarded = (h.0).guarded }, fine_lacking allowed ranks bound owns a ts l.1 h.1)

pub unless_lacking : (a : List Row) (owns : List (Option Sum)) (out : Bool) (s : Sum) → (out ≡ true) ⊎ LackOut owns s.terms.items → IsTakenUnless out a owns (side_in a s) (side_in a s)
unless_lacking a owns out s h = record {
  taken = λ e. record {
    takes = λ N X eq d. iff_refl (SideTakes N X d (side_in a s));
    fine = λ allowed ranks bound f g. fine_lacking allowed ranks bound owns a s.terms.items (lacks e h) f;
    tops = λ known g f. f;
  };
  tops = λ known g f. f;
}
  where
    lacks : out ≡ false → (out ≡ true) ⊎ LackOut owns s.terms.items → LackOut owns s.terms.items
    lacks e (inl f) = absurd (let z : false ≡ true = sym e ∙ f in cc)
    lacks e (inr l) = l

pub same_read : (xs : List Sum) (k : ℕ) (d f : Sum) → k < length xs → get_or xs k d ≡ get_or xs k f
same_read [] k d f l = absurd (omega arith)
same_read (x ∷ xs) zero d f l = refl
same_read (x ∷ xs) (suc k) d f l = let m : k < length xs = omega arith in same_read xs k d f m

pub takes_set : (a b : List Row) (owns : List (Option Sum)) (sums : List Sum) (k : ℕ) (s made : Sum) → k < length sums → s ≡ get_or sums k s → IsTaken a owns (side_in a s) (side_in b made) → TakesAt a b owns k sums (set sums k made)
takes_set a b owns sums k s made l e r = record {
  count = set_count sums k made;
  others = λ i d n. set_other sums k i made d n;
  here = λ x t p q.
      let xs : x ≡ s = p ∙ same_read sums k x s l ∙ sym e in
      let ts : t ≡ made = q ∙ set_here sums k made t l in
      subst (λ y. IsTakenUnless (is_out owns k) a owns (side_in a y) (side_in b t)) (sym xs)
      (subst (λ y. IsTakenUnless (is_out owns k) a owns (side_in a s) (side_in b y)) (sym ts) (unless_taken a owns (is_out owns k) (side_in a s) (side_in b made) r));
}

pub takes_nothing : (a : List Row) (owns : List (Option Sum)) (sums : List Sum) (k : ℕ) → k < length sums → ((s : Sum) → s ≡ get_or sums k s → (is_out owns k ≡ true) ⊎ LackOut owns s.terms.items) → TakesAt a a owns k sums sums
takes_nothing a owns sums k l u = record {
  count = refl;
  others = λ i d n. refl;
  here = λ x t p q.
      let ts : t ≡ x = q ∙ same_read sums k t x l ∙ sym p in
      subst (λ y. IsTakenUnless (is_out owns k) a owns (side_in a x) (side_in a y)) (sym ts) (unless_lacking a owns (is_out owns k) x (u x p));
}

-- the first right sides were written anew, and the others stand as they stood
pub record TakesFirst (old new : List Row) (owns : List (Option Sum)) (n : ℕ) (before after : List Sum) : Type 0 where
  pub count : length after ≡ length before
  pub done : (i : ℕ) (s t : Sum) → i < n → i < length before → s ≡ get_or before i s → t ≡ get_or after i t → IsTakenUnless (is_out owns i) old owns (side_in old s) (side_in new t)
  pub left : (i : ℕ) (s : Sum) → n ≤ i → get_or after i s ≡ get_or before i s

pub takes_first_none : (a : List Row) (owns : List (Option Sum)) (sums : List Sum) → TakesFirst a a owns 0 sums sums
takes_first_none a owns sums = record {
  count = refl;
  done = λ i s t l m p q. absurd (omega arith);
  left = λ i s l. refl;
}

pub takes_first_more : (a m b : List Row) → GrowsTypes a m → GrowsTypes m b → (owns : List (Option Sum)) → OwnsStand a owns → (n : ℕ) (sums now new : List Sum) → AllStand a sums → AllStand m now →
    TakesFirst a m owns n sums now → TakesAt m b owns n now new → n < length sums → TakesFirst a b owns (n + 1) sums new
takes_first_more a m b am mb owns st n sums now new hs hn f r l = record {
  count = r.count ∙ f.count;
  done = λ i s t k j p q. go i s t j p q (less_cases i n k);
  left = λ i s k. let d : i ≡ n → ⊥ = λ e. absurd (omega arith) in let z : n ≤ i = omega arith in r.others i s d ∙ f.left i s z;
}
  where
    go : (i : ℕ) (s t : Sum) → i < length sums → s ≡ get_or sums i s → t ≡ get_or new i t → (i < n) ⊎ (i ≡ n) → IsTakenUnless (is_out owns i) a owns (side_in a s) (side_in b t)
    go i s t j p q (inl k) =
        let d : i ≡ n → ⊥ = λ e. absurd (omega arith) in
        let q2 : t ≡ get_or now i t = q ∙ r.others i t d in
        let c : i < length now = let e = f.count in omega arith in
        let st = all_there (SumStands m) now i t hn c q2 in
        subst (λ y. IsTakenUnless (is_out owns i) a owns (side_in a s) y) (sym (side_kept m b mb t st)) (f.done i s t k j p q2)
    go i s t j p q (inr e) =
        let p2 : s ≡ get_or sums n s = subst (λ x. s ≡ get_or sums x s) e p in
        let q2 : t ≡ get_or new n t = subst (λ x. t ≡ get_or new x t) e q in
        let z : n ≤ n = omega arith in
        let p3 : s ≡ get_or now n s = p2 ∙ sym (f.left n s z) in
        let sa = all_there (SumStands a) sums i s hs j p in
        subst (λ k. IsTakenUnless (is_out owns k) a owns (side_in a s) (side_in b t)) (sym e)
        (subst (λ y. IsTakenUnless (is_out owns n) a owns y (side_in b t)) (side_kept a m am s sa)
        (unless_before a m am owns st (is_out owns n) (side_in m s) (side_in b t) (r.here s t p3 q2)))

pub takes_first_all : (a b : List Row) (owns : List (Option Sum)) (n : ℕ) (sums now : List Sum) → length sums ≤ n → TakesFirst a b owns n sums now → TakesEach a b owns sums now
takes_first_all a b owns n sums now l f = record {
  count = f.count;
  each = λ i s t j p q. let k : i < n = omega arith in f.done i s t k j p q;
}

-- the right sides of unknowns that are taken out use unknowns that stay
fine_apart : (allowed : ℕ → Bool) (ranks : List ℕ) (bound i : ℕ) (owns : List (Option Sum)) (a : List Row) (ts : List Term) → LackOut owns ts →
    AllByRecursion (IsFine (allowed_but allowed i) ranks bound) (products a ts) → AllByRecursion (IsFine (allowed_still allowed owns) ranks bound) (products a ts)
fine_apart allowed ranks bound i owns a [] l h = tt
fine_apart allowed ranks bound i owns a (t ∷ ts) l h =
    let both = and_parts (allowed t.to) (not (nat_eq t.to i)) (h.0).use_allowed in
    (record { use_allowed = still allowed owns t.to both.0 l.0; guarded = (h.0).guarded }, fine_apart allowed ranks bound i owns a ts l.1 h.1)

-- unknowns are taken out
pub takes_some : (a m b : List Row) → GrowsTypes a m → (sums now : List Sum) (alive left : List Bool) (owns : List (Option Sum)) → AllStand a sums → AreOwns a m sums alive owns → AreApart owns → TakesEach m b owns sums now → LeavesAlive owns alive left → TakesSome a b alive left sums now
takes_some a m b am sums now alive left owns st own apart each leaves = record {
  count = each.count;
  alive_count = leaves.count;
  alive = λ j e. (staying j e).0;
  first = λ e. leaves.alive 0 ∙ still (is_alive alive) owns 0 e (first_stays (own_at owns 0) refl);
  equations = λ N X ranks fine eqs. λ i t k v q.
      let j : i < length sums = let x = each.count in omega arith in
      let s = get_or sums i t in
      let p = got sums i t j in
      let r = taken_at i s t j p q (staying i v).1 in
      λ d. iff_then (eqs i s j (staying i v).0 p d) (iff_back (r.takes N X (equal N X ranks fine eqs) d));
  fine = λ ranks fine. λ i t k v q.
      let j : i < length sums = let x = each.count in omega arith in
      let s = get_or sums i t in
      let p = got sums i t j in
      let r = taken_at i s t j p q (staying i v).1 in
      all_more (IsFine (allowed_still (is_alive alive) owns) ranks (get_or ranks i 0)) (IsFine (is_alive left) ranks (get_or ranks i 0)) (side_in b t).products
      (λ x f. record { use_allowed = leaves.alive x.to ∙ f.use_allowed; guarded = f.guarded })
      (r.fine (is_alive alive) ranks (get_or ranks i 0) (fine i s j (staying i v).0 p) (owns_fine ranks fine));
  tops = λ known h. λ i t k q.
      let j : i < length sums = let x = each.count in omega arith in
      let s = get_or sums i t in
      let p = got sums i t j in
      (each.each i s t j p q).tops known (λ n o e. ((own n o e).solved (get_or sums n o) (got sums n o (own n o e).within)).tops known (h n (get_or sums n o) (own n o e).within (got sums n o (own n o e).within)))
      (subst (SideTops known) (sym (side_kept a m am s (all_there (SumStands a) sums i s st j p))) (h i s j p));
}
  where
    staying : (j : ℕ) → is_alive left j ≡ true → (is_alive alive j ≡ true) × (is_out owns j ≡ false)
    staying j e = let both = and_parts (is_alive alive j) (not (is_out owns j)) (sym (leaves.alive j) ∙ e) in (both.0, not_true (is_out owns j) both.1)

    first_stays : (o : Option Sum) → own_at owns 0 ≡ o → is_out owns 0 ≡ false
    first_stays None e = ap has_sum e
    first_stays (Some s) e = absurd (let l = (own 0 s e).later in omega (arith, l))

    taken_at : (i : ℕ) (s t : Sum) → i < length sums → s ≡ get_or sums i s → t ≡ get_or now i t → is_out owns i ≡ false → IsTaken m owns (side_in a s) (side_in b t)
    taken_at i s t j p q e =
        subst (λ x. IsTaken m owns x (side_in b t)) (side_kept a m am s (all_there (SumStands a) sums i s st j p)) ((each.each i s t j p q).taken e)

    equal : (N : Meaning) (X : Unknowns) (ranks : List ℕ) → AreFineSums a alive ranks sums → AreEquations N X a alive sums → OwnsEqual N X m owns
    equal N X ranks fine eqs i o e =
        let w = own i o e in
        let s = get_or sums i o in
        let p = got sums i o w.within in
        (w.solved s p).equals N X (is_alive alive) ranks (fine i s w.within w.alive_there p) (eqs i s w.within w.alive_there p)

    owns_fine : (ranks : List ℕ) → AreFineSums a alive ranks sums → OwnsFine m (is_alive alive) ranks owns
    owns_fine ranks fine i o e =
        let w = own i o e in
        let s = get_or sums i o in
        let p = got sums i o w.within in
        fine_apart (is_alive alive) ranks (get_or ranks i 0) i owns m o.terms.items (apart i o e) ((w.solved s p).fine (is_alive alive) ranks (get_or ranks i 0) (fine i s w.within w.alive_there p))

-- nothing is taken out
pub takes_none : (a b : List Row) → GrowsTypes a b → (sums : List Sum) (alive : List Bool) → AllStand a sums → TakesSome a b alive alive sums sums
takes_none a b k sums alive st = record {
  count = refl;
  alive_count = refl;
  alive = λ j e. e;
  first = λ e. e;
  equations = λ N X ranks fine eqs i s l v e. subst (Equals N X i) (sym (stays i s l e)) (eqs i s l v e);
  fine = λ ranks fine i s l v e. subst (IsFineSide (is_alive alive) ranks (get_or ranks i 0)) (sym (stays i s l e)) (fine i s l v e);
  tops = λ known h i s l e. subst (SideTops known) (sym (stays i s l e)) (h i s l e);
}
  where
    stays : (i : ℕ) (s : Sum) → i < length sums → s ≡ get_or sums i s → side_in b s ≡ side_in a s
    stays i s l e = side_kept a b k s (all_there (SumStands a) sums i s st l e)

-- right sides of unknowns that are taken out, one more
own_pushed : (xs : List (Option Sum)) (o : Option Sum) (i : ℕ) (own : Sum) → own_at (xs ++ o ∷ []) i ≡ Some own → (own_at xs i ≡ Some own) ⊎ ((i ≡ length xs) × (o ≡ Some own))
own_pushed [] o zero own e = inr (refl, e)
own_pushed [] o (suc i) own e = absurd (let f : None ≡ Some own = e in cc)
own_pushed (x ∷ xs) o zero own e = inl e
own_pushed (x ∷ xs) o (suc i) own e = by_rest (own_pushed xs o i own e)
  where
    by_rest : (own_at xs i ≡ Some own) ⊎ ((i ≡ length xs) × (o ≡ Some own)) → (own_at xs i ≡ Some own) ⊎ ((suc i ≡ length (x ∷ xs)) × (o ≡ Some own))
    by_rest (inl f) = inl f
    by_rest (inr f) = inr (ap suc f.0, f.1)

own_kept : (a m b : List Row) → GrowsTypes m b → (sums : List Sum) (alive : List Bool) (i : ℕ) (own : Sum) → IsOwn a m sums alive i own → IsOwn a b sums alive i own
own_kept a m b k sums alive i own h = record {
  within = h.within;
  later = h.later;
  alive_there = h.alive_there;
  solved = λ s e. subst (IsSolved i (side_in a s)) (sym (side_kept m b k own h.stands)) (h.solved s e);
  stands = stands_kept m b k own h.stands;
}

pub owns_none : (a m : List Row) (sums : List Sum) (alive : List Bool) → AreOwns a m sums alive []
owns_none a m sums alive i own e = absurd (let f : None ≡ Some own = e in cc)

pub owns_more : (a m b : List Row) → GrowsTypes a m → GrowsTypes m b → (sums : List Sum) (alive : List Bool) (owns : List (Option Sum)) (n : ℕ) (asked : Bool) (s : Sum) (o : Option Sum) → AllStand a sums → n < length sums → s ≡ get_or sums n s → length owns ≡ n →
    (asked ≡ true → 0 < n) → (asked ≡ true → is_alive alive n ≡ true) → IfSome o (λ own. (asked ≡ true) × IsSolved n (side_in m s) (side_in b own)) → IfSome o (SumStands b) → AreOwns a m sums alive owns → AreOwns a b sums alive (owns ++ o ∷ [])
owns_more a m b am mb sums alive owns n asked s o st l e count later there solved stands h i own f = by_place (own_pushed owns o i own f)
  where
    here : (p : Option Sum) → p ≡ Some own → IfSome p (λ x. (asked ≡ true) × IsSolved n (side_in m s) (side_in b x)) → IfSome p (SumStands b) → IsOwn a b sums alive n own
    here None q z w = absurd (let g : None ≡ Some own = q in cc)
    here (Some x) q z w =
        let same : x ≡ own = some_same q in
        record {
          within = l;
          later = later z.0;
          alive_there = there z.0;
          solved = λ t r.
              let is : t ≡ s = r ∙ same_read sums n t s l ∙ sym e in
              subst (λ y. IsSolved n (side_in a y) (side_in b own)) (sym is)
              (subst (λ y. IsSolved n y (side_in b own)) (side_kept a m am s (all_there (SumStands a) sums n s st l e))
              (subst (λ y. IsSolved n (side_in m s) (side_in b y)) same z.1));
          stands = subst (SumStands b) same w;
        }
      where
        or_this : Sum → Option Sum → Sum
        or_this d None = d
        or_this d (Some v) = v

        some_same : {x y : Sum} → Some x ≡ Some y → x ≡ y
        some_same {x} {y} g = ap (or_this x) g

    by_place : (own_at owns i ≡ Some own) ⊎ ((i ≡ length owns) × (o ≡ Some own)) → IsOwn a b sums alive i own
    by_place (inl g) = own_kept a m b mb sums alive i own (h i own g)
    by_place (inr g) = subst (λ j. IsOwn a b sums alive j own) (sym (g.0 ∙ count)) (here o g.1 solved stands)

pub owns_stand : (a m : List Row) (sums : List Sum) (alive : List Bool) (owns : List (Option Sum)) → AreOwns a m sums alive owns → OwnsStand m owns
owns_stand a m sums alive owns h i own e = (h i own e).stands

pub stand_before : (a b : List Row) → GrowsTypes a b → (owns : List (Option Sum)) → OwnsStand a owns → OwnsStand b owns
stand_before a b k owns h i own e = stands_kept a b k own (h i own e)

own_beyond : (xs : List (Option Sum)) (i : ℕ) → length xs ≤ i → own_at xs i ≡ None
own_beyond [] i l = refl
own_beyond (x ∷ xs) zero l = absurd (omega arith)
own_beyond (x ∷ xs) (suc i) l = let m : length xs ≤ i = omega arith in own_beyond xs i m

-- what is read there
pub own_read : (xs : List (Option Sum)) (i : ℕ) (o : Option Sum) → i < length xs → o ≡ get_or xs i o → own_at xs i ≡ o
own_read [] i o l e = absurd (omega arith)
own_read (x ∷ xs) zero o l e = sym e
own_read (x ∷ xs) (suc i) o l e = let m : i < length xs = omega arith in own_read xs i o m e

pub out_beyond : (xs : List (Option Sum)) (i : ℕ) → length xs ≤ i → is_out xs i ≡ false
out_beyond xs i l = ap has_sum (own_beyond xs i l)

-- the first right sides use unknowns that stay
pub record FirstApart (owns : List (Option Sum)) (n : ℕ) : Type 0 where
  pub apart : (i : ℕ) (own : Sum) → i < n → own_at owns i ≡ Some own → LackOut owns own.terms.items

pub apart_first : (owns : List (Option Sum)) → FirstApart owns 0
apart_first owns = record { apart = λ i own l e. absurd (omega (arith, l)) }

pub apart_more : (owns : List (Option Sum)) (n : ℕ) → FirstApart owns n → ((own : Sum) → own_at owns n ≡ Some own → LackOut owns own.terms.items) → FirstApart owns (n + 1)
apart_more owns n h here = record { apart = λ i own l e. by_place i own e (less_cases i n l) }
  where
    by_place : (i : ℕ) (own : Sum) → own_at owns i ≡ Some own → (i < n) ⊎ (i ≡ n) → LackOut owns own.terms.items
    by_place i own e (inl l) = h.apart i own l e
    by_place i own e (inr q) = here own (subst (λ k. own_at owns k ≡ Some own) q e)

pub apart_all : (owns : List (Option Sum)) (n : ℕ) → length owns ≤ n → FirstApart owns n → AreApart owns
apart_all owns n l h i own e = by_place (below_or_not i (length owns))
  where
    below_or_not : (i n : ℕ) → (i < n) ⊎ (n ≤ i)
    below_or_not zero zero = inr (omega arith)
    below_or_not zero (suc n) = inl (omega arith)
    below_or_not (suc i) zero = inr (omega arith)
    below_or_not (suc i) (suc n) = elim (below_or_not i n) [ inl k ↦ inl (omega arith) | inr k ↦ inr (omega arith) ]

    by_place : (i < length owns) ⊎ (length owns ≤ i) → LackOut owns own.terms.items
    by_place (inl k) = let m : i < n = omega arith in h.apart i own m e
    by_place (inr k) = absurd (let z : None ≡ Some own = sym (own_beyond owns i k) ∙ e in cc)

-- which unknowns are left, one after the other
pub record LeavesFirst (owns : List (Option Sum)) (n : ℕ) (living left : List Bool) : Type 0 where
  pub count : length left ≡ length living
  pub done : (j : ℕ) → j < n → is_alive left j ≡ allowed_still (is_alive living) owns j
  pub later : (j : ℕ) → n ≤ j → is_alive left j ≡ is_alive living j

pub leaves_first : (owns : List (Option Sum)) (alive : List Bool) → LeavesFirst owns 0 alive alive
leaves_first owns alive = record { count = refl; done = λ j l. absurd (omega (arith, l)); later = λ j l. refl }

pub leaves_out : (owns : List (Option Sum)) (n : ℕ) (alive left : List Bool) → n < length left → LeavesFirst owns n alive left → is_out owns n ≡ true → LeavesFirst owns (n + 1) alive (set left n false)
leaves_out owns n alive left l h o = record {
  count = set_count left n false ∙ h.count;
  done = λ j k. by_place j (less_cases j n k);
  later = λ j k. let d : j ≡ n → ⊥ = λ e. absurd (omega arith) in let m : n ≤ j = omega arith in set_other left n j false false d ∙ h.later j m;
}
  where
    and_false : (b : Bool) → (b && false) ≡ false
    and_false true = refl
    and_false false = refl

    here : is_alive (set left n false) n ≡ allowed_still (is_alive alive) owns n
    here = set_here left n false false l ∙ sym (ap (λ b. is_alive alive n && not b) o ∙ and_false (is_alive alive n))

    by_place : (j : ℕ) → (j < n) ⊎ (j ≡ n) → is_alive (set left n false) j ≡ allowed_still (is_alive alive) owns j
    by_place j (inl k) = let d : j ≡ n → ⊥ = λ e. absurd (omega arith) in set_other left n j false false d ∙ h.done j k
    by_place j (inr e) = subst (λ i. is_alive (set left n false) i ≡ allowed_still (is_alive alive) owns i) (sym e) here

pub leaves_in : (owns : List (Option Sum)) (n : ℕ) (alive left : List Bool) → LeavesFirst owns n alive left → is_out owns n ≡ false → LeavesFirst owns (n + 1) alive left
leaves_in owns n alive left h o = record {
  count = h.count;
  done = λ j k. by_place j (less_cases j n k);
  later = λ j k. let m : n ≤ j = omega arith in h.later j m;
}
  where
    and_true : (b : Bool) → (b && true) ≡ b
    and_true true = refl
    and_true false = refl

    here : is_alive left n ≡ allowed_still (is_alive alive) owns n
    here = let m : n ≤ n = omega arith in h.later n m ∙ sym (ap (λ b. is_alive alive n && not b) o ∙ and_true (is_alive alive n))

    by_place : (j : ℕ) → (j < n) ⊎ (j ≡ n) → is_alive left j ≡ allowed_still (is_alive alive) owns j
    by_place j (inl k) = h.done j k
    by_place j (inr e) = subst (λ i. is_alive left i ≡ allowed_still (is_alive alive) owns i) (sym e) here

dead_beyond : (bs : List Bool) (j : ℕ) → length bs ≤ j → is_alive bs j ≡ false
dead_beyond [] j l = refl
dead_beyond (b ∷ bs) zero l = absurd (omega arith)
dead_beyond (b ∷ bs) (suc j) l = let m : length bs ≤ j = omega arith in dead_beyond bs j m

pub leaves_all : (owns : List (Option Sum)) (n : ℕ) (alive left : List Bool) → length left ≤ n → LeavesFirst owns n alive left → LeavesAlive owns alive left
leaves_all owns n alive left l h = record {
  count = h.count;
  alive = λ j. by_place j (below_or_not j n);
}
  where
    below_or_not : (i n : ℕ) → (i < n) ⊎ (n ≤ i)
    below_or_not zero zero = inr (omega arith)
    below_or_not zero (suc n) = inl (omega arith)
    below_or_not (suc i) zero = inr (omega arith)
    below_or_not (suc i) (suc n) = elim (below_or_not i n) [ inl k ↦ inl (omega arith) | inr k ↦ inr (omega arith) ]

    by_place : (j : ℕ) → (j < n) ⊎ (n ≤ j) → is_alive left j ≡ allowed_still (is_alive alive) owns j
    by_place j (inl k) = h.done j k
    by_place j (inr k) =
        let m : length left ≤ j = omega arith in
        let c = h.count in
        let w : length alive ≤ j = omega arith in
        dead_beyond left j m ∙ sym (ap (λ b. b && not (is_out owns j)) (dead_beyond alive j w))

-- no more are alive
pub living_less : (left alive : List Bool) → length left ≡ length alive → ((j : ℕ) → is_alive left j ≡ true → is_alive alive j ≡ true) → living left ≤ living alive
living_less [] alive c h = omega arith
living_less (b ∷ bs) [] c h = absurd (omega arith)
living_less (true ∷ bs) (true ∷ ds) c h = let d : length bs ≡ length ds = omega arith in let i = living_less bs ds d (λ j. h (suc j)) in omega (arith, i)
living_less (true ∷ bs) (false ∷ ds) c h = absurd (let z : false ≡ true = h 0 refl in cc)
living_less (false ∷ bs) (true ∷ ds) c h = let d : length bs ≡ length ds = omega arith in let i = living_less bs ds d (λ j. h (suc j)) in omega (arith, i)
living_less (false ∷ bs) (false ∷ ds) c h = let d : length bs ≡ length ds = omega arith in living_less bs ds d (λ j. h (suc j))

pub hold_some : (a m b : List Row) (sums0 sums new : List Sum) (alive left : List Bool) → StillHold a m sums0 alive sums → TakesSome m b alive left sums new → StillHold a b sums0 left new
hold_some a m b sums0 sums new alive left h t = record {
  equations = λ N X ranks f q. t.equations N X ranks (h.fine ranks f) (h.equations N X ranks f q);
  fine = λ ranks f. t.fine ranks (h.fine ranks f);
  tops = λ known f. t.tops known (h.tops known f);
}
