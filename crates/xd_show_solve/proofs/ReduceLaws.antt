-- Laws of equations that are written shorter.
use Rattle.std.proofs.Common.{◌≡◌, ◌⊎◌, inl, inr, ℕ, zero, suc, ◌+◌, ◌*◌, ◌<◌, ◌≤◌, Bool, true, refl, sym, ap, ◌∙◌, subst, List, [], ◌∷◌, ◌++◌, length, get_or, arith}
use Rattle.xd_doc.proofs.Lists.{all_push, all_more, all_there}
use Rattle.xd_syntax.specs.Table.{Row}
use Rattle.xd_same_types.specs.Grown.{GrowsTypes}
use Rattle.xd_same_types.specs.Same.{Meaning, TakesItem}
use Rattle.xd_show_solve.specs.Equations.{Product, Side, Unknowns, Equals, IsFine, IsFineSide, SideTops, SameSide, Shortens, SumStands, side_in}
use Rattle.xd_show_solve.specs.Systems.{AreEquations, AllStand, ComesBefore, UsesEarlier, Rewrites, Reduces, summand_count, is_alive, all_alive}
use Rattle.xd_show_solve.specs.declared.sums.Sum.{Sum}
use Rattle.std.proofs.lemmas.Nat.{row_fits}
use Rattle.xd_same_types.proofs.Ids.{got}
use Rattle.xd_same_types.proofs.Facts.{iff_then, iff_back}
use Rattle.xd_show_solve.proofs.SumSteps.{side_kept, stands_kept}

-- where each takes an item, no rank matters
fine_more : (allowed : ℕ → Bool) (ranks : List ℕ) (bound : ℕ) (s : Side) → IsFineSide allowed [] 0 s → IsFineSide allowed ranks bound s
fine_more allowed ranks bound s h = all_more (IsFine allowed [] 0) (IsFine allowed ranks bound) s.products one h
  where
    one : (p : Product) → IsFine allowed [] 0 p → IsFine allowed ranks bound p
    one p f = record { use_allowed = f.use_allowed; guarded = by_guard f.guarded }
      where
        none : List ℕ
        none = []

        by_guard : TakesItem p.by ⊎ (get_or none p.to 0 < 0) → TakesItem p.by ⊎ (get_or ranks p.to 0 < bound)
        by_guard (inl g) = inl g
        by_guard (inr g) = absurd (omega (arith, g))

pub alive_there : (ss : List Sum) (i : ℕ) → i < length ss → is_alive (all_alive ss) i ≡ true
alive_there [] i l = absurd (omega arith)
alive_there (s ∷ ss) zero l = refl
alive_there (s ∷ ss) (suc i) l = let m : i < length ss = omega arith in alive_there ss i m

alive_same : (ss ts : List Sum) → length ss ≡ length ts → all_alive ss ≡ all_alive ts
alive_same [] [] l = refl
alive_same [] (t ∷ ts) l = absurd (omega arith)
alive_same (s ∷ ss) [] l = absurd (omega arith)
alive_same (s ∷ ss) (t ∷ ts) l = let m : length ss ≡ length ts = omega arith in ap (λ bs. true ∷ bs) (alive_same ss ts m)

-- The rank of an unknown: by how many summands its right side has, and then by its place. There are
-- n places.
ranks_from : ℕ → ℕ → List Sum → List ℕ
ranks_from n i [] = []
ranks_from n i (s ∷ ss) = (summand_count s * n + i) ∷ ranks_from n (i + 1) ss

ranks_of : List Sum → List ℕ
ranks_of ss = ranks_from (length ss) 0 ss

ranks_from_at : (n j : ℕ) (ss : List Sum) (i : ℕ) (s : Sum) → i < length ss → s ≡ get_or ss i s → get_or (ranks_from n j ss) i 0 ≡ summand_count s * n + (j + i)
unfolding ranks_from
ranks_from_at n j [] i s l e = absurd (omega arith)
ranks_from_at n j (t ∷ ss) zero s l e = first (summand_count t * n) (summand_count s * n) j (ap (λ x. summand_count x * n) (sym e))
  where
    first : (a b j : ℕ) → a ≡ b → a + j ≡ b + (j + 0)
    first a b j q = omega (arith, q)
ranks_from_at n j (t ∷ ss) (suc i) s l e =
    let m : i < length ss = omega arith in ranks_from_at n (j + 1) ss i s m e ∙ ap (λ k. summand_count s * n + k) (step j i)
  where
    step : (j i : ℕ) → (j + 1) + i ≡ j + suc i
    step j i = omega arith

rank_at : (ss : List Sum) (i : ℕ) (s : Sum) → i < length ss → s ≡ get_or ss i s → get_or (ranks_of ss) i 0 ≡ summand_count s * length ss + i
unfolding ranks_of
rank_at ss i s l e = ranks_from_at (length ss) 0 ss i s l e ∙ ap (λ k. summand_count s * length ss + k) (zero_on i)
  where
    zero_on : (i : ℕ) → 0 + i ≡ i
    zero_on i = omega arith

-- what comes before has a smaller rank
rank_before : (n c e o i : ℕ) → o < n → (c < e) ⊎ ((c ≡ e) × (o < i)) → c * n + o < e * n + i
rank_before n c e o i l (inl h) =
    let same : n ≤ n = omega arith in
    let r : c * n + n ≤ e * n = row_fits c n e n h same in less (c * n) (e * n) n o i l r
  where
    less : (a b n o i : ℕ) → o < n → a + n ≤ b → a + o < b + i
    less a b n o i l r = omega (arith, l, r)
rank_before n c e o i l (inr h) = less (c * n) (e * n) o i (ap (λ x. x * n) h.0) h.1
  where
    less : (a b o i : ℕ) → a ≡ b → o < i → a + o < b + i
    less a b o i q r = omega (arith, q, r)

abbrev pub AllRewritten : List Row → List Row → List Sum → List Sum → Type 0
AllRewritten a b ss made = (k : ℕ) (t : Sum) → k < length made → t ≡ get_or made k t → Rewrites a ss k (side_in b t)

pub all_rewritten_none : (a b : List Row) (ss : List Sum) → AllRewritten a b ss []
all_rewritten_none a b ss k t l e = absurd (omega (arith, l))

pub pushed_cases : (made : List Sum) (t : Sum) (k : ℕ) (x : Sum) → k < length (made ++ t ∷ []) → x ≡ get_or (made ++ t ∷ []) k x → ((k < length made) × (x ≡ get_or made k x)) ⊎ ((k ≡ length made) × (x ≡ t))
pushed_cases [] t zero x l e = inr (refl, e)
pushed_cases [] t (suc k) x l e = absurd (omega (arith, l))
pushed_cases (y ∷ ys) t zero x l e = let z : 0 < length (y ∷ ys) = omega arith in inl (z, e)
pushed_cases (y ∷ ys) t (suc k) x l e = let m : k < length (ys ++ t ∷ []) = omega (arith, l) in by_rest (pushed_cases ys t k x m e)
  where
    by_rest : ((k < length ys) × (x ≡ get_or ys k x)) ⊎ ((k ≡ length ys) × (x ≡ t)) → ((suc k < length (y ∷ ys)) × (x ≡ get_or (y ∷ ys) (suc k) x)) ⊎ ((suc k ≡ length (y ∷ ys)) × (x ≡ t))
    by_rest (inl f) = let n : suc k < length (y ∷ ys) = omega (arith, f.0) in inl (n, f.1)
    by_rest (inr f) = inr (ap suc f.0, f.1)

pub all_rewritten_more : (a m b : List Row) → GrowsTypes m b → (ss made : List Sum) (t : Sum) (k : ℕ) → k ≡ length made → AllStand m made → AllRewritten a m ss made → Rewrites a ss k (side_in b t) → AllRewritten a b ss (made ++ t ∷ [])
all_rewritten_more a m b kept ss made t n q st h r k x l e = by_case (pushed_cases made t k x l e)
  where
    by_case : ((k < length made) × (x ≡ get_or made k x)) ⊎ ((k ≡ length made) × (x ≡ t)) → Rewrites a ss k (side_in b x)
    by_case (inl f) = subst (Rewrites a ss k) (sym (side_kept m b kept x (all_there (SumStands m) made k x st f.0 f.1))) (h k x f.0 f.1)
    by_case (inr f) = subst (λ y. Rewrites a ss k (side_in b y)) (sym f.1) (subst (λ j. Rewrites a ss j (side_in b t)) (q ∙ sym f.0) r)

pub all_stand_more : (m b : List Row) → GrowsTypes m b → (made : List Sum) (t : Sum) → AllStand m made → SumStands b t → AllStand b (made ++ t ∷ [])
all_stand_more m b k made t h s = all_push (SumStands b) made t (all_more (SumStands m) (SumStands b) made (λ x. stands_kept m b k x) h) s

pub all_reduce : (a b : List Row) (ss made : List Sum) → length made ≡ length ss → AllRewritten a b ss made → Reduces a b ss made
all_reduce a b ss made c h = record {
  count = c;
  equations = λ N X eqs i t l v e.
      let m : i < length ss = omega (arith, l, c) in
      let s = get_or ss i t in
      equal N X eqs i t m s (got ss i t m) (h i t l e s (got ss i t m));
  fine = λ f. (
    ranks_of ss,
    λ i t l v e.
        let m : i < length ss = omega (arith, l, c) in
        let s = get_or ss i t in
        let g = got ss i t m in
        subst (λ bs. IsFineSide (is_alive bs) (ranks_of ss) (get_or (ranks_of ss) i 0) (side_in b t)) (sym (alive_same made ss c))
        (good i t m s g (f i s m (alive_there ss i m) g) (h i t l e s g)),
  );
  tops = λ known f i t l e.
      let m : i < length ss = omega (arith, l, c) in
      let s = get_or ss i t in
      let g = got ss i t m in
      short known i t m s g (f i s m g) (h i t l e s g);
}
  where
    equal : (N : Meaning) (X : Unknowns) → AreEquations N X a (all_alive ss) ss → (i : ℕ) (t : Sum) → i < length ss → (s : Sum) → s ≡ get_or ss i s → SameSide (side_in a s) (side_in b t) ⊎ UsesEarlier a ss i s (side_in b t) → Equals N X i (side_in b t)
    equal N X eqs i t m s g (inl w) = λ d. iff_then (eqs i s m (alive_there ss i m) g d) (iff_back (w.takes N X d))
    equal N X eqs i t m s g (inr w) = λ d.
        let o = get_or ss w.other t in
        let e = got ss w.other t w.within in
        iff_then (eqs i s m (alive_there ss i m) g d) (iff_back ((w.shortens o e).takes N X (eqs w.other o w.within (alive_there ss w.other w.within) e) d))

    short : (known : List (List ℕ)) (i : ℕ) (t : Sum) → i < length ss → (s : Sum) → s ≡ get_or ss i s → SideTops known (side_in a s) → SameSide (side_in a s) (side_in b t) ⊎ UsesEarlier a ss i s (side_in b t) → SideTops known (side_in b t)
    short known i t m s g f (inl w) = w.tops known f
    short known i t m s g f (inr w) = (w.shortens (get_or ss w.other t) (got ss w.other t w.within)).tops known f

    good : (i : ℕ) (t : Sum) → i < length ss → (s : Sum) → s ≡ get_or ss i s → IsFineSide (is_alive (all_alive ss)) [] 0 (side_in a s) → SameSide (side_in a s) (side_in b t) ⊎ UsesEarlier a ss i s (side_in b t) →
        IsFineSide (is_alive (all_alive ss)) (ranks_of ss) (get_or (ranks_of ss) i 0) (side_in b t)
    good i t m s g f (inl w) = w.fine (is_alive (all_alive ss)) (ranks_of ss) (get_or (ranks_of ss) i 0) (fine_more _ (ranks_of ss) (get_or (ranks_of ss) i 0) (side_in a s) f)
    good i t m s g f (inr w) =
        let o = get_or ss w.other t in
        let e = got ss w.other t w.within in
        let r =
        subst (λ x. x < get_or (ranks_of ss) i 0) (sym (rank_at ss w.other o w.within e))
        (subst (λ y. summand_count o * length ss + w.other < y) (sym (rank_at ss i s m g)) (rank_before (length ss) (summand_count o) (summand_count s) w.other i w.within (w.before o e))) in
        (w.shortens o e).fine (is_alive (all_alive ss)) (ranks_of ss) (get_or (ranks_of ss) i 0) (alive_there ss w.other w.within) r (fine_more _ (ranks_of ss) (get_or (ranks_of ss) i 0) (side_in a s) f)

-- with the table that was there first
pub rewrites_back : (a m : List Row) → GrowsTypes a m → (ss : List Sum) (k : ℕ) (new : Side) → k < length ss → AllStand a ss → Rewrites m ss k new → Rewrites a ss k new
rewrites_back a m kept ss k new l h r s e = by_case (r s e)
  where
    stays : (t : Sum) (j : ℕ) → j < length ss → t ≡ get_or ss j t → side_in m t ≡ side_in a t
    stays t j n f = side_kept a m kept t (all_there (SumStands a) ss j t h n f)

    by_case : SameSide (side_in m s) new ⊎ UsesEarlier m ss k s new → SameSide (side_in a s) new ⊎ UsesEarlier a ss k s new
    by_case (inl w) = inl (subst (λ x. SameSide x new) (stays s k l e) w)
    by_case (inr w) = inr (record {
      other = w.other;
      within = w.within;
      shortens = λ t f. subst (λ x. Shortens w.other x (side_in a s) new) (stays t w.other w.within f) (subst (λ x. Shortens w.other (side_in m t) x new) (stays s k l e) (w.shortens t f));
      before = w.before;
    })

pub all_stand_kept : (a b : List Row) → GrowsTypes a b → (ss : List Sum) → AllStand a ss → AllStand b ss
all_stand_kept a b k ss h = all_more (SumStands a) (SumStands b) ss (λ x. stands_kept a b k x) h
