-- A list in order with the same elements at each rank is one list, and putting elements in one by
-- one gives it.
use Rattle.xd_syntax.specs.Order.{put_in, ordered_after}
use Rattle.std.proofs.Common.{◌≡◌, ℕ, suc, ◌<◌, ◌≤◌, arith, Bool, true, false, not, cond, ◌&&◌, List, [], ◌∷◌, ◌++◌, length, get_or, refl, ap, sym, ◌∙◌, subst, append-nil, append_assoc}
use Rattle.std.specs.List.{filter}
use Rattle.std.specs.List.Sorted.{ties, IsSortedBy, IsStableBy}
use Rattle.std.specs.Cmp.{IsStrictWeakOrder}
use Rattle.std.proofs.lemmas.List.Elements.{filter-append}
use Rattle.std.proofs.lemmas.List.Sorted.{sorted_far}

module _ {X : Type 0} (lt : X → X → Bool) where
  -- x after those that it isn't less than
  -- no element is less than x
  abbrev pub IsLeast : X → List X → Type 0
  IsLeast x [] = Unit {0}
  IsLeast x (y ∷ ys) = (lt y x ≡ false) × IsLeast x ys

  -- no element is less than one before it
  abbrev pub IsUp : List X → Type 0
  IsUp [] = Unit {0}
  IsUp (x ∷ xs) = IsLeast x xs × IsUp xs

  least_from : (x : X) (xs : List X) → ((j : ℕ) (d : X) → j < length xs → lt (get_or xs j d) x ≡ false) → IsLeast x xs
  least_from x [] f = tt
  least_from x (y ∷ ys) f = (f 0 x (omega arith), least_from x ys (λ j d h. f (suc j) d (omega arith)))

  up_from : (xs : List X) → ((i j : ℕ) (d : X) → i ≤ j → j < length xs → lt (get_or xs j d) (get_or xs i d) ≡ false) → IsUp xs
  up_from [] f = tt
  up_from (x ∷ xs) f = (
    least_from x xs (λ j d h. f 0 (suc j) d (omega arith) (omega arith)),
    up_from xs (λ i j d h k. f (suc i) (suc j) d (omega arith) (omega arith)),
  )

  module _ (o : IsStrictWeakOrder lt) where
    itself : (x : X) → lt x x ≡ false
    itself x = either (lt x x) refl
      where
        either : (b : Bool) → lt x x ≡ b → lt x x ≡ false
        either true e = o.one_way x x e
        either false e = e

    tied : (x y : X) → lt x y ≡ false → lt y x ≡ false → ties lt x y ≡ true
    tied x y a b = rw (a, b) refl

    tied_itself : (x : X) → ties lt x x ≡ true
    tied_itself x = tied x x (itself x) (itself x)

    untied : (x y : X) → ties lt x y ≡ true → (lt x y ≡ false) × (lt y x ≡ false)
    untied x y e = halves (lt x y) (lt y x) e
      where
        halves : (a b : Bool) → (not a && not b) ≡ true → (a ≡ false) × (b ≡ false)
        halves true b e = absurd (cc)
        halves false true e = absurd (cc)
        halves false false e = (refl, refl)

    -- what is kept of elements that aren't less than x isn't less
    member : (p : X → Bool) (x w : X) (xs ws : List X) → filter p xs ≡ w ∷ ws → IsLeast x xs → lt w x ≡ false
    member p x w [] ws e l = absurd (cc)
    member p x w (v ∷ vs) ws e l =
        elim (p v) as (λ b. cond b (v ∷ filter p vs) (filter p vs) ≡ w ∷ ws → lt w x ≡ false) [
          | true ↦ λ q. (let s : v ≡ w = cc in subst (λ u. lt u x ≡ false) s l.0)
          | false ↦ λ q. member p x w vs ws q l.1
        ] e

    tails : (b : Bool) (y : X) (ys zs : List X) → cond b (y ∷ ys) ys ≡ cond b (y ∷ zs) zs → ys ≡ zs
    tails true y ys zs e = cc
    tails false y ys zs e = e

    -- lists in order that agree at each rank are one
    pub unique : (ys zs : List X) → IsUp ys → IsUp zs → ((x : X) → filter (ties lt x) ys ≡ filter (ties lt x) zs) → ys ≡ zs
    unique [] [] u v f = refl
    unique [] (z ∷ zs) u v f = let e : [] ≡ cond true (z ∷ filter (ties lt z) zs) (filter (ties lt z) zs) = subst (λ b. [] ≡ cond b (z ∷ filter (ties lt z) zs) (filter (ties lt z) zs)) (tied_itself z) (f z) in absurd (cc)
    unique (y ∷ ys) [] u v f = let e : cond true (y ∷ filter (ties lt y) ys) (filter (ties lt y) ys) ≡ [] = subst (λ b. cond b (y ∷ filter (ties lt y) ys) (filter (ties lt y) ys) ≡ []) (tied_itself y) (f y) in absurd (cc)
    unique (y ∷ ys) (z ∷ zs) u v f =
        let at_y : y ∷ filter (ties lt y) ys ≡ filter (ties lt y) (z ∷ zs) = subst (λ b. cond b (y ∷ filter (ties lt y) ys) (filter (ties lt y) ys) ≡ filter (ties lt y) (z ∷ zs)) (tied_itself y) (f y) in
        let at_z : filter (ties lt z) (y ∷ ys) ≡ z ∷ filter (ties lt z) zs = subst (λ b. filter (ties lt z) (y ∷ ys) ≡ cond b (z ∷ filter (ties lt z) zs) (filter (ties lt z) zs)) (tied_itself z) (f z) in
        let a : lt y z ≡ false = member (ties lt y) z y (z ∷ zs) (filter (ties lt y) ys) (sym at_y) (itself z, v.0) in
        let b : lt z y ≡ false = member (ties lt z) y z (y ∷ ys) (filter (ties lt z) zs) at_z (itself y, u.0) in
        let both : y ∷ filter (ties lt y) ys ≡ z ∷ filter (ties lt y) zs = subst (λ t. y ∷ filter (ties lt y) ys ≡ cond t (z ∷ filter (ties lt y) zs) (filter (ties lt y) zs)) (tied y z a b) at_y in
        let e : y ≡ z = cc in
        let rest : (x : X) → filter (ties lt x) ys ≡ filter (ties lt x) zs
        = λ x. tails (ties lt x y) y (filter (ties lt x) ys) (filter (ties lt x) zs)
        (subst (λ w. filter (ties lt x) (y ∷ ys) ≡ cond (ties lt x w) (w ∷ filter (ties lt x) zs) (filter (ties lt x) zs)) (sym e) (f x)) in
        let r = unique ys zs u.1 v.1 rest in
        cc

    least_put : (d x : X) (ds : List X) → lt x d ≡ false → IsLeast d ds → IsLeast d (put_in lt x ds)
    least_put d x [] h l = (h, tt)
    least_put d x (e ∷ es) h l =
        elim (lt x e) as (λ b. IsLeast d (cond b (x ∷ (e ∷ es)) (e ∷ put_in lt x es))) [ true ↦ (h, l) | false ↦ (l.0, least_put d x es h l.1) ]

    least_below : (d x : X) (ds : List X) → lt d x ≡ false → IsLeast d ds → IsLeast x ds
    least_below d x [] h l = tt
    least_below d x (e ∷ es) h l = (o.chain e d x l.0 h, least_below d x es h l.1)

    put_up_at : (x d : X) (ds : List X) → IsUp (d ∷ ds) → IsUp (put_in lt x ds) → (b : Bool) → lt x d ≡ b → IsUp (cond b (x ∷ (d ∷ ds)) (d ∷ put_in lt x ds))
    put_up_at x d ds u r true e = ((o.one_way x d e, least_below d x ds (o.one_way x d e) u.0), u)
    put_up_at x d ds u r false e = (least_put d x ds e u.0, r)

    put_up : (x : X) (ds : List X) → IsUp ds → IsUp (put_in lt x ds)
    put_up x [] u = (tt, tt)
    put_up x (d ∷ ds) u = put_up_at x d ds u (put_up x ds u.1) (lt x d) refl

    above : (x d e : X) → lt x d ≡ true → lt e d ≡ false → lt x e ≡ true
    above x d e h k = either (lt x e) refl
      where
        either : (b : Bool) → lt x e ≡ b → lt x e ≡ true
        either true q = q
        either false q = let f = o.chain x e d q k in absurd (cc)

    -- what is above x isn't tied to what x is tied to
    apart : (w x e : X) → ties lt w x ≡ true → lt x e ≡ true → ties lt w e ≡ false
    apart w x e t h = either (ties lt w e) refl
      where
        either : (b : Bool) → ties lt w e ≡ b → ties lt w e ≡ false
        either true q =
            let f = o.chain x w e (untied w x t).1 (untied w e q).0 in absurd (cc)
        either false q = q

    none_tied : (w x d : X) (ds : List X) → ties lt w x ≡ true → lt x d ≡ true → IsLeast d ds → filter (ties lt w) ds ≡ []
    none_tied w x d [] t h l = refl
    none_tied w x d (e ∷ es) t h l = let f = apart w x e t (above x d e h l.0) in rw f (none_tied w x d es t h l.1)

    filter_front : (w x d : X) (ds : List X) → IsUp (d ∷ ds) → lt x d ≡ true → (b : Bool) → ties lt w x ≡ b →
        cond b (x ∷ filter (ties lt w) (d ∷ ds)) (filter (ties lt w) (d ∷ ds)) ≡ filter (ties lt w) (d ∷ ds) ++ cond b (x ∷ []) []
    filter_front w x d ds u h true t =
        let n : filter (ties lt w) (d ∷ ds) ≡ [] = none_tied w x d (d ∷ ds) t h (itself d, u.0) in
        ap (λ r. x ∷ r) n ∙ ap (λ r. r ++ x ∷ []) (sym n)
    filter_front w x d ds u h false t = sym (append-nil (filter (ties lt w) (d ∷ ds)))

    filter_put_at : (w x d : X) (ds : List X) → IsUp (d ∷ ds) → filter (ties lt w) (put_in lt x ds) ≡ filter (ties lt w) (ds ++ x ∷ []) → (b : Bool) → lt x d ≡ b →
        filter (ties lt w) (cond b (x ∷ (d ∷ ds)) (d ∷ put_in lt x ds)) ≡ filter (ties lt w) (d ∷ (ds ++ x ∷ []))
    filter_put_at w x d ds u r true h = filter_front w x d ds u h (ties lt w x) refl ∙ sym (filter-append (ties lt w) (d ∷ ds) (x ∷ []))
    filter_put_at w x d ds u r false h = ap (λ ys. cond (ties lt w d) (d ∷ ys) ys) r

    filter_put : (w x : X) (ds : List X) → IsUp ds → filter (ties lt w) (put_in lt x ds) ≡ filter (ties lt w) (ds ++ x ∷ [])
    filter_put w x [] u = refl
    filter_put w x (d ∷ ds) u = filter_put_at w x d ds u (filter_put w x ds u.1) (lt x d) refl

    pub put_all_up : (done xs : List X) → IsUp done → IsUp (ordered_after lt done xs)
    put_all_up done [] u = u
    put_all_up done (x ∷ xs) u = put_all_up (put_in lt x done) xs (put_up x done u)

    pub filter-put_all : (w : X) (done xs : List X) → IsUp done → filter (ties lt w) (ordered_after lt done xs) ≡ filter (ties lt w) (done ++ xs)
    filter-put_all w done [] u = ap (filter (ties lt w)) (sym (append-nil done))
    filter-put_all w done (x ∷ xs) u =
        filter-put_all w (put_in lt x done) xs (put_up x done u)
        ∙ filter-append (ties lt w) (put_in lt x done) xs
        ∙ ap (λ r. r ++ filter (ties lt w) xs) (filter_put w x done u)
        ∙ sym (filter-append (ties lt w) (done ++ x ∷ []) xs)
        ∙ ap (filter (ties lt w)) (append_assoc done (x ∷ []) xs)

    -- a stable sort puts the elements in one by one
    pub put_all_sorted : (xs ys : List X) → IsSortedBy lt ys → IsStableBy lt xs ys → ys ≡ ordered_after lt [] xs
    put_all_sorted xs ys sorted stable =
        unique ys (ordered_after lt [] xs) (up_from ys (sorted_far lt o ys sorted)) (put_all_up [] xs tt) (λ x. stable x ∙ sym (filter-put_all x [] xs tt))
