-- On lists: their first elements, and facts that hold of each element.
use Rattle.std.proofs.Common.{◌≡◌, ℕ, zero, suc, ◌<◌, List, [], ◌∷◌, ◌++◌, length, get_or, arith, ◌+◌, Bool, ◌||◌, map, refl, ap, Some, drop, sym, subst, set, ◌-◌, take, ◌∙◌, ◌≤◌, true, flat_map, length-drop}
use Rattle.std.specs.List.{AllByRecursion, AllZip, list_any, Contains, slice_get}
use Rattle.std.proofs.lemmas.List.{at_drop_more, reverse-append, take_more, append-nil, map-append, take_all}
use Rattle.std.specs.Prelude.{reverse}
use Rattle.std.specs.Str.{bytes_eq}
use Rattle.std.proofs.lemmas.Slice.Eq.{bytes_eq-Decides}
use Rattle.std.proofs.lemmas.Grind.{flat_map-append}

pub not_nil : {X : Type 0} (x : X) (xs : List X) → [] ≡ x ∷ xs → ⊥
not_nil x xs e = cc

pub same_first : {X : Type 0} (x y : X) (xs ys : List X) → x ∷ xs ≡ y ∷ ys → x ≡ y
same_first x y xs ys e = cc

pub same_rest : {X : Type 0} (x y : X) (xs ys : List X) → x ∷ xs ≡ y ∷ ys → xs ≡ ys
same_rest x y xs ys e = cc

module _ {X : Type 0} (P : X → Type 0) where
  pub all_append : (xs ys : List X) → AllByRecursion P xs → AllByRecursion P ys → AllByRecursion P (xs ++ ys)
  all_append [] ys h k = k
  all_append (x ∷ xs) ys h k = (h.0, all_append xs ys h.1 k)

  pub all_push : (xs : List X) (y : X) → AllByRecursion P xs → P y → AllByRecursion P (xs ++ y ∷ [])
  all_push xs y h p = all_append xs (y ∷ []) h (p, tt)

  pub all_front : (xs ys : List X) → AllByRecursion P (xs ++ ys) → AllByRecursion P xs
  all_front [] ys h = tt
  all_front (x ∷ xs) ys h = (h.0, all_front xs ys h.1)

  pub all_back : (xs ys : List X) → AllByRecursion P (xs ++ ys) → AllByRecursion P ys
  all_back [] ys h = h
  all_back (x ∷ xs) ys h = all_back xs ys h.1

  pub all_at : (xs : List X) → AllByRecursion P xs → (i : ℕ) (d : X) → i < length xs → P (get_or xs i d)
  all_at [] h i d lt = absurd (omega arith)
  all_at (x ∷ xs) h zero d lt = h.0
  all_at (x ∷ xs) h (suc i) d lt = all_at xs h.1 i d (omega arith)

  pub all_more : (Q : X → Type 0) (xs : List X) → ((x : X) → P x → Q x) → AllByRecursion P xs → AllByRecursion Q xs
  all_more Q [] f h = tt
  all_more Q (x ∷ xs) f h = (f x h.0, all_more Q xs f h.1)

pub zip_push : {X Y : Type 0} (R : X → Y → Type 0) (xs : List X) (ys : List Y) (x : X) (y : Y) → AllZip R xs ys → R x y → AllZip R (xs ++ x ∷ []) (ys ++ y ∷ [])
zip_push R [] [] x y h r = (r, h)
zip_push R [] (v ∷ ys) x y h r = absurd h
zip_push R (u ∷ xs) [] x y h r = absurd h
zip_push R (u ∷ xs) (v ∷ ys) x y h r = (h.0, zip_push R xs ys x y h.1 r)

pub any_map : {X Y : Type 0} (p : Y → Bool) (f : X → Y) (xs : List X) → list_any p (map f xs) ≡ list_any (λ x. p (f x)) xs
any_map p f [] = refl
any_map p f (x ∷ xs) = ap (λ b. p (f x) || b) (any_map p f xs)

pub later_in : {X : Type 0} (x y : X) (xs : List X) → Contains xs y → Contains (x ∷ xs) y
later_in x y xs c = (suc c.0, omega (arith, c.1), c.2)

pub append_none : {A : Type 0} (L : List A) → L ++ [] ≡ L
append_none [] = refl
append_none (x ∷ L) = ap (λ z. x ∷ z) (append_none L)

pub there_front : {X : Type 0} (xs ys : List X) (i : ℕ) (x : X) → slice_get xs i ≡ Some x → slice_get (xs ++ ys) i ≡ Some x
there_front [] ys i x e = absurd (cc)
there_front (y ∷ xs) ys zero x e = e
there_front (y ∷ xs) ys (suc i) x e = there_front xs ys i x e

pub last_at : {A : Type 0} (xs : List A) (x : A) → slice_get (xs ++ x ∷ []) (length xs) ≡ Some x
last_at [] x = refl
last_at (y ∷ xs) x = last_at xs x

pub all_last : {X : Type 0} (P : X → Type 0) (xs : List X) (x : X) → AllByRecursion P (xs ++ x ∷ []) → P x
all_last P [] x h = h.0
all_last P (y ∷ xs) x h = all_last P xs x h.1

pub all_step : {X : Type 0} (P : X → Type 0) (xs : List X) (i : ℕ) (x : X) → i < length xs → x ≡ get_or xs i x → AllByRecursion P (drop i xs) → P x × AllByRecursion P (drop (i + 1) xs)
all_step {X} P xs i x lt at h =
    let both : AllByRecursion P (get_or xs i x ∷ drop (i + 1) xs) = subst (AllByRecursion P) (at_drop_more (λ ys. ys) xs i x lt) h in
    (subst P (sym at) both.0, both.1)

pub all_set : {X : Type 0} (P : X → Type 0) (xs : List X) (k : ℕ) (x : X) → AllByRecursion P xs → P x → AllByRecursion P (set xs k x)
all_set P [] k x h p = tt
all_set P (y ∷ ys) zero x h p = (p, h.1)
all_set P (y ∷ ys) (suc k) x h p = (h.0, all_set P ys k x h.1 p)

pub all_get : {A : Type 0} (P : A → Type 0) (xs : List A) (k : ℕ) (d : A) → AllByRecursion P xs → k < length xs → P (get_or xs k d)
all_get P [] k d h l = absurd (omega arith)
all_get P (x ∷ xs) zero d h l = h.0
all_get P (x ∷ xs) (suc k) d h l = all_get P xs k d h.1 (omega arith)

pub all_as : {A : Type 0} (P Q : A → Type 0) → ((x : A) → P x → Q x) → (xs : List A) → AllByRecursion P xs → AllByRecursion Q xs
all_as P Q f [] h = tt
all_as P Q f (x ∷ xs) h = (f x h.0, all_as P Q f xs h.1)

pub reverse_push : {A : Type 0} (xs : List A) (x : A) → reverse (xs ++ x ∷ []) ≡ x ∷ reverse xs
reverse_push xs x = reverse-append xs (x ∷ [])

pub all_take : {A : Type 0} (P : A → Type 0) (n : ℕ) (xs : List A) → AllByRecursion P xs → AllByRecursion P (take n xs)
all_take P zero xs h = tt
all_take P (suc n) [] h = tt
all_take P (suc n) (x ∷ xs) h = (h.0, all_take P n xs h.1)

pub append_none_parts : {A : Type 0} (fs gs : List A) → fs ++ gs ≡ [] → (fs ≡ []) × (gs ≡ [])
append_none_parts [] gs e = (refl, e)
append_none_parts (f ∷ fs) gs e = cc

pub all_there : {A : Type 0} (Q : A → Type 0) (xs : List A) (i : ℕ) (x : A) → AllByRecursion Q xs → i < length xs → x ≡ get_or xs i x → Q x
all_there Q [] i x a l e = absurd (omega arith)
all_there Q (y ∷ ys) zero x a l e = subst Q (sym e) a.0
all_there Q (y ∷ ys) (suc i) x a l e = all_there Q ys i x a.1 (omega arith) e

pub map_append : {A B : Type 0} (f : A → B) (xs ys : List A) → map f (xs ++ ys) ≡ map f xs ++ map f ys
map_append f [] ys = refl
map_append f (x ∷ xs) ys = ap (λ z. f x ∷ z) (map_append f xs ys)

pub same_at : {X : Type 0} (xs : List X) (i : ℕ) (d e : X) → i < length xs → get_or xs i d ≡ get_or xs i e
same_at [] i d e l = absurd (omega arith)
same_at (x ∷ xs) zero d e l = refl
same_at (x ∷ xs) (suc i) d e l = same_at xs i d e (omega arith)

pub none_of : {A : Type 0} (xs : List A) → length xs ≡ 0 → xs ≡ []
none_of [] e = refl
none_of (x ∷ xs) e = absurd (omega arith)

pub all_but_last : {A : Type 0} (P : A → Type 0) (xs : List A) (y : A) → AllByRecursion P (xs ++ y ∷ []) → AllByRecursion P xs × P y
all_but_last P [] y h = (tt, h.0)
all_but_last P (x ∷ xs) y h = let i = all_but_last P xs y h.1 in ((h.0, i.0), i.1)

pub same_fronts : (xs ys r q : List ℕ) → length xs ≡ length ys → xs ++ r ≡ ys ++ q → (xs ≡ ys) × (r ≡ q)
same_fronts [] [] r q h e = (refl, e)
same_fronts [] (y ∷ ys) r q h e = absurd (omega (arith, h))
same_fronts (x ∷ xs) [] r q h e = absurd (omega (arith, h))
same_fronts (x ∷ xs) (y ∷ ys) r q h e =
    let a : x ≡ y = cc in
    let b = same_fronts xs ys r q (omega (arith, h)) (ap (λ l. drop 1 l) e) in
    (ap (λ z. z ∷ xs) a ∙ ap (λ l. y ∷ l) b.0, b.1)

pub take_front : {A : Type 0} (xs ys : List A) → take (length xs) (xs ++ ys) ≡ xs
take_front [] ys = refl
take_front (x ∷ xs) ys = ap (λ zs. x ∷ zs) (take_front xs ys)

pub all_below : (m n : ℕ) → m ≤ n → (is : List ℕ) → AllByRecursion (λ i. i < m) is → AllByRecursion (λ i. i < n) is
all_below m n h [] a = tt
all_below m n h (i ∷ is) a = (omega arith, all_below m n h is a.1)

pub all_taken : {X : Type 0} (P : X → Type 0) (xs : List X) (i : ℕ) (x : X) → i < length xs → x ≡ get_or xs i x → AllByRecursion P (take i xs) → P x → AllByRecursion P (take (i + 1) xs)
all_taken {X} P xs i x lt e h p = subst (AllByRecursion P) (sym (take_more xs i x lt)) (all_push P (take i xs) (get_or xs i x) h (subst P e p))

pub word_equals : (x w : List ℕ) → x ≡ w → bytes_eq x w ≡ true
word_equals x w e = (bytes_eq-Decides x w).1 e

pub first_at : (words : List (List ℕ)) (w : List ℕ) → slice_get words 0 ≡ Some w → w ≡ get_or words 0 w
first_at [] w e = cc
first_at (x ∷ xs) w e = cc

pub drop_past : {X : Type 0} (xs : List X) (i : ℕ) → length xs ≤ i → drop i xs ≡ []
drop_past [] zero h = refl
drop_past [] (suc i) h = refl
drop_past (x ∷ xs) zero h = absurd (omega arith)
drop_past (x ∷ xs) (suc i) h = drop_past xs i (omega arith)

pub word_itself : (x : List ℕ) → bytes_eq x x ≡ true
word_itself x = (bytes_eq-Decides x x).1 refl

pub zip_both : {A B : Type 0} (P : A → B → Type 0) (xs : List A) (ys : List B) (vs : List A) (ws : List B) → AllZip P xs ys → AllZip P vs ws → AllZip P (xs ++ vs) (ys ++ ws)
zip_both P [] [] vs ws z u = u
zip_both P [] (y ∷ ys) vs ws z u = absurd z
zip_both P (x ∷ xs) [] vs ws z u = absurd z
zip_both P (x ∷ xs) (y ∷ ys) vs ws z u = (z.0, zip_both P xs ys vs ws z.1 u)

pub one_at : {A : Type 0} (xs : List A) (k : ℕ) (x y : A) → k < length xs → x ≡ get_or xs k x → y ≡ get_or xs k y → x ≡ y
one_at xs k x y l e f = e ∙ same_at xs k x y l ∙ sym f

pub zip_long : {A B : Type 0} (P : A → B → Type 0) (xs : List A) (ys : List B) → AllZip P xs ys → length xs ≡ length ys
zip_long P [] [] z = refl
zip_long P [] (y ∷ ys) z = absurd z
zip_long P (x ∷ xs) [] z = absurd z
zip_long P (x ∷ xs) (y ∷ ys) z = ap suc (zip_long P xs ys z.1)

pub length-mapped : {A B : Type 0} (f : A → B) (xs : List A) → length (map f xs) ≡ length xs
length-mapped f [] = refl
length-mapped f (x ∷ xs) = ap suc (length-mapped f xs)

pub flat_more : {A B : Type 0} (f : A → List B) (xs : List A) (y : A) → flat_map f (xs ++ y ∷ []) ≡ flat_map f xs ++ f y
flat_more f xs y = flat_map-append f xs (y ∷ []) ∙ ap (λ zs. flat_map f xs ++ zs) (append-nil (f y))

pub map-take_more : {X Y : Type 0} (f : X → Y) (xs : List X) (i : ℕ) (x : X) → i < length xs → x ≡ get_or xs i x → map f (take (i + 1) xs) ≡ map f (take i xs) ++ f x ∷ []
map-take_more {X} {Y} f xs i x lt e = ap (map f) (take_more xs i x lt) ∙ map-append f (take i xs) (get_or xs i x ∷ []) ∙ ap (λ (y : X). map f (take i xs) ++ f y ∷ []) (sym e)

pub length_push : {X : Type 0} (xs : List X) (x : X) → length (xs ++ x ∷ []) ≡ length xs + 1
length_push [] x = refl
length_push (y ∷ xs) x = let i = length_push xs x in omega arith

pub all_parts : {X : Type 0} (P : X → Type 0) (xs ys : List X) → AllByRecursion P (xs ++ ys) → AllByRecursion P xs × AllByRecursion P ys
all_parts P [] ys h = (tt, h)
all_parts P (x ∷ xs) ys h = let i = all_parts P xs ys h.1 in ((h.0, i.0), i.1)

pub drop_whole : {X : Type 0} (xs : List X) (n : ℕ) → take (length xs - n) (drop n xs) ≡ drop n xs
drop_whole xs n = take_all (length xs - n) (drop n xs) (omega (arith, length-drop n xs))
