-- Lists that go together one for one.
use Rattle.std.proofs.Common.{◌≤◌, arith, List, [], ◌∷◌, ◌++◌, map, length, get_or, take, drop}
use Rattle.std.specs.List.{AllByRecursion}
use Rattle.xd_meaning.specs.KeptFaults.{AllPaired}

pub paired_end : {A B : Type 0} (R : A → B → Type 0) (xs : List A) (ys : List B) (x : A) (y : B) → AllPaired R xs ys → R x y → AllPaired R (xs ++ x ∷ []) (ys ++ y ∷ [])
paired_end R [] [] x y h r = (r, tt)
paired_end R [] (w ∷ ys) x y h r = absurd h
paired_end R (z ∷ xs) [] x y h r = absurd h
paired_end R (z ∷ xs) (w ∷ ys) x y h r = (h.0, paired_end R xs ys x y h.1 r)

-- what holds of each of the first ones is known for what goes with it
pub paired_with : {A B : Type 0} (P : A → Type 0) (R Q : A → B → Type 0) → ((x : A) (y : B) → P x → R x y → Q x y) → (xs : List A) (ys : List B) → AllByRecursion P xs → AllPaired R xs ys → AllPaired Q xs ys
paired_with P R Q f [] [] a h = tt
paired_with P R Q f [] (y ∷ ys) a h = absurd h
paired_with P R Q f (x ∷ xs) [] a h = absurd h
paired_with P R Q f (x ∷ xs) (y ∷ ys) a h = (f x y a.0 h.0, paired_with P R Q f xs ys a.1 h.1)

pub paired_same : {A B : Type 0} (R Q : A → B → Type 0) → ((x : A) (y : B) → R x y → Q x y) → (xs : List A) (ys : List B) → AllPaired R xs ys → AllPaired Q xs ys
paired_same R Q f [] [] h = tt
paired_same R Q f [] (y ∷ ys) h = absurd h
paired_same R Q f (x ∷ xs) [] h = absurd h
paired_same R Q f (x ∷ xs) (y ∷ ys) h = (f x y h.0, paired_same R Q f xs ys h.1)

pub paired_map : {A B C : Type 0} (R : B → C → Type 0) (f : A → B) (xs : List A) (ys : List C) → AllPaired R (map f xs) ys → AllPaired (λ x y. R (f x) y) xs ys
paired_map R f [] [] h = tt
paired_map R f [] (y ∷ ys) h = absurd h
paired_map R f (x ∷ xs) [] h = absurd h
paired_map R f (x ∷ xs) (y ∷ ys) h = (h.0, paired_map R f xs ys h.1)

-- what goes with the first of them, and what with the others
pub paired_front : {A B C : Type 0} (R : B → C → Type 0) (f : A → B) (xs : List A) (zs : List B) (ys : List C) → AllPaired R (map f xs ++ zs) ys → AllPaired (λ x y. R (f x) y) xs (take (length xs) ys)
paired_front R f [] zs ys h = tt
paired_front R f (x ∷ xs) zs [] h = absurd h
paired_front R f (x ∷ xs) zs (y ∷ ys) h = (h.0, paired_front R f xs zs ys h.1)

pub paired_back : {A B C : Type 0} (R : B → C → Type 0) (f : A → B) (xs : List A) (zs : List B) (ys : List C) → AllPaired R (map f xs ++ zs) ys → AllPaired R zs (drop (length xs) ys)
paired_back R f [] zs ys h = h
paired_back R f (x ∷ xs) zs [] h = absurd h
paired_back R f (x ∷ xs) zs (y ∷ ys) h = paired_back R f xs zs ys h.1

pub paired_room : {A B C : Type 0} (R : B → C → Type 0) (f : A → B) (xs : List A) (zs : List B) (ys : List C) → AllPaired R (map f xs ++ zs) ys → length xs ≤ length ys
paired_room R f [] zs ys h = omega arith
paired_room R f (x ∷ xs) zs [] h = absurd h
paired_room R f (x ∷ xs) zs (y ∷ ys) h = let i = paired_room R f xs zs ys h.1 in omega arith

-- what goes with one by way of another
pub paired_through : {A B C : Type 0} (R : A → B → Type 0) (Q : B → C → Type 0) (P : A → C → Type 0) → ((x : A) (y : B) (z : C) → R x y → Q y z → P x z) → (xs : List A) (ys : List B) (zs : List C) → AllPaired R xs ys → AllPaired Q ys zs → AllPaired P xs zs
paired_through R Q P f [] [] [] h g = tt
paired_through R Q P f [] [] (z ∷ zs) h g = absurd g
paired_through R Q P f [] (y ∷ ys) zs h g = absurd h
paired_through R Q P f (x ∷ xs) [] zs h g = absurd h
paired_through R Q P f (x ∷ xs) (y ∷ ys) [] h g = absurd g
paired_through R Q P f (x ∷ xs) (y ∷ ys) (z ∷ zs) h g = (f x y z h.0 g.0, paired_through R Q P f xs ys zs h.1 g.1)

-- what goes with one
pub paired_one : {A B : Type 0} (R : A → B → Type 0) (x : A) (ys : List B) (d : B) → AllPaired R (x ∷ []) ys → R x (get_or ys 0 d)
paired_one R x [] d h = absurd h
paired_one R x (y ∷ ys) d h = h.0
