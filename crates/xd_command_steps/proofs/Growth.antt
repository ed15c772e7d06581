-- How what is written grows.
use Rattle.std.proofs.Common.{◌≡◌, ℕ, zero, suc, zero-add, ◌+◌, ◌-◌, ◌≤◌, List, [], ◌∷◌, ◌++◌, length, take, drop, Option, Some, None, refl, ap, ◌∙◌, append_assoc, arith, length-drop}
use Rattle.std.proofs.lemmas.List.{take_all}
use Rattle.xd_base.specs.Outside.{HasGrown}

pub HasGrown-then : (a b c : Option (List ℕ)) (x y : List ℕ) → HasGrown a b x → HasGrown b c y → HasGrown a c (x ++ y)
HasGrown-then (Some a) (Some b) (Some c) x y p q = q ∙ ap (λ (l : List ℕ). l ++ y) p ∙ append_assoc a x y
HasGrown-then None None None x y p q = tt
HasGrown-then (Some a) (Some b) None x y p q = absurd q
HasGrown-then (Some a) None c x y p q = absurd p
HasGrown-then None (Some b) c x y p q = absurd p
HasGrown-then None None (Some c) x y p q = absurd q

-- the front that was taken is longer by what was taken now
pub take_longer : (bs : List ℕ) (n m : ℕ) → n ≤ length bs → take n bs ++ take m (drop n bs) ≡ take (n + m) bs
take_longer [] zero m h = rw zero-add refl
take_longer (b ∷ bs) zero m h = rw zero-add refl
take_longer [] (suc n) m h = absurd (omega arith)
take_longer (b ∷ bs) (suc n) m h = let e : suc n + m ≡ suc (n + m) = omega arith in rw e (ap (λ (l : List ℕ). b ∷ l) (take_longer bs n m (omega arith)))

-- the rest of the bytes, as a slice
pub rest_is : (bs : List ℕ) (n : ℕ) → take (length bs - n) (drop n bs) ≡ drop n bs
rest_is bs n = take_all (length bs - n) (drop n bs) (omega (arith, length-drop n bs))
