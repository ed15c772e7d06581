-- On what may be there or not.
use Rattle.std.proofs.Common.{◌≡◌, Some, Option, subst, false, None, refl}
use Rattle.std.specs.Option.{IfSome, is_some}

pub some_same : {A : Type 0} (x y : A) → Some x ≡ Some y → x ≡ y
some_same x y e = cc

pub some_holds : {A : Type 0} (P : A → Type 0) (o : Option A) (x : A) → o ≡ Some x → IfSome o P → P x
some_holds P o x e h = subst (λ q. IfSome q P) e h

pub none_if : {X : Type 0} (o : Option X) → is_some o ≡ false → o ≡ None
none_if None e = refl
none_if (Some x) e = cc

pub none_from : {A : Type 0} (o : Option A) → ((x : A) → o ≡ Some x → ⊥) → o ≡ None
none_from None h = refl
none_from (Some x) h = absurd (h x refl)

pub some_map : {A : Type 0} (o : Option A) (P Q : A → Type 0) → ((x : A) → P x → Q x) → IfSome o P → IfSome o Q
some_map None P Q f h = tt
some_map (Some x) P Q f h = f x h
