-- Laws of classes put together.
use Rattle.std.proofs.Common.{◌≡◌, ℕ, List, [], ◌∷◌, nat_eq, Bool, true, false, cond, not, ◌||◌, ◌&&◌, refl, sym, ap, ◌∙◌, subst}
use Rattle.std.specs.Cmp.Lexicographic.{pointwise, same_text}
use Rattle.xd_doc.specs.Classes.{NameClass, class_has, is_named}

pub has_all : (a b w : Bool) → w ≡ true → (w && not a) ≡ false → w ≡ (a || b)
has_all true b w e f = e
has_all false true w e f = e
has_all false false w e f = cc

pub has_all_others : (a b w r : Bool) → w ≡ true → r ≡ (w && not a) → (r && not b) ≡ false → w ≡ (a || b)
has_all_others true b w r e f g = e
has_all_others false true w r e f g = e
has_all_others false false true true e f g = cc
has_all_others false false true false e f g = cc
has_all_others false false false r e f g = cc

pub has_either : (a b w r s m : Bool) → w ≡ true → r ≡ (w && not a) → s ≡ (r && not b) → m ≡ (w && not s) → m ≡ (a || b)
has_either true b true true s m e f g h = cc
has_either true b true false true m e f g h = cc
has_either true b true false false m e f g h = h
has_either false true true r true m e f g h = cc
has_either false true true r false m e f g h = h
has_either false false true true true m e f g h = h
has_either false false true true false m e f g h = cc
has_either false false true false s m e f g h = cc
has_either a b false r s m e f g h = cc

pub has_neither : (a b w r s : Bool) → w ≡ true → r ≡ (w && not a) → s ≡ (r && not b) → (w && not s) ≡ false → a ≡ (a || b)
has_neither true b w r s e f g h = refl
has_neither false false w r s e f g h = refl
has_neither false true true r true e f g h = cc
has_neither false true true r false e f g h = cc
has_neither false true false r s e f g h = cc

pub no_exception : (c : NameClass) (l : List ℕ) → c.except ≡ true → is_named c.names l ≡ false → class_has c l ≡ true
no_exception c l e f = subst (λ b. cond b (not (is_named c.names l)) (is_named c.names l) ≡ true) (sym e) (ap not f)

-- classes with the same names
pub same_class : (c e : NameClass) → c.except ≡ e.except → pointwise (pointwise nat_eq) c.names e.names ≡ true → c ≡ e
same_class c e excepts names =
    ap (λ n. record { names = n; except = c.except }) (same_names c.names e.names names) ∙ ap (λ b. record { names = e.names; except = b }) excepts
  where
    left : (x y : Bool) → (x && y) ≡ true → x ≡ true
    left true y h = refl
    left false y h = h

    right : (x y : Bool) → (x && y) ≡ true → y ≡ true
    right true y h = h
    right false y h = absurd (cc)

    same_names : (xs ys : List (List ℕ)) → pointwise (pointwise nat_eq) xs ys ≡ true → xs ≡ ys
    same_names [] [] h = refl
    same_names [] (y ∷ ys) h = absurd (cc)
    same_names (x ∷ xs) [] h = absurd (cc)
    same_names (x ∷ xs) (y ∷ ys) h =
        ap (λ z. z ∷ xs) (same_text x y (sym (left (pointwise nat_eq x y) (pointwise (pointwise nat_eq) xs ys) h)))
        ∙ ap (λ zs. y ∷ zs) (same_names xs ys (right (pointwise nat_eq x y) (pointwise (pointwise nat_eq) xs ys) h))
