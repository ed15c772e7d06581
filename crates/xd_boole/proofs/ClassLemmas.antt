-- On classes that are told apart.
use Rattle.std.proofs.Common.{◌≡◌, ℕ, ◌+◌, ◌<◌, ◌≤◌, nat_eq, Bool, true, false, ◌||◌, List, length, take, get_or, refl, sym, ap, ◌∙◌}
use Rattle.std.specs.Cmp.Lexicographic.{pointwise}
use Rattle.std.proofs.lemmas.List.Folds.{list_any_more}
use Rattle.xd_doc.specs.Classes.{LabelClass, class_has, is_named}
use Rattle.xd_doc.proofs.SortedNames.{same_is}
use Rattle.xd_boole.proofs.Lists.{any_walked}

-- each of the names is in the class, or none is
abbrev pub AllNamed : LabelClass → Bool → List (List ℕ) → Type 0
AllNamed class has names = (x : List ℕ) → is_named names x ≡ true → class_has class x ≡ has

pub named_none : (class : LabelClass) (has : Bool) (names : List (List ℕ)) → AllNamed class has (take 0 names)
named_none class has names x e = absurd (cc)

pub named_more : (class : LabelClass) (has : Bool) (names : List (List ℕ)) (i : ℕ) (name : List ℕ) → i < length names → name ≡ get_or names i name → class_has class name ≡ has → AllNamed class has (take i names) → AllNamed class has (take (i + 1) names)
named_more class has names i name lt at here before x e =
    go (is_named (take i names) x) refl (pointwise nat_eq name x) refl (sym (list_any_more (λ n. pointwise nat_eq n x) names i name lt ∙ ap (λ n. is_named (take i names) x || pointwise nat_eq n x) (sym at)) ∙ e)
  where
    go : (b : Bool) → is_named (take i names) x ≡ b → (s : Bool) → pointwise nat_eq name x ≡ s → (is_named (take i names) x || pointwise nat_eq name x) ≡ true → class_has class x ≡ has
    go true old s same k = before x old
    go false old true same k = ap (class_has class) (sym (same_is name x same)) ∙ here
    go false old false same k = let no : (false || false) ≡ true = ap (λ w. w || false) (sym old) ∙ ap (λ w. is_named (take i names) x || w) (sym same) ∙ k in absurd (cc)

pub named_all : (class : LabelClass) (has : Bool) (names : List (List ℕ)) (i : ℕ) → length names ≤ i → AllNamed class has (take i names) → AllNamed class has names
named_all class has names i le h x e = h x (any_walked (λ n. pointwise nat_eq n x) names i le ∙ e)
