-- The atoms of a class, listed.
use Rattle.std.proofs.Common.{ℕ, ◌≡◌, Bool, true, false, cond, List, [], ◌∷◌, ◌++◌, map, refl, sym, ap, ◌∙◌, subst}
use Rattle.std.specs.List.{filter}
use Rattle.std.specs.List.Sorted.{IsStrictlySortedBy}
use Rattle.std.specs.Ordering.{nat_cmp}
use Rattle.std.specs.Cmp.Lexicographic.{slice_cmp}
use Rattle.std.proofs.lemmas.List.{append-nil}
use Rattle.std.proofs.lemmas.List.Elements.{filter-append}
use Rattle.xd_doc.specs.Classes.{NameClass, class_has, is_named}
use Rattle.xd_rules.specs.declared.atom.Atom.{Atom}
use Rattle.xd_rules.specs.declared.atom.Atom.TheVariants.{Label, OtherLabel, Text, OtherText}
use Rattle.xd_rules.specs.Heads.{element_in, text_in, Named, matches, all_atoms}
use Rattle.xd_rules.specs.Listed.{AreAmong}
use Rattle.xd_rules.proofs.NamesInOrder.{kept_all}

filter-map : {X Y : Type 0} (p : Y → Bool) (f : X → Y) (xs : List X) → filter p (map f xs) ≡ map f (filter (λ x. p (f x)) xs)
filter-map p f [] = refl
filter-map {X} {Y} p f (x ∷ xs) = go (p (f x)) (filter-map p f xs)
  where
    go : (b : Bool) → filter p (map f xs) ≡ map f (filter (λ x. p (f x)) xs) → cond b (f x ∷ filter p (map f xs)) (filter p (map f xs)) ≡ map f (cond b (x ∷ filter (λ x. p (f x)) xs) (filter (λ x. p (f x)) xs))
    go true e = ap (λ (zs : List Y). f x ∷ zs) e
    go false e = e

filter-none : {X : Type 0} (xs : List X) → filter (λ (x : X). false) xs ≡ []
filter-none [] = refl
filter-none (x ∷ xs) = filter-none xs

-- what stands after the names of a class
abbrev pub others_of : {X : Type 0} → Bool → X → List X
others_of true x = x ∷ []
others_of false x = []

cond_others : {X : Type 0} (b : Bool) (x : X) → cond b (x ∷ []) [] ≡ others_of b x
cond_others true x = refl
cond_others false x = refl

pub label_atoms_are : (named : Named) (c : NameClass) → filter (λ a. matches (element_in c) a) (all_atoms named) ≡ map Label (filter (class_has c) named.labels) ++ others_of c.except OtherLabel
label_atoms_are named c =
    filter-append (λ a. matches (element_in c) a) (map Label named.labels ++ OtherLabel ∷ []) (map Text named.texts ++ OtherText ∷ [])
    ∙ ap (λ (zs : List Atom). filter (λ a. matches (element_in c) a) (map Label named.labels ++ OtherLabel ∷ []) ++ zs)
    (filter-append (λ a. matches (element_in c) a) (map Text named.texts) (OtherText ∷ [])
    ∙ append-nil (filter (λ a. matches (element_in c) a) (map Text named.texts))
    ∙ filter-map (λ a. matches (element_in c) a) Text named.texts ∙ ap (map Text) (filter-none named.texts))
    ∙ append-nil (filter (λ a. matches (element_in c) a) (map Label named.labels ++ OtherLabel ∷ []))
    ∙ filter-append (λ a. matches (element_in c) a) (map Label named.labels) (OtherLabel ∷ [])
    ∙ ap (λ (zs : List Atom). zs ++ cond c.except (OtherLabel ∷ []) []) (filter-map (λ a. matches (element_in c) a) Label named.labels)
    ∙ ap (λ (zs : List Atom). map Label (filter (class_has c) named.labels) ++ zs) (cond_others c.except OtherLabel)

pub text_atoms_are : (named : Named) (c : NameClass) → filter (λ a. matches (text_in c) a) (all_atoms named) ≡ map Text (filter (class_has c) named.texts) ++ others_of c.except OtherText
text_atoms_are named c =
    filter-append (λ a. matches (text_in c) a) (map Label named.labels ++ OtherLabel ∷ []) (map Text named.texts ++ OtherText ∷ [])
    ∙ ap (λ (zs : List Atom). zs ++ filter (λ a. matches (text_in c) a) (map Text named.texts ++ OtherText ∷ []))
    (filter-append (λ a. matches (text_in c) a) (map Label named.labels) (OtherLabel ∷ [])
    ∙ append-nil (filter (λ a. matches (text_in c) a) (map Label named.labels))
    ∙ filter-map (λ a. matches (text_in c) a) Label named.labels ∙ ap (map Label) (filter-none named.labels))
    ∙ filter-append (λ a. matches (text_in c) a) (map Text named.texts) (OtherText ∷ [])
    ∙ ap (λ (zs : List Atom). zs ++ cond c.except (OtherText ∷ []) []) (filter-map (λ a. matches (text_in c) a) Text named.texts)
    ∙ ap (λ (zs : List Atom). map Text (filter (class_has c) named.texts) ++ zs) (cond_others c.except OtherText)

-- of a class that names what it has, its names
kept_names : (c : NameClass) (all : List (List ℕ)) → c.except ≡ false → IsStrictlySortedBy (slice_cmp nat_cmp) all → IsStrictlySortedBy (slice_cmp nat_cmp) c.names → AreAmong c.names all → filter (class_has c) all ≡ c.names
kept_names c all e s t among = same_test c.except e ∙ kept_all all c.names s t among
  where
    same_test : (b : Bool) → b ≡ false → filter (class_has c) all ≡ filter (is_named c.names) all
    same_test b p = subst (λ (x : Bool). filter (class_has (record { names = c.names; except = x })) all ≡ filter (is_named c.names) all) (sym e) refl

-- the atoms of a class, made of its own names where it excepts none
pub class_atoms_are : (this : List ℕ → Atom) (other : Atom) (c all : NameClass) (made : List Atom) → IsStrictlySortedBy (slice_cmp nat_cmp) c.names → IsStrictlySortedBy (slice_cmp nat_cmp) all.names → AreAmong c.names all.names
    → (c.except ≡ false → made ≡ map this (filter (class_has c) c.names)) → (c.except ≡ true → made ≡ map this (filter (class_has c) all.names) ++ other ∷ []) → made ≡ map this (filter (class_has c) all.names) ++ others_of c.except other
class_atoms_are this other c all made s t among own others = go c.except refl
  where
    go : (b : Bool) → c.except ≡ b → made ≡ map this (filter (class_has c) all.names) ++ others_of b other
    go true e = others e
    go false e =
        own e ∙ ap (map this) (kept_names c c.names e s s (λ n m. m) ∙ sym (kept_names c all.names e t s among))
        ∙ sym (append-nil (map this (filter (class_has c) all.names)))
