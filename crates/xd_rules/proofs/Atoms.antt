-- Which atom a label or a text is, and that heads match it exactly where they take the label or the
-- text.
use Rattle.std.proofs.Common.{ℕ, ◌≡◌, Bool, true, false, cond, List, [], ◌∷◌, ◌++◌, map, inl, refl, ◌∙◌, subst, nat_eq}
use Rattle.std.specs.List.{flat_map}
use Rattle.std.specs.Cmp.Lexicographic.{pointwise}
use Rattle.xd_doc.specs.Classes.{NameClass, class_has, is_named}
use Rattle.xd_doc.proofs.SortedNames.{same_is, is_same}
use Rattle.xd_rules.specs.declared.atom.Atom.{Atom}
use Rattle.xd_rules.specs.declared.atom.Atom.TheVariants.{Label, OtherLabel, Text, OtherText}
use Rattle.xd_doc.specs.Members.{IsOneOf}
use Rattle.xd_rules.specs.Heads.{HeadKind, element_in, text_in, Head, Named, matches, all_atoms, atoms_of, labels_of, texts_of}
use Rattle.xd_rules.specs.Listed.{AreNames}
use Rattle.xd_rules.specs.Meaning.{takes_label, takes_text, is_text_atom}
use Rattle.xd_rules.proofs.Members.{one_of-filter, one_of-any, any-one_of, one_of-to_flat_map, one_of-append_left, one_of-append_right, one_of-map}

-- the atom of a label and of a text, where some are named
abbrev pub label_atom_by : Bool → List ℕ → Atom
label_atom_by true l = Label l
label_atom_by false l = OtherLabel

abbrev pub label_atom : Named → List ℕ → Atom
label_atom named l = label_atom_by (is_named named.labels l) l

abbrev pub text_atom_by : Bool → List ℕ → Atom
text_atom_by true t = Text t
text_atom_by false t = OtherText

abbrev pub text_atom : Named → List ℕ → Atom
text_atom named t = text_atom_by (is_named named.texts t) t

pub names_one_of : (l : List ℕ) (names : List (List ℕ)) → IsOneOf l names → is_named names l ≡ true
names_one_of l names h = any-one_of (λ name. pointwise nat_eq name l) l names h (is_same l)

pub one_of_names : (l : List ℕ) (names : List (List ℕ)) → is_named names l ≡ true → IsOneOf l names
one_of_names l names e = let m = one_of-any (λ name. pointwise nat_eq name l) names e in subst (λ w. IsOneOf w names) (same_is m.0 l m.2) m.1

-- all these names are among the others
abbrev pub AreAllNamed : List (List ℕ) → List (List ℕ) → Type 0
AreAllNamed names all = (l : List ℕ) → IsOneOf l names → is_named all l ≡ true

-- what is not named stands in a class only as one of the others
pub unnamed_outside : (l : List ℕ) (names all : List (List ℕ)) → AreAllNamed names all → is_named all l ≡ false → is_named names l ≡ false
unnamed_outside l names all are e = go (is_named names l) refl
  where
    go : (b : Bool) → is_named names l ≡ b → is_named names l ≡ false
    go false q = q
    go true q = let n = are l (one_of_names l names q) in cc

except_only : (b : Bool) → b ≡ cond b true false
except_only true = refl
except_only false = refl

unnamed_class : (l : List ℕ) (c : NameClass) (all : List (List ℕ)) → AreAllNamed c.names all → is_named all l ≡ false → c.except ≡ class_has c l
unnamed_class l c all are e = rw (unnamed_outside l c.names all are e) (except_only c.except)

-- a head matches the label's atom exactly where it takes the label
pub matches-label_atom : (named : Named) (l : List ℕ) (k : HeadKind) → AreAllNamed (labels_of k) named.labels → matches k (label_atom named l) ≡ takes_label k l
matches-label_atom named l (text_in c) are = go (is_named named.labels l)
  where
    go : (b : Bool) → matches (text_in c) (label_atom_by b l) ≡ false
    go true = refl
    go false = refl
matches-label_atom named l (element_in c) are = go (is_named named.labels l) refl
  where
    go : (b : Bool) → is_named named.labels l ≡ b → matches (element_in c) (label_atom_by b l) ≡ class_has c l
    go true e = refl
    go false e = unnamed_class l c named.labels are e

pub matches-text_atom : (named : Named) (t : List ℕ) (k : HeadKind) → AreAllNamed (texts_of k) named.texts → matches k (text_atom named t) ≡ takes_text k t
matches-text_atom named t (element_in c) are = go (is_named named.texts t)
  where
    go : (b : Bool) → matches (element_in c) (text_atom_by b t) ≡ false
    go true = refl
    go false = refl
matches-text_atom named t (text_in c) are = go (is_named named.texts t) refl
  where
    go : (b : Bool) → is_named named.texts t ≡ b → matches (text_in c) (text_atom_by b t) ≡ class_has c t
    go true e = refl
    go false e = unnamed_class t c named.texts are e

pub one_of-label_atom : (named : Named) (l : List ℕ) → IsOneOf (label_atom named l) (all_atoms named)
one_of-label_atom named l = one_of-append_left (label_atom named l) (map Label named.labels ++ OtherLabel ∷ []) (map Text named.texts ++ OtherText ∷ []) (go (is_named named.labels l) refl)
  where
    go : (b : Bool) → is_named named.labels l ≡ b → IsOneOf (label_atom_by b l) (map Label named.labels ++ OtherLabel ∷ [])
    go true e = one_of-append_left (Label l) (map Label named.labels) (OtherLabel ∷ []) (one_of-map Label l named.labels (one_of_names l named.labels e))
    go false e = one_of-append_right OtherLabel (map Label named.labels) (OtherLabel ∷ []) (inl refl)

pub one_of-text_atom : (named : Named) (t : List ℕ) → IsOneOf (text_atom named t) (all_atoms named)
one_of-text_atom named t = one_of-append_right (text_atom named t) (map Label named.labels ++ OtherLabel ∷ []) (map Text named.texts ++ OtherText ∷ []) (go (is_named named.texts t) refl)
  where
    go : (b : Bool) → is_named named.texts t ≡ b → IsOneOf (text_atom_by b t) (map Text named.texts ++ OtherText ∷ [])
    go true e = one_of-append_left (Text t) (map Text named.texts) (OtherText ∷ []) (one_of-map Text t named.texts (one_of_names t named.texts e))
    go false e = one_of-append_right OtherText (map Text named.texts) (OtherText ∷ []) (inl refl)

-- the label's atom is one of those of a head that takes the label
pub one_of-atoms_of_label : {S : Type 0} (named : Named) (l : List ℕ) (h : Head S) → AreAllNamed (labels_of h.kind) named.labels → takes_label h.kind l ≡ true
    → IsOneOf (label_atom named l) (atoms_of named h.kind)
one_of-atoms_of_label named l h are t =
    one_of-filter (λ a. matches h.kind a) (label_atom named l) (all_atoms named) (one_of-label_atom named l) (matches-label_atom named l h.kind are ∙ t)

pub one_of-atoms_of_text : {S : Type 0} (named : Named) (t : List ℕ) (h : Head S) → AreAllNamed (texts_of h.kind) named.texts → takes_text h.kind t ≡ true
    → IsOneOf (text_atom named t) (atoms_of named h.kind)
one_of-atoms_of_text named t h are e =
    one_of-filter (λ a. matches h.kind a) (text_atom named t) (all_atoms named) (one_of-text_atom named t) (matches-text_atom named t h.kind are ∙ e)

pub label_atom_is_label : (named : Named) (l : List ℕ) → is_text_atom (label_atom named l) ≡ false
label_atom_is_label named l = go (is_named named.labels l)
  where
    go : (b : Bool) → is_text_atom (label_atom_by b l) ≡ false
    go true = refl
    go false = refl

pub text_atom_is_text : (named : Named) (t : List ℕ) → is_text_atom (text_atom named t) ≡ true
text_atom_is_text named t = go (is_named named.texts t)
  where
    go : (b : Bool) → is_text_atom (text_atom_by b t) ≡ true
    go true = refl
    go false = refl

-- every head's names are among the names of the heads
pub labels_are_named : {S : Type 0} (hs : List (Head S)) (named : Named) → AreNames hs named → (h : Head S) → IsOneOf h hs → AreAllNamed (labels_of h.kind) named.labels
labels_are_named {S} hs named are h m l n =
    let f : Head S → List (List ℕ) = λ (k : Head S). labels_of k.kind in
    are.labels.same l ∙ names_one_of l (flat_map f hs) (one_of-to_flat_map f l h hs m n)

pub texts_are_named : {S : Type 0} (hs : List (Head S)) (named : Named) → AreNames hs named → (h : Head S) → IsOneOf h hs → AreAllNamed (texts_of h.kind) named.texts
texts_are_named {S} hs named are h m l n =
    let f : Head S → List (List ℕ) = λ (k : Head S). texts_of k.kind in
    are.texts.same l ∙ names_one_of l (flat_map f hs) (one_of-to_flat_map f l h hs m n)

-- an atom is matched as the labels, or the texts, that it stands for
pub matches-label : (l : List ℕ) (k : HeadKind) → matches k (Label l) ≡ takes_label k l
matches-label l (element_in c) = refl
matches-label l (text_in c) = refl

pub matches-text : (t : List ℕ) (k : HeadKind) → matches k (Text t) ≡ takes_text k t
matches-text t (element_in c) = refl
matches-text t (text_in c) = refl

pub matches-other_label : {S : Type 0} (hs : List (Head S)) (named : Named) → AreNames hs named → (l : List ℕ) → is_named named.labels l ≡ false
    → (k : Head S) → IsOneOf k hs → matches k.kind OtherLabel ≡ takes_label k.kind l
matches-other_label hs named names l e k m =
    subst (λ (b : Bool). matches k.kind (label_atom_by b l) ≡ takes_label k.kind l) e (matches-label_atom named l k.kind (labels_are_named hs named names k m))

pub matches-other_text : {S : Type 0} (hs : List (Head S)) (named : Named) → AreNames hs named → (t : List ℕ) → is_named named.texts t ≡ false
    → (k : Head S) → IsOneOf k hs → matches k.kind OtherText ≡ takes_text k.kind t
matches-other_text hs named names t e k m =
    subst (λ (b : Bool). matches k.kind (text_atom_by b t) ≡ takes_text k.kind t) e (matches-text_atom named t k.kind (texts_are_named hs named names k m))
