-- Heads: the ways in which the documents of a state, or of a type, may begin; and atoms: the first
-- items that heads tell apart.
use Rattle.std.specs.Prelude.{ℕ, Bool, false, List, [], ◌∷◌, ◌++◌, map, flat_map}
use Rattle.std.specs.List.{filter}
use Rattle.xd_doc.specs.Classes.{LabelClass, TextClass, class_has}
use Rattle.xd_doc.specs.ByteOrder.{in_byte_order}
use Rattle.xd_rules.specs.declared.atom.Atom.{Atom}
use Rattle.xd_rules.specs.declared.atom.Atom.TheVariants.{Label, OtherLabel, Text, OtherText}

-- an element whose label is in a class, or a text that is in a class
pub data HeadKind : Type 0 where
  element_in : LabelClass → HeadKind
  text_in : TextClass → HeadKind

-- what the first item is, what stands in it, and what follows it
pub record Head (S : Type 0) : Type 0 where
  pub kind : HeadKind
  pub content : S
  pub rest : S

-- the atom is in the class
abbrev pub matches : HeadKind → Atom → Bool
matches (element_in c) (Label l) = class_has c l
matches (element_in c) OtherLabel = c.except
matches (text_in c) (Text t) = class_has c t
matches (text_in c) OtherText = c.except
matches _ _ = false

-- the labels that the class names
abbrev pub labels_of : HeadKind → List (List ℕ)
labels_of (element_in c) = c.names
labels_of (text_in c) = []

-- the texts that the class names
abbrev pub texts_of : HeadKind → List (List ℕ)
texts_of (element_in c) = []
texts_of (text_in c) = c.names

-- the labels and the texts that the classes of some heads name
pub record Named : Type 0 where
  pub labels : List (List ℕ)
  pub texts : List (List ℕ)

-- all labels and all texts named in the classes of these heads, in byte order
abbrev pub named_in : {S : Type 0} → List (Head S) → Named
named_in {S} hs =
    record {
      labels = in_byte_order (flat_map (λ (h : Head S). labels_of h.kind) hs);
      texts = in_byte_order (flat_map (λ (h : Head S). texts_of h.kind) hs);
    }

-- each of these names, any other label, and any other text
abbrev pub all_atoms : Named → List Atom
all_atoms n = (map Label n.labels ++ OtherLabel ∷ []) ++ (map Text n.texts ++ OtherText ∷ [])

-- the atoms of a head: what is named and in its class, then the others where the class has them
abbrev pub atoms_of : Named → HeadKind → List Atom
atoms_of n k = filter (λ a. matches k a) (all_atoms n)
