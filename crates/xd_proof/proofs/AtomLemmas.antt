-- Atoms in front of a space.
use Rattle.std.proofs.Common.{◌≡◌, ℕ, Bool, true, List, [], ◌∷◌, ◌++◌, append_assoc, refl, ap, sym, ◌∙◌}
use Rattle.std.specs.Prelude.{◌&&◌}
use Rattle.std.specs.List.{list_all}
use Rattle.xd_doc.specs.Word.{is_word, is_word_start, is_word_part, are_word_parts}
use Rattle.xd_doc.specs.Document.{escaped_all}
use Rattle.xd_syntax.specs.TypeText.{quoted_text}
use Rattle.xd_rules.specs.declared.atom.Atom.{Atom}
use Rattle.xd_rules.specs.declared.atom.Atom.TheVariants.{Label, OtherLabel, Text, OtherText}
use Rattle.xd_proof.specs.Lines.{space, IsFreeOf}
use Rattle.xd_proof.specs.Parts.{IsAtom, atom_word}
use Rattle.xd_proof.proofs.LineLemmas.{same_front, no_mark}
use Rattle.xd_proof.proofs.Unique.{quoted_one, plain_free}
use Rattle.xd_proof.specs.Cases.{is_plain}

pub parts_all : (bs : List ℕ) → list_all is_word_part bs ≡ are_word_parts bs
parts_all [] = refl
parts_all (b ∷ bs) = ap (λ x. is_word_part b && x) (parts_all bs)

pub word_is : (bytes rest : List ℕ) (b : ℕ) (all : Bool) → bytes ≡ b ∷ rest → is_word_start b ≡ true → all ≡ list_all is_word_part rest → all ≡ is_word bytes
word_is bytes rest b all e h f = f ∙ parts_all rest ∙ ap (λ x. x && are_word_parts rest) (sym h) ∙ ap is_word (sym e)

pub no_space_behind : (inside text behind s r : List ℕ) → inside ≡ escaped_all text ++ 34 ∷ behind → ((rest : List ℕ) → behind ≡ space ∷ rest → ⊥) → 34 ∷ inside ≡ quoted_text s ++ space ∷ r → ⊥
no_space_behind inside text behind s r e never f =
    let g : quoted_text text ++ behind ≡ 34 ∷ inside = ap (λ x. 34 ∷ x) (append_assoc (escaped_all text) (34 ∷ []) behind ∙ sym e) in
    never r (quoted_one text s behind (space ∷ r) (g ∙ f)).1

pub no_space_there : (bytes : List ℕ) → IsFreeOf space bytes → (a : Atom) (r : List ℕ) → IsAtom a → bytes ≡ atom_word a ++ space ∷ r → ⊥
no_space_there bytes f a r i e = no_mark space (atom_word a) r bytes f (sym e)

pub no_plain_there : (bytes word rest : List ℕ) → ((rest : List ℕ) → bytes ≡ 34 ∷ rest → ⊥) → bytes ≡ word ++ space ∷ rest → IsFreeOf space word → ((a : Atom) → IsAtom a → is_plain a → word ≡ atom_word a → ⊥) → (a : Atom) (r : List ℕ) → IsAtom a → bytes ≡ atom_word a ++ space ∷ r → ⊥
no_plain_there bytes word rest quote e f never (Text s) r i g = quote _ g
no_plain_there bytes word rest quote e f never (Label l) r i g = never (Label l) i tt (same_front space word l rest r f (plain_free (Label l) i refl) (sym e ∙ g)).0
no_plain_there bytes word rest quote e f never OtherLabel r i g = never OtherLabel i tt (same_front space word _ rest r f (plain_free OtherLabel i refl) (sym e ∙ g)).0
no_plain_there bytes word rest quote e f never OtherText r i g = never OtherText i tt (same_front space word _ rest r f (plain_free OtherText i refl) (sym e ∙ g)).0
