-- The meaning of each type, case by case, both ways.
use Rattle.std.proofs.Common.{◌≡◌, ℕ, true, ◌⊎◌, inl, inr, List, Some, None, refl, sym, ◌∙◌, subst}
use Rattle.xd_doc.specs.Document.{Document, empty, text, element, join, has_item}
use Rattle.xd_doc.specs.Classes.{LabelClass}
use Rattle.xd_syntax.specs.Tree.{Tree, Text, Name, Elem, Seq, Star, Plus, Opt, Definitions, body, environment, any_type}
use Rattle.xd_syntax.specs.Words.{any_word}
use Rattle.xd_syntax.specs.Fits.{Fits, fits_text, fits_elem, fits_seq, fits_left, fits_right, fits_no_turn, fits_turn, fits_plus, fits_absent, fits_present, fits_name, Split}
use Rattle.xd_meaning.specs.FitsWithin.{IsOneText, IsOneElement}

pub text_only : (E : Definitions) (d : Document) → Fits E Text d → IsOneText d
text_only E _ fits_text = refl

pub text_fits : (E : Definitions) (d : Document) → IsOneText d → Fits E Text d
text_fits E empty h = absurd h
text_fits E (text s r) h = subst (λ q. Fits E Text (text s q)) (sym h) fits_text
text_fits E (element l c r) h = absurd h

pub element_only : (E : Definitions) (k : LabelClass) (T : Tree) (d : Document) → Fits E (Elem k T) d → IsOneElement k (Fits E T) d
element_only E k T _ (fits_elem h f) = (refl, h, f)

pub seq_only : (E : Definitions) (T U : Tree) (d : Document) → Fits E (Seq T U) d → Split (Fits E T) (Fits E U) d
seq_only E T U d (fits_seq a b e f g) = (a, b, e, f, g)

pub plus_only : (E : Definitions) (T : Tree) (d : Document) → Fits E (Plus T) d → Split (Fits E T) (Fits E (Star T)) d
plus_only E T d (fits_plus a b e f g) = (a, b, e, f, g)

pub opt_only : (E : Definitions) (T : Tree) (d : Document) → Fits E (Opt T) d → (d ≡ empty) ⊎ Fits E T d
opt_only E T _ fits_absent = inl refl
opt_only E T d (fits_present f) = inr f

pub name_only : (E : Definitions) (x : List ℕ) (d : Document) → Fits E (Name x) d → (T : Tree) × (body E x ≡ Some T) × Fits E T d
name_only E x d (fits_name {T = T} e f) = (T, e, f)

pub undefined_name : (E : Definitions) (x : List ℕ) (d : Document) → body E x ≡ None → Fits E (Name x) d → ⊥
undefined_name E x d e f = let h = name_only E x d f in let k = sym e ∙ h.1 in cc

-- what a name stands for, in the place of the name
pub defined_name : (E : Definitions) (x : List ℕ) (T : Tree) (d : Document) → body E x ≡ Some T → Fits E (Name x) d → Fits E T d
defined_name E x T d e f =
    let h = name_only E x d f in
    let k : Some h.0 ≡ Some T = sym h.1 ∙ e in
    let g : h.0 ≡ T = cc in subst (λ U. Fits E U d) g h.2

pub star_only : (E : Definitions) (T : Tree) (d : Document) → Fits E (Star T) d →
    (d ≡ empty) ⊎ ((a : Document) × (b : Document) × (join a b ≡ d) × (has_item a ≡ true) × Fits E T a × Fits E (Star T) b)
star_only E T _ fits_no_turn = inl refl
star_only E T d (fits_turn a b e h f g) = inr (a, b, e, h, f, g)

any_fits_type : (E : Definitions) (d : Document) → Fits (environment E) any_type d
any_fits_type E empty = fits_no_turn
any_fits_type E (text s r) = fits_turn (text s empty) r refl refl (fits_right fits_text) (any_fits_type E r)
any_fits_type E (element l c r) =
    fits_turn (element l c empty) r refl refl (fits_left (fits_elem refl (fits_name refl (any_fits_type E c)))) (any_fits_type E r)

-- every document fits `Any`
pub any_fits : (E : Definitions) (d : Document) → Fits (environment E) (Name any_word) d
any_fits E d = fits_name refl (any_fits_type E d)
