use Rattle.std.proofs.Common.{◌≡◌, refl, subst}
use Rattle.xd_doc.specs.Document.{Document}
use Rattle.xd_syntax.specs.Tree.{Tree, Empty, Text, Words, Name, Elem, Seq, Alt, Star, Plus, Opt, Val, Definitions}
use Rattle.xd_laws.specs.Laws.{bare}
use Rattle.xd_syntax.specs.Fits.{Fits}
use Rattle.xd_syntax.specs.Fits as F

pub fits_bare : (E : Definitions) {T : Tree} {d : Document} → Fits E T d → Fits E (bare T) d
fits_bare E F.fits_empty = F.fits_empty
fits_bare E F.fits_text = F.fits_text
fits_bare E (F.fits_words h) = F.fits_words h
fits_bare E (F.fits_elem t f) = F.fits_elem t (fits_bare E f)
fits_bare E (F.fits_name e f) = F.fits_name e f
fits_bare E (F.fits_seq a b e f g) = F.fits_seq a b e (fits_bare E f) (fits_bare E g)
fits_bare E (F.fits_left f) = F.fits_left (fits_bare E f)
fits_bare E (F.fits_right f) = F.fits_right (fits_bare E f)
fits_bare E F.fits_no_turn = F.fits_no_turn
fits_bare E (F.fits_turn a b e s f g) = F.fits_turn a b e s (fits_bare E f) (fits_bare E g)
fits_bare E (F.fits_plus a b e f g) = F.fits_plus a b e (fits_bare E f) (fits_bare E g)
fits_bare E F.fits_absent = F.fits_absent
fits_bare E (F.fits_present f) = F.fits_present (fits_bare E f)
fits_bare E (F.fits_val f) = fits_bare E f

-- back: by the tree, and by the turns of a repetition
star_back : (E : Definitions) (T : Tree) → ((d : Document) → Fits E (bare T) d → Fits E T d) → (U : Tree) {d : Document} → U ≡ bare T → Fits E (Star U) d → Fits E (Star T) d
star_back E T h U e F.fits_no_turn = F.fits_no_turn
star_back E T h U e (F.fits_turn a b j s f g) = F.fits_turn a b j s (h a (subst (λ X. Fits E X a) e f)) (star_back E T h U e g)

pub bare_fits : (E : Definitions) (T : Tree) (d : Document) → Fits E (bare T) d → Fits E T d
bare_fits E Empty d f = f
bare_fits E Text d f = f
bare_fits E (Words w) d f = f
bare_fits E (Name x) d f = f
bare_fits E (Elem c T) _ (F.fits_elem t f) = F.fits_elem t (bare_fits E T _ f)
bare_fits E (Seq T U) d (F.fits_seq a b e f g) = F.fits_seq a b e (bare_fits E T a f) (bare_fits E U b g)
bare_fits E (Alt T U) d (F.fits_left f) = F.fits_left (bare_fits E T d f)
bare_fits E (Alt T U) d (F.fits_right f) = F.fits_right (bare_fits E U d f)
bare_fits E (Star T) d f = star_back E T (λ k. bare_fits E T k) (bare T) refl f
bare_fits E (Plus T) d (F.fits_plus a b e f g) = F.fits_plus a b e (bare_fits E T a f) (star_back E T (λ k. bare_fits E T k) (bare T) refl g)
bare_fits E (Opt T) _ F.fits_absent = F.fits_absent
bare_fits E (Opt T) d (F.fits_present f) = F.fits_present (bare_fits E T d f)
bare_fits E (Val x T) d f = F.fits_val (bare_fits E T d f)
