-- What fits a type of a guarded program fits within so many unfoldings.
use Rattle.std.proofs.Common.{◌≡◌, ℕ, suc, zero, ◌+◌, ◌*◌, ◌≤◌, arith, List, [], ◌∷◌, length, Some, refl, ap, sym, subst, inl, inr}
use Rattle.xd_doc.specs.Document.{Document, empty, text, element, join, size}
use Rattle.xd_syntax.specs.Tree.{Tree, Star, Definitions, body}
use Rattle.xd_syntax.specs.Fits.{Fits}
use Rattle.xd_meaning.specs.FitsWithin.{no_turn, one_turn, fits_by, fits_definition, fits_name_within, FitsWithin}
use Rattle.xd_syntax.specs.Fits as F
use Rattle.xd_laws.specs.Guarded.{Front, Step, Guarded, Defined}
use Rattle.xd_laws.specs.Guarded as R
use Rattle.xd_laws.proofs.Documents.{filled}
use Rattle.xd_laws.proofs.Unfoldings.{Trail, trail_short, size_join, room_below, room_within, rest_below}

front_of_star : {E : Definitions} {T : Tree} {y : List ℕ} → Front E (Star T) y → Front E T y
front_of_star (R.star k) = k

name_step : (E : Definitions) (x : List ℕ) (T : Tree) (d : Document) → body E x ≡ Some T → (n : ℕ) → 1 ≤ n → ((k : ℕ) → n ≡ suc k → FitsWithin E k T d) →
    fits_name_within E n x d
name_step E x T d q zero l f = absurd (omega arith)
name_step E x T d q (suc k) l f = subst (λ o. fits_definition (fits_by (fits_name_within E k)) o d) (sym q) (f k refl)

-- what stands after a part: the names on the way stay where the part is empty, else there is room
-- for all
next_part : {X : Type 0} (L n v : ℕ) → v ≤ L → (a b d : Document) → join a b ≡ d → size d * L + L ≤ n + v →
    (a ≡ empty → size b * L + L ≤ n + v → X) → (size b * L + L ≤ n + 0 → X) → X
next_part L n v l empty b d e r f g = f refl (subst (λ x. size x * L + L ≤ n + v) (sym e) r)
next_part L n v l (text s a) b d e r f g = g (room_below (size b) (size d) L n v (rest_below (text s a) b d e tt) r l)
next_part L n v l (element w c a) b d e r f g = g (room_below (size b) (size d) L n v (rest_below (element w c a) b d e tt) r l)

first_within : (L n v : ℕ) (a b d : Document) → join a b ≡ d → size d * L + L ≤ n + v → size a * L + L ≤ n + v
first_within L n v a b d e r =
    let i = size_join a b in let j : size (join a b) ≡ size d = ap size e in room_within (size a) (size d) L n v (omega arith) r

module _ (E : Definitions) (guarded : Guarded E) where
  within_found : (n : ℕ) (V : List (List ℕ)) {T : Tree} {d : Document} → ((y : List ℕ) → Front E T y → Defined E y → Trail E (y ∷ V)) → length V ≤ length E →
      size d * length E + length E ≤ n + length V → Fits E T d → FitsWithin E n T d
  within_found n V t l r F.fits_empty = refl
  within_found n V t l r F.fits_text = refl
  within_found n V t l r (F.fits_words h) = (refl, h)
  within_found n V t l r (F.fits_elem {c} {T} {l = w} {d} h f) =
      (refl, h, within_found n [] (λ y k def. def) (omega arith) (room_below (size d) (size (element w d empty)) (length E) n (length V) (omega arith) r l) f)
  within_found n V t l r (F.fits_seq {T} {U} {d} a b e f g) = (
    a,
    b,
    e,
    within_found n V (λ y k. t y (R.seq_first k)) l (first_within (length E) n (length V) a b d e r) f,
    next_part (length E) n (length V) l a b d e r
        (λ z r'. within_found n V (λ y k. t y (R.seq_next (subst (Fits E T) z f) k)) l r' g)
        (λ r'. within_found n [] (λ y k def. def) (omega arith) r' g),
  )
  within_found n V t l r (F.fits_left f) = inl (within_found n V (λ y k. t y (R.alt_left k)) l r f)
  within_found n V t l r (F.fits_right f) = inr (within_found n V (λ y k. t y (R.alt_right k)) l r f)
  within_found n V t l r F.fits_no_turn = no_turn
  within_found n V t l r (F.fits_turn {T} {d} a b e s f g) =
      one_turn a b e s (within_found n V (λ y k. t y (R.star k)) l (first_within (length E) n (length V) a b d e r) f)
      (within_found n [] (λ y k def. def) (omega arith) (room_below (size b) (size d) (length E) n (length V) (rest_below a b d e (filled a s)) r l) g)
  within_found n V t l r (F.fits_plus {T} {d} a b e f g) = (
    a,
    b,
    e,
    within_found n V (λ y k. t y (R.plus k)) l (first_within (length E) n (length V) a b d e r) f,
    next_part (length E) n (length V) l a b d e r
        (λ z r'. within_found n V (λ y k. t y (R.plus (front_of_star k))) l r' g)
        (λ r'. within_found n [] (λ y k def. def) (omega arith) r' g),
  )
  within_found n V t l r F.fits_absent = inl refl
  within_found n V t l r (F.fits_present f) = inr (within_found n V (λ y k. t y (R.opt k)) l r f)
  within_found n V t l r (F.fits_name {x} {T} {d} q f) =
      let w = trail_short E guarded (x ∷ V) (t x R.here (T, q)) in
      name_step E x T d q n (omega arith)
      (λ k i. within_found k (x ∷ V) (λ y z def. (def, (T, q, z), t x R.here (T, q))) w (omega arith) f)
  within_found n V t l r (F.fits_val f) = within_found n V (λ y k. t y (R.val k)) l r f

  pub within_bound : (T : Tree) (d : Document) (n : ℕ) → (size d + 1) * (length E + 1) ≤ n → Fits E T d → FitsWithin E n T d
  within_bound T d n h f = within_found n [] (λ y k def. def) (omega arith) (omega arith) f
