-- What is read of names in front alone settles: as many unfoldings as there are definitions
-- suffice.
use Rattle.std.proofs.Common.{◌≡◌, ℕ, zero, suc, ◌+◌, ◌≤◌, arith, Bool, true, false, cond, List, [], ◌∷◌, map, length, Option, Some, None, refl, ap, sym, ◌∙◌}
use Rattle.xd_doc.specs.Document.{empty}
use Rattle.xd_syntax.specs.Tree.{Tree, Empty, Text, Words, Name, Elem, Seq, Alt, Star, Plus, Opt, Val, Definitions, body}
use Rattle.xd_syntax.specs.Fits.{Fits}
use Rattle.xd_laws.specs.Guarded.{Front, Guarded, Defined}
use Rattle.xd_laws.specs.Guarded as R
use Rattle.xd_laws.proofs.Unfoldings.{Trail, trail_short}
use Rattle.xd_continuations.specs.Continuation.{followed, moves_by, definition_within, name_within}
use Rattle.xd_continuations.specs.Expansion.{work_by}

-- of the names only those in front are read
abbrev pub ReadsFront : (E : Definitions) {A : Type 0} → ((List ℕ → A) → Tree → A) → Type 0
ReadsFront E {A} F = (N M : List ℕ → A) (T : Tree) → ((y : List ℕ) → Front E T y → N y ≡ M y) → F N T ≡ F M T

module _ (E : Definitions) (guarded : Guarded E) (A : Type 0) (none : A) (F : (List ℕ → A) → Tree → A) (reads : ReadsFront E F) where
  none_at : (n : ℕ) (x : List ℕ) → body E x ≡ None → name_within none F E n x ≡ none
  none_at zero x e = refl
  none_at (suc n) x e = ap (λ o. definition_within none (F (name_within none F E n)) o) e

  some_at : (n : ℕ) (x : List ℕ) (T : Tree) → body E x ≡ Some T → name_within none F E (suc n) x ≡ F (name_within none F E n) T
  some_at n x T e = ap (λ o. definition_within none (F (name_within none F E n)) o) e

  same_at : (n m : ℕ) → n ≤ m → (V : List (List ℕ)) (x : List ℕ) → (Defined E x → Trail E (x ∷ V)) → length E ≤ n + length V →
      (o : Option Tree) → body E x ≡ o → name_within none F E n x ≡ name_within none F E m x
  same_at n m h V x t r None e = none_at n x e ∙ sym (none_at m x e)
  same_at zero m h V x t r (Some T) e = let k = trail_short E guarded (x ∷ V) (t (T, e)) in absurd (omega arith)
  same_at (suc n) zero h V x t r (Some T) e = absurd (omega arith)
  same_at (suc n) (suc m) h V x t r (Some T) e =
      some_at n x T e
      ∙ reads (name_within none F E n) (name_within none F E m) T
      (λ y f. same_at n m (omega arith) (x ∷ V) y (λ def. (def, (T, e, f), t (T, e))) (omega arith) (body E y) refl)
      ∙ sym (some_at m x T e)

  pub settled : (n : ℕ) → length E ≤ n → (x : List ℕ) → name_within none F E (length E) x ≡ name_within none F E n x
  settled n h x = same_at (length E) n h [] x (λ def. def) (omega arith) (body E x) refl

  -- a name gives what its definition does
  pub named : (x : List ℕ) (T : Tree) → body E x ≡ Some T → name_within none F E (length E) x ≡ F (name_within none F E (length E)) T
  named x T e = settled (suc (length E)) (omega arith) x ∙ some_at (length E) x T e

  pub undefined : (x : List ℕ) → body E x ≡ None → name_within none F E (length E) x ≡ none
  undefined x e = none_at (length E) x e

cond_same : {A : Type 0} (b : Bool) (x y z : A) → (b ≡ true → x ≡ y) → cond b x z ≡ cond b y z
cond_same true x y z h = h refl
cond_same false x y z h = refl

module _ (E : Definitions) (Z : Tree → Bool) (right : (T : Tree) → Z T ≡ true → Fits E T empty) where
  pub moves_read : ReadsFront E (moves_by Z)
  moves_read N M Empty h = refl
  moves_read N M Text h = refl
  moves_read N M (Words w) h = refl
  moves_read N M (Name x) h = h x R.here
  moves_read N M (Elem c T) h = refl
  moves_read N M (Seq T U) h =
      let i = moves_read N M T (λ y k. h y (R.seq_first k)) in
      let j = cond_same (Z T) (moves_by Z N U) (moves_by Z M U) [] (λ z. moves_read N M U (λ y k. h y (R.seq_next (right T z) k))) in
      rw (i, j)
  moves_read N M (Alt T U) h =
      let i = moves_read N M T (λ y k. h y (R.alt_left k)) in
      let j = moves_read N M U (λ y k. h y (R.alt_right k)) in rw (i, j)
  moves_read N M (Star T) h = ap (map (followed (Star T ∷ []))) (moves_read N M T (λ y k. h y (R.star k)))
  moves_read N M (Plus T) h = ap (map (followed (Star T ∷ []))) (moves_read N M T (λ y k. h y (R.plus k)))
  moves_read N M (Opt T) h = moves_read N M T (λ y k. h y (R.opt k))
  moves_read N M (Val x T) h = moves_read N M T (λ y k. h y (R.val k))

  pub work_reads : ReadsFront E (work_by Z)
  work_reads N M Empty h = refl
  work_reads N M Text h = refl
  work_reads N M (Words w) h = refl
  work_reads N M (Name x) h = ap (λ n. n + 1) (h x R.here)
  work_reads N M (Elem c T) h = refl
  work_reads N M (Seq T U) h =
      let i = work_reads N M T (λ y k. h y (R.seq_first k)) in
      let j = cond_same (Z T) (work_by Z N U) (work_by Z M U) 0 (λ z. work_reads N M U (λ y k. h y (R.seq_next (right T z) k))) in
      rw (i, j)
  work_reads N M (Alt T U) h =
      let i = work_reads N M T (λ y k. h y (R.alt_left k)) in
      let j = work_reads N M U (λ y k. h y (R.alt_right k)) in rw (i, j)
  work_reads N M (Star T) h = ap (λ n. n + 1) (work_reads N M T (λ y k. h y (R.star k)))
  work_reads N M (Plus T) h = ap (λ n. n + 1) (work_reads N M T (λ y k. h y (R.plus k)))
  work_reads N M (Opt T) h = ap (λ n. n + 1) (work_reads N M T (λ y k. h y (R.opt k)))
  work_reads N M (Val x T) h = ap (λ n. n + 1) (work_reads N M T (λ y k. h y (R.val k)))
