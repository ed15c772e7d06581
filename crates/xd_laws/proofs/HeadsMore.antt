-- In a guarded program more unfoldings give the same heads.
use Rattle.std.proofs.Common.{◌≡◌, ℕ, suc, zero, ◌+◌, ◌≤◌, arith, Bool, true, List, [], ◌∷◌, map, length, Option, Some, None, refl, ap, sym, ◌∙◌}
use Rattle.xd_doc.specs.Document.{empty}
use Rattle.xd_syntax.specs.Tree.{Tree, Empty, Text, Words, Name, Elem, Seq, Alt, Star, Plus, Opt, Val, Definitions, body}
use Rattle.xd_syntax.specs.Fits.{Fits}
use Rattle.xd_laws.specs.Guarded.{Front, Step, Guarded, Defined}
use Rattle.xd_laws.specs.Guarded as R
use Rattle.xd_meaning.specs.CanBeEmpty.{can_be_empty}
use Rattle.xd_rules.specs.Heads.{Head}
use Rattle.xd_meaning.specs.Heads.{with_behind, heads_by, heads_of_definition, heads_of_name, heads_within, heads}
use Rattle.xd_laws.proofs.FitsWays.{cond_same}
use Rattle.xd_laws.proofs.HeadsLaw.{empty_right}
use Rattle.xd_laws.proofs.Unfoldings.{Trail, trail_short}

module _ (E : Definitions) (Z : Tree → Bool) (right : (T : Tree) → Z T ≡ true → Fits E T empty) (n : ℕ) (N M : List ℕ → List (Head Tree))
    (same : (V : List (List ℕ)) (x : List ℕ) → (Defined E x → Trail E (x ∷ V)) → length E ≤ n + length V → N x ≡ M x) where
  same_heads_by : (T : Tree) (V : List (List ℕ)) → ((y : List ℕ) → Front E T y → Defined E y → Trail E (y ∷ V)) → length E ≤ n + length V →
      heads_by Z N T ≡ heads_by Z M T
  same_heads_by Empty V t r = refl
  same_heads_by Text V t r = refl
  same_heads_by (Words w) V t r = refl
  same_heads_by (Name x) V t r = same V x (t x R.here) r
  same_heads_by (Elem c T) V t r = refl
  same_heads_by (Seq T U) V t r =
      let i = same_heads_by T V (λ y k. t y (R.seq_first k)) r in
      let j = cond_same (Z T) (heads_by Z N U) (heads_by Z M U) (λ z. same_heads_by U V (λ y k. t y (R.seq_next (right T z) k)) r) in
      rw (i, j)
  same_heads_by (Alt T U) V t r =
      let i = same_heads_by T V (λ y k. t y (R.alt_left k)) r in
      let j = same_heads_by U V (λ y k. t y (R.alt_right k)) r in rw (i, j)
  same_heads_by (Star T) V t r = ap (map (with_behind (Star T))) (same_heads_by T V (λ y k. t y (R.star k)) r)
  same_heads_by (Plus T) V t r = ap (map (with_behind (Star T))) (same_heads_by T V (λ y k. t y (R.plus k)) r)
  same_heads_by (Opt T) V t r = same_heads_by T V (λ y k. t y (R.opt k)) r
  same_heads_by (Val x T) V t r = same_heads_by T V (λ y k. t y (R.val k)) r

none_same : (E : Definitions) (Z : Tree → Bool) (m : ℕ) (x : List ℕ) → body E x ≡ None → heads_of_name Z E m x ≡ []
none_same E Z zero x e = refl
none_same E Z (suc m) x e = ap (λ o. heads_of_definition (heads_by Z (heads_of_name Z E m)) o) e

some_same : (E : Definitions) (Z : Tree → Bool) (m : ℕ) (x : List ℕ) (T : Tree) → body E x ≡ Some T → heads_of_name Z E (suc m) x ≡ heads_by Z (heads_of_name Z E m) T
some_same E Z m x T e = ap (λ o. heads_of_definition (heads_by Z (heads_of_name Z E m)) o) e

name_same : (E : Definitions) → Guarded E → (Z : Tree → Bool) → ((T : Tree) → Z T ≡ true → Fits E T empty) → (n m : ℕ) → n ≤ m →
    (V : List (List ℕ)) (x : List ℕ) → (Defined E x → Trail E (x ∷ V)) → length E ≤ n + length V → (o : Option Tree) → body E x ≡ o →
    heads_of_name Z E n x ≡ heads_of_name Z E m x
name_same E g Z right n m h V x t r None e = none_same E Z n x e ∙ sym (none_same E Z m x e)
name_same E g Z right zero m h V x t r (Some T) e = let k = trail_short E g (x ∷ V) (t (T, e)) in absurd (omega arith)
name_same E g Z right (suc n) zero h V x t r (Some T) e = absurd (omega arith)
name_same E g Z right (suc n) (suc m) h V x t r (Some T) e =
    some_same E Z n x T e
    ∙ same_heads_by E Z right n (heads_of_name Z E n) (heads_of_name Z E m)
    (λ V' y t' r'. name_same E g Z right n m (omega arith) V' y t' r' (body E y) refl)
    T (x ∷ V) (λ y f def. (def, (T, e, f), t (T, e))) (omega arith)
    ∙ sym (some_same E Z m x T e)

pub heads_settle : (E : Definitions) → Guarded E → (T : Tree) (n : ℕ) → length E ≤ n → heads_within E n T ≡ heads E T
unfolding heads
heads_settle E g T n h =
    sym (same_heads_by E (can_be_empty E) (empty_right E) (length E) (heads_of_name (can_be_empty E) E (length E)) (heads_of_name (can_be_empty E) E n)
    (λ V x t r. name_same E g (can_be_empty E) (empty_right E) (length E) n h V x t r (body E x) refl)
    T [] (λ y f def. def) (omega arith))
