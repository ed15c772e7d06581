-- Equality of words.
use Rattle.std.proofs.Common.{◌≡◌, ℕ, Bool, true, false, List, refl, sym, zero, suc, Some, [], ◌∷◌, inl, inr, cond, ◌&&◌, ◌||◌, ap, ◌∙◌}
use Rattle.std.specs.Str.{bytes_eq}
use Rattle.std.proofs.lemmas.Slice.Eq.{bytes_eq-Decides}
use Rattle.std.specs.List.{slice_get, filter}
use Rattle.xd_doc.specs.Members.{IsOneOf}
use Rattle.xd_syntax.specs.Words.{has_word}

-- words that differ, differ the other way round
pub bytes_eq-turned : (a b : List ℕ) → bytes_eq a b ≡ false → bytes_eq b a ≡ false
bytes_eq-turned a b h = go (bytes_eq b a) refl
  where
    go : (r : Bool) → bytes_eq b a ≡ r → r ≡ false
    go false e = refl
    go true e =
        let q : b ≡ a = (bytes_eq-Decides b a).0 e in
        let k : bytes_eq a b ≡ true = (bytes_eq-Decides a b).1 (sym q) in cc

pub got_among : (ls : List (List ℕ)) (k : ℕ) (xs : List ℕ) → slice_get ls k ≡ Some xs → IsOneOf xs ls
got_among [] k xs h = cc
got_among (l ∷ ls) zero xs h = inl (cc)
got_among (l ∷ ls) (suc k) xs h = inr (got_among ls k xs h)

pub filter_at : (p : List ℕ → Bool) (x w : List ℕ) (xs : List (List ℕ)) → has_word (filter p xs) w ≡ (p w && has_word xs w) → (a b : Bool) → p x ≡ a → bytes_eq x w ≡ b →
    has_word (cond a (x ∷ filter p xs) (filter p xs)) w ≡ (p w && (b || has_word xs w))
filter_at p x w xs i true true e h = let s : x ≡ w = (bytes_eq-Decides x w).0 h in let f : p w ≡ true = ap p (sym s) ∙ e in rw (h, f) refl
filter_at p x w xs i true false e h = rw h i
filter_at p x w xs i false true e h = let s : x ≡ w = (bytes_eq-Decides x w).0 h in let f : p w ≡ false = ap p (sym s) ∙ e in i ∙ rw f refl
filter_at p x w xs i false false e h = i
