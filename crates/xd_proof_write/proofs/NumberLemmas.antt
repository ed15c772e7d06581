-- Texts and their numbers, as they are put into a set.
use Rattle.std.proofs.Common.{◌≡◌, ℕ, ◌+◌, ◌<◌, arith, Bool, true, false, not, cond, ◌||◌, nat_eq, List, [], ◌∷◌, ◌++◌, map, length, take, length-take, get_or, Some, refl, ap, sym, subst, ◌∙◌, append_assoc, append-nil}
use Rattle.std.specs.Prelude.{if◌then◌else◌}
use Rattle.std.specs.List.{list_any, position_or_len}
use Rattle.std.specs.Str.{bytes_eq}
use Rattle.std.proofs.lemmas.List.{take_more, map_push, length-map}
use Rattle.std.proofs.lemmas.Bool.Decides.{Decides-eqb}
use Rattle.xd_doc.proofs.Lists.{word_itself}
use Rattle.xd_proof_write.specs.SecondText.{number_among}
use Rattle.std.specs.HashMap.{get}
use Rattle.xd_syntax.specs.Table.{Row, tree_at}
use Rattle.xd_syntax.specs.TypeText.{type_text}
use Rattle.xd_proof_write.specs.declared.numbers.Numbers.{Numbers}
use Rattle.xd_proof_write.specs.Written.{type_line, type_lines, with_text, texts_in, KnowsNumbers}
use Rattle.xd_proof_write.proofs.OnceLemmas.{passes_front, passes_new, position_front, position_new, grows}

module _ {V : Type 0} (f : V → List ℕ) where
  any_mapped : (t : List ℕ) (xs : List V) → list_any (λ x. bytes_eq t (f x)) xs ≡ list_any (bytes_eq t) (map f xs)
  any_mapped t [] = refl
  any_mapped t (x ∷ xs) = ap (λ b. bytes_eq t (f x) || b) (any_mapped t xs)

  pub position_mapped : (t : List ℕ) (xs : List V) → position_or_len (λ x. bytes_eq t (f x)) xs ≡ position_or_len (bytes_eq t) (map f xs)
  position_mapped t [] = refl
  position_mapped t (x ∷ xs) = ap (λ n. cond (not (bytes_eq t (f x))) (1 + n) 0) (position_mapped t xs)

  -- a value that is put among others
  pub put_text : (v : V) (old new : List V) → new ≡ (if list_any (λ x. bytes_eq (f v) (f x)) old then old else old ++ v ∷ []) → map f new ≡ with_text (map f old) (f v)
  put_text v old new e = ap (map f) e ∙ by (list_any (λ x. bytes_eq (f v) (f x)) old) refl
    where
      by : (b : Bool) → list_any (λ x. bytes_eq (f v) (f x)) old ≡ b →
          map f (if list_any (λ x. bytes_eq (f v) (f x)) old then old else old ++ v ∷ []) ≡ with_text (map f old) (f v)
      by true h = rw (h, sym (any_mapped (f v) old) ∙ h) refl
      by false h = rw (h, sym (any_mapped (f v) old) ∙ h) (map_push f old v)

-- its number, whatever is added
pub put_number : (texts : List (List ℕ)) (t : List ℕ) (more : List (List ℕ)) → number_among bytes_eq (with_text texts t ++ more) t ≡ position_or_len (bytes_eq t) texts + 1
put_number texts t more = ap (λ n. n + 1) (by (list_any (bytes_eq t) texts) refl)
  where
    by : (b : Bool) → list_any (bytes_eq t) texts ≡ b → position_or_len (bytes_eq t) (with_text texts t ++ more) ≡ position_or_len (bytes_eq t) texts
    by true h = rw h (position_front (bytes_eq t) texts more h)
    by false h = rw h (ap (position_or_len (bytes_eq t)) (append_assoc texts (t ∷ []) more) ∙ position_new (bytes_eq t) texts t more h (word_itself t))

pub put_there : (texts : List (List ℕ)) (t : List ℕ) → list_any (bytes_eq t) (with_text texts t) ≡ true
put_there texts t = by (list_any (bytes_eq t) texts) refl
  where
    by : (b : Bool) → list_any (bytes_eq t) texts ≡ b → list_any (bytes_eq t) (with_text texts t) ≡ true
    by true h = rw h h
    by false h = rw h (passes_new (bytes_eq t) texts t [] (word_itself t))

-- what is there stays there
pub still_there : (texts : List (List ℕ)) (t s : List ℕ) → list_any (bytes_eq s) texts ≡ true → list_any (bytes_eq s) (with_text texts t) ≡ true
still_there texts t s h = let g = grows bytes_eq texts t in subst (λ ts. list_any (bytes_eq s) ts ≡ true) (sym g.1) (passes_front (bytes_eq s) texts g.0 h)

pub still_numbered : (texts : List (List ℕ)) (t s : List ℕ) (m : ℕ) → ((more : List (List ℕ)) → number_among bytes_eq (texts ++ more) s ≡ m) → (more : List (List ℕ)) → number_among bytes_eq (with_text texts t ++ more) s ≡ m
still_numbered texts t s m h more =
    let g = grows bytes_eq texts t in
    ap (λ ts. number_among bytes_eq (ts ++ more) s) g.1 ∙ ap (λ ts. number_among bytes_eq ts s) (append_assoc texts g.0 more) ∙ h (g.0 ++ more)

-- ---- lines of types
lines-push : (k : ℕ) (ts : List (List ℕ)) (t : List ℕ) → type_lines k (ts ++ t ∷ []) ≡ type_lines k ts ++ type_line (k + length ts) t
lines-push k [] t = append-nil (type_line k t) ∙ ap (λ n. type_line n t) (omega arith)
lines-push k (s ∷ ts) t =
    ap (λ r. type_line k s ++ r) (lines-push (k + 1) ts t)
    ∙ sym (append_assoc (type_line k s) (type_lines (k + 1) ts) (type_line ((k + 1) + length ts) t))
    ∙ ap (λ n. (type_line k s ++ type_lines (k + 1) ts) ++ type_line n t) (omega arith)

pub lines_more : {V : Type 0} (f : V → List ℕ) (xs : List V) (i : ℕ) (x : V) (old mid new : List ℕ) → i < length xs → get_or xs i x ≡ x →
    mid ≡ old ++ type_lines 1 (map f (take i xs)) → new ≡ mid ++ type_line (i + 1) (f x) → new ≡ old ++ type_lines 1 (map f (take (i + 1) xs))
lines_more f xs i x old mid new h g e n =
    let short : length (map f (take i xs)) ≡ i = simp (length-map, length-take) (omega arith) in
    n ∙ ap (λ m. m ++ type_line (i + 1) (f x)) e
    ∙ append_assoc old (type_lines 1 (map f (take i xs))) (type_line (i + 1) (f x))
    ∙ ap (λ k. old ++ (type_lines 1 (map f (take i xs)) ++ type_line k (f x))) (omega (arith, short))
    ∙ ap (λ r. old ++ r) (sym (lines-push 1 (map f (take i xs)) (f x)))
    ∙ ap (λ ts. old ++ type_lines 1 ts) (sym (ap (map f) (take_more xs i x h ∙ ap (λ y. take i xs ++ y ∷ []) g) ∙ map_push f (take i xs) x))

-- ---- numbers of nodes
pub knows_more : (rows : List Row) (old new : Numbers) (i m : ℕ) → texts_in new ≡ with_text (texts_in old) (type_text (tree_at rows i)) →
    ((more : List (List ℕ)) → number_among bytes_eq (texts_in new ++ more) (type_text (tree_at rows i)) ≡ m) →
    ((q : ℕ) → get nat_eq new.known q ≡ cond (nat_eq i q) (Some m) (get nat_eq old.known q)) → KnowsNumbers rows old → KnowsNumbers rows new
knows_more rows old new i m e n u k = record { there = is_there; known = is_known }
  where
    same_node : (q : ℕ) → nat_eq i q ≡ true → i ≡ q
    same_node q h = (Decides-eqb i q).0 h

    is_there : (q p : ℕ) → get nat_eq new.known q ≡ Some p → list_any (bytes_eq (type_text (tree_at rows q))) (texts_in new) ≡ true
    is_there q p h = by (nat_eq i q) refl
      where
        by : (b : Bool) → nat_eq i q ≡ b → list_any (bytes_eq (type_text (tree_at rows q))) (texts_in new) ≡ true
        by true f =
            ap (list_any (bytes_eq (type_text (tree_at rows q)))) e ∙ ap (λ j. list_any (bytes_eq (type_text (tree_at rows j))) (with_text (texts_in old) (type_text (tree_at rows i)))) (sym (same_node q f)) ∙ put_there (texts_in old) (type_text (tree_at rows i))
        by false f =
            ap (list_any (bytes_eq (type_text (tree_at rows q)))) e
            ∙ still_there (texts_in old) (type_text (tree_at rows i)) (type_text (tree_at rows q)) (k.there q p (sym (u q ∙ ap (λ b. cond b (Some m) (get nat_eq old.known q)) f) ∙ h))

    is_known : (q p : ℕ) → get nat_eq new.known q ≡ Some p → (more : List (List ℕ)) → number_among bytes_eq (texts_in new ++ more) (type_text (tree_at rows q)) ≡ p
    is_known q p h more = by (nat_eq i q) refl
      where
        by : (b : Bool) → nat_eq i q ≡ b → number_among bytes_eq (texts_in new ++ more) (type_text (tree_at rows q)) ≡ p
        by true f =
            let s : Some m ≡ Some p = sym (u q ∙ ap (λ b. cond b (Some m) (get nat_eq old.known q)) f) ∙ h in
            let z : m ≡ p = cc in
            ap (λ j. number_among bytes_eq (texts_in new ++ more) (type_text (tree_at rows j))) (sym (same_node q f)) ∙ n more ∙ z
        by false f =
            ap (λ ts. number_among bytes_eq (ts ++ more) (type_text (tree_at rows q))) e
            ∙ still_numbered (texts_in old) (type_text (tree_at rows i)) (type_text (tree_at rows q)) p (k.known q p (sym (u q ∙ ap (λ b. cond b (Some m) (get nat_eq old.known q)) f) ∙ h)) more
