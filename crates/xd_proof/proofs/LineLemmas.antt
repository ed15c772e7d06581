-- Cuts of a text, and first bad lines.
use Rattle.std.proofs.Common.{◌≡◌, ℕ, zero, suc, ◌+◌, ◌-◌, ◌<◌, ◌≤◌, arith, List, [], ◌∷◌, ◌++◌, Bor, map, length, take, append_assoc, refl, ap, sym, subst, ◌∙◌, ◌⊎◌, inl, inr}
use Rattle.std.specs.List.{AllByRecursion}
use Rattle.std.proofs.lemmas.List.{map_push}
use Rattle.xd_syntax.specs.Tree.{Tree}
use Rattle.xd_proof.specs.Lines.{line_feed, space, IsFreeOf, each_ended, IsCut, spaced}
use Rattle.xd_proof.specs.LineWords.{AreWords}
use Rattle.xd_proof.specs.Form.{AreProof, CanBegin, IsFirstBadLine}

-- what stands before the first mark is the same
pub same_front : (c : ℕ) (xs ys more others : List ℕ) → IsFreeOf c xs → IsFreeOf c ys → xs ++ c ∷ more ≡ ys ++ c ∷ others → (xs ≡ ys) × (more ≡ others)
same_front c [] [] more others f g e = (refl, cc)
same_front c [] (y ∷ ys) more others f g e = absurd (let h : y ≡ c = cc in g.0 h)
same_front c (x ∷ xs) [] more others f g e = absurd (let h : x ≡ c = cc in f.0 h)
same_front c (x ∷ xs) (y ∷ ys) more others f g e =
    let h : x ≡ y = cc in
    let k : xs ++ c ∷ more ≡ ys ++ c ∷ others = cc in
    let r = same_front c xs ys more others f.1 g.1 k in
    (ap (λ z. z ∷ xs) h ∙ ap (λ l. y ∷ l) r.0, r.1)

pub no_mark : (c : ℕ) (xs more ys : List ℕ) → IsFreeOf c ys → xs ++ c ∷ more ≡ ys → ⊥
no_mark c [] more [] f e = cc
no_mark c [] more (y ∷ ys) f e = let h : y ≡ c = cc in f.0 h
no_mark c (x ∷ xs) more [] f e = cc
no_mark c (x ∷ xs) more (y ∷ ys) f e = let k : xs ++ c ∷ more ≡ ys = cc in no_mark c xs more ys f.1 k

same_lines : (c : ℕ) (ls ms : List (List ℕ)) (l m : List ℕ) → AllByRecursion (IsFreeOf c) ls → AllByRecursion (IsFreeOf c) ms → IsFreeOf c l → IsFreeOf c m →
    each_ended c ls ++ l ≡ each_ended c ms ++ m → (ls ≡ ms) × (l ≡ m)
same_lines c [] [] l m f g h k e = (refl, e)
same_lines c [] (y ∷ ms) l m f g h k e = absurd (no_mark c y (each_ended c ms ++ m) l h (sym (append_assoc y (c ∷ each_ended c ms) m) ∙ sym e))
same_lines c (x ∷ ls) [] l m f g h k e = absurd (no_mark c x (each_ended c ls ++ l) m k (sym (append_assoc x (c ∷ each_ended c ls) l) ∙ e))
same_lines c (x ∷ ls) (y ∷ ms) l m f g h k e =
    let r = same_front c x y (each_ended c ls ++ l) (each_ended c ms ++ m) f.0 g.0 (sym (append_assoc x (c ∷ each_ended c ls) l) ∙ e ∙ append_assoc y (c ∷ each_ended c ms) m) in
    let s = same_lines c ls ms l m f.1 g.1 h k r.1 in
    (ap (λ z. z ∷ ls) r.0 ∙ ap (λ z. y ∷ z) s.0, s.1)

pub same_cut : (bytes : List ℕ) (ls ms : List (List ℕ)) (l m : List ℕ) → IsCut bytes ls l → IsCut bytes ms m → (ls ≡ ms) × (l ≡ m)
same_cut bytes ls ms l m c d = same_lines line_feed ls ms l m c.free d.free c.left_free d.left_free (sym c.whole ∙ d.whole)

-- fewer items are a front of more
front_of : {A : Type 0} (n m : ℕ) (xs : List A) → n ≤ m → (ys : List A) × (take m xs ≡ take n xs ++ ys)
front_of zero m xs h = (take m xs, refl)
front_of (suc n) zero xs h = absurd (omega (arith, h))
front_of (suc n) (suc m) [] h = ([], refl)
front_of (suc n) (suc m) (x ∷ xs) h = let r = front_of n m xs (omega (arith, h)) in (r.0, ap (λ l. x ∷ l) r.1)

module _ (R : List ℕ → Tree → Type 0) where
  pub front_begins : (ls more : List (List ℕ)) → CanBegin R (ls ++ more) → CanBegin R ls
  front_begins ls more b =
      record { more = more ++ b.more; goals = b.goals; read = subst (λ l. AreProof R l b.goals) (append_assoc ls more b.more) b.read }

  fewer_begin : (n m : ℕ) (ls : List (List ℕ)) → n ≤ m → CanBegin R (take m ls) → CanBegin R (take n ls)
  fewer_begin n m ls h b = let r = front_of n m ls h in front_begins (take n ls) r.0 (subst (CanBegin R) r.1 b)

  -- no line before a first bad one is a first bad one
  none_before : (bytes : List ℕ) (n m : ℕ) → IsFirstBadLine R bytes n → IsFirstBadLine R bytes m → n < m → ⊥
  none_before bytes n m b c h = go b.here
    where
      same : b.lines ≡ c.lines
      same = (same_cut bytes b.lines c.lines b.left c.left b.cut c.cut).0

      go : (n ≡ length b.lines + 1) ⊎ (CanBegin R (take n b.lines) → ⊥) → ⊥
      go (inl e) = let k = c.number in let l : length b.lines ≡ length c.lines = ap length same in omega (arith, e, k.1, l, h)
      go (inr none) = none (fewer_begin n (m - 1) b.lines (omega (arith, h)) (subst (λ l. CanBegin R (take (m - 1) l)) (sym same) c.before))

  order : (n m : ℕ) → (n < m → ⊥) → (m < n → ⊥) → n ≡ m
  order zero zero p q = refl
  order zero (suc m) p q = absurd (p (omega arith))
  order (suc n) zero p q = absurd (q (omega arith))
  order (suc n) (suc m) p q = ap suc (order n m (λ h. p (omega (arith, h))) (λ h. q (omega (arith, h))))

  pub one_first : (bytes : List ℕ) (n m : ℕ) → IsFirstBadLine R bytes n → IsFirstBadLine R bytes m → n ≡ m
  one_first bytes n m b c = order n m (none_before bytes n m b c) (none_before bytes m n c b)

-- one line more
each_more : (c : ℕ) (ls : List (List ℕ)) (l : List ℕ) → each_ended c (ls ++ l ∷ []) ≡ each_ended c ls ++ (l ++ c ∷ [])
each_more c [] l = refl
each_more c (x ∷ ls) l = ap (λ r. x ++ c ∷ r) (each_more c ls l) ∙ sym (append_assoc x (c ∷ each_ended c ls) (l ++ c ∷ []))

free_more : (c : ℕ) (ls : List (List ℕ)) (l : List ℕ) → AllByRecursion (IsFreeOf c) ls → IsFreeOf c l → AllByRecursion (IsFreeOf c) (ls ++ l ∷ [])
free_more c [] l a f = (f, tt)
free_more c (x ∷ ls) l a f = (a.0, free_more c ls l a.1 f)

pub cut_more : (c : ℕ) (bytes : List ℕ) (ls : List (Bor (List ℕ))) (l : Bor (List ℕ)) (left rest : List ℕ) → bytes ≡ each_ended c (map (λ w. w.now) ls) ++ left → left ≡ l.now ++ c ∷ rest →
    bytes ≡ each_ended c (map (λ w. w.now) (ls ++ l ∷ [])) ++ rest
cut_more c bytes ls l left rest e f =
    e ∙ ap (λ r. each_ended c (map (λ w. w.now) ls) ++ r) (f ∙ sym (append_assoc l.now (c ∷ []) rest))
    ∙ sym (append_assoc (each_ended c (map (λ w. w.now) ls)) (l.now ++ c ∷ []) rest)
    ∙ ap (λ r. r ++ rest) (sym (each_more c (map (λ w. w.now) ls) l.now))
    ∙ ap (λ r. each_ended c r ++ rest) (sym (map_push (λ (w : Bor (List ℕ)). w.now) ls l))

pub cut_free : (c : ℕ) (ls : List (Bor (List ℕ))) (l : Bor (List ℕ)) → AllByRecursion (IsFreeOf c) (map (λ w. w.now) ls) → IsFreeOf c l.now →
    AllByRecursion (IsFreeOf c) (map (λ w. w.now) (ls ++ l ∷ []))
cut_free c ls l a f = subst (AllByRecursion (IsFreeOf c)) (sym (map_push (λ (w : Bor (List ℕ)). w.now) ls l)) (free_more c (map (λ w. w.now) ls) l.now a f)

-- words, and the last one after them
last_word : (ls : List (List ℕ)) (l : List ℕ) → each_ended space ls ++ l ≡ spaced (ls ++ l ∷ [])
last_word [] l = refl
last_word (x ∷ []) l = append_assoc x (space ∷ []) l
last_word (x ∷ (y ∷ ls)) l = append_assoc x (space ∷ each_ended space (y ∷ ls)) l ∙ ap (λ r. x ++ space ∷ r) (last_word (y ∷ ls) l)

some_more : (ls : List (List ℕ)) (l : List ℕ) → 0 < length (ls ++ l ∷ [])
some_more [] l = omega arith
some_more (x ∷ ls) l = omega arith

pub words_made : (line : List ℕ) (ls : List (Bor (List ℕ))) (l : Bor (List ℕ)) → line ≡ each_ended space (map (λ w. w.now) ls) ++ l.now → AllByRecursion (IsFreeOf space) (map (λ w. w.now) ls) → IsFreeOf space l.now →
    AreWords line (map (λ w. w.now) (ls ++ l ∷ []))
words_made line ls l e a f =
    subst (AreWords line) (sym (map_push (λ (w : Bor (List ℕ)). w.now) ls l))
    (record { whole = e ∙ last_word (map (λ w. w.now) ls) l.now; free = free_more space (map (λ w. w.now) ls) l.now a f; some = some_more (map (λ w. w.now) ls) l.now })

pub same_words : (ws vs : List (List ℕ)) → AllByRecursion (IsFreeOf space) ws → AllByRecursion (IsFreeOf space) vs → 0 < length ws → 0 < length vs → spaced ws ≡ spaced vs → ws ≡ vs
same_words [] vs f g p q e = absurd (omega (arith, p))
same_words (w ∷ ws) [] f g p q e = absurd (omega (arith, q))
same_words (w ∷ []) (v ∷ []) f g p q e = ap (λ l. l ∷ []) e
same_words (w ∷ []) (v ∷ (u ∷ us)) f g p q e = absurd (no_mark space v (spaced (u ∷ us)) w f.0 (sym e))
same_words (w ∷ (x ∷ xs)) (v ∷ []) f g p q e = absurd (no_mark space w (spaced (x ∷ xs)) v g.0 e)
same_words (w ∷ (x ∷ xs)) (v ∷ (u ∷ us)) f g p q e =
    let r = same_front space w v (spaced (x ∷ xs)) (spaced (u ∷ us)) f.0 g.0 e in
    ap (λ l. l ∷ (x ∷ xs)) r.0 ∙ ap (λ l. v ∷ l) (same_words (x ∷ xs) (u ∷ us) f.1 g.1 (omega arith) (omega arith) r.1)
