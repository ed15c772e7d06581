-- On two lists of names in order, and what is merged of them.
use Rattle.std.proofs.Common.{◌≡◌, Bool, true, false, cond, ◌||◌, ◌&&◌, List, [], ◌∷◌, ◌++◌, drop, append_assoc, Some, None, slice_get, refl, ap, sym, ◌∙◌}
use Rattle.std.specs.List.{list_any, AllByRecursion}
use Rattle.std.specs.List.Sorted.{IsStrictlySortedBy}
use Rattle.std.specs.Ordering.{eq_by_cmp, is_eq, ordering_reverse}
use Rattle.std.specs.Cmp.{IsTotalOrder}
use Rattle.std.specs.declared.cmp.Ordering.{Ordering}
use Rattle.std.specs.declared.cmp.Ordering.TheVariants.{Less, Equal, Greater}
use Rattle.std.proofs.lemmas.Cmp.{tied_itself}
use Rattle.xd_doc.specs.Merging.{AllAbove, IsAhead, IsNext, IsMerged, is_kept}

keeps_none : (ex ex2 : Bool) → is_kept ex ex2 false false ≡ false
keeps_none true true = refl
keeps_none true false = refl
keeps_none false true = refl
keeps_none false false = refl

both_or : (p r : Bool) → ((p && false) || r) ≡ r
both_or true r = refl
both_or false r = refl

both_true : (p : Bool) → ((p && true) || false) ≡ p
both_true true = refl
both_true false = refl

-- whether a name is kept, where the name that is ahead is (`e`) or isn't equal to it
kept_more : (ex ex2 p q e r r2 m : Bool) → (e ≡ true → r ≡ false) → (e ≡ true → r2 ≡ false) → m ≡ is_kept ex ex2 r r2
    → cond (is_kept ex ex2 p q) (e || m) m ≡ is_kept ex ex2 ((p && e) || r) ((q && e) || r2)
kept_more ex ex2 p q true r r2 m h k merged =
    let none : m ≡ false = merged ∙ ap (λ b. is_kept ex ex2 b r2) (h refl) ∙ ap (λ b. is_kept ex ex2 false b) (k refl) ∙ keeps_none ex ex2 in
    rw (none, h refl, k refl, both_true p, both_true q) (as_bool (is_kept ex ex2 p q))
  where
    as_bool : (b : Bool) → cond b true false ≡ b
    as_bool true = refl
    as_bool false = refl
kept_more ex ex2 p q false r r2 m h k merged = rw (both_or p r, both_or q r2) (same (is_kept ex ex2 p q) ∙ merged)
  where
    same : (b : Bool) → cond b m m ≡ m
    same true = refl
    same false = refl

is_equal : (r : Ordering) → is_eq r ≡ true → r ≡ Equal
is_equal Less e = cc
is_equal Equal e = refl
is_equal Greater e = cc

module _ {N : Type 0} {R : N → N → Ordering} (o : IsTotalOrder R) where
  -- what is above a name is above its equals
  above_like : (x y : N) → R x y ≡ Equal → (ns : List N) → AllAbove R x ns → AllAbove R y ns
  above_like x y e [] h = tt
  above_like x y e (n ∷ ns) h = (sym (o.congr x y n e) ∙ h.0, above_like x y e ns h.1)

  above_more : (x y : N) → R x y ≡ Less → (ns : List N) → AllAbove R y ns → AllAbove R x ns
  above_more x y e [] h = tt
  above_more x y e (n ∷ ns) h = (o.trans x y n e h.0, above_more x y e ns h.1)

  pub above_none : (a : N) (ns : List N) → slice_get ns 0 ≡ None → AllAbove R a ns
  above_none a [] e = tt
  above_none a (n ∷ ns) e = absurd (cc)

  pub above_first : (a b : N) (ns : List N) → IsStrictlySortedBy R ns → slice_get ns 0 ≡ Some b → R a b ≡ Less → AllAbove R a ns
  unfolding IsStrictlySortedBy
  above_first a b [] s e l = tt
  above_first a b (n ∷ ns) s e l =
      let first : R a n ≡ Less = let same : n ≡ b = cc in ap (R a) same ∙ l in
      (first, above_more a n first ns s.0)

  pub ahead_like : (a b : N) (ns : List N) → slice_get ns 0 ≡ Some b → R b a ≡ Equal → IsAhead R a ns true
  ahead_like a b [] e l = absurd (cc)
  ahead_like a b (n ∷ ns) e l = let same : n ≡ b = cc in ap (λ m. R m a) same ∙ l

  pub ahead_first : (a : N) (ns : List N) → slice_get ns 0 ≡ Some a → IsAhead R a ns true
  ahead_first a ns e = ahead_like a a ns e (tied_itself o a)

  pub rest_sorted : (ns : List N) (p : Bool) → IsStrictlySortedBy R ns → IsStrictlySortedBy R (cond p (drop 1 ns) ns)
  unfolding IsStrictlySortedBy
  rest_sorted ns false s = s
  rest_sorted [] true s = tt
  rest_sorted (n ∷ ns) true s = s.1

  -- after the name that is ahead stand those above it
  rest_above : (name : N) (ns : List N) (p : Bool) → IsStrictlySortedBy R ns → IsAhead R name ns p → AllAbove R name (cond p (drop 1 ns) ns)
  unfolding IsStrictlySortedBy
  rest_above name ns false s h = h
  rest_above name [] true s h = absurd h
  rest_above name (n ∷ ns) true s h = above_like n name h ns s.0

  -- what is below a list's names is below the name that is ahead
  below_ahead : (a name : N) (ns : List N) → IsAhead R name ns true → AllAbove R a ns → R a name ≡ Less
  below_ahead a name [] h above = absurd h
  below_ahead a name (n ∷ ns) h above =
      o.antisymm a name ∙ ap ordering_reverse (sym (o.congr n name a h) ∙ o.antisymm n a ∙ ap ordering_reverse above.0)

  above_rest : (a : N) (ns : List N) (p : Bool) → AllAbove R a ns → AllAbove R a (cond p (drop 1 ns) ns)
  above_rest a ns false h = h
  above_rest a [] true h = tt
  above_rest a (n ∷ ns) true h = h.1

  below_one : (a name : N) (one two : List N) (p q : Bool) → (p || q) ≡ true → IsAhead R name one p → IsAhead R name two q → AllAbove R a one → AllAbove R a two → R a name ≡ Less
  below_one a name one two true q e h k above above2 = below_ahead a name one h above
  below_one a name one two false true e h k above above2 = below_ahead a name two k above2
  below_one a name one two false false e h k above above2 = absurd (cc)

  module _ {E : N → N → Bool} (ties : (x y : N) → E x y ≡ eq_by_cmp R x y) where
    -- names above one aren't equal to it
    not_above : (name x : N) (ns : List N) → E name x ≡ true → AllAbove R name ns → list_any (λ n. E n x) ns ≡ false
    not_above name x [] e h = refl
    not_above name x (n ∷ ns) e h =
        let equal : R name x ≡ Equal = is_equal (R name x) (sym (ties name x) ∙ e) in
        let less : R x n ≡ Less = sym (o.congr name x n equal) ∙ h.0 in
        let apart : E n x ≡ false = ties n x ∙ ap is_eq (o.antisymm n x ∙ ap ordering_reverse less) in
        ap (λ b. b || list_any (λ m. E m x) ns) apart ∙ not_above name x ns e h.1

    named_rest : (name : N) (ns : List N) (p : Bool) → IsAhead R name ns p → (x : N) → list_any (λ n. E n x) ns ≡ ((p && E name x) || list_any (λ n. E n x) (cond p (drop 1 ns) ns))
    named_rest name ns false h x = refl
    named_rest name [] true h x = absurd h
    named_rest name (n ∷ ns) true h x =
        let same : E n x ≡ E name x = ties n x ∙ ap is_eq (o.congr n name x h) ∙ sym (ties name x) in
        ap (λ b. b || list_any (λ m. E m x) ns) same

    -- the name that is ahead is kept where the class names it, before what is merged of the rests
    pub merged_more : (P : N → Bool) (ex ex2 p q : Bool) (one two more : List N) (name : N) → IsNext P R one two name p q → IsStrictlySortedBy R one → IsStrictlySortedBy R two
        → IsMerged P R E ex ex2 (cond p (drop 1 one) one) (cond q (drop 1 two) two) more
        → IsMerged P R E ex ex2 one two (cond (is_kept ex ex2 p q) (name ∷ more) more)
    unfolding IsStrictlySortedBy
    merged_more P ex ex2 p q one two more name next s t merged =
        let one_above = rest_above name one p s next.ahead_one in
        let two_above = rest_above name two q t next.ahead_two in
        let first = merged.above name one_above two_above in
        record {
          words = words (is_kept ex ex2 p q);
          sorted = sorted (is_kept ex ex2 p q) first;
          above = λ a h k. above (is_kept ex ex2 p q) a (below_one a name one two p q next.some next.ahead_one next.ahead_two h k) (merged.above a (above_rest a one p h) (above_rest a two q k));
          named = λ x.
              named (is_kept ex ex2 p q) x
              ∙ kept_more ex ex2 p q (E name x) (list_any (λ n. E n x) (cond p (drop 1 one) one)) (list_any (λ n. E n x) (cond q (drop 1 two) two)) (list_any (λ n. E n x) more)
              (λ e. not_above name x (cond p (drop 1 one) one) e one_above) (λ e. not_above name x (cond q (drop 1 two) two) e two_above) (merged.named x)
              ∙ sym (ap (λ b. is_kept ex ex2 b (list_any (λ n. E n x) two)) (named_rest name one p next.ahead_one x)
              ∙ ap (λ b. is_kept ex ex2 ((p && E name x) || list_any (λ n. E n x) (cond p (drop 1 one) one)) b) (named_rest name two q next.ahead_two x));
        }
      where
        words : (k : Bool) → AllByRecursion (λ n. P n ≡ true) (cond k (name ∷ more) more)
        words true = (next.word, merged.words)
        words false = merged.words

        sorted : (k : Bool) → AllAbove R name more → IsStrictlySortedBy R (cond k (name ∷ more) more)
        sorted true first = (first, merged.sorted)
        sorted false first = merged.sorted

        above : (k : Bool) (a : N) → R a name ≡ Less → AllAbove R a more → AllAbove R a (cond k (name ∷ more) more)
        above true a l h = (l, h)
        above false a l h = h

        named : (k : Bool) (x : N) → list_any (λ n. E n x) (cond k (name ∷ more) more) ≡ cond k (E name x || list_any (λ n. E n x) more) (list_any (λ n. E n x) more)
        named true x = refl
        named false x = refl

    pub merged_none : (P : N → Bool) (ex ex2 : Bool) → IsMerged P R E ex ex2 [] [] []
    unfolding IsStrictlySortedBy
    merged_none P ex ex2 = record { words = tt; sorted = tt; above = λ name h k. tt; named = λ x. sym (keeps_none ex ex2) }

    -- a name was put after those that are kept, or not
    pub kept_append : (k : Bool) (kept now more : List N) (name : N) → now ≡ cond k (kept ++ name ∷ []) kept → now ++ more ≡ kept ++ cond k (name ∷ more) more
    kept_append true kept now more name e = ap (λ ns. ns ++ more) e ∙ append_assoc kept (name ∷ []) more
    kept_append false kept now more name e = ap (λ ns. ns ++ more) e
