-- What the ways of a pattern bind: no variable that it no_such_word, and where it is linear each of its
-- variables once.
use Rattle.std.proofs.Common.{◌≡◌, ℕ, suc, zero, ltb, Bool, true, false, cond, ◌||◌, List, [], ◌∷◌, ◌++◌, map, Option, Some, None, refl, ap, sym, subst, ◌∙◌, inl, inr}
use Rattle.std.specs.Str.{bytes_eq}
use Rattle.std.proofs.lemmas.Bool.{or_parts}
use Rattle.xd_doc.specs.Document.{Document, empty, text, element}
use Rattle.xd_doc.specs.Classes.{class_has}
use Rattle.xd_doc.specs.Members.{IsOneOf}
use Rattle.xd_doc.proofs.Lists.{append_none, word_itself}
use Rattle.xd_syntax.specs.Words.{has_word}
use Rattle.xd_syntax.specs.Tree.{Tree, Empty, Text, Words, Name, Elem, Seq, Alt, Star, Plus, Opt, Val, Definitions, body, occurrences}
use Rattle.xd_syntax.specs.Ways.{Way, no_item_way, then_way, item_count, turns, repetition, is_whole, binding, ways_by, ways_of_definition, ways_of_name, unfoldings, ways}
use Rattle.xd_syntax.proofs.Members.{mem_append, mem_map, mem_flat, cond_true}
use Rattle.xd_syntax.proofs.NotLinear.{has_word_both}
use Rattle.xd_laws.proofs.Unfoldings.{same_word_eq}
use Rattle.xd_laws.proofs.WaysFit.{mem_in_turn}
use Rattle.xd_laws.proofs.LinearPatterns.{no_such_word}
use Rattle.xd_pattern_runs.specs.Linear.{BindNothing, IsLinear, given}

pub given_append : (x : List ℕ) (bs cs : List (List ℕ × Document)) → given x (bs ++ cs) ≡ given x bs ++ given x cs
given_append x [] cs = refl
given_append x (b ∷ bs) cs = go (bytes_eq b.0 x) (given_append x bs cs)
  where
    go : (t : Bool) → given x (bs ++ cs) ≡ given x bs ++ given x cs →
        cond t (b.1 ∷ given x (bs ++ cs)) (given x (bs ++ cs)) ≡ cond t (b.1 ∷ given x bs) (given x bs) ++ given x cs
    go true e = ap (λ z. b.1 ∷ z) e
    go false e = e

pub in_neither : (xs ys : List (List ℕ)) (x : List ℕ) → has_word (xs ++ ys) x ≡ false → (has_word xs x ≡ false) × (has_word ys x ≡ false)
in_neither xs ys x h = or_parts (has_word xs x) (has_word ys x) (sym (has_word_both xs ys x) ∙ h)

none_then : (x : List ℕ) (v u w : Way) → given x v.bindings ≡ [] → given x u.bindings ≡ [] → then_way v u ≡ w → given x w.bindings ≡ []
none_then x v u w a b e =
    ap (λ (z : Way). given x z.bindings) (sym e) ∙ given_append x v.bindings u.bindings ∙ ap (λ z. z ++ given x u.bindings) a ∙ b

same_given : (x : List ℕ) (v w : Way) → v.bindings ≡ w.bindings → given x v.bindings ≡ [] → given x w.bindings ≡ []
same_given x v w e h = ap (given x) (sym e) ∙ h

nothing_given : (x : List ℕ) (d : Document) (w : Way) → no_item_way d ≡ w → given x w.bindings ≡ []
nothing_given x d w e = ap (λ (z : Way). given x z.bindings) (sym e)

module _ (N : List ℕ → Document → List Way) (names : (y : List ℕ) (d : Document) (w : Way) → IsOneOf w (N y d) → w.bindings ≡ []) (x : List ℕ) where
  turns_none : (V : Document → List Way) → ((d : Document) (w : Way) → IsOneOf w (V d) → given x w.bindings ≡ []) → (k : ℕ) (d : Document) (w : Way) →
      IsOneOf w (turns V k d) → given x w.bindings ≡ []
  turns_none V h zero d w (inl e) = nothing_given x d w e
  turns_none V h zero d w (inr m) = absurd m
  turns_none V h (suc k) d w m =
      elim (mem_append w _ (no_item_way d ∷ []) m) [
        | inl a ↦
            let r = mem_flat (λ v. cond (ltb (item_count v.rest) (item_count d)) (map (then_way v) (turns V k v.rest)) []) w (V d) a in
            let c = cond_true (ltb (item_count (r.0).rest) (item_count d)) w _ r.2 in
            let q = mem_map (then_way r.0) w (turns V k (r.0).rest) c.1 in
            none_then x r.0 q.0 w (h d r.0 r.1) (turns_none V h k (r.0).rest q.0 q.1) q.2
        | inr (inl e) ↦ nothing_given x d w e
        | inr (inr b) ↦ absurd b
      ]

  -- a variable that the pattern no_such_word is not bound
  pub none_by : (T : Tree) → has_word (occurrences T) x ≡ false → (d : Document) (w : Way) → IsOneOf w (ways_by N T d) → given x w.bindings ≡ []
  none_by Empty h d w (inl e) = nothing_given x d w e
  none_by Empty h d w (inr m) = absurd m
  none_by Text h empty w m = absurd m
  none_by (Words k) h empty w m = absurd m
  none_by Text h (text s d) w (inl e) = ap (λ (z : Way). given x z.bindings) (sym e)
  none_by (Words k) h (text s d) w m =
      let a = cond_true (class_has k s) w _ m in
      elim a.1 as (λ _. given x w.bindings ≡ []) [ inl e ↦ ap (λ (z : Way). given x z.bindings) (sym e) | inr n ↦ absurd n ]
  none_by Text h (text s d) w (inr m) = absurd m
  none_by Text h (element l k d) w m = absurd m
  none_by (Words k) h (element l c d) w m = absurd m
  none_by (Name y) h d w m = ap (given x) (names y d w m)
  none_by (Elem c T) h empty w m = absurd m
  none_by (Elem c T) h (text s d) w m = absurd m
  none_by (Elem c T) h (element l k d) w m =
      let a = cond_true (class_has c l) w _ m in
      let r = mem_flat (λ v. cond (is_whole v) (record { bindings = v.bindings; taken = element l k empty; rest = d } ∷ []) []) w (ways_by N T k) a.1 in
      let b = cond_true (is_whole r.0) w _ r.2 in
      let i = none_by T h k r.0 r.1 in
      elim b.1 [ inl e ↦ same_given x r.0 w (ap (λ (z : Way). z.bindings) e) i | inr o ↦ absurd o ]
  none_by (Seq T U) h d w m =
      let r = mem_in_turn (ways_by N T) (ways_by N U) d w m in
      let o = in_neither (occurrences T) (occurrences U) x h in
      none_then x r.0 r.1 w (none_by T o.0 d r.0 r.2) (none_by U o.1 (r.0).rest r.1 r.3) r.4
  none_by (Alt T U) h d w m =
      let o = in_neither (occurrences T) (occurrences U) x h in
      elim (mem_append w (ways_by N T d) (ways_by N U d) m) [ inl a ↦ none_by T o.0 d w a | inr b ↦ none_by U o.1 d w b ]
  none_by (Star T) h d w m = turns_none (ways_by N T) (λ e v n. none_by T h e v n) (item_count d) d w m
  none_by (Plus T) h d w m =
      let r = mem_in_turn (ways_by N T) (repetition (ways_by N T)) d w m in
      none_then x r.0 r.1 w (none_by T h d r.0 r.2)
      (turns_none (ways_by N T) (λ e v n. none_by T h e v n) (item_count (r.0).rest) (r.0).rest r.1 r.3) r.4
  none_by (Opt T) h d w m =
      elim (mem_append w (ways_by N T d) (no_item_way d ∷ []) m)
      [ inl a ↦ none_by T h d w a | inr (inl e) ↦ nothing_given x d w e | inr (inr b) ↦ absurd b ]
  none_by (Val y T) h d w m =
      let r = mem_map (binding y) w (ways_by N T d) m in
      let o = or_parts (bytes_eq y x) (has_word (occurrences T) x) h in
      ap (λ (z : Way). given x z.bindings) (sym r.2) ∙ ap (λ b. cond b ((r.0).taken ∷ given x (r.0).bindings) (given x (r.0).bindings)) o.0 ∙ none_by T o.1 d r.0 r.1

-- nothing at all is bound where there are no variables
none_all : (bs : List (List ℕ × Document)) → ((x : List ℕ) → given x bs ≡ []) → bs ≡ []
none_all [] h = refl
none_all (b ∷ bs) h = go (bytes_eq b.0 b.0) (word_itself b.0) (h b.0)
  where
    go : (t : Bool) → t ≡ true → cond t (b.1 ∷ given b.0 bs) (given b.0 bs) ≡ [] → b ∷ bs ≡ []
    go true e k = cc
    go false e k = cc

body_none : (E : Definitions) → BindNothing E → (N : List ℕ → Document → List Way) → ((y : List ℕ) (d : Document) (w : Way) → IsOneOf w (N y d) → w.bindings ≡ []) →
    (y : List ℕ) (o : Option Tree) → body E y ≡ o → (d : Document) (w : Way) → IsOneOf w (ways_of_definition (ways_by N) o d) → w.bindings ≡ []
body_none E none N names y None e d w m = absurd m
body_none E none N names y (Some T) e d w m =
    none_all w.bindings (λ x. none_by N names x T (ap (λ xs. has_word xs x) (none y T e)) d w m)

names_none : (E : Definitions) → BindNothing E → (n : ℕ) (y : List ℕ) (d : Document) (w : Way) → IsOneOf w (ways_of_name E n y d) → w.bindings ≡ []
names_none E none zero y d w m = absurd m
names_none E none (suc n) y d w m = body_none E none (ways_of_name E n) (names_none E none n) y (body E y) refl d w m

pub unbound : (E : Definitions) → BindNothing E → (T : Tree) (x : List ℕ) → has_word (occurrences T) x ≡ false → (d : Document) (w : Way) → IsOneOf w (ways E T d) → given x w.bindings ≡ []
unbound E none T x h d w m = none_by (ways_of_name E (unfoldings E d)) (names_none E none (unfoldings E d)) x T h d w m

abbrev pub IsOne : List Document → Type 0
IsOne ds = (e : Document) × (ds ≡ e ∷ [])

or_some : (a b : Bool) → (a || b) ≡ true → (a ≡ false → b ≡ true)
or_some true b h e = cc
or_some false b h e = h

one_first : (x : List ℕ) (v u w : Way) → IsOne (given x v.bindings) → given x u.bindings ≡ [] → then_way v u ≡ w → IsOne (given x w.bindings)
one_first x v u w a b e =
    (a.0, ap (λ (z : Way). given x z.bindings) (sym e) ∙ given_append x v.bindings u.bindings ∙ ap (λ z. given x v.bindings ++ z) b ∙ append_none (given x v.bindings) ∙ a.1)

one_second : (x : List ℕ) (v u w : Way) → given x v.bindings ≡ [] → IsOne (given x u.bindings) → then_way v u ≡ w → IsOne (given x w.bindings)
one_second x v u w a b e =
    (b.0, ap (λ (z : Way). given x z.bindings) (sym e) ∙ given_append x v.bindings u.bindings ∙ ap (λ z. z ++ given x u.bindings) a ∙ b.1)

module _ (N : List ℕ → Document → List Way) (names : (y : List ℕ) (d : Document) (w : Way) → IsOneOf w (N y d) → w.bindings ≡ []) (x : List ℕ) where
  seq_one : (T U : Tree) (d : Document) (v u w : Way) → IsOneOf v (ways_by N T d) → IsOneOf u (ways_by N U v.rest) → then_way v u ≡ w →
      (has_word (occurrences T) x ≡ true → has_word (occurrences U) x ≡ false) → (has_word (occurrences T) x || has_word (occurrences U) x) ≡ true →
      (has_word (occurrences T) x ≡ true → IsOne (given x v.bindings)) → (has_word (occurrences U) x ≡ true → IsOne (given x u.bindings)) →
      (t : Bool) → has_word (occurrences T) x ≡ t → IsOne (given x w.bindings)
  seq_one T U d v u w m n e apart either f g true h = one_first x v u w (f h) (none_by N names x U (apart h) v.rest u n) e
  seq_one T U d v u w m n e apart either f g false h = one_second x v u w (none_by N names x T h d v m) (g (or_some _ _ either h)) e

  alt_both : (T U : Tree) → has_word (occurrences T) x ≡ has_word (occurrences U) x → (has_word (occurrences T) x || has_word (occurrences U) x) ≡ true →
      (t : Bool) → has_word (occurrences T) x ≡ t → (has_word (occurrences T) x ≡ true) × (has_word (occurrences U) x ≡ true)
  alt_both T U s either true h = (h, sym s ∙ h)
  alt_both T U s either false h = let k = or_some _ _ either h in cc

  val_one : (T : Tree) (y : List ℕ) (d : Document) (v w : Way) → IsOneOf v (ways_by N T d) → binding y v ≡ w → has_word (occurrences T) y ≡ false →
      (has_word (occurrences T) x ≡ true → IsOne (given x v.bindings)) → (t : Bool) → bytes_eq y x ≡ t → (t || has_word (occurrences T) x) ≡ true → IsOne (given x w.bindings)
  val_one T y d v w m e apart f true h either =
      let k : has_word (occurrences T) x ≡ false = subst (λ z. has_word (occurrences T) z ≡ false) (same_word_eq y x h) apart in
      (v.taken, ap (λ (z : Way). given x z.bindings) (sym e) ∙ ap (λ b. cond b (v.taken ∷ given x v.bindings) (given x v.bindings)) h ∙ ap (λ z. v.taken ∷ z) (none_by N names x T k d v m))
  val_one T y d v w m e apart f false h either =
      let i = f either in
      (i.0, ap (λ (z : Way). given x z.bindings) (sym e) ∙ ap (λ b. cond b (v.taken ∷ given x v.bindings) (given x v.bindings)) h ∙ i.1)

  -- a variable of a linear pattern is bound once
  pub one_by : (T : Tree) → IsLinear T → has_word (occurrences T) x ≡ true → (d : Document) (w : Way) → IsOneOf w (ways_by N T d) → IsOne (given x w.bindings)
  one_by Empty l h d w m = cc
  one_by Text l h d w m = cc
  one_by (Words k) l h d w m = cc
  one_by (Name y) l h d w m = cc
  one_by (Elem c T) l h empty w m = absurd m
  one_by (Elem c T) l h (text s d) w m = absurd m
  one_by (Elem c T) l h (element n k d) w m =
      let a = cond_true (class_has c n) w _ m in
      let r = mem_flat (λ v. cond (is_whole v) (record { bindings = v.bindings; taken = element n k empty; rest = d } ∷ []) []) w (ways_by N T k) a.1 in
      let b = cond_true (is_whole r.0) w _ r.2 in
      let i = one_by T l h k r.0 r.1 in
      elim b.1 [ inl e ↦ (i.0, ap (λ (z : Way). given x z.bindings) (sym e) ∙ i.1) | inr o ↦ absurd o ]
  one_by (Seq T U) l h d w m =
      let r = mem_in_turn (ways_by N T) (ways_by N U) d w m in
      seq_one T U d r.0 r.1 w r.2 r.3 r.4 (l.2 x) (sym (has_word_both (occurrences T) (occurrences U) x) ∙ h)
      (λ k. one_by T l.0 k d r.0 r.2) (λ k. one_by U l.1 k (r.0).rest r.1 r.3) (has_word (occurrences T) x) refl
  one_by (Alt T U) l h d w m =
      let k = alt_both T U (l.2 x) (sym (has_word_both (occurrences T) (occurrences U) x) ∙ h) (has_word (occurrences T) x) refl in
      elim (mem_append w (ways_by N T d) (ways_by N U d) m) [ inl a ↦ one_by T l.0 k.0 d w a | inr b ↦ one_by U l.1 k.1 d w b ]
  one_by (Star T) l h d w m = absurd (no_such_word (occurrences T) x l h)
  one_by (Plus T) l h d w m = absurd (no_such_word (occurrences T) x l h)
  one_by (Opt T) l h d w m = absurd (no_such_word (occurrences T) x l h)
  one_by (Val y T) l h d w m =
      let r = mem_map (binding y) w (ways_by N T d) m in
      val_one T y d r.0 w r.1 r.2 l.0 (λ k. one_by T l.1 k d r.0 r.1) (bytes_eq y x) refl h

pub bound_once : (E : Definitions) → BindNothing E → (T : Tree) → IsLinear T → (x : List ℕ) → has_word (occurrences T) x ≡ true → (d : Document) (w : Way) → IsOneOf w (ways E T d) → IsOne (given x w.bindings)
bound_once E none T l x h d w m = one_by (ways_of_name E (unfoldings E d)) (names_none E none (unfoldings E d)) x T l h d w m
