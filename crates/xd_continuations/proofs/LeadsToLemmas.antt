-- Where uses outside every label lead, and how many definitions they lead to.
use Rattle.std.proofs.Common.{◌≡◌, ℕ, zero, suc, ◌+◌, ◌≤◌, arith, Bool, true, false, cond, List, [], ◌∷◌, map, length, Option, Some, None, refl, ap, sym, subst, ◌∙◌, inl, inr}
use Rattle.std.specs.Str.{bytes_eq}
use Rattle.std.proofs.lemmas.List.{length-map}
use Rattle.std.proofs.lemmas.Slice.Eq.{bytes_eq-Decides}
use Rattle.std.proofs.lemmas.Bool.{or_right}
use Rattle.xd_doc.proofs.Bools.{or_cases}
use Rattle.xd_doc.specs.Members.{IsOneOf}
use Rattle.xd_syntax.specs.Words.{has_word}
use Rattle.xd_syntax.specs.Tree.{Tree, Empty, Text, Words, Name, Elem, Seq, Alt, Star, Plus, Opt, Val, Definitions, body}
use Rattle.xd_laws.specs.Guarded.{Defined}
use Rattle.xd_syntax.proofs.Members.{mem_append, append_left, append_right, mem_flat, flat_mem}
use Rattle.xd_laws.proofs.Pigeon.{NoRepeat, pigeon}
use Rattle.xd_continuations.specs.TailUses.{top_names, inner_names, UsesTop, LeadsTo, at_once, by_use}
use Rattle.xd_continuations.specs.Bounds.{names_used, led_to, leads, count_named, rank}

-- ---- words in a list

has_among : (xs : List (List ℕ)) (w : List ℕ) → has_word xs w ≡ true → IsOneOf w xs
has_among [] w h = cc
has_among (x ∷ xs) w h =
    elim (or_cases (bytes_eq x w) (has_word xs w) h) [ inl a ↦ inl ((bytes_eq-Decides x w).0 a) | inr b ↦ inr (has_among xs w b) ]

pub among_has : (xs : List (List ℕ)) (w : List ℕ) → IsOneOf w xs → has_word xs w ≡ true
among_has [] w m = absurd m
among_has (x ∷ xs) w (inl e) = rw ((bytes_eq-Decides x w).1 e) refl
among_has (x ∷ xs) w (inr m) = or_right (bytes_eq x w) (has_word xs w) (among_has xs w m)

-- ---- routes: the names that are used on the way, the first of them first

abbrev Route : Definitions → List (List ℕ) → List ℕ → List ℕ → Type 0
Route E [] x z = x ≡ z
Route E (u ∷ us) x z = (y : List ℕ) × (u ≡ x) × UsesTop E x y × Route E us y z

-- from a name on the way
cut : (E : Definitions) (us : List (List ℕ)) (y x z : List ℕ) → IsOneOf x us → Route E us y z → NoRepeat us → (vs : List (List ℕ)) × Route E vs x z × NoRepeat vs
cut E [] y x z m r n = absurd m
cut E (u ∷ us) y x z (inl e) r n = (u ∷ us, subst (λ q. Route E (u ∷ us) q z) (sym r.1 ∙ e) r, n)
cut E (u ∷ us) y x z (inr m) r n = cut E us r.0 x z m r.3 n.1

longer : (E : Definitions) (x y z : List ℕ) → UsesTop E x y → (us : List (List ℕ)) → Route E us y z → NoRepeat us → (b : Bool) → has_word us x ≡ b →
    (vs : List (List ℕ)) × Route E vs x z × NoRepeat vs
longer E x y z s us r n true e = cut E us y x z (has_among us x e) r n
longer E x y z s us r n false e =
    (x ∷ us, (y, refl, s, r), ((λ m. let a = among_has us x m in let b : true ≡ false = sym a ∙ e in cc), n))

-- a chain of uses without repeats
route : (E : Definitions) {x z : List ℕ} → LeadsTo E x z → (us : List (List ℕ)) × Route E us x z × NoRepeat us
route E at_once = ([], refl, tt)
route E (by_use {x} {y} {z} s l) = let r = route E l in longer E x y z s r.0 r.1 r.2 (has_word r.0 x) refl

sources_defined : (E : Definitions) (us : List (List ℕ)) (x z : List ℕ) → Route E us x z → (u : List ℕ) → IsOneOf u us → Defined E u
sources_defined E [] x z r u m = absurd m
sources_defined E (v ∷ us) x z r u (inl e) = subst (Defined E) (sym r.1 ∙ e) ((r.2).0, (r.2).1)
sources_defined E (v ∷ us) x z r u (inr m) = sources_defined E us r.0 z r.3 u m

defined_among : (E : Definitions) (x : List ℕ) → Defined E x → IsOneOf x (map (λ (p : List ℕ × Tree). p.0) E)
defined_among [] x h = let e = h.1 in cc
defined_among (p ∷ ps) x h = go (bytes_eq p.0 x) refl h.1 (λ d. defined_among ps x d)
  where
    go : (b : Bool) → bytes_eq p.0 x ≡ b → cond b (Some p.1) (body ps x) ≡ Some h.0 →
        (Defined ps x → IsOneOf x (map (λ (q : List ℕ × Tree). q.0) ps)) → IsOneOf x (map (λ (q : List ℕ × Tree). q.0) (p ∷ ps))
    go true e k rec = inl ((bytes_eq-Decides p.0 x).0 e)
    go false e k rec = inr (rec (h.0, k))

route_short : (E : Definitions) (us : List (List ℕ)) (x z : List ℕ) → Route E us x z → NoRepeat us → length us ≤ length E
route_short E us x z r n =
    let h = pigeon us (map (λ (p : List ℕ × Tree). p.0) E) n (λ u m. defined_among E u (sources_defined E us x z r u m)) in
    let e = length-map E (λ (p : List ℕ × Tree). p.0) in
    omega (arith, h, e)

-- ---- what the search finds

route_found : (E : Definitions) (us : List (List ℕ)) (x z : List ℕ) → Route E us x z → IsOneOf z (led_to E (length us) x)
route_found E [] x z r = inl r
route_found E (u ∷ us) x z r =
    let s = r.2 in
    let m = subst (λ o. IsOneOf r.0 (names_used o)) (sym s.1) s.2 in
    inr (flat_mem (led_to E (length us)) z r.0 (names_used (body E x)) m (route_found E us r.0 z r.3))

found_more : (E : Definitions) (n m : ℕ) → n ≤ m → (x z : List ℕ) → IsOneOf z (led_to E n x) → IsOneOf z (led_to E m x)
found_more E zero zero h x z k = k
found_more E zero (suc m) h x z (inl e) = inl e
found_more E zero (suc m) h x z (inr k) = absurd k
found_more E (suc n) zero h x z k = absurd (omega arith)
found_more E (suc n) (suc m) h x z (inl e) = inl e
found_more E (suc n) (suc m) h x z (inr k) =
    let r = mem_flat (led_to E n) z (names_used (body E x)) k in
    inr (flat_mem (led_to E m) z r.0 (names_used (body E x)) r.1 (found_more E n m (omega arith) r.0 z r.2))

used_by : (E : Definitions) (x y : List ℕ) (o : Option Tree) → body E x ≡ o → IsOneOf y (names_used o) → UsesTop E x y
used_by E x y None e m = absurd m
used_by E x y (Some T) e m = (T, e, m)

found_leads : (E : Definitions) (n : ℕ) (x z : List ℕ) → IsOneOf z (led_to E n x) → LeadsTo E x z
found_leads E zero x z (inl e) = subst (LeadsTo E x) e at_once
found_leads E zero x z (inr k) = absurd k
found_leads E (suc n) x z (inl e) = subst (LeadsTo E x) e at_once
found_leads E (suc n) x z (inr k) =
    let r = mem_flat (led_to E n) z (names_used (body E x)) k in
    by_use (used_by E x r.0 (body E x) refl r.1) (found_leads E n r.0 z r.2)

pub leads_right : (E : Definitions) (x z : List ℕ) → leads E x z ≡ true → LeadsTo E x z
unfolding leads
leads_right E x z h = found_leads E (length E) x z (has_among (led_to E (length E) x) z h)

pub leads_exact : (E : Definitions) (x z : List ℕ) → LeadsTo E x z → leads E x z ≡ true
unfolding leads
leads_exact E x z l =
    let r = route E l in
    among_has (led_to E (length E) x) z
    (found_more E (length r.0) (length E) (route_short E r.0 x z r.1 r.2) x z (route_found E r.0 x z r.1))

-- ---- counts

count_more : (P Q : List ℕ → Bool) → ((y : List ℕ) → P y ≡ true → Q y ≡ true) → (E : Definitions) → count_named P E ≤ count_named Q E
count_more P Q h [] = omega arith
count_more P Q h (p ∷ ps) = go (P p.0) (Q p.0) (h p.0) (count_more P Q h ps)
  where
    go : (a b : Bool) → (a ≡ true → b ≡ true) → count_named P ps ≤ count_named Q ps →
        cond a (count_named P ps + 1) (count_named P ps) ≤ cond b (count_named Q ps + 1) (count_named Q ps)
    go true true k i = omega arith
    go true false k i = let e = k refl in cc
    go false true k i = omega arith
    go false false k i = i

count_one_more : (P Q : List ℕ → Bool) → ((y : List ℕ) → P y ≡ true → Q y ≡ true) → (x : List ℕ) → P x ≡ false → Q x ≡ true → (E : Definitions) →
    IsOneOf x (map (λ (p : List ℕ × Tree). p.0) E) → count_named P E + 1 ≤ count_named Q E
count_one_more P Q h x p q [] m = absurd m
count_one_more P Q h x p q (d ∷ ds) (inl e) =
    let a : P d.0 ≡ false = ap P e ∙ p in
    let b : Q d.0 ≡ true = ap Q e ∙ q in
    let i = count_more P Q h ds in
    rw (a, b) (omega arith)
count_one_more P Q h x p q (d ∷ ds) (inr m) = go (P d.0) (Q d.0) (h d.0) (count_one_more P Q h x p q ds m)
  where
    go : (a b : Bool) → (a ≡ true → b ≡ true) → count_named P ds + 1 ≤ count_named Q ds →
        cond a (count_named P ds + 1) (count_named P ds) + 1 ≤ cond b (count_named Q ds + 1) (count_named Q ds)
    go true true k i = omega arith
    go true false k i = let e = k refl in cc
    go false true k i = omega arith
    go false false k i = i

count_all : (P : List ℕ → Bool) (E : Definitions) → count_named P E ≤ length E
count_all P [] = omega arith
count_all P (p ∷ ps) = go (P p.0) (count_all P ps)
  where
    go : (a : Bool) → count_named P ps ≤ length ps → cond a (count_named P ps + 1) (count_named P ps) ≤ suc (length ps)
    go true i = omega arith
    go false i = omega arith

-- ---- ranks

pub rank_small : (E : Definitions) (x : List ℕ) → rank E x ≤ length E
unfolding rank
rank_small E x = count_all (leads E x) E

-- a use leads to no more definitions
pub rank_use : (E : Definitions) (x y : List ℕ) → UsesTop E x y → rank E y ≤ rank E x
unfolding rank
rank_use E x y s = count_more (leads E y) (leads E x) (λ z h. leads_exact E x z (by_use s (leads_right E y z h))) E

-- and one that doesn't lead back to fewer
pub rank_fall : (E : Definitions) (x y : List ℕ) → UsesTop E x y → (LeadsTo E y x → ⊥) → rank E y + 1 ≤ rank E x
unfolding rank
rank_fall E x y s none = go (leads E y x) refl
  where
    go : (b : Bool) → leads E y x ≡ b → count_named (leads E y) E + 1 ≤ count_named (leads E x) E
    go true e = absurd (none (leads_right E y x e))
    go false e =
        count_one_more (leads E y) (leads E x) (λ z h. leads_exact E x z (by_use s (leads_right E y z h))) x e (leads_exact E x x at_once) E
        (defined_among E x (s.0, s.1))

no_test : List ℕ → Bool
no_test x = false

-- a definition leads to itself
pub rank_some : (E : Definitions) (x : List ℕ) → Defined E x → 1 ≤ rank E x
unfolding rank no_test
rank_some E x d =
    let h = count_one_more no_test (leads E x) (λ y k. let e : false ≡ true = k in cc) x refl (leads_exact E x x at_once) E (defined_among E x d) in
    omega (arith, h)

pub inner_top : (T : Tree) (y : List ℕ) → IsOneOf y (inner_names T) → IsOneOf y (top_names T)
inner_top Empty y m = m
inner_top Text y m = m
inner_top (Words w) y m = m
inner_top (Name x) y m = absurd m
inner_top (Elem c T) y m = m
inner_top (Seq T U) y m =
    elim (mem_append y (top_names T) (inner_names U) m) [ inl a ↦ append_left y (top_names T) (top_names U) a | inr b ↦ append_right y (top_names T) (top_names U) (inner_top U y b) ]
inner_top (Alt T U) y m =
    elim (mem_append y (inner_names T) (inner_names U) m) [
      | inl a ↦ append_left y (top_names T) (top_names U) (inner_top T y a)
      | inr b ↦ append_right y (top_names T) (top_names U) (inner_top U y b)
    ]
inner_top (Star T) y m = m
inner_top (Plus T) y m = m
inner_top (Opt T) y m = inner_top T y m
inner_top (Val x T) y m = inner_top T y m
