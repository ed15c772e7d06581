-- A choice tree that keeps the rules, walked at an element whose content and rest are known.
use Rattle.std.proofs.Common.{ℕ, zero, suc, ◌+◌, ◌≡◌, Bool, true, false, cond, List, [], ◌∷◌, Option, Some, ◌⊎◌, inl, inr, refl, sym, subst, arith}
use Rattle.std.specs.List.{AllByRecursion, slice_get}
use Rattle.xd_rules.specs.declared.atom.Atom.{Atom}
use Rattle.xd_doc.specs.Members.{IsOneOf}
use Rattle.xd_rules.specs.Heads.{Head, matches}
use Rattle.xd_rules.specs.Rules.{Claim, ChoiceTree, settles_content, settles_rest, split_on, numbered, matching, Sides, on_content, on_rest, HasPart, LeafRule, LabelTree}
use Rattle.xd_rules.specs.Meaning.{Covered, AllLeaves}
use Rattle.xd_rules.proofs.Members.{one_of-numbered}

-- one of the heads of these numbers has the property
abbrev pub SomeNumbered : {S : Type 0} → List (Head S) → (Head S → Type 0) → List ℕ → Type 0
SomeNumbered hs P [] = ⊥
SomeNumbered {S} hs P (n ∷ ns) = ((h : Head S) × (numbered hs n ≡ Some h) × P h) ⊎ SomeNumbered hs P ns

some_numbered : {S : Type 0} (hs : List (Head S)) (P : Head S → Type 0) (ns : List ℕ) (n : ℕ) (h : Head S) → IsOneOf n ns → numbered hs n ≡ Some h → P h → SomeNumbered hs P ns
some_numbered hs P [] n h m e p = absurd m
some_numbered hs P (k ∷ ns) n h (inl q) e p = inl (h, subst (λ i. numbered hs i ≡ Some h) (sym q) e, p)
some_numbered hs P (k ∷ ns) n h (inr m) e p = inr (some_numbered hs P ns n h m e p)

module _ {S : Type 0} (part : Head S → S) (hs : List (Head S)) (P : S → Type 0) where
  right_has : (ns : List ℕ) (xs : List S) → AllByRecursion (HasPart part hs ns) xs → (x : S) → IsOneOf x xs → P x → SomeNumbered hs (λ h. P (part h)) ns
  right_has ns [] a x m p = absurd m
  right_has ns (y ∷ ys) a x (inl e) p =
      let r = a.0 in some_numbered hs (λ h. P (part h)) ns r.0 r.1 r.2 r.3 (subst P (sym r.4) (subst P (sym e) p))
  right_has ns (y ∷ ys) a x (inr m) p = right_has ns ys a.1 x m p

  -- a leaf whose claim is covered
  pub leaf_some : (claim_at : ℕ → Option (Claim S)) (left : Head S) (ns : List ℕ) (n : ℕ) → LeafRule part claim_at left hs ns n
      → ((c : Claim S) → claim_at n ≡ Some c → Covered P c) → P (part left) → SomeNumbered hs (λ h. P (part h)) ns
  leaf_some claim_at left ns n r covered p =
      let s = covered r.claim r.stands (subst P (sym r.same_left) p) in
      right_has ns (r.claim).rights r.rights_stand s.0 s.1 s.2

-- some right head takes the whole element, or one on the path's sides takes its part
abbrev pub Found : {S : Type 0} → (S → Type 0) → (S → Type 0) → Atom → List (Head S) → Sides → Type 0
Found {S} P Q atom hs s =
    ((h : Head S) × IsOneOf h hs × (matches h.kind atom ≡ true) × P h.content × Q h.rest)
    ⊎ (SomeNumbered hs (λ h. P h.content) s.content ⊎ SomeNumbered hs (λ h. Q h.rest) s.rest)

module _ {S : Type 0} (claim_at : ℕ → Option (Claim S)) (P Q : S → Type 0) (Good : ℕ → Type 0)
    (content_covered : (g : ℕ) → Good g → (c : Claim S) → claim_at g ≡ Some c → Covered P c)
    (rest_covered : (g : ℕ) → Good g → (c : Claim S) → claim_at g ≡ Some c → Covered Q c)
    (left : Head S) (content_is : P left.content) (rest_is : Q left.rest) (atom : Atom) (hs : List (Head S)) where
  at_split : (s : Sides) (j : ℕ) (h : Head S) → numbered hs j ≡ Some h → matches h.kind atom ≡ true
      → Found P Q atom hs (on_content j s) → Found P Q atom hs (on_rest j s) → Found P Q atom hs s
  at_split s j h at m (inl whole) y = inl whole
  at_split s j h at m (inr (inr q)) y = inr (inr q)
  at_split s j h at m (inr (inl (inr q))) y = inr (inl q)
  at_split s j h at m (inr (inl (inl p))) (inl whole) = inl whole
  at_split s j h at m (inr (inl (inl p))) (inr (inl q)) = inr (inl q)
  at_split s j h at m (inr (inl (inl p))) (inr (inr (inr q))) = inr (inr q)
  at_split s j h at m (inr (inl (inl p))) (inr (inr (inl q))) =
      let x : p.0 ≡ h = cc in
      let y : q.0 ≡ h = cc in
      inl (h, one_of-numbered h hs j at, m, subst (λ (w : Head S). P w.content) x p.2, subst (λ (w : Head S). Q w.rest) y q.2)

  pub walk : (t : ChoiceTree) (s : Sides) → LabelTree claim_at atom left hs s t → AllLeaves Good t → Found P Q atom hs s
  walk (settles_content n) s e good = inr (inl (leaf_some (λ h. h.content) hs P claim_at left s.content n e (content_covered n good) content_is))
  walk (settles_rest n) s e good = inr (inr (leaf_some (λ h. h.rest) hs Q claim_at left s.rest n e (rest_covered n good) rest_is))
  walk (split_on n t u) s e good = at_split s n (e.0).head (e.0).stands (e.0).fits (walk t (on_content n s) e.1 good.0) (walk u (on_rest n s) e.2 good.1)

-- a number of those that match, counted from k, is that of a head which matches
matching_head : {S : Type 0} (a : Atom) (k : ℕ) (hs : List (Head S)) (n : ℕ) → IsOneOf n (matching a k hs)
    → (m : ℕ) × (h : Head S) × (n ≡ k + m) × (numbered hs (suc m) ≡ Some h) × (matches h.kind a ≡ true)
matching_head a k [] n i = absurd i
matching_head {S} a k (g ∷ hs) n i = go (matches g.kind a) refl i (λ j. matching_head a (k + 1) hs n j)
  where
    later : (m : ℕ) × (h : Head S) × (n ≡ k + 1 + m) × (numbered hs (suc m) ≡ Some h) × (matches h.kind a ≡ true)
        → (m : ℕ) × (h : Head S) × (n ≡ k + m) × (numbered (g ∷ hs) (suc m) ≡ Some h) × (matches h.kind a ≡ true)
    later r = (suc r.0, r.1, omega (arith, r.2), r.3, r.4)

    go : (b : Bool) → matches g.kind a ≡ b → IsOneOf n (cond b (k ∷ matching a (k + 1) hs) (matching a (k + 1) hs))
        → (IsOneOf n (matching a (k + 1) hs) → (m : ℕ) × (h : Head S) × (n ≡ k + 1 + m) × (numbered hs (suc m) ≡ Some h) × (matches h.kind a ≡ true))
        → (m : ℕ) × (h : Head S) × (n ≡ k + m) × (numbered (g ∷ hs) (suc m) ≡ Some h) × (matches h.kind a ≡ true)
    go true e (inl q) rec = (0, g, omega (arith, q), refl, e)
    go true e (inr j) rec = later (rec j)
    go false e j rec = later (rec j)

pub matching_there : {S : Type 0} (a : Atom) (hs : List (Head S)) (n : ℕ) → IsOneOf n (matching a 1 hs) → (h : Head S) × (numbered hs n ≡ Some h) × (matches h.kind a ≡ true)
matching_there {S} a hs n i =
    let r = matching_head a 1 hs n i in
    let at : n ≡ suc r.0 = omega (arith, r.2) in
    (r.1, subst (λ w. numbered hs w ≡ Some r.1) (sym at) r.3, r.4)

pub some_matching : {S : Type 0} (hs : List (Head S)) (P : Head S → Type 0) (a : Atom) (ns : List ℕ) → ((n : ℕ) → IsOneOf n ns → IsOneOf n (matching a 1 hs)) → SomeNumbered hs P ns
    → (h : Head S) × IsOneOf h hs × (matches h.kind a ≡ true) × P h
some_matching hs P a [] sub s = absurd s
some_matching hs P a (n ∷ ns) sub (inr s) = some_matching hs P a ns (λ m k. sub m (inr k)) s
some_matching {S} hs P a (n ∷ ns) sub (inl s) =
    let r = matching_there a hs n (sub n (inl refl)) in
    let there : numbered hs n ≡ Some r.0 = r.1 in
    let same : r.0 ≡ s.0 = cc in
    (s.0, one_of-numbered s.0 hs n s.1, subst (λ (w : Head S). matches w.kind a ≡ true) same r.2, s.2)

matching_from : {S : Type 0} (a : Atom) (hs : List (Head S)) (k i : ℕ) (h : Head S) → slice_get hs i ≡ Some h → matches h.kind a ≡ true → (n : ℕ) → n ≡ k + i → IsOneOf n (matching a k hs)
matching_from a [] k i h e t n q = absurd (cc)
matching_from {S} a (x ∷ hs) k zero h e t n q =
    let same : x ≡ h = cc in
    let fits : matches x.kind a ≡ true = subst (λ (w : Head S). matches w.kind a ≡ true) (sym same) t in
    let at : k ≡ n = omega arith in
    subst (λ b. IsOneOf n (cond b (k ∷ matching a (k + 1) hs) (matching a (k + 1) hs))) (sym fits) (inl at)
matching_from a (x ∷ hs) k (suc i) h e t n q = go (matches x.kind a) (matching_from a hs (k + 1) i h e t n (omega arith))
  where
    go : (b : Bool) → IsOneOf n (matching a (k + 1) hs) → IsOneOf n (cond b (k ∷ matching a (k + 1) hs) (matching a (k + 1) hs))
    go true m = inr m
    go false m = m

-- the number of a head that matches is one of those
pub matching_at : {S : Type 0} (a : Atom) (hs : List (Head S)) (n : ℕ) (h : Head S) → numbered hs n ≡ Some h → matches h.kind a ≡ true → IsOneOf n (matching a 1 hs)
matching_at a hs zero h e t = absurd (cc)
matching_at a hs (suc i) h e t = matching_from a hs 1 i h e t (suc i) (omega arith)
