-- What the ways of a pattern bind: proper documents, to the pattern's variables alone, and to each
-- of them where the pattern is linear.
use Rattle.std.proofs.Common.{◌≡◌, ℕ, Bool, true, false, cond, ◌||◌, ◌&&◌, ◌⊎◌, inl, inr, List, [], ◌∷◌, ◌++◌, Some, refl, ap, sym, subst, ◌∙◌}
use Rattle.std.specs.Str.{bytes_eq, is_utf8}
use Rattle.std.proofs.lemmas.Bool.{or_left, or_right}
use Rattle.xd_doc.specs.Word.{is_word}
use Rattle.xd_doc.specs.Document.{Document, empty, text, element, join, is_proper}
use Rattle.xd_doc.specs.Members.{IsOneOf}
use Rattle.xd_doc.proofs.Bools.{and_parts}
use Rattle.xd_syntax.specs.Words.{has_word}
use Rattle.xd_syntax.specs.Tree.{Tree, Definitions, body, occurrences}
use Rattle.xd_syntax.specs.Placed.{PlacedTree, unplaced, variables}
use Rattle.xd_syntax.specs.Ways.{Way, then_way}
use Rattle.xd_meaning.specs.Meaning.{Environment, looked_up}
use Rattle.xd_syntax.specs.Proper.{IsProperTree}
use Rattle.xd_laws.proofs.Unfoldings.{same_word_eq}
use Rattle.xd_laws.proofs.WordLists.{either, has_word_left, has_word_right}
use Rattle.xd_laws.proofs.WayShapes.{IsWay, way_empty, way_text, way_words, way_name, way_elem, way_seq, way_left, way_right, way_no_turn, way_turn, way_plus, way_absent, way_present, way_val}

-- Proper documents.

pub proper_element : (l : List ℕ) (c r : Document) → is_word l ≡ true → is_proper c ≡ true → is_proper r ≡ true → is_proper (element l c r) ≡ true
proper_element l c r a b d = rw (a, b, d) refl

pub join_proper : (a b : Document) → is_proper a ≡ true → is_proper b ≡ true → is_proper (join a b) ≡ true
join_proper empty b h k = k
join_proper (text s r) b h k =
    let q = and_parts (is_utf8 s) (is_proper r) h in rw (q.0, join_proper r b q.1 k) refl
join_proper (element l c r) b h k =
    let q = and_parts (is_word l) (is_proper c && is_proper r) h in
    let p = and_parts (is_proper c) (is_proper r) q.1 in
    proper_element l c (join r b) q.0 p.0 (join_proper r b p.1 k)

pub proper_joined : (a b : Document) → is_proper (join a b) ≡ true → (is_proper a ≡ true) × (is_proper b ≡ true)
proper_joined empty b h = (refl, h)
proper_joined (text s r) b h =
    let q = and_parts (is_utf8 s) (is_proper (join r b)) h in
    let i = proper_joined r b q.1 in (rw (q.0, i.0) refl, i.1)
proper_joined (element l c r) b h =
    let q = and_parts (is_word l) (is_proper c && is_proper (join r b)) h in
    let p = and_parts (is_proper c) (is_proper (join r b)) q.1 in
    let i = proper_joined r b p.1 in (proper_element l c r q.0 p.0 i.0, i.1)

abbrev pub AreProper : Environment → Type 0
AreProper [] = Unit {0}
AreProper (v ∷ vs) = (is_proper v.1 ≡ true) × AreProper vs

AreProper-append : (us vs : Environment) → AreProper us → AreProper vs → AreProper (us ++ vs)
AreProper-append [] vs a b = b
AreProper-append (u ∷ us) vs a b = (a.0, AreProper-append us vs a.1 b)

-- what a way takes, leaves and binds is proper
pub record IsProperWay (w : Way) : Type 0 where
  pub taken : is_proper w.taken ≡ true
  pub rest : is_proper w.rest ≡ true
  pub bindings : AreProper w.bindings

then_proper : (v w : Way) → IsProperWay v → IsProperWay w → IsProperWay (then_way v w)
then_proper v w a b = record {
  taken = join_proper v.taken w.taken a.taken b.taken;
  rest = b.rest;
  bindings = AreProper-append v.bindings w.bindings a.bindings b.bindings;
}

pub proper_way : (E : Definitions) {T : Tree} {d : Document} {w : Way} → IsWay E T d w → is_proper d ≡ true → IsProperWay w
proper_way E way_empty p = record { taken = refl; rest = p; bindings = tt }
proper_way E (way_text {s} {r}) p = let q = and_parts (is_utf8 s) (is_proper r) p in record { taken = rw (q.0) refl; rest = q.1; bindings = tt }
proper_way E (way_words {s} {r} h) p = let q = and_parts (is_utf8 s) (is_proper r) p in record { taken = rw (q.0) refl; rest = q.1; bindings = tt }
proper_way E (way_name e h) p = proper_way E h p
proper_way E (way_elem {l = l} {k = k} {r = r} c h e) p =
    let q = and_parts (is_word l) (is_proper k && is_proper r) p in
    let n = and_parts (is_proper k) (is_proper r) q.1 in
    record { taken = proper_element l k empty q.0 n.0 refl; rest = n.1; bindings = (proper_way E h n.0).bindings }
proper_way E (way_seq {v = v} {w = w} h k) p = let a = proper_way E h p in then_proper v w a (proper_way E k a.rest)
proper_way E (way_left h) p = proper_way E h p
proper_way E (way_right h) p = proper_way E h p
proper_way E way_no_turn p = record { taken = refl; rest = p; bindings = tt }
proper_way E (way_turn {v = v} {w = w} h k) p = let a = proper_way E h p in then_proper v w a (proper_way E k a.rest)
proper_way E (way_plus {v = v} {w = w} h k) p = let a = proper_way E h p in then_proper v w a (proper_way E k a.rest)
proper_way E way_absent p = record { taken = refl; rest = p; bindings = tt }
proper_way E (way_present h) p = proper_way E h p
proper_way E (way_val h) p = let a = proper_way E h p in record { taken = a.taken; rest = a.rest; bindings = (a.taken, a.bindings) }

-- Variables that are bound.

-- the variable is bound
abbrev pub binds : Environment → List ℕ → Bool
binds [] x = false
binds (v ∷ vs) x = bytes_eq v.0 x || binds vs x

pub binds_split : (us vs : Environment) (x : List ℕ) → binds (us ++ vs) x ≡ true → (binds us x ≡ true) ⊎ (binds vs x ≡ true)
binds_split [] vs x h = inr h
binds_split (u ∷ us) vs x h =
    elim (either (bytes_eq u.0 x) (binds (us ++ vs) x) h) [
      | inl a ↦ inl (or_left (bytes_eq u.0 x) (binds us x) a)
      | inr b ↦ elim (binds_split us vs x b.1) [ inl c ↦ inl (or_right (bytes_eq u.0 x) (binds us x) c) | inr c ↦ inr c ]
    ]

pub binds_left : (us vs : Environment) (x : List ℕ) → binds us x ≡ true → binds (us ++ vs) x ≡ true
binds_left [] vs x h = absurd (cc)
binds_left (u ∷ us) vs x h =
    elim (either (bytes_eq u.0 x) (binds us x) h)
    [ inl a ↦ or_left (bytes_eq u.0 x) (binds (us ++ vs) x) a | inr b ↦ or_right (bytes_eq u.0 x) (binds (us ++ vs) x) (binds_left us vs x b.1) ]

pub binds_right : (us vs : Environment) (x : List ℕ) → binds vs x ≡ true → binds (us ++ vs) x ≡ true
binds_right [] vs x h = h
binds_right (u ∷ us) vs x h = or_right (bytes_eq u.0 x) (binds (us ++ vs) x) (binds_right us vs x h)

-- what a bound variable has
pub binds_some : (vs : Environment) (x : List ℕ) → binds vs x ≡ true → (d : Document) × (looked_up vs x ≡ Some d)
binds_some [] x h = absurd (cc)
binds_some (v ∷ vs) x h = go (bytes_eq v.0 x) h (λ k. binds_some vs x k)
  where
    go : (b : Bool) → (b || binds vs x) ≡ true → (binds vs x ≡ true → (d : Document) × (looked_up vs x ≡ Some d)) →
        (d : Document) × (cond b (Some v.1) (looked_up vs x) ≡ Some d)
    go true k rec = (v.1, refl)
    go false k rec = rec k

pub looked_up-binds : (vs : Environment) (x : List ℕ) (d : Document) → looked_up vs x ≡ Some d → binds vs x ≡ true
looked_up-binds [] x d h = absurd (cc)
looked_up-binds (v ∷ vs) x d h = go (bytes_eq v.0 x) h (λ k. looked_up-binds vs x d k)
  where
    go : (b : Bool) → cond b (Some v.1) (looked_up vs x) ≡ Some d → (looked_up vs x ≡ Some d → binds vs x ≡ true) → (b || binds vs x) ≡ true
    go true k rec = refl
    go false k rec = rec k

-- it is bound where it was looked up
pub looked_up-split : (us vs : Environment) (x : List ℕ) (d : Document) → looked_up (us ++ vs) x ≡ Some d →
    ((binds us x ≡ true) × (looked_up us x ≡ Some d)) ⊎ ((binds us x ≡ false) × (looked_up vs x ≡ Some d))
looked_up-split [] vs x d h = inr (refl, h)
looked_up-split (u ∷ us) vs x d h = go (bytes_eq u.0 x) h (λ k. looked_up-split us vs x d k)
  where
    go : (b : Bool) → cond b (Some u.1) (looked_up (us ++ vs) x) ≡ Some d →
        (looked_up (us ++ vs) x ≡ Some d → ((binds us x ≡ true) × (looked_up us x ≡ Some d)) ⊎ ((binds us x ≡ false) × (looked_up vs x ≡ Some d))) →
        (((b || binds us x) ≡ true) × (cond b (Some u.1) (looked_up us x) ≡ Some d)) ⊎ (((b || binds us x) ≡ false) × (looked_up vs x ≡ Some d))
    go true k rec = inl (refl, k)
    go false k rec = rec k

same_binding : (v : List ℕ × Document) (y : List ℕ) (d : Document) → v.0 ≡ y → v.1 ≡ d → v ≡ (y, d)
same_binding v y d e f = ap (λ z. (z, v.1)) e ∙ ap (λ c. (y, c)) f

pub looked_up-among : (vs : Environment) (x : List ℕ) (d : Document) → looked_up vs x ≡ Some d → IsOneOf (x, d) vs
looked_up-among [] x d h = absurd (cc)
looked_up-among (v ∷ vs) x d h = go (bytes_eq v.0 x) refl h (λ k. looked_up-among vs x d k)
  where
    go : (b : Bool) → bytes_eq v.0 x ≡ b → cond b (Some v.1) (looked_up vs x) ≡ Some d → (looked_up vs x ≡ Some d → IsOneOf (x, d) vs) → IsOneOf (x, d) (v ∷ vs)
    go true e k rec = let n : v.0 ≡ x = same_word_eq v.0 x e in let m : v.1 ≡ d = cc in inl (same_binding v x d n m)
    go false e k rec = inr (rec k)

pub proper_among : (vs : Environment) (x : List ℕ) (d : Document) → AreProper vs → IsOneOf (x, d) vs → is_proper d ≡ true
proper_among [] x d a m = absurd m
proper_among (v ∷ vs) x d a (inl e) = ap (λ q. is_proper q.1) (sym e) ∙ a.0
proper_among (v ∷ vs) x d a (inr m) = proper_among vs x d a.1 m

-- Only the pattern's variables are bound.

-- what names stand for has no binders
abbrev pub BindNothing : Definitions → Type 0
BindNothing E = (x : List ℕ) (T : Tree) → body E x ≡ Some T → IsProperTree false T

both_none : (us vs : Environment) → us ≡ [] → vs ≡ [] → us ++ vs ≡ []
both_none us vs a b = rw (a, b) refl

pub none_bound : (E : Definitions) → BindNothing E → {T : Tree} {d : Document} {w : Way} → IsWay E T d w → IsProperTree false T → w.bindings ≡ []
none_bound E n way_empty p = refl
none_bound E n way_text p = refl
none_bound E n (way_words h) p = refl
none_bound E n (way_name {x = x} {T = T} e h) p = none_bound E n h (n x T e)
none_bound E n (way_elem c h e) p = none_bound E n h p.1
none_bound E n (way_seq {v = v} {w = w} h k) p = both_none v.bindings w.bindings (none_bound E n h p.0) (none_bound E n k p.1)
none_bound E n (way_left h) p = none_bound E n h p.0
none_bound E n (way_right h) p = none_bound E n h p.1
none_bound E n way_no_turn p = refl
none_bound E n (way_turn {v = v} {w = w} h k) p = both_none v.bindings w.bindings (none_bound E n h p) (none_bound E n k p)
none_bound E n (way_plus {v = v} {w = w} h k) p = both_none v.bindings w.bindings (none_bound E n h p) (none_bound E n k p)
none_bound E n way_absent p = refl
none_bound E n (way_present h) p = none_bound E n h p
none_bound E n (way_val h) p = absurd (cc (p.0))

in_either : (xs ys : List (List ℕ)) (us vs : Environment) (x : List ℕ) → (binds us x ≡ true → has_word xs x ≡ true) → (binds vs x ≡ true → has_word ys x ≡ true) →
    binds (us ++ vs) x ≡ true → has_word (xs ++ ys) x ≡ true
in_either xs ys us vs x f g h =
    elim (binds_split us vs x h) [ inl a ↦ has_word_left xs ys x (f a) | inr b ↦ has_word_right xs ys x (g b) ]

in_one : (xs : List (List ℕ)) (us vs : Environment) (x : List ℕ) → (binds us x ≡ true → has_word xs x ≡ true) → (binds vs x ≡ true → has_word xs x ≡ true) →
    binds (us ++ vs) x ≡ true → has_word xs x ≡ true
in_one xs us vs x f g h = elim (binds_split us vs x h) [ inl a ↦ f a | inr b ↦ g b ]

pub bound_in : (E : Definitions) → BindNothing E → {T : Tree} {d : Document} {w : Way} → IsWay E T d w → (x : List ℕ) → binds w.bindings x ≡ true →
    has_word (occurrences T) x ≡ true
bound_in E n way_empty x h = absurd (cc)
bound_in E n way_text x h = absurd (cc)
bound_in E n (way_words c) x h = absurd (cc)
bound_in E n (way_name {x = y} {T = T} {w = w} e k) x h =
    let i : w.bindings ≡ [] = none_bound E n k (n y T e) in
    let j : false ≡ true = subst (λ vs. binds vs x ≡ true) i h in absurd (cc)
bound_in E n (way_elem c k e) x h = bound_in E n k x h
bound_in E n (way_seq {T = T} {U = U} {v = v} {w = w} k l) x h =
    in_either (occurrences T) (occurrences U) v.bindings w.bindings x (λ a. bound_in E n k x a) (λ a. bound_in E n l x a) h
bound_in E n (way_left {T = T} {U = U} k) x h = has_word_left (occurrences T) (occurrences U) x (bound_in E n k x h)
bound_in E n (way_right {T = T} {U = U} k) x h = has_word_right (occurrences T) (occurrences U) x (bound_in E n k x h)
bound_in E n way_no_turn x h = absurd (cc)
bound_in E n (way_turn {T = T} {v = v} {w = w} k l) x h = in_one (occurrences T) v.bindings w.bindings x (λ a. bound_in E n k x a) (λ a. bound_in E n l x a) h
bound_in E n (way_plus {T = T} {v = v} {w = w} k l) x h = in_one (occurrences T) v.bindings w.bindings x (λ a. bound_in E n k x a) (λ a. bound_in E n l x a) h
bound_in E n way_absent x h = absurd (cc)
bound_in E n (way_present k) x h = bound_in E n k x h
bound_in E n (way_val {x = y} {T = T} {v = v} k) x h =
    elim (either (bytes_eq y x) (binds v.bindings x) h) [
      | inl a ↦ or_left (bytes_eq y x) (has_word (occurrences T) x) a
      | inr b ↦ or_right (bytes_eq y x) (has_word (occurrences T) x) (bound_in E n k x b.1)
    ]

pub only_variables : (E : Definitions) → BindNothing E → (A : PlacedTree) (d : Document) (w : Way) → IsWay E (unplaced A) d w →
    (x : List ℕ) → binds w.bindings x ≡ true → has_word (variables A) x ≡ true
only_variables E n A d w h x b = bound_in E n h x b
