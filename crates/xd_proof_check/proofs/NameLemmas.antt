-- Sets of names that grow.
use Rattle.std.proofs.Common.{◌≡◌, ℕ, ◌<◌, Bool, true, false, cond, ◌||◌, nat_eq, List, [], ◌∷◌, ◌++◌, flat_map, length, take, get_or, ◌+◌, append-nil, refl, ap, sym, subst, ◌∙◌}
use Rattle.std.specs.List.{list_any}
use Rattle.std.specs.List.Sorted.{IsStrictlySortedBy}
use Rattle.std.specs.Ordering.{nat_cmp, is_eq}
use Rattle.std.specs.BTreeMap.{is_at}
use Rattle.std.specs.Cmp.Lexicographic.{pointwise, slice_cmp, nat_list_eq_equiv}
use Rattle.std.proofs.lemmas.List.{take_more}
use Rattle.std.proofs.lemmas.List.Folds.{list_any-append}
use Rattle.std.proofs.lemmas.Map.Text.{is_eq-slice_cmp}
use Rattle.std.proofs.lemmas.Grind.{flat_map-append}
use Rattle.xd_doc.specs.Classes.{is_named}
use Rattle.xd_doc.proofs.Bools.{or_join}
use Rattle.xd_doc.proofs.Lists.{map_append}
use Rattle.xd_doc.specs.ByteOrder.{in_byte_order}
use Rattle.xd_rules.specs.Heads.{HeadKind}
use Rattle.xd_heads.specs.HeadList.{kind_at}
use Rattle.xd_heads.specs.declared.lister.NumberedHead.{NumberedHead}
use Rattle.xd_proof_check.specs.Atoms.{kinds_of}
use Rattle.xd_proof_check.specs.Names.{AddsNames}
use Rattle.xd_rules.proofs.NamesInOrder.{sorted_is}

or_none : (b : Bool) → b ≡ (b || false)
or_none true = refl
or_none false = refl

pub adds_none : (names : List (List ℕ)) → AddsNames names [] names
adds_none names l = or_none (is_named names l)

pub adds_then : (a b c xs ys : List (List ℕ)) → AddsNames a xs b → AddsNames b ys c → AddsNames a (xs ++ ys) c
adds_then a b c xs ys h k l =
    k l ∙ ap (λ t. t || is_named ys l) (h l) ∙ or_join (is_named a l) (is_named xs l) (is_named ys l)
    ∙ ap (λ t. is_named a l || t) (sym (list_any-append (λ name. pointwise nat_eq name l) xs ys))

-- a set has the names that its keys are
keys_have : (w : List ℕ) (ks : List (List ℕ)) → list_any (is_at (slice_cmp nat_cmp w)) ks ≡ is_named ks w
keys_have w [] = refl
keys_have w (k ∷ ks) =
    let a : is_eq (slice_cmp nat_cmp w k) ≡ pointwise nat_eq k w = is_eq-slice_cmp w k ∙ nat_list_eq_equiv.symm w k in
    let b = keys_have w ks in
    rw (a, b) refl

cond_last : (b c : Bool) → cond b true c ≡ (c || (b || false))
cond_last true true = refl
cond_last true false = refl
cond_last false true = refl
cond_last false false = refl

-- after an insertion
pub adds_one : (v : List ℕ) (old new : List (List ℕ)) →
    ((w : List ℕ) → list_any (is_at (slice_cmp nat_cmp w)) new ≡ cond (is_at (slice_cmp nat_cmp v) w) true (list_any (is_at (slice_cmp nat_cmp w)) old)) → AddsNames old (v ∷ []) new
adds_one v old new u l =
    sym (keys_have l new) ∙ u l ∙ cond_last (is_eq (slice_cmp nat_cmp v l)) (list_any (is_at (slice_cmp nat_cmp l)) old)
    ∙ ap (λ b. list_any (is_at (slice_cmp nat_cmp l)) old || (b || false)) (is_eq-slice_cmp v l)
    ∙ ap (λ b. b || (pointwise nat_eq v l || false)) (keys_have l old)

-- one more of these names
pub adds_next : (a b c xs : List (List ℕ)) (i : ℕ) (x : List ℕ) → i < length xs → x ≡ get_or xs i x → AddsNames a (take i xs) b → AddsNames b (x ∷ []) c → AddsNames a (take (i + 1) xs) c
adds_next a b c xs i x h e k m =
    subst (λ ys. AddsNames a ys c) (sym (take_more xs i x h))
    (adds_then a b c (take i xs) (get_or xs i x ∷ []) k (subst (λ y. AddsNames b (y ∷ []) c) e m))

flat_one : (f : HeadKind → List (List ℕ)) (hs : List NumberedHead) (h : NumberedHead) → flat_map f (kinds_of (hs ++ h ∷ [])) ≡ flat_map f (kinds_of hs) ++ f (kind_at h.kind)
flat_one f hs h =
    ap (flat_map f) (map_append (λ (x : NumberedHead). kind_at x.kind) hs (h ∷ []))
    ∙ flat_map-append f (kinds_of hs) (kind_at h.kind ∷ [])
    ∙ ap (λ ns. flat_map f (kinds_of hs) ++ ns) (append-nil (f (kind_at h.kind)))

-- what one more head names
pub adds_head : (f : HeadKind → List (List ℕ)) (a b c : List (List ℕ)) (hs : List NumberedHead) (i : ℕ) (x : NumberedHead) → i < length hs → x ≡ get_or hs i x → AddsNames a (flat_map f (kinds_of (take i hs))) b →
    AddsNames b (f (kind_at x.kind)) c → AddsNames a (flat_map f (kinds_of (take (i + 1) hs))) c
adds_head f a b c hs i x h e k m =
    subst (λ ns. AddsNames a ns c) (sym (ap (λ xs. flat_map f (kinds_of xs)) (take_more hs i x h) ∙ flat_one f (take i hs) (get_or hs i x)))
    (adds_then a b c (flat_map f (kinds_of (take i hs))) (f (kind_at (get_or hs i x).kind)) k (subst (λ (y : NumberedHead). AddsNames b (f (kind_at y.kind)) c) e m))

-- what the heads of both sides name
pub both_named : (f : HeadKind → List (List ℕ)) (old mid new : List (List ℕ)) (ks js : List HeadKind) → old ≡ [] → AddsNames old (flat_map f ks) mid → AddsNames mid (flat_map f js) new →
    (names : List (List ℕ)) → IsStrictlySortedBy (λ x y. slice_cmp nat_cmp x y) names → ((l : List ℕ) → is_named names l ≡ is_named new l) → names ≡ in_byte_order (flat_map f (ks ++ js))
both_named f old mid new ks js a b c names s h =
    sorted_is (flat_map f ks ++ flat_map f js) names (record {
      order = s;
      same = λ l. h l ∙ adds_then old mid new (flat_map f ks) (flat_map f js) b c l ∙ ap (λ xs. is_named xs l || is_named (flat_map f ks ++ flat_map f js) l) a;
    })
    ∙ ap in_byte_order (sym (flat_map-append f ks js))
