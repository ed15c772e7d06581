-- Tables of types that grow.
use Rattle.std.proofs.Common.{◌≡◌, ℕ, suc, zero, ◌<◌, ◌≤◌, arith, refl, sym, ap, ◌∙◌, subst, List, [], ◌∷◌, ◌++◌, map, length, take, drop, get_or, set, append-nil, true, false, Vec, Global}
use Rattle.std.proofs.lemmas.List.{take-append-drop}
use Rattle.std.specs.Prelude.{◌||◌}
use Rattle.std.specs.List.{AllByRecursion}
use Rattle.xd_syntax.specs.Tree.{Tree, is_empty, seq_of}
use Rattle.xd_syntax.specs.TreeForms.{is_seq, is_alt, alt_of}
use Rattle.xd_syntax.specs.Table.{Row, tree_at, form_tree, seq_form, alt_form, CanFollow, KeepsRows, IsSeqPart, IsAltPart}
use Rattle.xd_syntax.specs.Types.{BelongsTo, tree, type_numbers, form_of}
use Rattle.xd_syntax.specs.declared.types.TypeId.{TypeId}
use Rattle.xd_syntax.specs.declared.types.TypeForm.{TypeForm}
use Rattle.xd_syntax.specs.declared.types.TypeForm.TheVariants as F
use Rattle.xd_syntax.proofs.TableRows.{KeepsRows-trans, KeepsRows-length, KeepsRows-tree}
use Rattle.xd_same_types.specs.Grown.{GrowsTypes}
use Rattle.xd_same_types.specs.Same.{trees, AreSeqParts, AreAltParts}

pub keeps_refl : (rs : List Row) → GrowsTypes rs rs
keeps_refl rs = record { rows = record { more = []; grown = sym (append-nil rs) }; names = λ known h n. n }

pub keeps_then : (a b c : List Row) → GrowsTypes a b → GrowsTypes b c → GrowsTypes a c
keeps_then a b c k l = record { rows = KeepsRows-trans a b c k.rows l.rows; names = λ known h n. l.names known h (k.names known h n) }

pub kept_length : (a b : List Row) → GrowsTypes a b → length a ≤ length b
kept_length a b k = KeepsRows-length a b k.rows

pub kept_belongs : (a b : List Row) → GrowsTypes a b → (id : TypeId) → BelongsTo a id → BelongsTo b id
kept_belongs a b k id h = let l = kept_length a b k in omega arith

pub kept_at : (a b : List Row) → GrowsTypes a b → (i : ℕ) → i < length a → tree_at b i ≡ tree_at a i
kept_at a b k i h = KeepsRows-tree a b k.rows i h

pub kept_tree : (a b : List Row) → GrowsTypes a b → (id : TypeId) → BelongsTo a id → tree b id ≡ tree a id
kept_tree a b k id h = kept_at a b k id.at h

pub kept_trees : (a b : List Row) → GrowsTypes a b → (ids : List TypeId) → AllByRecursion (BelongsTo a) ids → trees b ids ≡ trees a ids
kept_trees a b k [] h = refl
kept_trees a b k (id ∷ ids) h = let e = kept_tree a b k id h.0 in let i = kept_trees a b k ids h.1 in cc

rows_seq_part : (a b : List Row) → KeepsRows a b → (id : TypeId) → IsSeqPart a id.at → IsSeqPart b id.at
rows_seq_part a b k id h =
    let l = KeepsRows-length a b k in
    (omega arith, ap (λ (T : Tree). is_seq T || is_empty T) (KeepsRows-tree a b k id.at h.0) ∙ h.1)

pub kept_seq_part : (a b : List Row) → GrowsTypes a b → (id : TypeId) → IsSeqPart a id.at → IsSeqPart b id.at
kept_seq_part a b k id h = rows_seq_part a b k.rows id h

rows_alt_part : (a b : List Row) → KeepsRows a b → (id : TypeId) → IsAltPart a id.at → IsAltPart b id.at
rows_alt_part a b k id h =
    let l = KeepsRows-length a b k in (omega arith, ap is_alt (KeepsRows-tree a b k id.at h.0) ∙ h.1)

pub kept_alt_part : (a b : List Row) → GrowsTypes a b → (id : TypeId) → IsAltPart a id.at → IsAltPart b id.at
kept_alt_part a b k id h = rows_alt_part a b k.rows id h

rows_seq_parts : (a b : List Row) → KeepsRows a b → (ids : List TypeId) → AreSeqParts a ids → AreSeqParts b ids
rows_seq_parts a b k [] h = tt
rows_seq_parts a b k (id ∷ ids) h = (rows_seq_part a b k id h.0, rows_seq_parts a b k ids h.1)

pub kept_seq_parts : (a b : List Row) → GrowsTypes a b → (ids : List TypeId) → AreSeqParts a ids → AreSeqParts b ids
kept_seq_parts a b k ids h = rows_seq_parts a b k.rows ids h

rows_alt_parts : (a b : List Row) → KeepsRows a b → (ids : List TypeId) → AreAltParts a ids → AreAltParts b ids
rows_alt_parts a b k [] h = tt
rows_alt_parts a b k (id ∷ ids) h = (rows_alt_part a b k id h.0, rows_alt_parts a b k ids h.1)

pub kept_alt_parts : (a b : List Row) → GrowsTypes a b → (ids : List TypeId) → AreAltParts a ids → AreAltParts b ids
kept_alt_parts a b k ids h = rows_alt_parts a b k.rows ids h

pub seq_belong : (a : List Row) (ids : List TypeId) → AreSeqParts a ids → AllByRecursion (BelongsTo a) ids
seq_belong a [] h = tt
seq_belong a (id ∷ ids) h = (h.0.0, seq_belong a ids h.1)

pub alt_belong : (a : List Row) (ids : List TypeId) → AreAltParts a ids → AllByRecursion (BelongsTo a) ids
alt_belong a [] h = tt
alt_belong a (id ∷ ids) h = (h.0.0, alt_belong a ids h.1)

-- the parts by their numbers
pub seq_numbers : (a : List Row) (ids : List TypeId) → AreSeqParts a ids → AllByRecursion (IsSeqPart a) (type_numbers ids)
seq_numbers a [] h = tt
seq_numbers a (id ∷ ids) h = (h.0, seq_numbers a ids h.1)

pub alt_numbers : (a : List Row) (ids : List TypeId) → AreAltParts a ids → AllByRecursion (IsAltPart a) (type_numbers ids)
alt_numbers a [] h = tt
alt_numbers a (id ∷ ids) h = (h.0, alt_numbers a ids h.1)

pub numbers_seq : (a : List Row) (ids : List TypeId) → AllByRecursion (IsSeqPart a) (type_numbers ids) → AreSeqParts a ids
numbers_seq a [] h = tt
numbers_seq a (id ∷ ids) h = (h.0, numbers_seq a ids h.1)

pub numbers_alt : (a : List Row) (ids : List TypeId) → AllByRecursion (IsAltPart a) (type_numbers ids) → AreAltParts a ids
numbers_alt a [] h = tt
numbers_alt a (id ∷ ids) h = (h.0, numbers_alt a ids h.1)

pub map_numbers : (t : ℕ → Tree) (ids : List TypeId) → map t (type_numbers ids) ≡ map (λ (id : TypeId). t id.at) ids
map_numbers t [] = refl
map_numbers t (id ∷ ids) = ap (λ ts. t id.at ∷ ts) (map_numbers t ids)

-- the tree of a sequence of parts
pub seq_tree : (rs : List Row) (ids : List TypeId) (T : Tree) → T ≡ form_tree (tree_at rs) (seq_form (type_numbers ids)) → seq_of (trees rs ids) ≡ T
seq_tree rs ids T e = ap seq_of (sym (map_numbers (tree_at rs) ids)) ∙ sym e

pub alt_tree : (rs : List Row) (ids : List TypeId) (T : Tree) → T ≡ form_tree (tree_at rs) (alt_form (type_numbers ids)) → alt_of (trees rs ids) ≡ T
alt_tree rs ids T e = ap alt_of (sym (map_numbers (tree_at rs) ids)) ∙ sym e

take_keeps : (rs : List Row) (i : ℕ) → KeepsRows (take i rs) rs
take_keeps rs i = record { more = drop i rs; grown = sym (take-append-drop i rs) }

-- the parts of a node may be parts
pub seq_pieces : (rs : List Row) (i : ℕ) (ids : List TypeId) → CanFollow false (take i rs) (seq_form (type_numbers ids)) → AreSeqParts rs ids
seq_pieces rs i ids h = rows_seq_parts (take i rs) rs (take_keeps rs i) ids (numbers_seq (take i rs) ids h.1)

pub alt_pieces : (rs : List Row) (i : ℕ) (ids : List TypeId) → CanFollow false (take i rs) (alt_form (type_numbers ids)) → AreAltParts rs ids
alt_pieces rs i ids h = rows_alt_parts (take i rs) rs (take_keeps rs i) ids (numbers_alt (take i rs) ids h.1)

pub numbers_count : (ids : List TypeId) → length (type_numbers ids) ≡ length ids
numbers_count [] = refl
numbers_count (id ∷ ids) = ap suc (numbers_count ids)

-- an alternative of two or more is one, and a sequence of two or more is one
alt_is : (t : ℕ → Tree) (is : List ℕ) → 2 ≤ length is → (is_alt (alt_of (map t is)) ≡ true) × ((is_seq (alt_of (map t is)) || is_empty (alt_of (map t is))) ≡ false)
alt_is t [] l = absurd (omega arith)
alt_is t (i ∷ []) l = absurd (omega arith)
alt_is t (i ∷ (j ∷ is)) l = (refl, refl)

seq_is : (t : ℕ → Tree) (is : List ℕ) → 2 ≤ length is → is_alt (seq_of (map t is)) ≡ false
seq_is t [] l = absurd (omega arith)
seq_is t (i ∷ []) l = absurd (omega arith)
seq_is t (i ∷ (j ∷ is)) l = refl

-- what is no sequence and not empty may be a part of one
pub other_seq_part : (rs : List Row) (id : TypeId) (f : TypeForm) → BelongsTo rs id → tree rs id ≡ form_tree (tree_at rs) (form_of f) → CanFollow false (take id.at rs) (form_of f) →
    (f ≡ F.Empty → ⊥) → ((ps : Vec TypeId Global) → f ≡ F.Seq ps → ⊥) → IsSeqPart rs id.at
other_seq_part rs id F.Empty b e c n s = absurd (n refl)
other_seq_part rs id F.Text b e c n s = (b, ap (λ (T : Tree). is_seq T || is_empty T) e)
other_seq_part rs id (F.Words w) b e c n s = (b, ap (λ (T : Tree). is_seq T || is_empty T) e)
other_seq_part rs id (F.Name w) b e c n s = (b, ap (λ (T : Tree). is_seq T || is_empty T) e)
other_seq_part rs id (F.Elem k i) b e c n s = (b, ap (λ (T : Tree). is_seq T || is_empty T) e)
other_seq_part rs id (F.Seq ps) b e c n s = absurd (s ps refl)
other_seq_part rs id (F.Alt ps) b e c n s = (b, ap (λ (T : Tree). is_seq T || is_empty T) e ∙ (alt_is (tree_at rs) (type_numbers ps.items) c.0).1)
other_seq_part rs id (F.Star i) b e c n s = (b, ap (λ (T : Tree). is_seq T || is_empty T) e)
other_seq_part rs id (F.Plus i) b e c n s = (b, ap (λ (T : Tree). is_seq T || is_empty T) e)
other_seq_part rs id (F.Opt i) b e c n s = (b, ap (λ (T : Tree). is_seq T || is_empty T) e)

-- what is no alternative may be a part of one
pub other_alt_part : (rs : List Row) (id : TypeId) (f : TypeForm) → BelongsTo rs id → tree rs id ≡ form_tree (tree_at rs) (form_of f) → CanFollow false (take id.at rs) (form_of f) →
    ((ps : Vec TypeId Global) → f ≡ F.Alt ps → ⊥) → IsAltPart rs id.at
other_alt_part rs id F.Empty b e c s = (b, ap is_alt e)
other_alt_part rs id F.Text b e c s = (b, ap is_alt e)
other_alt_part rs id (F.Words w) b e c s = (b, ap is_alt e)
other_alt_part rs id (F.Name w) b e c s = (b, ap is_alt e)
other_alt_part rs id (F.Elem k i) b e c s = (b, ap is_alt e)
other_alt_part rs id (F.Seq ps) b e c s = (b, ap is_alt e ∙ seq_is (tree_at rs) (type_numbers ps.items) c.0)
other_alt_part rs id (F.Alt ps) b e c s = absurd (s ps refl)
other_alt_part rs id (F.Star i) b e c s = (b, ap is_alt e)
other_alt_part rs id (F.Plus i) b e c s = (b, ap is_alt e)
other_alt_part rs id (F.Opt i) b e c s = (b, ap is_alt e)

pub trees_append : (rs : List Row) (xs ys : List TypeId) → trees rs (xs ++ ys) ≡ trees rs xs ++ trees rs ys
trees_append rs [] ys = refl
trees_append rs (x ∷ xs) ys = ap (λ ts. tree rs x ∷ ts) (trees_append rs xs ys)

pub last_split : {A : Type 0} (xs : List A) (n : ℕ) (x : A) → length xs ≡ suc n → x ≡ get_or xs n x → xs ≡ take n xs ++ x ∷ []
last_split [] n x l e = absurd (omega arith)
last_split (y ∷ []) zero x l e = ap (λ z. z ∷ []) (sym e)
last_split (y ∷ (z ∷ zs)) zero x l e = absurd (omega arith)
last_split (y ∷ []) (suc n) x l e = absurd (omega arith)
last_split (y ∷ (z ∷ zs)) (suc n) x l e =
    let m : length (z ∷ zs) ≡ suc n = omega arith in ap (λ ws. y ∷ ws) (last_split (z ∷ zs) n x m e)

pub trees_count : (rs : List Row) (ids : List TypeId) → length (trees rs ids) ≡ length ids
trees_count rs [] = refl
trees_count rs (id ∷ ids) = ap suc (trees_count rs ids)

pub some_trees : (rs : List Row) (ids : List TypeId) → 0 < length ids → 0 < length (trees rs ids)
some_trees rs ids l = subst (λ n. 0 < n) (sym (trees_count rs ids)) l

pub tree_got : (rs : List Row) (ids : List TypeId) (k : ℕ) (id : TypeId) → k < length ids → id ≡ get_or ids k id → tree rs id ≡ get_or (trees rs ids) k (tree rs id)
tree_got rs [] k id l e = absurd (omega arith)
tree_got rs (x ∷ xs) zero id l e = ap (tree rs) e
tree_got rs (x ∷ xs) (suc k) id l e = let m : k < length xs = omega arith in tree_got rs xs k id m e

pub trees_set : (rs : List Row) (ids : List TypeId) (k : ℕ) (id : TypeId) → trees rs (set ids k id) ≡ set (trees rs ids) k (tree rs id)
trees_set rs [] k id = refl
trees_set rs (x ∷ xs) zero id = refl
trees_set rs (x ∷ xs) (suc k) id = ap (λ ts. tree rs x ∷ ts) (trees_set rs xs k id)
