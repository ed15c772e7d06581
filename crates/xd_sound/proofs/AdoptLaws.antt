-- Copies of the nodes that a node reaches.
use Rattle.std.proofs.Common.{◌≡◌, ℕ, zero, suc, ◌<◌, ◌≤◌, ⊎_elim, arith, true, false, ◌||◌, List, [], ◌∷◌, ◌++◌, map, length, take, drop, get_or, length-append, take-append-drop, append_assoc, refl, ap, sym, subst, ◌∙◌}
use Rattle.std.specs.List.{AllByRecursion, Contains}
use Rattle.std.specs.List.Sorted.{IsNonDecreasing}
use Rattle.std.proofs.lemmas.Bool.{cases_lt, le-ltb, lt-ltb}
use Rattle.std.proofs.lemmas.Grind.{get_or_default_zero}
use Rattle.std.proofs.Math.ListN.{get_or-append}
use Rattle.std.proofs.lemmas.List.{get_or-take, get_or_push, length_push, length-take-le}
use Rattle.std.proofs.lemmas.List.Elements.{Contains-get_or}
use Rattle.xd_syntax.specs.Tree.{Tree, Elem, Star, Plus, Opt, Val, seq_of, is_empty}
use Rattle.xd_syntax.specs.TreeForms.{alt_of, is_seq, is_alt}
use Rattle.xd_syntax.specs.TypeDepth.{depth}
use Rattle.xd_syntax.specs.ShallowTables.{AddsOne, AddsWithin}
use Rattle.xd_syntax.specs.Table.{Row, Form, empty_form, text_form, words_form, name_form, elem_form, seq_form, alt_form, star_form, plus_form, opt_form, val_form, form_tree, tree_at, AreBuilt, IsSeqPart, IsAltPart, CanFollow, KeepsRows}
use Rattle.xd_syntax.specs.Kept.{ProgramTable, AddsTypes}
use Rattle.xd_syntax.specs.Types.{type_numbers}
use Rattle.xd_syntax.specs.Nodes.{form_parts, parts_of}
use Rattle.xd_syntax.specs.SoundTables.{IsTypeAt}
use Rattle.xd_sound.specs.Adopt.{Reaches, itself, part, AreRising, AreReached, place_among, copy_from, copied_form}
use Rattle.xd_syntax.specs.declared.types.TypeId.{TypeId}
use Rattle.xd_syntax.proofs.Trees.{tree_kept}
use Rattle.xd_syntax.proofs.ShallowTables.{one_within, weaker_within, within_both}
use Rattle.xd_sound.proofs.Reached.{each_contained, contained_each, older_parts, reached_older, reached_within}
use Rattle.xd_syntax.proofs.NodeParts.{parts_seen}

abbrev pub IsCopied : (from into : List Row) → (ℕ → TypeId) → ℕ → Type 0
IsCopied from into copy i = IsTypeAt into (tree_at from i) (copy i)

-- ---- the form over copies
copied_parts : (from into : List Row) (copy : ℕ → TypeId) (is : List ℕ) → AllByRecursion (IsCopied from into copy) is →
    map (tree_at into) (type_numbers (map copy is)) ≡ map (tree_at from) is
copied_parts from into copy [] a = refl
copied_parts from into copy (i ∷ is) a =
    let e = (a.0).same in let k = copied_parts from into copy is a.1 in cc

pub copied_tree : (from into : List Row) (copy : ℕ → TypeId) (f : Form) → AllByRecursion (IsCopied from into copy) (form_parts f) →
    form_tree (tree_at into) (copied_form copy f) ≡ form_tree (tree_at from) f
copied_tree from into copy empty_form a = refl
copied_tree from into copy text_form a = refl
copied_tree from into copy (words_form w) a = refl
copied_tree from into copy (name_form w) a = refl
copied_tree from into copy (elem_form c i) a = ap (Elem c) (a.0).same
copied_tree from into copy (seq_form is) a = ap seq_of (copied_parts from into copy is a)
copied_tree from into copy (alt_form is) a = ap alt_of (copied_parts from into copy is a)
copied_tree from into copy (star_form i) a = ap Star (a.0).same
copied_tree from into copy (plus_form i) a = ap Plus (a.0).same
copied_tree from into copy (opt_form i) a = ap Opt (a.0).same
copied_tree from into copy (val_form x q i) a = ap (Val x) (a.0).same

length_copied : (copy : ℕ → TypeId) (is : List ℕ) → length (type_numbers (map copy is)) ≡ length is
length_copied copy [] = refl
length_copied copy (i ∷ is) = let e = length_copied copy is in omega arith

tree_front : (from : List Row) (n i : ℕ) → i < length (take n from) → n ≤ length from → tree_at (take n from) i ≡ tree_at from i
tree_front from n i h l = sym (tree_kept (take n from) (drop n from) i h) ∙ ap (λ rs. tree_at rs i) (take-append-drop n from)

-- the copies may follow, as the nodes themselves might
module _ (from into : List Row) (copy : ℕ → TypeId) (n : ℕ) (l : n ≤ length from) where
  seq_follow : (is : List ℕ) → AllByRecursion (IsCopied from into copy) is → AllByRecursion (IsSeqPart (take n from)) is → AllByRecursion (IsSeqPart into) (type_numbers (map copy is))
  seq_follow [] a p = tt
  seq_follow (i ∷ is) a p =
      (((a.0).belongs, subst (λ T. (is_seq T || is_empty T) ≡ false) (tree_front from n i (p.0).0 l ∙ sym (a.0).same) (p.0).1), seq_follow is a.1 p.1)

  alt_follow : (is : List ℕ) → AllByRecursion (IsCopied from into copy) is → AllByRecursion (IsAltPart (take n from)) is → AllByRecursion (IsAltPart into) (type_numbers (map copy is))
  alt_follow [] a p = tt
  alt_follow (i ∷ is) a p =
      (((a.0).belongs, subst (λ T. is_alt T ≡ false) (tree_front from n i (p.0).0 l ∙ sym (a.0).same) (p.0).1), alt_follow is a.1 p.1)

  pub copied_follows : (f : Form) → AllByRecursion (IsCopied from into copy) (form_parts f) → CanFollow false (take n from) f → CanFollow false into (copied_form copy f)
  copied_follows empty_form a p = tt
  copied_follows text_form a p = tt
  copied_follows (words_form w) a p = p
  copied_follows (name_form w) a p = p
  copied_follows (elem_form c i) a p = (a.0).belongs
  copied_follows (seq_form is) a p = let e = length_copied copy is in let h = p.0 in (omega arith, seq_follow is a p.1)
  copied_follows (alt_form is) a p = let e = length_copied copy is in let h = p.0 in (omega arith, alt_follow is a p.1)
  copied_follows (star_form i) a p = (a.0).belongs
  copied_follows (plus_form i) a p = (a.0).belongs
  copied_follows (opt_form i) a p = (a.0).belongs
  copied_follows (val_form x q i) a p = absurd (no p.0)
    where
      no : false ≡ true → ⊥
      no e = cc

-- a type stays in a table that grows
pub type_kept : (old new : List Row) (T : Tree) (id : TypeId) → KeepsRows old new → IsTypeAt old T id → IsTypeAt new T id
type_kept old new T id k a =
    let l = length-append old k.more in
    let b = a.belongs in
    let g = ap length k.grown in
    record {
      belongs = omega arith;
      same = ap (λ rs. tree_at rs id.at) k.grown ∙ tree_kept old k.more id.at a.belongs ∙ a.same;
    }

-- ---- places in a list that rises
pub place_is : (is : List ℕ) (x k : ℕ) → k ≤ length is → ((m : ℕ) → m < k → get_or is m 0 < x) → (k < length is → x ≤ get_or is k 0) → place_among is x ≡ k
place_is [] x k l below above = omega arith
place_is (i ∷ is) x zero l below above = let h = above (omega arith) in rw (le-ltb i x h) refl
place_is (i ∷ is) x (suc k) l below above =
    let h = below 0 (omega arith) in
    rw (lt-ltb i x h) (ap suc (place_is is x k (omega arith) (λ m b. below (suc m) (omega arith)) (λ b. above (omega arith))))

pub place_at : (is : List ℕ) → AreRising is → (k : ℕ) → k < length is → place_among is (get_or is k 0) ≡ k
place_at is rising k l = place_is is (get_or is k 0) k (omega arith) (λ m h. rising m k h l) (λ h. omega arith)

pub rising_sorted : (is : List ℕ) → AreRising is → IsNonDecreasing is
rising_sorted is rising i j d h l = ⊎_elim
    (λ (b : i < j). (let r = rising i j b l in let x = get_or_default_zero is i d (omega arith) in let y = get_or_default_zero is j d l in omega arith))
    (λ (b : j ≤ i). (let e : i ≡ j = omega arith in let q = ap (λ k. get_or is k d) e in omega arith))
    (cases_lt i j)

pub rising_front : (is : List ℕ) (k : ℕ) → k ≤ length is → AreRising is → AreRising (take k is)
rising_front is k l rising m n h b =
    let t = length-take-le k is l in
    rw (get_or-take k is m 0 (omega arith), get_or-take k is n 0 (omega arith)) (rising m n h (omega arith))

-- ---- copies, from the oldest on
abbrev pub no_type : TypeId
no_type = record { at = 0 }

-- the first ones are copied, and these are their copies
abbrev pub AreCopied : (from into : List Row) (is : List ℕ) → List TypeId → Type 0
AreCopied from into is copies = (m : ℕ) → m < length copies → IsTypeAt into (tree_at from (get_or is m 0)) (get_or copies m no_type)

-- the parts of the next one are copied
copy_ready : (from : List Row) (root : ℕ) (is : List ℕ) (k : ℕ) (into : List Row) (copies : List TypeId) → AreBuilt false from → root < length from → AreReached from root is → AreCopied from into is copies →
    k ≡ length copies → k < length is → AllByRecursion (IsCopied from into (copy_from copies (take k is))) (parts_of from (get_or is k 0))
copy_ready from root is k into copies built h reached done n l =
    let p = get_or is k 0 in
    let r : Reaches from root p = (reached.exact p).0 (Contains-get_or is k 0 l) in
    let o = reached_older false from root built h p r in
    let a = older_parts false from built p (omega arith) in
    each_contained (IsCopied from into (copy_from copies (take k is))) (parts_of from p)
    (λ j d. one j (contained_each (λ m. m < p) (parts_of from p) j a d) ((reached.exact j).1 (part p r d)))
  where
    earlier : (j m : ℕ) → j < get_or is k 0 → m < length is → get_or is m 0 ≡ j → m < k
    earlier j m low b e = ⊎_elim
        (λ (x : m < k). x)
        (λ (x : k ≤ m). absurd (⊎_elim
        (λ (y : k < m). (let z = reached.rising k m y b in omega arith))
        (λ (y : m ≤ k). (let q : k ≡ m = omega arith in let z = ap (λ n. get_or is n 0) q in omega arith))
        (cases_lt k m)))
        (cases_lt m k)

    one : (j : ℕ) → j < get_or is k 0 → Contains is j → IsCopied from into (copy_from copies (take k is)) j
    one j low c =
        let m : ℕ = c.0 in
        let e : get_or is m 0 ≡ j = sym (get_or_default_zero is m j c.1) ∙ c.2 in
        let b : m < k = earlier j m low c.1 e in
        let t = length-take-le k is (omega arith) in
        let q : place_among (take k is) j ≡ m = ap (place_among (take k is)) (sym (get_or-take k is m 0 b ∙ e)) ∙ place_at (take k is) (rising_front is k (omega arith) reached.rising) m (omega arith) in
        subst (λ i. IsTypeAt into (tree_at from i) (get_or copies (place_among (take k is) j) no_type)) e
        (subst (λ i. IsTypeAt into (tree_at from (get_or is m 0)) (get_or copies i no_type)) (sym q) (done m (omega arith)))

pub copy_inside : (from : List Row) (root : ℕ) (is : List ℕ) (k : ℕ) → AreBuilt false from → root < length from → AreReached from root is → k < length is → get_or is k 0 < length from
copy_inside from root is k built h reached l =
    let o = reached_older false from root built h (get_or is k 0) ((reached.exact (get_or is k 0)).0 (Contains-get_or is k 0 l)) in omega arith

-- its form may follow, over the copies of its parts, and stands for the same type, which is no
-- deeper than the whole
pub record IsReady (from : List Row) (root p : ℕ) (f : Form) (into : List Row) (copy : ℕ → TypeId) : Type 0 where
  pub follows : CanFollow false into (copied_form copy f)
  pub same : form_tree (tree_at into) (copied_form copy f) ≡ tree_at from p
  pub within : depth (tree_at from p) ≤ depth (tree_at from root)

pub is_ready : (from : List Row) (root : ℕ) (is : List ℕ) (k at : ℕ) (r : Row) (f : Form) (into : List Row) (copies : List TypeId) → AreBuilt false from → root < length from → AreReached from root is →
    AreCopied from into is copies → k ≡ length copies → k < length is → at ≡ get_or is k 0 → r ≡ get_or from at r → tree_at from at ≡ form_tree (tree_at from) r.form → CanFollow false (take at from) r.form → f ≡ r.form →
    IsReady from root (get_or is k 0) f into (copy_from copies (take k is))
is_ready from root is k at r f into copies built h reached done n l q row t m g =
    let p = get_or is k 0 in
    let copy = copy_from copies (take k is) in
    let inside = copy_inside from root is k built h reached l in
    let parts : parts_of from p ≡ form_parts r.form = ap (parts_of from) (sym q) ∙ parts_seen from at r row (omega arith) in
    let all : AllByRecursion (IsCopied from into copy) (form_parts r.form) = subst (AllByRecursion (IsCopied from into copy)) parts (copy_ready from root is k into copies built h reached done n l) in
    record {
      follows = subst (λ x. CanFollow false into (copied_form copy x)) (sym g) (copied_follows from into copy at (omega arith) r.form all m);
      same = ap (λ x. form_tree (tree_at into) (copied_form copy x)) g ∙ copied_tree from into copy r.form all ∙ sym t ∙ ap (tree_at from) q;
      within = reached_within false from root built h p ((reached.exact p).0 (Contains-get_or is k 0 l));
    }

-- nodes that are added one after the other, none deeper than the whole
pub within_more : (limit : ℕ) (old into new : List Row) (T U : Tree) → KeepsRows into new → AddsWithin limit old into → AddsOne U into new → U ≡ T → depth T ≤ limit → AddsWithin limit old new
within_more limit old into new T U keeps a one e d =
    within_both limit old into new keeps a (weaker_within (depth U) limit into new (let s = ap depth e in omega arith) (one_within U into new one))

-- the next one is copied
pub copy_goes_on : (from : List Row) (is : List ℕ) (k : ℕ) (id : TypeId) (into new : List Row) (copies : List TypeId) → AreCopied from into is copies → KeepsRows into new →
    IsTypeAt new (tree_at from (get_or is k 0)) id → k ≡ length copies → AreCopied from new is (copies ++ id ∷ [])
copy_goes_on from is k id into new copies done keeps made n m h = ⊎_elim
    (λ (l : m < k).
    (let s : m < length copies = omega arith in
    subst (IsTypeAt new (tree_at from (get_or is m 0))) (sym (get_or-append copies (id ∷ []) no_type m s)) (type_kept into new (tree_at from (get_or is m 0)) (get_or copies m no_type) keeps (done m s))))
    (λ (l : k ≤ m).
    (let t = length_push copies id in
    let q : k ≡ m = omega arith in
    subst (IsTypeAt new (tree_at from (get_or is m 0))) (sym (get_or_push copies id no_type m (sym n ∙ q))) (subst (λ i. IsTypeAt new (tree_at from (get_or is i 0)) id) q made)))
    (cases_lt m k)

-- all are copied
pub copy_ends : (from : List Row) (root : ℕ) (is : List ℕ) (into : List Row) (copies : List TypeId) → AreReached from root is → AreCopied from into is copies → length is ≤ length copies →
    IsTypeAt into (tree_at from root) (copy_from copies is root)
copy_ends from root is into copies reached done l =
    let c = (reached.exact root).1 itself in
    let m : ℕ = c.0 in
    let e : get_or is m 0 ≡ root = sym (get_or_default_zero is m root c.1) ∙ c.2 in
    let q : place_among is root ≡ m = ap (place_among is) (sym e) ∙ place_at is reached.rising m c.1 in
    let n = c.1 in
    subst (λ i. IsTypeAt into (tree_at from i) (get_or copies (place_among is root) no_type)) e
    (subst (λ i. IsTypeAt into (tree_at from (get_or is m 0)) (get_or copies i no_type)) (sym q) (done m (omega arith)))

pub AddsTypes-trans : (p q r : ProgramTable) → AddsTypes p q → AddsTypes q r → AddsTypes p r
AddsTypes-trans p q r a b = record {
  types = record {
    more = a.types.more ++ b.types.more;
    grown = b.types.grown ∙ ap (λ rs. rs ++ b.types.more) a.types.grown ∙ append_assoc p.types a.types.more b.types.more;
  };
  patterns = b.patterns ∙ a.patterns;
  exprs = b.exprs ∙ a.exprs;
  type_defs = b.type_defs ∙ a.type_defs;
  functions = b.functions ∙ a.functions;
}
