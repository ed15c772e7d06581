-- Nodes of a table are merged.
use Rattle.std.proofs.Common.{◌≡◌, ℕ, zero, suc, ◌+◌, ◌<◌, arith, true, false, List, [], ◌∷◌, map, length, take, drop, get_or, refl, ap, sym, subst, ◌∙◌}
use Rattle.std.specs.List.{AllByRecursion}
use Rattle.std.proofs.lemmas.List.{take-append-drop}
use Rattle.std.proofs.lemmas.Bool.{or_parts}
use Rattle.xd_syntax.specs.Tree.{Tree, seq_of, is_empty}
use Rattle.xd_syntax.specs.TreeForms.{alt_of, is_seq, is_alt}
use Rattle.xd_syntax.specs.PlacedTable.{the_start}
use Rattle.xd_syntax.specs.Table.{Row, Form, empty_form, text_form, words_form, name_form, elem_form, seq_form, alt_form, star_form, plus_form, opt_form, val_form, form_tree, tree_at, IsSeqPart, IsAltPart, CanFollow, PartsBelow, AreBuilt}
use Rattle.xd_syntax.proofs.Trees.{tree_kept, tree_is, parts_at, follows_at}
use Rattle.xd_syntax.proofs.ProperTrees.{tree_proper}
use Rattle.xd_syntax.proofs.PlacedTrees.{unplaced_at}
use Rattle.xd_syntax.specs.Proper.{IsProperTree}
use Rattle.xd_syntax.specs.ProperTables.{IsTable}
use Rattle.xd_syntax.specs.TypeText.{type_text}
use Rattle.xd_type_laws.specs.ReadBackLaws.{IsMerged, NodesReadBack}
use Rattle.xd_type_laws.proofs.TheLaw.{types_read_back, one_type}

abbrev IsPart : Tree → Type 0
IsPart T = (is_seq T ≡ false) × (is_empty T ≡ false) × IsMerged T

abbrev IsBranch : Tree → Type 0
IsBranch T = (is_alt T ≡ false) × IsMerged T

seq_filled : (T : Tree) (Ts : List Tree) → AllByRecursion IsPart (T ∷ Ts) → is_empty (seq_of (T ∷ Ts)) ≡ false
seq_filled T [] a = (a.0).1
seq_filled T (U ∷ Us) a = refl

seq_merged : (T : Tree) (Ts : List Tree) → AllByRecursion IsPart (T ∷ Ts) → IsMerged (seq_of (T ∷ Ts))
seq_merged T [] a = (a.0).2
seq_merged T (U ∷ Us) a = ((a.0).0, (a.0).1, seq_filled U Us a.1, (a.0).2, seq_merged U Us a.1)

alt_merged : (T : Tree) (Ts : List Tree) → AllByRecursion IsBranch (T ∷ Ts) → IsMerged (alt_of (T ∷ Ts))
alt_merged T [] a = (a.0).1
alt_merged T (U ∷ Us) a = ((a.0).0, (a.0).1, alt_merged U Us a.1)

module _ (rows : List Row) (j : ℕ) (below : (k : ℕ) → k < j → IsMerged (tree_at rows k)) where
  front_same : (k : ℕ) → k < length (take j rows) → tree_at rows k ≡ tree_at (take j rows) k
  front_same k h = ap (λ rs. tree_at rs k) (sym (take-append-drop j rows)) ∙ tree_kept (take j rows) (drop j rows) k h

  seq_part : (k : ℕ) → k < j → IsSeqPart (take j rows) k → IsPart (tree_at rows k)
  seq_part k h p =
      let e = front_same k p.0 in
      let r = or_parts _ _ p.1 in
      (ap is_seq e ∙ r.0, ap is_empty e ∙ r.1, below k h)

  alt_part : (k : ℕ) → k < j → IsAltPart (take j rows) k → IsBranch (tree_at rows k)
  alt_part k h p = (ap is_alt (front_same k p.0) ∙ p.1, below k h)

  seq_parts : (ks : List ℕ) → AllByRecursion (λ k. k < j) ks → AllByRecursion (IsSeqPart (take j rows)) ks → AllByRecursion IsPart (map (tree_at rows) ks)
  seq_parts [] a b = tt
  seq_parts (k ∷ ks) a b = (seq_part k a.0 b.0, seq_parts ks a.1 b.1)

  alt_parts : (ks : List ℕ) → AllByRecursion (λ k. k < j) ks → AllByRecursion (IsAltPart (take j rows)) ks → AllByRecursion IsBranch (map (tree_at rows) ks)
  alt_parts [] a b = tt
  alt_parts (k ∷ ks) a b = (alt_part k a.0 b.0, alt_parts ks a.1 b.1)

  form_merged : (f : Form) → CanFollow false (take j rows) f → PartsBelow j f → IsMerged (form_tree (tree_at rows) f)
  form_merged empty_form c p = tt
  form_merged text_form c p = tt
  form_merged (words_form w) c p = c
  form_merged (name_form w) c p = c
  form_merged (elem_form cl i) c p = below i p
  form_merged (seq_form []) c p = absurd (let h = c.0 in omega (arith, h))
  form_merged (seq_form (k ∷ ks)) c p = seq_merged (tree_at rows k) (map (tree_at rows) ks) (seq_parts (k ∷ ks) p c.1)
  form_merged (alt_form []) c p = absurd (let h = c.0 in omega (arith, h))
  form_merged (alt_form (k ∷ ks)) c p = alt_merged (tree_at rows k) (map (tree_at rows) ks) (alt_parts (k ∷ ks) p c.1)
  form_merged (star_form i) c p = below i p
  form_merged (plus_form i) c p = below i p
  form_merged (opt_form i) c p = below i p
  form_merged (val_form x q i) c p = absurd (let z : false ≡ true = c.0 in cc)

no_row : Row
no_row = record { place = the_start; form = empty_form }

node_merged : (rows : List Row) → AreBuilt false rows → (n i : ℕ) → i < n → i < length rows → IsMerged (tree_at rows i)
node_merged rows b zero i h l = absurd (omega (arith, h))
node_merged rows b (suc n) i h l =
    subst IsMerged (sym (tree_is false rows i no_row b l))
    (form_merged rows i (λ k lt. node_merged rows b n k (omega (arith, h, lt)) (omega (arith, l, lt))) (get_or rows i no_row).form (follows_at false rows i no_row b l) (parts_at false rows i no_row b l))

pub merged_node : (rows : List Row) → IsTable false rows → (i : ℕ) → i < length rows → IsMerged (tree_at rows i)
merged_node rows t i h = node_merged rows t.built (i + 1) i (omega arith) h

pub proper_node : (rows : List Row) → IsTable false rows → (i : ℕ) → i < length rows → IsProperTree false (tree_at rows i)
proper_node rows t i h = subst (IsProperTree false) (unplaced_at rows i) (tree_proper false rows t i h)

-- nodes of one text have equal types
pub one_node : (rows : List Row) → IsTable false rows → (i j : ℕ) → i < length rows → j < length rows → type_text (tree_at rows i) ≡ type_text (tree_at rows j) → tree_at rows i ≡ tree_at rows j
one_node rows t i j h k e =
    one_type (tree_at rows i) (tree_at rows j) (merged_node rows t i h) (proper_node rows t i h)
    (merged_node rows t j k) (proper_node rows t j k) e

pub nodes_read_back : NodesReadBack
nodes_read_back rows i t h = types_read_back (tree_at rows i) (merged_node rows t i h) (proper_node rows t i h)
