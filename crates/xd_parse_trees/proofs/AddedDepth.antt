-- How deep the nodes are that are added.
use Rattle.std.proofs.Common.{◌≡◌, ◌≤◌, ◌<◌, ℕ, ◌+◌, Bool, true, false, cond, List, [], ◌∷◌, length, refl, sym, subst, arith}
use Rattle.xd_base.specs.declared.Place.{Place}
use Rattle.xd_doc.specs.Classes.{LabelClass}
use Rattle.xd_syntax.specs.Tree.{Tree, is_empty}
use Rattle.xd_syntax.specs.TypeDepth.{depth}
use Rattle.xd_syntax.specs.Table.{Row, KeepsRows}
use Rattle.xd_syntax.specs.Placed.{PlacedTree, Empty_at, Text_at, Words_at, Name_at, Elem_at, Seq_at, Alt_at, Star_at, Plus_at, Opt_at, Val_at, unplaced}
use Rattle.xd_syntax.specs.PlacedTable.{placed_at}
use Rattle.xd_syntax.proofs.PlacedTrees.{unplaced_at}
use Rattle.xd_grammar.specs.declared.grammar.Terminal.{Terminal}
use Rattle.xd_grammar.specs.declared.grammar.Terminal.TheVariants as t
use Rattle.xd_grammar.specs.declared.grammar.Sort.{Sort}
use Rattle.xd_grammar.specs.declared.grammar.Nonterminal.TheVariants as n
use Rattle.xd_parse_trees.specs.Values.{Value, mark, absent, a_tree, value_of, repeated}
use Rattle.xd_syntax.specs.ShallowTables.{AddsWithin}
use Rattle.xd_syntax.proofs.ShallowTables.{none_within, within_both}
use Rattle.xd_parse_trees.specs.Shallow.{NoDeeper, TreeWithin}
use Rattle.xd_parse_trees.proofs.Depth.{any_depth, prim_depth, up_seq, up_post, up_prim}

-- ---- nodes that are added one after the other

-- nodes of one tree
pub only_within : (limit : ℕ) (old new : List Row) (T : PlacedTree) → ((j : ℕ) → length old ≤ j → j < length new → placed_at new j ≡ T) → TreeWithin T limit → AddsWithin limit old new
only_within limit old new T only l j h k = subst (λ (U : Tree). depth U ≤ limit) (unplaced_at new j) (subst (λ (U : PlacedTree). TreeWithin U limit) (sym (only j h k)) l)

pub none_deeper : (within : ℕ → Type 0) (rs : List Row) → NoDeeper within rs rs
none_deeper within rs limit o h = none_within limit rs

pub deeper_both : (here there within : ℕ → Type 0) (old middle new : List Row) → KeepsRows middle new → ((limit : ℕ) → 1 ≤ limit → within limit → here limit) → ((limit : ℕ) → 1 ≤ limit → within limit → there limit) →
    NoDeeper here old middle → NoDeeper there middle new → NoDeeper within old new
deeper_both here there within old middle new k f g a b limit o h = within_both limit old middle new k (a limit o (f limit o h)) (b limit o (g limit o h))

-- ---- a tree that others are part of
abbrev pub IsIn : PlacedTree → PlacedTree → Type 0
IsIn T U = (limit : ℕ) → 1 ≤ limit → TreeWithin U limit → TreeWithin T limit

within_prim : (limit : ℕ) (T : PlacedTree) → prim_depth T ≤ limit → any_depth T ≤ limit
within_prim limit T h = let a = up_seq T in let b = up_post T in let c = up_prim T in omega arith

content_by : (limit : ℕ) (T : PlacedTree) (b : Bool) → is_empty (unplaced T) ≡ b → 1 ≤ limit → cond b 0 (any_depth T) + 1 ≤ limit → any_depth T ≤ limit
content_by limit (Empty_at p) b e o h = o
content_by limit (Text_at p) b e o h = omega arith
content_by limit (Words_at p w) true e o h = cc
content_by limit (Words_at p w) false e o h = omega arith
content_by limit (Name_at p x) b e o h = omega arith
content_by limit (Elem_at p c T) true e o h = cc
content_by limit (Elem_at p c T) false e o h = omega arith
content_by limit (Seq_at p T U) true e o h = cc
content_by limit (Seq_at p T U) false e o h = omega arith
content_by limit (Alt_at p T U) true e o h = cc
content_by limit (Alt_at p T U) false e o h = omega arith
content_by limit (Star_at p T) true e o h = cc
content_by limit (Star_at p T) false e o h = omega arith
content_by limit (Plus_at p T) true e o h = cc
content_by limit (Plus_at p T) false e o h = omega arith
content_by limit (Opt_at p T) true e o h = cc
content_by limit (Opt_at p T) false e o h = omega arith
content_by limit (Val_at p x q T) true e o h = cc
content_by limit (Val_at p x q T) false e o h = omega arith

pub content_in : (p : Place) (c : LabelClass) (T : PlacedTree) → IsIn T (Elem_at p c T)
content_in p c T limit o h = content_by limit T (is_empty (unplaced T)) refl o h

pub bound_in : (p q : Place) (x : List ℕ) (T : PlacedTree) → IsIn T (Val_at p x q T)
bound_in p q x T limit o h = h

pub repeated_in : (k : Terminal) (T : PlacedTree) → IsIn T (repeated k T)
repeated_in t.Star T limit o h = within_prim limit T h
repeated_in t.Plus T limit o h = within_prim limit T h
repeated_in k T limit o h = within_prim limit T h

tree_is : (T U : PlacedTree) → a_tree T ≡ a_tree U → T ≡ U
tree_is T U e = cc

same_in : (S T U : PlacedTree) → IsIn S T → T ≡ U → IsIn S U
same_in S T U h e = subst (λ (V : PlacedTree). IsIn S V) e h

-- a part is no deeper than what it is with its operator
pub operator_in : (s : Sort) (T U : PlacedTree) (v : Value) → value_of (n.Post s) (a_tree T ∷ (v ∷ [])) ≡ a_tree U → IsIn T U
operator_in s T U (mark k p) e = same_in T (repeated k T) U (repeated_in k T) (tree_is (repeated k T) U e)
operator_in s T U absent e = same_in T T U (λ limit o h. h) (tree_is T U e)
operator_in s T U v e = cc
