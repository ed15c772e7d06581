-- How deep the types of a table are that grows.
use Rattle.std.proofs.Common.{◌≡◌, ◌≤◌, ◌<◌, ℕ, Result, Ok, Err, IfOk, OnErr, List, [], ◌∷◌, ◌++◌, length, length-append, sym, ap, subst, ◌∙◌, inl, inr, arith}
use Rattle.xd_base.specs.declared.Place.{Place}
use Rattle.xd_doc.proofs.Numbers.{below_or_from}
use Rattle.xd_syntax.specs.Tree.{Tree}
use Rattle.xd_syntax.specs.TypeDepth.{depth}
use Rattle.xd_syntax.specs.Table.{Row, Form, KeepsRows, tree_at, form_tree}
use Rattle.xd_syntax.specs.ShallowTables.{AddsWithin, AddsOne, IsShallow}
use Rattle.xd_syntax.specs.Shallow.{nesting_limit}
use Rattle.xd_syntax.specs.declared.types.TypeId.{TypeId}
use Rattle.xd_syntax.proofs.Trees.{tree_kept, tree_new}

pub none_within : (limit : ℕ) (rs : List Row) → AddsWithin limit rs rs
none_within limit rs i h k = absurd (omega arith)

kept_depth : (limit : ℕ) (old new : List Row) (i : ℕ) → KeepsRows old new → i < length old → depth (tree_at old i) ≤ limit → depth (tree_at new i) ≤ limit
kept_depth limit old new i k h l = subst (λ (T : Tree). depth T ≤ limit) (sym (ap (λ (rs : List Row). tree_at rs i) k.grown ∙ tree_kept old k.more i h)) l

pub within_both : (limit : ℕ) (old middle new : List Row) → KeepsRows middle new → AddsWithin limit old middle → AddsWithin limit middle new → AddsWithin limit old new
within_both limit old middle new k a b i h l =
    elim (below_or_from i (length middle)) as (λ x. depth (tree_at new i) ≤ limit) [ inl below ↦ kept_depth limit middle new i k below (a i h below) | inr above ↦ b i above l ]

-- a shallow table stays so
pub shallow_grown : (old new : List Row) → KeepsRows old new → AddsWithin nesting_limit old new → IsShallow old → IsShallow new
shallow_grown old new k a s i l =
    elim (below_or_from i (length old)) as (λ x. depth (tree_at new i) ≤ nesting_limit) [ inl below ↦ kept_depth nesting_limit old new i k below (s i below) | inr above ↦ a i above l ]

pub weaker_within : (small limit : ℕ) (old new : List Row) → small ≤ limit → AddsWithin small old new → AddsWithin limit old new
weaker_within small limit old new h a i l k = let d = a i l k in omega arith

none_added : (T : Tree) (rs : List Row) → AddsOne T rs rs
none_added T rs = record { one = omega arith; same = λ i h k. absurd (omega arith) }

one_added : (rs : List Row) (r : Row) → AddsOne (form_tree (tree_at rs) r.form) rs (rs ++ r ∷ [])
one_added rs r =
    let l = length-append rs (r ∷ []) in
    record {
      one = omega arith;
      same = λ i h k. (let e : i ≡ length rs = omega arith in ap (tree_at (rs ++ r ∷ [])) e ∙ tree_new rs r);
    }

-- what a call adds that adds a node of this form, or nothing where it fails
pub adds_one : {E : Type 0} → (old new : List Row) (p : Place) (f : Form) (result : Result TypeId E) →
    IfOk result (λ (id : TypeId). new ≡ old ++ record { place = p; form = f } ∷ []) → OnErr result (new ≡ old) → AddsOne (form_tree (tree_at old) f) old new
adds_one old new p f (Ok id) h e = subst (AddsOne (form_tree (tree_at old) f) old) (sym h) (one_added old (record { place = p; form = f }))
adds_one old new p f (Err x) h e = subst (AddsOne (form_tree (tree_at old) f) old) (sym e) (none_added (form_tree (tree_at old) f) old)

pub one_within : (T : Tree) (old new : List Row) → AddsOne T old new → AddsWithin (depth T) old new
one_within T old new a i h k = let e : depth (tree_at new i) ≡ depth T = ap depth (a.same i h k) in omega arith

-- a shallow table stays so where a shallow type is added
pub shallow_one : (T : Tree) (old new : List Row) → KeepsRows old new → AddsOne T old new → depth T ≤ nesting_limit → IsShallow old → IsShallow new
shallow_one T old new k a d s = shallow_grown old new k (weaker_within (depth T) nesting_limit old new d (one_within T old new a)) s
