-- Each way of a linear pattern binds each of its variables.
use Rattle.std.proofs.Common.{◌≡◌, ℕ, Bool, true, false, not, cond, ◌||◌, inl, inr, List, [], ◌∷◌, ◌++◌, refl, ap, sym, subst}
use Rattle.std.specs.Str.{bytes_eq}
use Rattle.std.proofs.lemmas.Bool.{or_left, or_right}
use Rattle.xd_base.specs.declared.Place.{Place}
use Rattle.xd_doc.specs.Document.{Document}
use Rattle.xd_doc.proofs.Bools.{and_parts, not_both}
use Rattle.xd_doc.proofs.Lists.{append_none_parts}
use Rattle.xd_syntax.specs.Words.{has_word}
use Rattle.xd_syntax.specs.Tree.{Tree, Alt, Definitions}
use Rattle.xd_syntax.specs.Placed.{PlacedTree, Empty_at, Text_at, Words_at, Name_at, Elem_at, Seq_at, Alt_at, Star_at, Plus_at, Opt_at, Val_at, unplaced, variables}
use Rattle.xd_syntax.specs.Ways.{Way}
use Rattle.xd_syntax.specs.NameFaults.{fault_if, without, lacking_somewhere, in_each_branch}
use Rattle.xd_syntax.specs.NotLinear.{not_linear}
use Rattle.xd_syntax.specs.declared.fault.FaultKind.{FaultKind}
use Rattle.xd_syntax.specs.declared.fault.FaultKind.TheVariants.{NotLinear}
use Rattle.xd_laws.proofs.Unfoldings.{same_word_eq}
use Rattle.xd_laws.proofs.WordLists.{either, has_word_left, has_word_right, has_word_split, has_word_kept}
use Rattle.xd_laws.proofs.WayShapes.{IsWay, way_elem, way_seq, way_left, way_right, way_val}
use Rattle.xd_laws.proofs.BoundVariables.{binds, binds_left, binds_right}

pub no_fault_if : (b : Bool) (p : Place) (k : FaultKind) → fault_if b p k ≡ [] → b ≡ false
no_fault_if true p k e = absurd (cc)
no_fault_if false p k e = refl

-- under a repetition nothing is bound
repeated_none : (earlier partial : List (List ℕ)) (inner : Bool) (A : PlacedTree) → not_linear true earlier partial inner A ≡ [] → variables A ≡ []
repeated_none earlier partial inner (Empty_at p) e = refl
repeated_none earlier partial inner (Text_at p) e = refl
repeated_none earlier partial inner (Words_at p w) e = refl
repeated_none earlier partial inner (Name_at p x) e = refl
repeated_none earlier partial inner (Elem_at p c T) e = repeated_none earlier partial false T e
repeated_none earlier partial inner (Seq_at p T U) e =
    let h = append_none_parts (not_linear true earlier partial false T) (not_linear true (variables T ++ earlier) (without (variables T) partial) false U) e in
    rw (repeated_none earlier partial false T h.0, repeated_none (variables T ++ earlier) (without (variables T) partial) false U h.1) refl
repeated_none earlier partial inner (Alt_at p T U) e =
    let lacked : List (List ℕ) = cond inner partial (lacking_somewhere (Alt_at p T U) ++ partial) in
    let h = append_none_parts (not_linear true earlier lacked false T) (not_linear true earlier (without (variables T) lacked) true U) e in
    rw (repeated_none earlier lacked false T h.0, repeated_none earlier (without (variables T) lacked) true U h.1) refl
repeated_none earlier partial inner (Star_at p T) e = repeated_none earlier partial false T e
repeated_none earlier partial inner (Plus_at p T) e = repeated_none earlier partial false T e
repeated_none earlier partial inner (Opt_at p T) e = repeated_none earlier partial false T e
repeated_none earlier partial inner (Val_at p x q T) e = absurd (cc)

-- a word that isn't among the first stays
pub left_without : (gone xs : List (List ℕ)) (x : List ℕ) → has_word xs x ≡ true → has_word gone x ≡ false → has_word (without gone xs) x ≡ true
left_without gone xs x h k = has_word_kept (λ y. not (has_word gone y)) xs x h (ap not k)

lacked_has : (inner : Bool) (more partial : List (List ℕ)) (x : List ℕ) → has_word partial x ≡ true → has_word (cond inner partial (more ++ partial)) x ≡ true
lacked_has true more partial x h = h
lacked_has false more partial x h = has_word_right more partial x h

-- no variable occurs first where a branch lacks it
not_partial : (r : Bool) (earlier partial : List (List ℕ)) (inner : Bool) (A : PlacedTree) (x : List ℕ) → not_linear r earlier partial inner A ≡ [] →
    has_word partial x ≡ true → has_word (variables A) x ≡ true → ⊥
not_partial r earlier partial inner (Empty_at p) x e h k = cc
not_partial r earlier partial inner (Text_at p) x e h k = cc
not_partial r earlier partial inner (Words_at p w) x e h k = cc
not_partial r earlier partial inner (Name_at p y) x e h k = cc
not_partial r earlier partial inner (Elem_at p c T) x e h k = not_partial r earlier partial false T x e h k
not_partial r earlier partial inner (Seq_at p T U) x e h k =
    let n = append_none_parts (not_linear r earlier partial false T) (not_linear r (variables T ++ earlier) (without (variables T) partial) false U) e in
    elim (has_word_split (variables T) (variables U) x k) [
      | inl a ↦ not_partial r earlier partial false T x n.0 h a
      | inr b ↦ not_partial r (variables T ++ earlier) (without (variables T) partial) false U x n.1 (left_without (variables T) partial x h b.0) b.1
    ]
not_partial r earlier partial inner (Alt_at p T U) x e h k =
    let lacked : List (List ℕ) = cond inner partial (lacking_somewhere (Alt_at p T U) ++ partial) in
    let l : has_word lacked x ≡ true = lacked_has inner (lacking_somewhere (Alt_at p T U)) partial x h in
    let n = append_none_parts (not_linear r earlier lacked false T) (not_linear r earlier (without (variables T) lacked) true U) e in
    elim (has_word_split (variables T) (variables U) x k) [
      | inl a ↦ not_partial r earlier lacked false T x n.0 l a
      | inr b ↦ not_partial r earlier (without (variables T) lacked) true U x n.1 (left_without (variables T) lacked x l b.0) b.1
    ]
not_partial r earlier partial inner (Star_at p T) x e h k = not_partial true earlier partial false T x e h k
not_partial r earlier partial inner (Plus_at p T) x e h k = not_partial true earlier partial false T x e h k
not_partial r earlier partial inner (Opt_at p T) x e h k = not_partial true earlier partial false T x e h k
not_partial r earlier partial inner (Val_at p y q T) x e h k =
    let n = append_none_parts (fault_if (r || (has_word earlier y || has_word partial y)) q (NotLinear y)) (not_linear r (y ∷ earlier) (without (y ∷ []) partial) false T) e in
    elim (either (bytes_eq y x) (has_word (variables T) x) k) [
      | inl a ↦
          let s : has_word partial y ≡ true = subst (λ z. has_word partial z ≡ true) (sym (same_word_eq y x a)) h in
          not_both (r || (has_word earlier y || has_word partial y))
          (or_right r (has_word earlier y || has_word partial y) (or_right (has_word earlier y) (has_word partial y) s))
          (no_fault_if (r || (has_word earlier y || has_word partial y)) q (NotLinear y) n.0)
      | inr b ↦
          let s : has_word (y ∷ []) x ≡ false = ap (λ t. t || false) b.0 in
          not_partial r (y ∷ earlier) (without (y ∷ []) partial) false T x n.1 (left_without (y ∷ []) partial x h s) b.1
    ]

-- the branches of an alternative that lacks the variable somewhere
branch_partial : (r : Bool) (earlier lacked : List (List ℕ)) (T U : PlacedTree) (x : List ℕ) →
    not_linear r earlier lacked false T ++ not_linear r earlier (without (variables T) lacked) true U ≡ [] →
    has_word lacked x ≡ true → has_word (variables T ++ variables U) x ≡ true → ⊥
branch_partial r earlier lacked T U x e h k =
    let n = append_none_parts (not_linear r earlier lacked false T) (not_linear r earlier (without (variables T) lacked) true U) e in
    elim (has_word_split (variables T) (variables U) x k) [
      | inl a ↦ not_partial r earlier lacked false T x n.0 h a
      | inr b ↦ not_partial r earlier (without (variables T) lacked) true U x n.1 (left_without (variables T) lacked x h b.0) b.1
    ]

-- in a linear pattern each branch of an alternative has each variable of the alternative
each_branch : (r : Bool) (earlier partial : List (List ℕ)) (p : Place) (T U : PlacedTree) (x : List ℕ) → not_linear r earlier partial false (Alt_at p T U) ≡ [] →
    has_word (variables T ++ variables U) x ≡ true → in_each_branch x (Alt_at p T U) ≡ true
each_branch r earlier partial p T U x e h = go (in_each_branch x (Alt_at p T U)) refl
  where
    lacked : List (List ℕ)
    lacked = lacking_somewhere (Alt_at p T U) ++ partial

    go : (b : Bool) → in_each_branch x (Alt_at p T U) ≡ b → b ≡ true
    go true q = refl
    go false q =
        let l : has_word (lacking_somewhere (Alt_at p T U)) x ≡ true =
        has_word_kept (λ y. not (in_each_branch y (Alt_at p T U))) (variables T ++ variables U) x h (ap not q) in
        absurd (branch_partial r earlier (lacking_somewhere (Alt_at p T U) ++ partial) T U x e (has_word_left (lacking_somewhere (Alt_at p T U)) partial x l) h)

branch_has : (x : List ℕ) (A : PlacedTree) → in_each_branch x A ≡ true → has_word (variables A) x ≡ true
branch_has x (Empty_at p) e = e
branch_has x (Text_at p) e = e
branch_has x (Words_at p w) e = e
branch_has x (Name_at p y) e = e
branch_has x (Elem_at p c T) e = e
branch_has x (Seq_at p T U) e = e
branch_has x (Alt_at p T U) e = has_word_left (variables T) (variables U) x (and_parts (has_word (variables T) x) (in_each_branch x U) e).0
branch_has x (Star_at p T) e = e
branch_has x (Plus_at p T) e = e
branch_has x (Opt_at p T) e = e
branch_has x (Val_at p y q T) e = e

pub no_such_word : (xs : List (List ℕ)) (x : List ℕ) → xs ≡ [] → has_word xs x ≡ true → ⊥
no_such_word xs x e h = let k : false ≡ true = subst (λ ys. has_word ys x ≡ true) e h in cc

-- Where the pattern is the rest of an alternative, the variable is in each branch of it.
binds_each : (E : Definitions) (r : Bool) (earlier partial : List (List ℕ)) (inner : Bool) (A : PlacedTree) (d : Document) (w : Way) →
    not_linear r earlier partial inner A ≡ [] → (x : List ℕ) → has_word (variables A) x ≡ true → (inner ≡ true → in_each_branch x A ≡ true) →
    IsWay E (unplaced A) d w → binds w.bindings x ≡ true
binds_each E r earlier partial inner (Empty_at p) d w e x h i k = absurd (cc)
binds_each E r earlier partial inner (Text_at p) d w e x h i k = absurd (cc)
binds_each E r earlier partial inner (Words_at p t) d w e x h i k = absurd (cc)
binds_each E r earlier partial inner (Name_at p y) d w e x h i k = absurd (cc)
binds_each E r earlier partial inner (Elem_at p c T) d w e x h i (way_elem {k = c'} {v = v} m k z) =
    binds_each E r earlier partial false T c' v e x h (λ f. absurd (cc)) k
binds_each E r earlier partial inner (Seq_at p T U) d w e x h i (way_seq {v = v} {w = u} k l) =
    let n = append_none_parts (not_linear r earlier partial false T) (not_linear r (variables T ++ earlier) (without (variables T) partial) false U) e in
    elim (has_word_split (variables T) (variables U) x h) [
      | inl a ↦ binds_left v.bindings u.bindings x (binds_each E r earlier partial false T d v n.0 x a (λ f. absurd (cc)) k)
      | inr b ↦
          binds_right v.bindings u.bindings x
          (binds_each E r (variables T ++ earlier) (without (variables T) partial) false U v.rest u n.1 x b.1 (λ f. absurd (cc)) l)
    ]
binds_each E r earlier partial inner (Alt_at p T U) d w e x h i k =
    let lacked : List (List ℕ) = cond inner partial (lacking_somewhere (Alt_at p T U) ++ partial) in
    let n = append_none_parts (not_linear r earlier lacked false T) (not_linear r earlier (without (variables T) lacked) true U) e in
    let b = and_parts (has_word (variables T) x) (in_each_branch x U) (in_each inner r earlier partial p T U x e h i) in
    in_branch E (unplaced T) (unplaced U) d w k (binds w.bindings x ≡ true)
    (λ l. binds_each E r earlier lacked false T d w n.0 x b.0 (λ f. absurd (cc)) l)
    (λ l. binds_each E r earlier (without (variables T) lacked) true U d w n.1 x (branch_has x U b.1) (λ f. b.1) l)
  where
    in_each : (inner : Bool) (r : Bool) (earlier partial : List (List ℕ)) (p : Place) (T U : PlacedTree) (x : List ℕ) → not_linear r earlier partial inner (Alt_at p T U) ≡ [] →
        has_word (variables T ++ variables U) x ≡ true → (inner ≡ true → in_each_branch x (Alt_at p T U) ≡ true) → in_each_branch x (Alt_at p T U) ≡ true
    in_each true r earlier partial p T U x e h i = i refl
    in_each false r earlier partial p T U x e h i = each_branch r earlier partial p T U x e h

    in_branch : (E : Definitions) (T U : Tree) (d : Document) (w : Way) → IsWay E (Alt T U) d w → (A : Type 0) → (IsWay E T d w → A) → (IsWay E U d w → A) → A
    in_branch E T U d w (way_left k) A f g = f k
    in_branch E T U d w (way_right k) A f g = g k
binds_each E r earlier partial inner (Star_at p T) d w e x h i k = absurd (no_such_word (variables T) x (repeated_none earlier partial false T e) h)
binds_each E r earlier partial inner (Plus_at p T) d w e x h i k = absurd (no_such_word (variables T) x (repeated_none earlier partial false T e) h)
binds_each E r earlier partial inner (Opt_at p T) d w e x h i k = absurd (no_such_word (variables T) x (repeated_none earlier partial false T e) h)
binds_each E r earlier partial inner (Val_at p y q T) d w e x h i (way_val {v = v} k) =
    let n = append_none_parts (fault_if (r || (has_word earlier y || has_word partial y)) q (NotLinear y)) (not_linear r (y ∷ earlier) (without (y ∷ []) partial) false T) e in
    elim (either (bytes_eq y x) (has_word (variables T) x) h) [
      | inl a ↦ or_left (bytes_eq y x) (binds v.bindings x) a
      | inr b ↦
          or_right (bytes_eq y x) (binds v.bindings x)
          (binds_each E r (y ∷ earlier) (without (y ∷ []) partial) false T d v n.1 x b.1 (λ f. absurd (cc)) k)
    ]

pub binds_variables : (E : Definitions) (A : PlacedTree) (d : Document) (w : Way) → not_linear false [] [] false A ≡ [] → IsWay E (unplaced A) d w →
    (x : List ℕ) → has_word (variables A) x ≡ true → binds w.bindings x ≡ true
binds_variables E A d w e k x h = binds_each E false [] [] false A d w e x h (λ f. absurd (cc)) k
