-- In a sound program no name leads back to itself by a use outside tail position.
use Rattle.std.proofs.Common.{◌≡◌, ℕ, Bool, true, false, cond, List, [], map, Some, refl, sym, subst, inl, inr}
use Rattle.std.specs.Str.{bytes_eq}
use Rattle.xd_doc.specs.Members.{IsOneOf}
use Rattle.xd_syntax.specs.Words.{any_word}
use Rattle.xd_syntax.specs.Tree.{Tree, body, any_type}
use Rattle.xd_syntax.specs.Placed.{PlacedTree, Empty_at, Text_at, Words_at, Name_at, Elem_at, Seq_at, Alt_at, Star_at, Plus_at, Opt_at, Val_at, unplaced}
use Rattle.xd_syntax.specs.Program.{TypeDefinition, ProgramTree, names_of}
use Rattle.xd_syntax.specs.RecursionFaults.{Use, not_tail, behind_type, top_uses, UsesAtTop, Leads, arrived, use_then, AnyUse, IsOutsideTail, UseIn, IsSound}
use Rattle.xd_syntax.proofs.Members.{mem_append, append_left, append_right, map_mem}
use Rattle.xd_laws.proofs.SoundGuarded.{nothing_kept, keeps_none, placed_definition, listed_use}
use Rattle.xd_continuations.specs.TailUses.{top_names, inner_names, UsesTop, LeadsTo, at_once, by_use, RecursOnlyInTail}

-- a use outside every label, as one with a place
placed_use : (T : PlacedTree) (y : List ℕ) → IsOneOf y (top_names (unplaced T)) → (u : Use) × IsOneOf u (top_uses T) × (u.name ≡ y)
placed_use (Empty_at p) y m = absurd m
placed_use (Text_at p) y m = absurd m
placed_use (Words_at p w) y m = absurd m
placed_use (Name_at p x) y (inl e) = (record { name = x; place = p; is_tail = true; before = [] }, inl refl, e)
placed_use (Name_at p x) y (inr m) = absurd m
placed_use (Elem_at p c T) y m = absurd m
placed_use (Seq_at p T U) y m =
    elim (mem_append y (top_names (unplaced T)) (top_names (unplaced U)) m) [
      | inl a ↦
          let r = placed_use T y a in
          (not_tail r.0, append_left (not_tail r.0) (map not_tail (top_uses T)) (map (behind_type (unplaced T)) (top_uses U)) (map_mem not_tail r.0 (top_uses T) r.1), r.2)
      | inr b ↦
          let r = placed_use U y b in
          let u : Use = behind_type (unplaced T) r.0 in
          (u, append_right u (map not_tail (top_uses T)) (map (behind_type (unplaced T)) (top_uses U)) (map_mem (behind_type (unplaced T)) r.0 (top_uses U) r.1), r.2)
    ]
placed_use (Alt_at p T U) y m =
    elim (mem_append y (top_names (unplaced T)) (top_names (unplaced U)) m) [
      | inl a ↦ let r = placed_use T y a in (r.0, append_left r.0 (top_uses T) (top_uses U) r.1, r.2)
      | inr b ↦ let r = placed_use U y b in (r.0, append_right r.0 (top_uses T) (top_uses U) r.1, r.2)
    ]
placed_use (Star_at p T) y m = let r = placed_use T y m in (not_tail r.0, map_mem not_tail r.0 (top_uses T) r.1, r.2)
placed_use (Plus_at p T) y m = let r = placed_use T y m in (not_tail r.0, map_mem not_tail r.0 (top_uses T) r.1, r.2)
placed_use (Opt_at p T) y m = placed_use T y m
placed_use (Val_at p x q T) y m = placed_use T y m

-- and one outside tail position
placed_inner : (T : PlacedTree) (y : List ℕ) → IsOneOf y (inner_names (unplaced T)) → (u : Use) × IsOneOf u (top_uses T) × (u.name ≡ y) × (u.is_tail ≡ false)
placed_inner (Empty_at p) y m = absurd m
placed_inner (Text_at p) y m = absurd m
placed_inner (Words_at p w) y m = absurd m
placed_inner (Name_at p x) y m = absurd m
placed_inner (Elem_at p c T) y m = absurd m
placed_inner (Seq_at p T U) y m =
    elim (mem_append y (top_names (unplaced T)) (inner_names (unplaced U)) m) [
      | inl a ↦
          let r = placed_use T y a in
          (not_tail r.0, append_left (not_tail r.0) (map not_tail (top_uses T)) (map (behind_type (unplaced T)) (top_uses U)) (map_mem not_tail r.0 (top_uses T) r.1), r.2, refl)
      | inr b ↦
          let r = placed_inner U y b in
          let u : Use = behind_type (unplaced T) r.0 in
          (u, append_right u (map not_tail (top_uses T)) (map (behind_type (unplaced T)) (top_uses U)) (map_mem (behind_type (unplaced T)) r.0 (top_uses U) r.1), r.2, r.3)
    ]
placed_inner (Alt_at p T U) y m =
    elim (mem_append y (inner_names (unplaced T)) (inner_names (unplaced U)) m) [
      | inl a ↦ let r = placed_inner T y a in (r.0, append_left r.0 (top_uses T) (top_uses U) r.1, r.2, r.3)
      | inr b ↦ let r = placed_inner U y b in (r.0, append_right r.0 (top_uses T) (top_uses U) r.1, r.2, r.3)
    ]
placed_inner (Star_at p T) y m = let r = placed_use T y m in (not_tail r.0, map_mem not_tail r.0 (top_uses T) r.1, r.2, refl)
placed_inner (Plus_at p T) y m = let r = placed_use T y m in (not_tail r.0, map_mem not_tail r.0 (top_uses T) r.1, r.2, refl)
placed_inner (Opt_at p T) y m = placed_inner T y m
placed_inner (Val_at p x q T) y m = placed_inner T y m

abbrev pair : TypeDefinition → List ℕ × Tree
pair t = (t.name, unplaced t.body)

use_there : (P : ProgramTree) (x y : List ℕ) → UsesTop (names_of P) x y → UsesAtTop P AnyUse x y
use_there P x y s = go (bytes_eq any_word x) s.0 s.1 s.2
  where
    go : (b : Bool) (T : Tree) → cond b (Some any_type) (body (map pair P.types) x) ≡ Some T → IsOneOf y (top_names T) → UsesAtTop P AnyUse x y
    go true T e m = let q : any_type ≡ T = cc in absurd (subst (λ Q. IsOneOf y (top_names Q)) (sym q) m)
    go false T e m =
        let r = placed_definition P.types x T e in
        let u = placed_use (r.0).body y (subst (λ Q. IsOneOf y (top_names Q)) (sym r.4) m) in
        ((r.0).body, u.0, r.3, u.1, u.2, tt)

leads_there : (P : ProgramTree) {x y : List ℕ} → LeadsTo (names_of P) x y → Leads P AnyUse x y
leads_there P at_once = arrived
leads_there P (by_use {x} {y} {z} s l) = use_then (use_there P x y s) (leads_there P l)

pub recurs_only_in_tail : (P : ProgramTree) → IsSound P → RecursOnlyInTail (names_of P)
recurs_only_in_tail P sound x y T e m l = go (bytes_eq any_word x) e
  where
    none : (sound.recursion.outside ≡ []) × (sound.recursion.unguarded ≡ [])
    none = nothing_kept sound.recursion.outside sound.recursion.unguarded sound.recursion.listed

    go : (b : Bool) → cond b (Some any_type) (body (map pair P.types) x) ≡ Some T → ⊥
    go true k = let q : any_type ≡ T = cc in subst (λ Q. IsOneOf y (inner_names Q)) (sym q) m
    go false k =
        let r = placed_definition P.types x T k in
        let u = placed_inner (r.0).body y (subst (λ Q. IsOneOf y (inner_names Q)) (sym r.4) m) in
        let w : UseIn = record { owner = (r.0).name; use_there = u.0 } in
        let back : Leads P AnyUse (u.0).name (r.0).name =
        subst (λ a. Leads P AnyUse a (r.0).name) (sym u.2) (subst (Leads P AnyUse y) (sym r.2) (leads_there P l)) in
        keeps_none (λ (v : UseIn). IsOutsideTail P v.owner v.use_there) sound.recursion.outside_all none.0 w (listed_use P.types r.0 u.0 r.1 u.1) (u.3, back)
