-- In a sound program no name leads back to itself by uses in front.
use Rattle.std.proofs.Common.{◌≡◌, ℕ, ◌+◌, arith, Bool, true, false, cond, List, [], ◌∷◌, ◌++◌, map, length, length-append, Some, refl, ap, sym, subst, inl, inr}
use Rattle.std.specs.Str.{bytes_eq}
use Rattle.std.proofs.lemmas.List.{length-map}
use Rattle.xd_doc.proofs.Lists.{none_of}
use Rattle.xd_doc.specs.Members.{IsOneOf}
use Rattle.xd_syntax.specs.Words.{any_word}
use Rattle.xd_syntax.specs.Tree.{Tree, Definitions, body, any_type}
use Rattle.xd_syntax.specs.Placed.{PlacedTree, Empty_at, Text_at, Words_at, Name_at, Elem_at, Seq_at, Alt_at, Star_at, Plus_at, Opt_at, Val_at, unplaced}
use Rattle.xd_syntax.specs.Program.{TypeDefinition, ProgramTree, names_of}
use Rattle.xd_syntax.specs.Order.{precedes, put_in, ordered_after, in_order}
use Rattle.xd_syntax.specs.RecursionFaults.{Use, not_tail, behind_type, top_uses, IsFrontUse, placed_body, UsesAtTop, Leads, arrived, use_then, IsUnguarded, Keeps, all_seen, kept, left_out, UseIn, all_top_uses, not_tail_fault, unguarded_fault, IsSound}
use Rattle.xd_syntax.specs.declared.fault.Fault.{Fault}
use Rattle.xd_laws.specs.Guarded.{Front, Step, Path, one, more, Guarded}
use Rattle.xd_laws.specs.Guarded as R
use Rattle.xd_syntax.proofs.Members.{append_left, append_right, map_mem, flat_mem}
use Rattle.xd_laws.proofs.Unfoldings.{same_word_eq}

put_in-length : (f : Fault) (gs : List Fault) → length (put_in precedes f gs) ≡ length gs + 1
put_in-length f [] = refl
put_in-length f (g ∷ gs) = go (precedes f g) (put_in-length f gs)
  where
    go : (b : Bool) → length (put_in precedes f gs) ≡ length gs + 1 → length (cond b (f ∷ (g ∷ gs)) (g ∷ put_in precedes f gs)) ≡ length (g ∷ gs) + 1
    go true e = omega arith
    go false e = omega arith

ordered_after-length : (done fs : List Fault) → length (ordered_after precedes done fs) ≡ length done + length fs
ordered_after-length done [] = omega arith
ordered_after-length done (f ∷ fs) =
    let i = ordered_after-length (put_in precedes f done) fs in let j = put_in-length f done in omega arith

-- where nothing is listed there was nothing to put in order
pub in_order_none : (fs : List Fault) → in_order fs ≡ [] → fs ≡ []
in_order_none fs e = let l = ordered_after-length [] fs in let k : length (in_order fs) ≡ 0 = ap length e in none_of fs (omega arith)

-- where nothing is listed nothing was kept
pub nothing_kept : (outside unguarded : List UseIn) → [] ≡ in_order (map not_tail_fault outside ++ map unguarded_fault unguarded) → (outside ≡ []) × (unguarded ≡ [])
nothing_kept outside unguarded e =
    let l = ordered_after-length [] (map not_tail_fault outside ++ map unguarded_fault unguarded) in
    let k : 0 ≡ length (in_order (map not_tail_fault outside ++ map unguarded_fault unguarded)) = ap length e in
    let a = length-append (map not_tail_fault outside) (map unguarded_fault unguarded) in
    let b = length-map outside not_tail_fault in
    let c = length-map unguarded unguarded_fault in
    (none_of outside (omega arith), none_of unguarded (omega arith))

pub keeps_none : {A : Type 0} (P : A → Type 0) {xs ys : List A} → Keeps P xs ys → ys ≡ [] → (x : A) → IsOneOf x xs → P x → ⊥
keeps_none P all_seen e x m p = absurd m
keeps_none P (kept q k) e x m p = cc
keeps_none P (left_out n k) e x (inl i) p = n (subst P (sym i) p)
keeps_none P (left_out n k) e x (inr m) p = keeps_none P k e x m p

-- a use in front, as a use with a place
front_use : (E : Definitions) (T : PlacedTree) (y : List ℕ) → Front E (unplaced T) y → (u : Use) × IsOneOf u (top_uses T) × (u.name ≡ y) × IsFrontUse E u
front_use E (Empty_at p) y f = elim f [ ]
front_use E (Text_at p) y f = elim f [ ]
front_use E (Words_at p w) y f = elim f [ ]
front_use E (Name_at p x) _ R.here = (record { name = x; place = p; is_tail = true; before = [] }, inl refl, refl, tt)
front_use E (Elem_at p c T) y f = elim f [ ]
front_use E (Seq_at p T U) y (R.seq_first f) =
    let r = front_use E T y f in
    (not_tail r.0, append_left (not_tail r.0) (map not_tail (top_uses T)) (map (behind_type (unplaced T)) (top_uses U)) (map_mem not_tail r.0 (top_uses T) r.1), r.2, r.3)
front_use E (Seq_at p T U) y (R.seq_next e f) =
    let r = front_use E U y f in
    let u : Use = behind_type (unplaced T) r.0 in
    (u, append_right u (map not_tail (top_uses T)) (map (behind_type (unplaced T)) (top_uses U)) (map_mem (behind_type (unplaced T)) r.0 (top_uses U) r.1), r.2, (e, r.3))
front_use E (Alt_at p T U) y (R.alt_left f) =
    let r = front_use E T y f in (r.0, append_left r.0 (top_uses T) (top_uses U) r.1, r.2, r.3)
front_use E (Alt_at p T U) y (R.alt_right f) =
    let r = front_use E U y f in (r.0, append_right r.0 (top_uses T) (top_uses U) r.1, r.2, r.3)
front_use E (Star_at p T) y (R.star f) = let r = front_use E T y f in (not_tail r.0, map_mem not_tail r.0 (top_uses T) r.1, r.2, r.3)
front_use E (Plus_at p T) y (R.plus f) = let r = front_use E T y f in (not_tail r.0, map_mem not_tail r.0 (top_uses T) r.1, r.2, r.3)
front_use E (Opt_at p T) y (R.opt f) = front_use E T y f
front_use E (Val_at p x q T) y (R.val f) = front_use E T y f

any_front : (E : Definitions) (y : List ℕ) → Front E any_type y → ⊥
any_front E y (R.star (R.alt_left f)) = elim f [ ]
any_front E y (R.star (R.alt_right f)) = elim f [ ]

abbrev pub pair_of : TypeDefinition → List ℕ × Tree
pair_of t = (t.name, unplaced t.body)

-- the definition of a name, as one with places
pub placed_definition : (ts : List TypeDefinition) (x : List ℕ) (T : Tree) → body (map pair_of ts) x ≡ Some T →
    (t : TypeDefinition) × IsOneOf t ts × (t.name ≡ x) × (placed_body ts x ≡ Some t.body) × (unplaced t.body ≡ T)
placed_definition [] x T e = cc
placed_definition (t ∷ ts) x T e = go (bytes_eq t.name x) refl e (λ k. placed_definition ts x T k)
  where
    go : (b : Bool) → bytes_eq t.name x ≡ b → cond b (Some (unplaced t.body)) (body (map pair_of ts) x) ≡ Some T →
        (body (map pair_of ts) x ≡ Some T → (s : TypeDefinition) × IsOneOf s ts × (s.name ≡ x) × (placed_body ts x ≡ Some s.body) × (unplaced s.body ≡ T)) →
        (s : TypeDefinition) × IsOneOf s (t ∷ ts) × (s.name ≡ x) × (cond b (Some t.body) (placed_body ts x) ≡ Some s.body) × (unplaced s.body ≡ T)
    go true q k rec = (t, inl refl, same_word_eq t.name x q, refl, cc)
    go false q k rec = let r = rec k in (r.0, inr r.1, r.2, r.3, r.4)

-- a step in front, as a use of the program
pub record UseFound (P : ProgramTree) (x y : List ℕ) : Type 0 where
  pub found : UseIn
  pub listed : IsOneOf found (all_top_uses P.types)
  pub owner : found.owner ≡ x
  pub name : found.use_there.name ≡ y
  pub front : IsFrontUse (names_of P) found.use_there
  pub uses : UsesAtTop P (IsFrontUse (names_of P)) x y

pub listed_use : (ts : List TypeDefinition) (t : TypeDefinition) (u : Use) → IsOneOf t ts → IsOneOf u (top_uses t.body) →
    IsOneOf (let w : UseIn = record { owner = t.name; use_there = u } in w) (all_top_uses ts)
listed_use ts t u m k =
    flat_mem (λ (s : TypeDefinition). map (λ v. let w : UseIn = record { owner = s.name; use_there = v } in w) (top_uses s.body))
    (record { owner = t.name; use_there = u }) t ts m
    (map_mem (λ v. let w : UseIn = record { owner = t.name; use_there = v } in w) u (top_uses t.body) k)

step_use : (P : ProgramTree) (x y : List ℕ) → Step (names_of P) x y → UseFound P x y
step_use P x y s = go (bytes_eq any_word x) s.0 s.1 s.2
  where
    go : (b : Bool) (T : Tree) → cond b (Some any_type) (body (map pair_of P.types) x) ≡ Some T → Front (names_of P) T y → UseFound P x y
    go true T e f =
        let q : any_type ≡ T = cc in absurd (any_front (names_of P) y (subst (λ Q. Front (names_of P) Q y) (sym q) f))
    go false T e f =
        let r = placed_definition P.types x T e in
        let u = front_use (names_of P) (r.0).body y (subst (λ Q. Front (names_of P) Q y) (sym r.4) f) in
        record {
          found = record { owner = (r.0).name; use_there = u.0 };
          listed = listed_use P.types r.0 u.0 r.1 u.1;
          owner = r.2;
          name = u.2;
          front = u.3;
          uses = ((r.0).body, u.0, r.3, u.1, u.2, u.3);
        }

leads_then : (P : ProgramTree) (A : Use → Type 0) {x y : List ℕ} → Leads P A x y → {z : List ℕ} → UsesAtTop P A y z → Leads P A x z
leads_then P A arrived s = use_then s arrived
leads_then P A (use_then q l) s = use_then q (leads_then P A l s)

first_step : (P : ProgramTree) {x z : List ℕ} → Path (names_of P) x z → (y : List ℕ) × Step (names_of P) x y × Leads P (IsFrontUse (names_of P)) y z
first_step P (one {x} {y} s) = (y, s, arrived)
first_step P (more {x} {y} {z} p s) =
    let r = first_step P p in (r.0, r.1, leads_then P (IsFrontUse (names_of P)) r.2 (step_use P y z s).uses)

pub guarded : (P : ProgramTree) → IsSound P → Guarded (names_of P)
guarded P sound x p =
    let r = first_step P p in
    let u = step_use P x r.0 r.1 in
    let none = nothing_kept sound.recursion.outside sound.recursion.unguarded sound.recursion.listed in
    let back : Leads P (IsFrontUse (names_of P)) u.found.use_there.name u.found.owner =
    subst (λ a. Leads P (IsFrontUse (names_of P)) a u.found.owner) (sym u.name) (subst (Leads P (IsFrontUse (names_of P)) r.0) (sym u.owner) r.2) in
    keeps_none (λ (w : UseIn). IsUnguarded P w.owner w.use_there) sound.recursion.unguarded_all none.1 u.found u.listed (u.front, back)
