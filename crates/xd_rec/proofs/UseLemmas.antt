-- the uses of a node are those of its parts
use Rattle.std.proofs.Common.{◌≡◌, ℕ, suc, ◌+◌, ◌<◌, ◌≤◌, arith, Bool, true, false, ◌&&◌, List, [], ◌∷◌, ◌++◌, map, reverse, length, refl, ap, sym, subst, ◌∙◌, inl, inr}
use Rattle.std.specs.List.{AllByRecursion}
use Rattle.std.proofs.lemmas.List.{append-nil, append_assoc, map-append, reverse-append}
use Rattle.std.proofs.lemmas.Grind.{flat_map-append}
use Rattle.xd_base.specs.declared.Place.{Place}
use Rattle.xd_doc.proofs.Bools.{and_true, and_false, and_join}
use Rattle.xd_doc.proofs.Lists.{flat_more}
use Rattle.xd_syntax.specs.Tree.{Tree}
use Rattle.xd_syntax.specs.Table.{Row, Form, empty_form, text_form, words_form, name_form, elem_form, seq_form, alt_form, star_form, plus_form, opt_form, val_form, tree_at, PartsBelow, CanFollow}
use Rattle.xd_syntax.specs.Placed.{PlacedTree, Empty_at, placed_seq, placed_alt, place_of, unplaced}
use Rattle.xd_syntax.specs.PlacedTable.{placed_at, placed_form}
use Rattle.xd_syntax.specs.Kept.{type_definition, TypeDefStands}
use Rattle.xd_syntax.specs.RecursionFaults.{Use, top_uses, not_tail, behind_type}
use Rattle.xd_syntax.specs.declared.types.TypeDef.{TypeDef}
use Rattle.xd_syntax.proofs.PlacedTrees.{unplaced_at}
use Rattle.xd_syntax.proofs.Members.{mem_append}
use Rattle.xd_rec.specs.Uses.{all_empty, seen, tree_uses, uses_from, placed_use, part_uses, parts_uses, sequence, alternatives, parts_of, own_use, IsListed, AllBelong, size, sizes}
use Rattle.xd_rec.specs.declared.uses.TopUse.{TopUse}
use Rattle.xd_rec.specs.declared.uses.Part.{Part}

not_tail_there : (Z : Tree → Bool) (k : ℕ) (t f : Bool) (us : List Use) → map (placed_use t f) (map (seen Z k) (map not_tail us)) ≡ map (placed_use false f) (map (seen Z k) us)
not_tail_there Z k t f [] = refl
not_tail_there Z k t f (u ∷ us) =
    let e = and_false t in
    let i = not_tail_there Z k t f us in
    let h : placed_use t f (seen Z k (not_tail u)) ≡ placed_use false f (seen Z k u) =
    ap (λ b. let v : TopUse = record { owner = k; name = u.name; place = u.place; is_tail = b; is_front = f && all_empty Z u.before } in v) e in
    rw (h, i) refl

behind_there : (Z : Tree → Bool) (k : ℕ) (t f : Bool) (T : Tree) (us : List Use) →
    map (placed_use t f) (map (seen Z k) (map (behind_type T) us)) ≡ map (placed_use t (f && Z T)) (map (seen Z k) us)
behind_there Z k t f T [] = refl
behind_there Z k t f T (u ∷ us) =
    let e = and_join f (Z T) (all_empty Z u.before) in
    let i = behind_there Z k t f T us in
    let h : placed_use t f (seen Z k (behind_type T u)) ≡ placed_use t (f && Z T) (seen Z k u) =
    ap (λ b. let v : TopUse = record { owner = k; name = u.name; place = u.place; is_tail = t && u.is_tail; is_front = b } in v) e in
    rw (h, i) refl

pub everywhere : (us : List TopUse) → map (placed_use true true) us ≡ us
everywhere [] = refl
everywhere (u ∷ us) = ap (λ vs. u ∷ vs) (everywhere us)

placed_uses : (Z : Tree → Bool) (k : ℕ) (t f : Bool) (us vs : List Use) →
    map (placed_use t f) (map (seen Z k) (us ++ vs)) ≡ map (placed_use t f) (map (seen Z k) us) ++ map (placed_use t f) (map (seen Z k) vs)
placed_uses Z k t f us vs = ap (map (placed_use t f)) (map-append (seen Z k) us vs) ∙ map-append (placed_use t f) (map (seen Z k) us) (map (seen Z k) vs)

-- a sequence
pub sequence_uses : (Z : Tree → Bool) (types : List Row) (k : ℕ) (t f : Bool) (p : Place) (is : List ℕ) →
    parts_uses Z types (sequence Z types k t f is) ≡ map (placed_use t f) (tree_uses Z k (placed_seq p (map (placed_at types) is)))
sequence_uses Z types k t f p [] = refl
sequence_uses Z types k t f p (i ∷ []) =
    append-nil (map (placed_use (t && true) f) (tree_uses Z k (placed_at types i))) ∙ ap (λ b. map (placed_use b f) (tree_uses Z k (placed_at types i))) (and_true t)
sequence_uses Z types k t f p (i ∷ (j ∷ js)) =
    let T = placed_at types i in
    let U = placed_seq (place_of (placed_at types j)) (map (placed_at types) (j ∷ js)) in
    let h = sequence_uses Z types k t (f && Z (tree_at types i)) (place_of (placed_at types j)) (j ∷ js) in
    let e : tree_at types i ≡ unplaced T = sym (unplaced_at types i) in
    let first : map (placed_use (t && false) f) (tree_uses Z k T) ≡ map (placed_use t f) (map (seen Z k) (map not_tail (top_uses T))) =
    ap (λ b. map (placed_use b f) (tree_uses Z k T)) (and_false t) ∙ sym (not_tail_there Z k t f (top_uses T)) in
    let rest : parts_uses Z types (sequence Z types k t (f && Z (tree_at types i)) (j ∷ js)) ≡ map (placed_use t f) (map (seen Z k) (map (behind_type (unplaced T)) (top_uses U))) =
    h ∙ ap (λ R. map (placed_use t (f && Z R)) (tree_uses Z k U)) e ∙ sym (behind_there Z k t f (unplaced T) (top_uses U)) in
    ap (λ xs. xs ++ parts_uses Z types (sequence Z types k t (f && Z (tree_at types i)) (j ∷ js))) first
    ∙ ap (λ xs. map (placed_use t f) (map (seen Z k) (map not_tail (top_uses T))) ++ xs) rest
    ∙ sym (placed_uses Z k t f (map not_tail (top_uses T)) (map (behind_type (unplaced T)) (top_uses U)))

-- an alternative
pub alternative_uses : (Z : Tree → Bool) (types : List Row) (q : Part) (p : Place) (is : List ℕ) →
    parts_uses Z types (alternatives q is) ≡ map (placed_use q.is_tail q.is_front) (tree_uses Z q.owner (placed_alt p (map (placed_at types) is)))
alternative_uses Z types q p [] = refl
alternative_uses Z types q p (i ∷ []) = append-nil (map (placed_use q.is_tail q.is_front) (tree_uses Z q.owner (placed_at types i)))
alternative_uses Z types q p (i ∷ (j ∷ js)) =
    let T = placed_at types i in
    let U = placed_alt (place_of (placed_at types j)) (map (placed_at types) (j ∷ js)) in
    ap (λ xs. map (placed_use q.is_tail q.is_front) (tree_uses Z q.owner T) ++ xs) (alternative_uses Z types q (place_of (placed_at types j)) (j ∷ js))
    ∙ sym (placed_uses Z q.owner q.is_tail q.is_front (top_uses T) (top_uses U))

-- a repetition
pub repeated_uses : (Z : Tree → Bool) (k : ℕ) (t f : Bool) (T : PlacedTree) → map (placed_use false f) (tree_uses Z k T) ≡ map (placed_use t f) (map (seen Z k) (map not_tail (top_uses T)))
repeated_uses Z k t f T = sym (not_tail_there Z k t f (top_uses T))

pub sizes-append : (types : List Row) (ps qs : List Part) → sizes types (ps ++ qs) ≡ sizes types ps + sizes types qs
sizes-append types [] qs = omega arith
sizes-append types (p ∷ ps) qs = let i = sizes-append types ps qs in omega arith

size_some : (T : PlacedTree) → 1 ≤ size T
size_some (Empty_at p) = omega arith
size_some _ = omega arith

sequence_le : (Z : Tree → Bool) (types : List Row) (k : ℕ) (t f : Bool) (p : Place) (is : List ℕ) →
    sizes types (sequence Z types k t f is) ≤ size (placed_seq p (map (placed_at types) is))
sequence_le Z types k t f p [] = omega arith
sequence_le Z types k t f p (i ∷ []) = omega arith
sequence_le Z types k t f p (i ∷ (j ∷ js)) =
    let h = sequence_le Z types k t (f && Z (tree_at types i)) (place_of (placed_at types j)) (j ∷ js) in omega arith

pub sequence_less : (Z : Tree → Bool) (types : List Row) (k : ℕ) (t f : Bool) (p : Place) (is : List ℕ) → 2 ≤ length is →
    sizes types (sequence Z types k t f is) < size (placed_seq p (map (placed_at types) is))
sequence_less Z types k t f p [] l = absurd (omega arith)
sequence_less Z types k t f p (i ∷ []) l = absurd (omega arith)
sequence_less Z types k t f p (i ∷ (j ∷ js)) l =
    let h = sequence_le Z types k t (f && Z (tree_at types i)) (place_of (placed_at types j)) (j ∷ js) in omega arith

alternatives_le : (types : List Row) (q : Part) (p : Place) (is : List ℕ) → sizes types (alternatives q is) ≤ size (placed_alt p (map (placed_at types) is))
alternatives_le types q p [] = omega arith
alternatives_le types q p (i ∷ []) = omega arith
alternatives_le types q p (i ∷ (j ∷ js)) = let h = alternatives_le types q (place_of (placed_at types j)) (j ∷ js) in omega arith

pub alternatives_less : (types : List Row) (q : Part) (p : Place) (is : List ℕ) → 2 ≤ length is → sizes types (alternatives q is) < size (placed_alt p (map (placed_at types) is))
alternatives_less types q p [] l = absurd (omega arith)
alternatives_less types q p (i ∷ []) l = absurd (omega arith)
alternatives_less types q p (i ∷ (j ∷ js)) l = let h = alternatives_le types q (place_of (placed_at types j)) (j ∷ js) in omega arith

pub sequence_belongs : (Z : Tree → Bool) (types : List Row) (k : ℕ) (t f : Bool) (is : List ℕ) → AllByRecursion (λ i. i < length types) is → AllBelong types (sequence Z types k t f is)
sequence_belongs Z types k t f [] a p m = absurd m
sequence_belongs Z types k t f (i ∷ is) a p (inl e) = subst (λ (q : Part). q.at < length types) e a.0
sequence_belongs Z types k t f (i ∷ is) a p (inr m) = sequence_belongs Z types k t (f && Z (tree_at types i)) is a.1 p m

pub alternatives_belong : (types : List Row) (q : Part) (is : List ℕ) → AllByRecursion (λ i. i < length types) is → AllBelong types (alternatives q is)
alternatives_belong types q [] a p m = absurd m
alternatives_belong types q (i ∷ is) a p (inl e) = subst (λ (r : Part). r.at < length types) e a.0
alternatives_belong types q (i ∷ is) a p (inr m) = alternatives_belong types q is a.1 p m

pub belong_both : (types : List Row) (ps qs : List Part) → AllBelong types ps → AllBelong types qs → AllBelong types (ps ++ qs)
belong_both types ps qs a b p m = elim (mem_append p ps qs m) [ inl x ↦ a p x | inr y ↦ b p y ]

-- the definitions' own parts
abbrev pub definition_parts : ℕ → List TypeDef → List Part
definition_parts k [] = []
definition_parts k (d ∷ ds) = record { owner = k; at = d.body.at; is_tail = true; is_front = true } ∷ definition_parts (suc k) ds

pub definition_uses : (Z : Tree → Bool) (types : List Row) (k : ℕ) (ds : List TypeDef) → parts_uses Z types (definition_parts k ds) ≡ uses_from Z k (map (type_definition types) ds)
definition_uses Z types k [] = refl
definition_uses Z types k (d ∷ ds) =
    ap (λ xs. xs ++ parts_uses Z types (definition_parts (suc k) ds)) (everywhere (tree_uses Z k (placed_at types d.body.at)))
    ∙ ap (λ xs. tree_uses Z k (placed_at types d.body.at) ++ xs) (definition_uses Z types (suc k) ds)

pub definitions_belong : (types : List Row) (k : ℕ) (ds : List TypeDef) → AllByRecursion (TypeDefStands types) ds → AllBelong types (definition_parts k ds)
definitions_belong types k [] a p m = absurd m
definitions_belong types k (d ∷ ds) a p (inl e) = subst (λ (q : Part). q.at < length types) e (a.0).body
definitions_belong types k (d ∷ ds) a p (inr m) = definitions_belong types (suc k) ds a.1 p m

pub definition_parts_more : (k : ℕ) (ds : List TypeDef) (d : TypeDef) → definition_parts k (ds ++ d ∷ []) ≡ definition_parts k ds ++ record { owner = k + length ds; at = d.body.at; is_tail = true; is_front = true } ∷ []
definition_parts_more k [] d = let e : k ≡ k + 0 = omega arith in ap (λ n. let p : Part = record { owner = n; at = d.body.at; is_tail = true; is_front = true } in p ∷ []) e
definition_parts_more k (x ∷ ds) d =
    let e : suc k + length ds ≡ k + length (x ∷ ds) = omega arith in
    let h : Part = record { owner = k; at = x.body.at; is_tail = true; is_front = true } in
    ap (λ ps. h ∷ ps) (definition_parts_more (suc k) ds d ∙ ap (λ n. definition_parts (suc k) ds ++ (let p : Part = record { owner = n; at = d.body.at; is_tail = true; is_front = true } in p ∷ [])) e)

-- the uses of a node are those of its parts, and its own
pub form_uses : (Z : Tree → Bool) (types : List Row) (q : Part) (p : Place) (f : Form) →
    parts_uses Z types (parts_of Z types q f) ++ own_use q p f ≡ map (placed_use q.is_tail q.is_front) (tree_uses Z q.owner (placed_form (placed_at types) p f))
form_uses Z types q p empty_form = refl
form_uses Z types q p text_form = refl
form_uses Z types q p (words_form ws) = refl
form_uses Z types q p (name_form w) =
    let a = sym (and_true q.is_tail) in
    let b = sym (and_true q.is_front) in
    ap (λ t. let u : TopUse = record { owner = q.owner; name = w; place = p; is_tail = t; is_front = q.is_front } in u ∷ []) a
    ∙ ap (λ f. let u : TopUse = record { owner = q.owner; name = w; place = p; is_tail = q.is_tail && true; is_front = f } in u ∷ []) b
form_uses Z types q p (elem_form c i) = refl
form_uses Z types q p (seq_form is) = append-nil (parts_uses Z types (sequence Z types q.owner q.is_tail q.is_front is)) ∙ sequence_uses Z types q.owner q.is_tail q.is_front p is
form_uses Z types q p (alt_form is) = append-nil (parts_uses Z types (alternatives q is)) ∙ alternative_uses Z types q p is
form_uses Z types q p (star_form i) =
    append-nil (parts_uses Z types (parts_of Z types q (star_form i))) ∙ append-nil (map (placed_use false q.is_front) (tree_uses Z q.owner (placed_at types i)))
    ∙ repeated_uses Z q.owner q.is_tail q.is_front (placed_at types i)
form_uses Z types q p (plus_form i) =
    append-nil (parts_uses Z types (parts_of Z types q (plus_form i))) ∙ append-nil (map (placed_use false q.is_front) (tree_uses Z q.owner (placed_at types i)))
    ∙ repeated_uses Z q.owner q.is_tail q.is_front (placed_at types i)
form_uses Z types q p (opt_form i) =
    append-nil (parts_uses Z types (parts_of Z types q (opt_form i))) ∙ append-nil (map (placed_use q.is_tail q.is_front) (tree_uses Z q.owner (placed_at types i)))
form_uses Z types q p (val_form x r i) =
    append-nil (parts_uses Z types (parts_of Z types q (val_form x r i))) ∙ append-nil (map (placed_use q.is_tail q.is_front) (tree_uses Z q.owner (placed_at types i)))

parts_less : (Z : Tree → Bool) (types : List Row) (q : Part) (p : Place) (older : List Row) (f : Form) → CanFollow false older f →
    sizes types (parts_of Z types q f) < size (placed_form (placed_at types) p f)
parts_less Z types q p older empty_form c = omega arith
parts_less Z types q p older text_form c = omega arith
parts_less Z types q p older (words_form ws) c = omega arith
parts_less Z types q p older (name_form w) c = omega arith
parts_less Z types q p older (elem_form k i) c = omega arith
parts_less Z types q p older (seq_form is) c = sequence_less Z types q.owner q.is_tail q.is_front p is c.0
parts_less Z types q p older (alt_form is) c = alternatives_less types q p is c.0
parts_less Z types q p older (star_form i) c = omega arith
parts_less Z types q p older (plus_form i) c = omega arith
parts_less Z types q p older (opt_form i) c = omega arith
parts_less Z types q p older (val_form x r i) c = omega arith

below_up : (m n : ℕ) → m < n → (is : List ℕ) → AllByRecursion (λ i. i < m) is → AllByRecursion (λ i. i < n) is
below_up m n h [] a = tt
below_up m n h (i ∷ is) a = let b = a.0 in (omega arith, below_up m n h is a.1)

parts_belong : (Z : Tree → Bool) (types : List Row) (q : Part) (f : Form) → q.at < length types → PartsBelow q.at f → AllBelong types (parts_of Z types q f)
parts_belong Z types q empty_form l b p m = absurd m
parts_belong Z types q text_form l b p m = absurd m
parts_belong Z types q (words_form ws) l b p m = absurd m
parts_belong Z types q (name_form w) l b p m = absurd m
parts_belong Z types q (elem_form c i) l b p m = absurd m
parts_belong Z types q (seq_form is) l b p m = sequence_belongs Z types q.owner q.is_tail q.is_front is (below_up q.at (length types) l is b) p m
parts_belong Z types q (alt_form is) l b p m = alternatives_belong types q is (below_up q.at (length types) l is b) p m
parts_belong Z types q (star_form i) l b p (inl e) = subst (λ (r : Part). r.at < length types) e (omega arith)
parts_belong Z types q (star_form i) l b p (inr m) = absurd m
parts_belong Z types q (plus_form i) l b p (inl e) = subst (λ (r : Part). r.at < length types) e (omega arith)
parts_belong Z types q (plus_form i) l b p (inr m) = absurd m
parts_belong Z types q (opt_form i) l b p (inl e) = subst (λ (r : Part). r.at < length types) e (omega arith)
parts_belong Z types q (opt_form i) l b p (inr m) = absurd m
parts_belong Z types q (val_form x r i) l b p (inl e) = subst (λ (s : Part). s.at < length types) e (omega arith)
parts_belong Z types q (val_form x r i) l b p (inr m) = absurd m

own_reversed : (q : Part) (p : Place) (f : Form) (us : List TopUse) → reverse (us ++ own_use q p f) ≡ own_use q p f ++ reverse us
own_reversed q p empty_form us = ap reverse (append-nil us)
own_reversed q p text_form us = ap reverse (append-nil us)
own_reversed q p (words_form ws) us = ap reverse (append-nil us)
own_reversed q p (name_form w) us = reverse-append us (own_use q p (name_form w))
own_reversed q p (elem_form c i) us = ap reverse (append-nil us)
own_reversed q p (seq_form is) us = ap reverse (append-nil us)
own_reversed q p (alt_form is) us = ap reverse (append-nil us)
own_reversed q p (star_form i) us = ap reverse (append-nil us)
own_reversed q p (plus_form i) us = ap reverse (append-nil us)
own_reversed q p (opt_form i) us = ap reverse (append-nil us)
own_reversed q p (val_form x r i) us = ap reverse (append-nil us)

pub listed_uses : (Z : Tree → Bool) (types : List Row) (q : Part) (old new : List Part) (before after : List TopUse) → IsListed Z types q old new before after →
    parts_uses Z types new ++ reverse after ≡ parts_uses Z types (old ++ q ∷ []) ++ reverse before
listed_uses Z types q old new before after i =
    let p = i.row.place in
    let f = i.row.form in
    let a = parts_uses Z types old in
    let b = parts_uses Z types (parts_of Z types q f) in
    let o = own_use q p f in
    ap (λ ps. parts_uses Z types ps ++ reverse after) i.parts
    ∙ ap (λ us. parts_uses Z types (old ++ parts_of Z types q f) ++ reverse us) i.uses
    ∙ ap (λ us. us ++ reverse (before ++ o)) (flat_map-append (part_uses Z types) old (parts_of Z types q f))
    ∙ ap (λ us. (a ++ b) ++ us) (own_reversed q p f before)
    ∙ sym (append_assoc (a ++ b) o (reverse before))
    ∙ ap (λ us. us ++ reverse before) (append_assoc a b o ∙ ap (λ us. a ++ us) (form_uses Z types q p f ∙ ap (λ T. map (placed_use q.is_tail q.is_front) (tree_uses Z q.owner T)) (sym i.placed)) ∙ sym (flat_more (part_uses Z types) old q))

pub listed_belong : (Z : Tree → Bool) (types : List Row) (q : Part) (old new : List Part) (before after : List TopUse) → IsListed Z types q old new before after → AllBelong types old → q.at < length types →
    AllBelong types new
listed_belong Z types q old new before after i a l =
    subst (AllBelong types) (sym i.parts) (belong_both types old (parts_of Z types q i.row.form) a (parts_belong Z types q i.row.form l i.below))

pub listed_less : (Z : Tree → Bool) (types : List Row) (q : Part) (old new : List Part) (before after : List TopUse) → IsListed Z types q old new before after → sizes types new < sizes types (old ++ q ∷ [])
listed_less Z types q old new before after i =
    let f = i.row.form in
    let a = ap (sizes types) i.parts in
    let b = sizes-append types old (parts_of Z types q f) in
    let c = sizes-append types old (q ∷ []) in
    let d = parts_less Z types q i.row.place i.older f i.follows in
    let e = ap size i.placed in
    omega arith
