-- without faults of names each definition of a type is the first of its name
use Rattle.std.proofs.Common.{◌≡◌, ℕ, zero, suc, ◌+◌, ◌<◌, arith, Bool, true, false, cond, List, [], ◌∷◌, ◌++◌, length, get_or, map, Some, refl, ap, ◌∙◌}
use Rattle.std.specs.Str.{bytes_eq}
use Rattle.std.proofs.lemmas.Slice.Eq.{bytes_eq-Decides}
use Rattle.std.proofs.lemmas.Bool.{or_parts}
use Rattle.xd_doc.proofs.Lists.{none_of}
use Rattle.xd_syntax.specs.Words.{has_word, any_word, string_word}
use Rattle.xd_syntax.specs.Table.{Row}
use Rattle.xd_syntax.specs.Order.{precedes, put_in, ordered_after, in_order}
use Rattle.xd_syntax.specs.Program.{TypeDefinition}
use Rattle.xd_syntax.specs.Kept.{type_definition, ProgramTable, program_tree}
use Rattle.xd_syntax.specs.NameFaults.{Spot, fault_if, duplicates, name_faults}
use Rattle.xd_syntax.specs.declared.fault.Fault.{Fault}
use Rattle.xd_syntax.specs.declared.fault.FaultKind.TheVariants.{DuplicateName}
use Rattle.xd_syntax.specs.declared.types.TypeDef.{TypeDef}
use Rattle.xd_base.specs.declared.Place.{Place}
use Rattle.xd_sound.specs.TypeNames.{first_from}
use Rattle.xd_rec.specs.Names.{AreUnique}

put_in-length : (f : Fault) (gs : List Fault) → length (put_in precedes f gs) ≡ length gs + 1
put_in-length f [] = refl
put_in-length f (g ∷ gs) = go (precedes f g) (put_in-length f gs)
  where
    go : (b : Bool) → length (put_in precedes f gs) ≡ length gs + 1 → length (cond b (f ∷ (g ∷ gs)) (g ∷ put_in precedes f gs)) ≡ length (g ∷ gs) + 1
    go true e = omega arith
    go false e = omega arith

ordered_after-length : (done fs : List Fault) → length (ordered_after precedes done fs) ≡ length done + length fs
ordered_after-length done [] = omega arith
ordered_after-length done (f ∷ fs) =
    let i = ordered_after-length (put_in precedes f done) fs in let j = put_in-length f done in omega arith

-- of lists that join to the empty list each is empty
first_none : {A : Type 0} (xs ys : List A) → xs ++ ys ≡ [] → xs ≡ []
first_none [] ys e = refl
first_none (x ∷ xs) ys e = absurd (cc)

rest_none : {A : Type 0} (xs ys : List A) → xs ++ ys ≡ [] → ys ≡ []
rest_none [] ys e = e
rest_none (x ∷ xs) ys e = absurd (cc)

not_listed : (fs : List Fault) → in_order fs ≡ [] → fs ≡ []
not_listed fs e = none_of fs (let l = ordered_after-length [] fs in let k = ap length e in omega arith)

no_fault : (b : Bool) (p : Place) (w : List ℕ) → fault_if b p (DuplicateName w) ≡ [] → b ≡ false
no_fault true p w e = absurd (cc)
no_fault false p w e = refl

abbrev spot_of : TypeDefinition → Spot
spot_of t = record { word = t.name; place = t.place }

unique_after : (types : List Row) (ds : List TypeDef) (seen : List (List ℕ)) → duplicates seen (map spot_of (map (type_definition types) ds)) ≡ [] →
    (k : ℕ) (d : TypeDef) → k < length ds → (has_word seen (get_or ds k d).name ≡ false) × ((n : ℕ) → first_from n ds (get_or ds k d).name ≡ Some (n + k))
unique_after types [] seen e k d l = absurd (omega arith)
unique_after types (x ∷ ds) seen e zero d l =
    let a = no_fault (has_word seen x.name) x.place x.name (first_none (fault_if (has_word seen x.name) x.place (DuplicateName x.name)) (duplicates (x.name ∷ seen) (map spot_of (map (type_definition types) ds))) e) in (
      a,
      λ n. (let b = (bytes_eq-Decides x.name x.name).1 refl in let z : n ≡ n + 0 = omega arith in
          ap (λ t. cond t (Some n) (first_from (suc n) ds x.name)) b ∙ ap Some z),
    )
unique_after types (x ∷ ds) seen e (suc k) d l =
    let r = rest_none (fault_if (has_word seen x.name) x.place (DuplicateName x.name)) (duplicates (x.name ∷ seen) (map spot_of (map (type_definition types) ds))) e in
    let i = unique_after types ds (x.name ∷ seen) r k d (omega arith) in
    let o = or_parts (bytes_eq x.name (get_or ds k d).name) (has_word seen (get_or ds k d).name) i.0 in (
      o.1,
      λ n. (let z : suc n + k ≡ n + suc k = omega arith in
          ap (λ t. cond t (Some n) (first_from (suc n) ds (get_or ds k d).name)) o.0 ∙ i.1 (suc n) ∙ ap Some z),
    )

pub unique_names : (p : ProgramTable) → name_faults (program_tree p) ≡ [] → AreUnique p.type_defs
unique_names p e k d l =
    let a = not_listed _ e in
    let b = first_none _ _ (first_none _ _ (first_none _ _ (first_none _ _ a))) in
    let z : 0 + k ≡ k = omega arith in
    (unique_after p.types p.type_defs (string_word ∷ (any_word ∷ [])) b k d l).1 0 ∙ ap Some z
