-- A program of such definitions has no fault of names and none of recursion.
use Rattle.std.proofs.Common.{◌≡◌, ℕ, Bool, true, false, cond, not, ◌&&◌, ◌||◌, inl, inr, List, [], ◌∷◌, ◌++◌, map, flat_map, Some, None, refl, ap, sym, ◌∙◌, subst}
use Rattle.std.specs.List.{AllByRecursion}
use Rattle.std.specs.Str.{bytes_eq}
use Rattle.std.proofs.lemmas.Bool.{and_parts, or_parts, or_from}
use Rattle.std.proofs.lemmas.Slice.Eq.{bytes_eq-Decides}
use Rattle.xd_doc.proofs.Lists.{word_equals}
use Rattle.xd_doc.proofs.Bools.{or_second}
use Rattle.xd_doc.specs.Members.{IsOneOf}
use Rattle.xd_syntax.specs.Words.{any_word, string_word, has_word}
use Rattle.xd_syntax.specs.Keywords.{keywords, is_type_name}
use Rattle.xd_syntax.specs.Tree.{uses_only}
use Rattle.xd_syntax.specs.Table.{Row}
use Rattle.xd_syntax.specs.Placed.{PlacedTree, Empty_at, Text_at, Words_at, Name_at, Elem_at, Seq_at, Alt_at, Star_at, Plus_at, Opt_at, Val_at, unplaced}
use Rattle.xd_syntax.specs.Program.{TypeDefinition, ProgramTree, names_of}
use Rattle.xd_syntax.specs.Kept.{type_definition}
use Rattle.xd_syntax.specs.ProperTables.{IsTable}
use Rattle.xd_syntax.specs.Order.{in_order}
use Rattle.xd_syntax.specs.NameFaults.{Spot, duplicates, fault_if, known_types, unknown_types, name_faults}
use Rattle.xd_syntax.specs.RecursionFaults.{Use, UseIn, not_tail, behind_type, top_uses, placed_body, Leads, arrived, use_then, AnyUse, IsFrontUse, IsOutsideTail, IsUnguarded, Keeps, all_seen, left_out, all_top_uses, IsSound}
use Rattle.xd_syntax.specs.declared.fault.FaultKind.TheVariants.{UnknownType}
use Rattle.xd_syntax.specs.declared.types.TypeId.{TypeId}
use Rattle.xd_syntax.proofs.Members.{mem_append, mem_map}
use Rattle.xd_syntax.proofs.Words.{bytes_eq-turned}
use Rattle.xd_same_types.specs.Grown.{NamesAmong}
use Rattle.xd_same_types.specs.Same.{tops_only}
use Rattle.xd_shown.specs.Bodies.{AreBodies, definitions_of, defining}
use Rattle.xd_shown.specs.FreeNames.{AreDistinct, AreNewNames}
use Rattle.xd_shown.specs.Shown.{defined_names, UsesUnderLabels}
use Rattle.xd_shown.proofs.DefiningLemmas.{names_are, each_definition, bodies_use}

-- ---- no name twice
abbrev spots_of : List TypeDefinition → List Spot
spots_of ts = map (λ (t : TypeDefinition). let s : Spot = record { word = t.name; place = t.place } in s) ts

-- none of the words is among those seen
abbrev AreUnseen : List (List ℕ) → List (List ℕ) → Type 0
AreUnseen seen words = AllByRecursion (λ w. has_word seen w ≡ false) words

still_unseen : (seen : List (List ℕ)) (w : List ℕ) (words : List (List ℕ)) → has_word words w ≡ false → AreUnseen seen words → AreUnseen (w ∷ seen) words
still_unseen seen w [] h a = tt
still_unseen seen w (v ∷ words) h a =
    let b = or_parts (bytes_eq v w) (has_word words w) h in
    (or_from (bytes_eq w v) (has_word seen v) (bytes_eq-turned v w b.0) a.0, still_unseen seen w words b.1 a.1)

no_duplicates : (types : List Row) (seen words : List (List ℕ)) (bodies : List TypeId) → AreUnseen seen words → AreDistinct words →
    duplicates seen (spots_of (map (type_definition types) (definitions_of words bodies))) ≡ []
no_duplicates types seen [] bodies a d = refl
no_duplicates types seen (w ∷ words) [] a d = refl
no_duplicates types seen (w ∷ words) (b ∷ bodies) a d = rw a.0 (no_duplicates types (w ∷ seen) words bodies (still_unseen seen w words d.0 a.1) d.1)

at_first : (words : List (List ℕ)) → AllByRecursion (λ w. is_type_name w ≡ true) words → has_word words any_word ≡ false → AreUnseen (string_word ∷ (any_word ∷ [])) words
at_first [] p h = tt
at_first (w ∷ words) p h =
    let b = or_parts (bytes_eq w any_word) (has_word words any_word) h in
    (or_from (bytes_eq string_word w) _ (no_string (bytes_eq string_word w) (not (has_word keywords w)) p.0) (or_from (bytes_eq any_word w) false (bytes_eq-turned w any_word b.0) refl), at_first words p.1 b.1)
  where
    no_string : (a b : Bool) → (b && not a) ≡ true → a ≡ false
    no_string true true e = absurd (cc)
    no_string true false e = absurd (cc)
    no_string false b e = refl

-- ---- all names are known
both_nothing : {A : Type 0} {xs ys : List A} → xs ≡ [] → ys ≡ [] → xs ++ ys ≡ []
both_nothing {xs} {ys} e f = ap (λ zs. zs ++ ys) e ∙ f

all_known : (known : List (List ℕ)) (T : PlacedTree) → uses_only known (unplaced T) ≡ true → unknown_types known T ≡ []
all_known known (Empty_at p) e = refl
all_known known (Text_at p) e = refl
all_known known (Words_at p w) e = refl
all_known known (Name_at p x) e = ap (λ b. fault_if (not b) p (UnknownType x)) e
all_known known (Elem_at p c T) e = all_known known T e
all_known known (Seq_at p T U) e =
    let b = and_parts (uses_only known (unplaced T)) (uses_only known (unplaced U)) e in both_nothing (all_known known T b.0) (all_known known U b.1)
all_known known (Alt_at p T U) e =
    let b = and_parts (uses_only known (unplaced T)) (uses_only known (unplaced U)) e in both_nothing (all_known known T b.0) (all_known known U b.1)
all_known known (Star_at p T) e = all_known known T e
all_known known (Plus_at p T) e = all_known known T e
all_known known (Opt_at p T) e = all_known known T e
all_known known (Val_at p x q T) e = all_known known T e

none_unknown : (known : List (List ℕ)) (ts : List TypeDefinition) → AllByRecursion (λ (t : TypeDefinition). uses_only known (unplaced t.body) ≡ true) ts →
    flat_map (λ (t : TypeDefinition). unknown_types known t.body) ts ≡ []
none_unknown known [] a = refl
none_unknown known (t ∷ ts) a = both_nothing (all_known known t.body a.0) (none_unknown known ts a.1)

-- ---- uses outside of labels
-- such a use is of one of these names
top_named : (known : List (List ℕ)) (T : PlacedTree) (u : Use) → tops_only known (unplaced T) ≡ true → IsOneOf u (top_uses T) → has_word known u.name ≡ true
top_named known (Empty_at p) u e m = absurd m
top_named known (Text_at p) u e m = absurd m
top_named known (Words_at p w) u e m = absurd m
top_named known (Name_at p x) u e (inl q) = subst (λ (v : Use). has_word known v.name ≡ true) q e
top_named known (Name_at p x) u e (inr m) = absurd m
top_named known (Elem_at p c T) u e m = absurd m
top_named known (Seq_at p T U) u e m =
    let b = and_parts (tops_only known (unplaced T)) (tops_only known (unplaced U)) e in
    elim (mem_append u (map not_tail (top_uses T)) (map (behind_type (unplaced T)) (top_uses U)) m) [
      | inl n ↦ let r = mem_map not_tail u (top_uses T) n in subst (λ (v : Use). has_word known v.name ≡ true) r.2 (top_named known T r.0 b.0 r.1)
      | inr n ↦ let r = mem_map (behind_type (unplaced T)) u (top_uses U) n in subst (λ (v : Use). has_word known v.name ≡ true) r.2 (top_named known U r.0 b.1 r.1)
    ]
top_named known (Alt_at p T U) u e m =
    let b = and_parts (tops_only known (unplaced T)) (tops_only known (unplaced U)) e in
    elim (mem_append u (top_uses T) (top_uses U) m) [ inl n ↦ top_named known T u b.0 n | inr n ↦ top_named known U u b.1 n ]
top_named known (Star_at p T) u e m = let r = mem_map not_tail u (top_uses T) m in subst (λ (v : Use). has_word known v.name ≡ true) r.2 (top_named known T r.0 e r.1)
top_named known (Plus_at p T) u e m = let r = mem_map not_tail u (top_uses T) m in subst (λ (v : Use). has_word known v.name ≡ true) r.2 (top_named known T r.0 e r.1)
top_named known (Opt_at p T) u e m = top_named known T u e m
top_named known (Val_at p x q T) u e m = top_named known T u e m

-- such a use in the definition of one of these
record IsUseOf (ts : List TypeDefinition) (known : List (List ℕ)) (w : UseIn) : Type 0 where
  owned : has_word (map (λ (t : TypeDefinition). t.name) ts) w.owner ≡ true
  named : has_word known (w.use_there).name ≡ true

is_use : (known : List (List ℕ)) (ts : List TypeDefinition) → AllByRecursion (λ (t : TypeDefinition). tops_only known (unplaced t.body) ≡ true) ts →
    (w : UseIn) → IsOneOf w (all_top_uses ts) → IsUseOf ts known w
is_use known [] a w m = absurd m
is_use known (t ∷ ts) a w m =
    let here : Use → UseIn = λ u. record { owner = t.name; use_there = u } in
    elim (mem_append w (map here (top_uses t.body)) (all_top_uses ts) m) [
      | inl n ↦
          let r = mem_map here w (top_uses t.body) n in
          subst (IsUseOf (t ∷ ts) known) r.2 (record {
            owned = ap (λ x. x || has_word (map (λ (t : TypeDefinition). t.name) ts) t.name) (word_equals t.name t.name refl);
            named = top_named known t.body r.0 a.0 r.1;
          })
      | inr n ↦ let r = is_use known ts a.1 w n in record { owned = or_second (bytes_eq t.name w.owner) r.owned; named = r.named }
    ]

undefined : (ts : List TypeDefinition) (x : List ℕ) → has_word (map (λ (t : TypeDefinition). t.name) ts) x ≡ false → placed_body ts x ≡ None
undefined [] x h = refl
undefined (t ∷ ts) x h =
    let b = or_parts (bytes_eq t.name x) (has_word (map (λ (t : TypeDefinition). t.name) ts) x) h in
    ap (λ c. cond c (Some t.body) (placed_body ts x)) b.0 ∙ undefined ts x b.1

-- no chain leads from a name that is not defined to one that is
no_chain : (P : ProgramTree) (A : Use → Type 0) {x y : List ℕ} → Leads P A x y → has_word (defined_names P) x ≡ false → has_word (defined_names P) y ≡ true → ⊥
no_chain P A arrived h k = let e : true ≡ false = sym k ∙ h in cc
no_chain P A (use_then {x} s l) h k = let e = sym s.2 ∙ undefined P.types x h in cc

kept_none : {A : Type 0} (Q : A → Type 0) (xs : List A) → ((x : A) → IsOneOf x xs → Q x → ⊥) → Keeps Q xs []
kept_none Q [] h = all_seen
kept_none Q (x ∷ xs) h = left_out (h x (inl refl)) (kept_none Q xs (λ y m. h y (inr m)))

-- ---- all together
any_alone : (x : List ℕ) → has_word (any_word ∷ []) x ≡ true → any_word ≡ x
any_alone x h = go (bytes_eq any_word x) refl h
  where
    go : (b : Bool) → bytes_eq any_word x ≡ b → (b || false) ≡ true → any_word ≡ x
    go true e k = (bytes_eq-Decides any_word x).0 e
    go false e k = absurd (cc)

module _ (types : List Row) (words : List (List ℕ)) (bodies : List TypeId) (table : IsTable false types) (n : AreNewNames words) (b : AreBodies types words bodies) where
  abbrev pub P : ProgramTree
  P = defining types words bodies

  named_so : defined_names P ≡ words
  named_so = names_are types words bodies b.each

  no_any : has_word (defined_names P) any_word ≡ false
  no_any = ap (λ ws. has_word ws any_word) named_so ∙ n.not_any

  known_so : known_types P ≡ any_word ∷ words
  known_so = ap (λ ws. any_word ∷ ws) named_so

  guarded : AllByRecursion (λ (t : TypeDefinition). tops_only (any_word ∷ []) (unplaced t.body) ≡ true) P.types
  guarded = each_definition (λ T. tops_only (any_word ∷ []) T ≡ true) types words bodies b.guarded

  used : AllByRecursion (λ (t : TypeDefinition). uses_only (known_types P) (unplaced t.body) ≡ true) P.types
  used =
      each_definition (λ T. uses_only (known_types P) T ≡ true) types words bodies
      (bodies_use (known_types P) types table (subst (λ ks. NamesAmong ks types) (sym known_so) b.known) bodies b.belong)

  no_name_fault : name_faults P ≡ []
  no_name_fault =
      let seen = string_word ∷ (any_word ∷ []) in
      let unknown = flat_map (λ (t : TypeDefinition). unknown_types (known_types P) t.body) P.types in
      let d : duplicates seen (spots_of P.types) ≡ [] = no_duplicates types seen words bodies (at_first words n.proper n.not_any) n.distinct in
      ap (λ fs. in_order (fs ++ [] ++ [] ++ unknown ++ [])) d ∙ ap (λ fs. in_order ([] ++ [] ++ [] ++ fs ++ [])) (none_unknown (known_types P) P.types used)

  use_of : (w : UseIn) → IsOneOf w (all_top_uses P.types) → IsUseOf P.types (any_word ∷ []) w
  use_of w m = is_use (any_word ∷ []) P.types guarded w m

  pub under_labels : UsesUnderLabels P
  under_labels w m = subst (λ x. has_word (defined_names P) x ≡ false) (any_alone (w.use_there).name (use_of w m).named) no_any

  no_way_back : (A : Use → Type 0) (w : UseIn) → IsOneOf w (all_top_uses P.types) → Leads P A (w.use_there).name w.owner → ⊥
  no_way_back A w m l = no_chain P A l (under_labels w m) (use_of w m).owned

  pub sound : IsSound P
  sound = record {
    names = no_name_fault;
    recursion = record {
      outside = [];
      unguarded = [];
      outside_all = kept_none (λ w. IsOutsideTail P w.owner w.use_there) (all_top_uses P.types) (λ w m h. no_way_back AnyUse w m h.1);
      unguarded_all = kept_none (λ w. IsUnguarded P w.owner w.use_there) (all_top_uses P.types) (λ w m h. no_way_back (IsFrontUse (names_of P)) w m h.1);
      listed = refl;
    };
  }
