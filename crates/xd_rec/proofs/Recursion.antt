-- from components to faults of recursion
use Rattle.std.proofs.Common.{◌≡◌, ℕ, zero, suc, ◌+◌, ◌-◌, ◌<◌, ◌≤◌, ◌↔◌, arith, Bool, true, false, not, cond, List, [], ◌∷◌, ◌++◌, length, get_or, map, Option, Some, None, refl, ap, sym, subst, ◌∙◌, inl, inr}
use Rattle.std.proofs.lemmas.List.{map-append}
use Rattle.std.specs.Str.{bytes_eq}
use Rattle.std.proofs.lemmas.Slice.Eq.{bytes_eq-Decides}
use Rattle.std.proofs.lemmas.Bool.{and_from, not_from_false}
use Rattle.xd_doc.specs.Document.{empty}
use Rattle.xd_doc.specs.Members.{IsOneOf}
use Rattle.xd_doc.proofs.Bools.{and_parts, not_true}
use Rattle.xd_syntax.specs.Tree.{Tree, Definitions}
use Rattle.xd_syntax.specs.Table.{Row}
use Rattle.xd_syntax.specs.Placed.{PlacedTree}
use Rattle.xd_syntax.specs.PlacedTable.{placed_at, the_start}
use Rattle.xd_syntax.specs.Fits.{Fits}
use Rattle.xd_syntax.specs.Order.{in_order}
use Rattle.xd_syntax.specs.Program.{TypeDefinition, FunctionDefinition, ProgramTree}
use Rattle.xd_syntax.specs.Kept.{type_definition}
use Rattle.xd_syntax.specs.SoundTables.{definition_of}
use Rattle.xd_syntax.specs.RecursionFaults.{Use, top_uses, AllCanBeEmpty, IsFrontUse, placed_body, Leads, arrived, use_then, AnyUse, IsOutsideTail, IsUnguarded, Keeps, all_seen, kept, left_out, UseIn, all_top_uses, not_tail_fault, unguarded_fault, AreRecursionFaults}
use Rattle.xd_syntax.specs.declared.types.TypeDef.{TypeDef}
use Rattle.xd_syntax.specs.declared.fault.Fault.{Fault}
use Rattle.xd_syntax.proofs.Members.{mem_append, append_left, append_right, mem_map, map_mem}
use Rattle.xd_sound.specs.Graph.{HasEdge}
use Rattle.xd_rec.specs.Components.{AreComponents, Path, stay, edge_then}
use Rattle.xd_sound.specs.TypeNames.{first_from, first_of, meanings}
use Rattle.xd_rec.specs.Names.{AreUnique, program_of}
use Rattle.xd_rec.specs.Uses.{all_empty, seen, tree_uses, uses_from}
use Rattle.xd_rec.specs.Faults.{AreOwned, IsGraphOf, same_as, is_back, recurs, recursion_fault, faults_of}
use Rattle.xd_rec.specs.declared.faults.Recursion.TheVariants.{OutsideTail, Unguarded}
use Rattle.xd_rec.specs.declared.components.Standing.{Standing}
use Rattle.xd_rec.specs.declared.uses.TopUse.{TopUse}
use Rattle.xd_sound.proofs.EmptyLemmas.{defined_at, defined_in}
use Rattle.xd_sound.proofs.NameLemmas.{first_found, first_missing}

abbrev no_def : TypeDef
no_def = record { name = []; place = the_start; body = record { at = 0 } }

abbrev body_at_number : List Row → List TypeDef → ℕ → PlacedTree
body_at_number types ds k = placed_at types (get_or ds k no_def).body.at

abbrev name_at : List TypeDef → ℕ → List ℕ
name_at ds k = (get_or ds k no_def).name

abbrev placed_of : List Row → Option TypeDef → Option PlacedTree
placed_of types None = None
placed_of types (Some d) = Some (placed_at types d.body.at)

placed_defined : (types : List Row) (ds : List TypeDef) (x : List ℕ) → placed_body (map (type_definition types) ds) x ≡ placed_of types (definition_of ds x)
placed_defined types [] x = refl
placed_defined types (d ∷ ds) x = go (bytes_eq d.name x) (placed_defined types ds x)
  where
    go : (b : Bool) → placed_body (map (type_definition types) ds) x ≡ placed_of types (definition_of ds x) →
        cond b (Some (placed_at types d.body.at)) (placed_body (map (type_definition types) ds) x) ≡ placed_of types (cond b (Some d) (definition_of ds x))
    go true i = refl
    go false i = i

-- the definition with a name's number has the name
named_so : (n : ℕ) (ds : List TypeDef) (w : List ℕ) (k : ℕ) → first_from n ds w ≡ Some k → (get_or ds (k - n) no_def).name ≡ w
named_so n [] w k e = absurd (cc)
named_so n (d ∷ ds) w k e = go (bytes_eq d.name w) refl e (λ f. (first_found (suc n) ds w k f).low) (λ f. named_so (suc n) ds w k f)
  where
    same : (a b : ℕ) → Some a ≡ Some b → a ≡ b
    same a b q = cc

    go : (b : Bool) → bytes_eq d.name w ≡ b → cond b (Some n) (first_from (suc n) ds w) ≡ Some k → (first_from (suc n) ds w ≡ Some k → suc n ≤ k) →
        (first_from (suc n) ds w ≡ Some k → (get_or ds (k - suc n) no_def).name ≡ w) → (get_or (d ∷ ds) (k - n) no_def).name ≡ w
    go true q f low rec =
        let z : k - n ≡ 0 = omega (arith, same n k f) in
        ap (λ i. (get_or (d ∷ ds) i no_def).name) z ∙ (bytes_eq-Decides d.name w).0 q
    go false q f low rec =
        let l = low f in
        let z : k - n ≡ suc (k - suc n) = omega arith in
        ap (λ i. (get_or (d ∷ ds) i no_def).name) z ∙ rec f

named : (ds : List TypeDef) (w : List ℕ) (k : ℕ) → first_of ds w ≡ Some k → name_at ds k ≡ w
named ds w k e = let z : k - 0 ≡ k = omega arith in ap (λ i. (get_or ds i no_def).name) (sym z) ∙ named_so 0 ds w k e

-- a use of a definition, by the definition's number
record IsUseOf (Z : Tree → Bool) (types : List Row) (ds : List TypeDef) (k : ℕ) (v : TopUse) : Type 0 where
  number : ℕ
  high : number < length ds
  source : Use
  listed : IsOneOf source (top_uses (body_at_number types ds number))
  is : v ≡ seen Z (k + number) source

use_source : (Z : Tree → Bool) (types : List Row) (k : ℕ) (ds : List TypeDef) (v : TopUse) → IsOneOf v (uses_from Z k (map (type_definition types) ds)) → IsUseOf Z types ds k v
use_source Z types k [] v m = absurd m
use_source Z types k (d ∷ ds) v m = elim (mem_append v (tree_uses Z k (placed_at types d.body.at)) (uses_from Z (suc k) (map (type_definition types) ds)) m) [
  | inl a ↦
      let r = mem_map (seen Z k) v (top_uses (placed_at types d.body.at)) a in
      let e : k ≡ k + 0 = omega arith in
      record { number = 0; high = omega arith; source = r.0; listed = r.1; is = sym r.2 ∙ ap (λ n. seen Z n r.0) e }
  | inr a ↦
      let r = use_source Z types (suc k) ds v a in
      let h = r.high in
      let e : suc k + r.number ≡ k + suc r.number = omega arith in
      record { number = suc r.number; high = omega arith; source = r.source; listed = r.listed; is = r.is ∙ ap (λ n. seen Z n r.source) e }
]

use_listed : (Z : Tree → Bool) (types : List Row) (k : ℕ) (ds : List TypeDef) (i : ℕ) (u : Use) → i < length ds → IsOneOf u (top_uses (body_at_number types ds i)) →
    IsOneOf (seen Z (k + i) u) (uses_from Z k (map (type_definition types) ds))
use_listed Z types k [] i u l m = absurd (omega arith)
use_listed Z types k (d ∷ ds) zero u l m =
    let e : k ≡ k + 0 = omega arith in
    append_left (seen Z (k + 0) u) (tree_uses Z k (placed_at types d.body.at)) (uses_from Z (suc k) (map (type_definition types) ds))
    (subst (λ n. IsOneOf (seen Z n u) (tree_uses Z k (placed_at types d.body.at))) e (map_mem (seen Z k) u (top_uses (placed_at types d.body.at)) m))
use_listed Z types k (d ∷ ds) (suc i) u l m =
    let e : suc k + i ≡ k + suc i = omega arith in
    append_right (seen Z (k + suc i) u) (tree_uses Z k (placed_at types d.body.at)) (uses_from Z (suc k) (map (type_definition types) ds))
    (subst (λ n. IsOneOf (seen Z n u) (uses_from Z (suc k) (map (type_definition types) ds))) e (use_listed Z types (suc k) ds i u (omega arith) m))

pub all_owned : (Z : Tree → Bool) (types : List Row) (ds : List TypeDef) → AreOwned ds (uses_from Z 0 (map (type_definition types) ds))
all_owned Z types ds v m =
    let r = use_source Z types 0 ds v m in
    let e = ap (λ (x : TopUse). x.owner) r.is in
    let h = r.high in omega arith

keeps_both : {A : Type 0} (Q : A → Type 0) {xs ys us vs : List A} → Keeps Q xs ys → Keeps Q us vs → Keeps Q (xs ++ us) (ys ++ vs)
keeps_both Q all_seen k = k
keeps_both Q (kept q j) k = kept q (keeps_both Q j k)
keeps_both Q (left_out n j) k = left_out n (keeps_both Q j k)

abbrev use_in : List ℕ → Use → UseIn
use_in x u = record { owner = x; use_there = u }

abbrev kept_uses : (TopUse → Bool) → (Tree → Bool) → ℕ → List ℕ → List Use → List UseIn
kept_uses test Z k x [] = []
kept_uses test Z k x (u ∷ us) = cond (test (seen Z k u)) (use_in x u ∷ kept_uses test Z k x us) (kept_uses test Z k x us)

abbrev kept_all : (TopUse → Bool) → (Tree → Bool) → ℕ → List TypeDefinition → List UseIn
kept_all test Z k [] = []
kept_all test Z k (t ∷ ts) = kept_uses test Z k t.name (top_uses t.body) ++ kept_all test Z (suc k) ts

-- the test decides the fact
abbrev Decided : (TopUse → Bool) → (Tree → Bool) → (UseIn → Type 0) → ℕ → List ℕ → Use → Type 0
Decided test Z Q k x u = (test (seen Z k u) ≡ true → Q (use_in x u)) × (Q (use_in x u) → test (seen Z k u) ≡ true)

keeps_uses : (test : TopUse → Bool) (Z : Tree → Bool) (Q : UseIn → Type 0) (k : ℕ) (x : List ℕ) (us : List Use) → ((u : Use) → IsOneOf u us → Decided test Z Q k x u) →
    Keeps Q (map (use_in x) us) (kept_uses test Z k x us)
keeps_uses test Z Q k x [] h = all_seen
keeps_uses test Z Q k x (u ∷ us) h = go (test (seen Z k u)) refl (h u (inl refl)) (keeps_uses test Z Q k x us (λ v m. h v (inr m)))
  where
    go : (b : Bool) → test (seen Z k u) ≡ b → Decided test Z Q k x u → Keeps Q (map (use_in x) us) (kept_uses test Z k x us) →
        Keeps Q (use_in x u ∷ map (use_in x) us) (cond b (use_in x u ∷ kept_uses test Z k x us) (kept_uses test Z k x us))
    go true e d i = kept (d.0 e) i
    go false e d i = left_out (λ q. (let f = d.1 q in cc)) i

keeps_all : (test : TopUse → Bool) (Z : Tree → Bool) (Q : UseIn → Type 0) (types : List Row) (k : ℕ) (ds : List TypeDef) →
    ((i : ℕ) (u : Use) → i < length ds → IsOneOf u (top_uses (body_at_number types ds i)) → Decided test Z Q (k + i) (name_at ds i) u) →
    Keeps Q (all_top_uses (map (type_definition types) ds)) (kept_all test Z k (map (type_definition types) ds))
keeps_all test Z Q types k [] h = all_seen
keeps_all test Z Q types k (d ∷ ds) h =
    let e : k + 0 ≡ k = omega arith in
    keeps_both Q
    (keeps_uses test Z Q k d.name (top_uses (placed_at types d.body.at)) (λ u m. subst (λ n. Decided test Z Q n d.name u) e (h 0 u (omega arith) m)))
    (keeps_all test Z Q types (suc k) ds (λ i u l m. (let f : k + suc i ≡ suc k + i = omega arith in subst (λ n. Decided test Z Q n (name_at ds i) u) f (h (suc i) u (omega arith) m))))

faults_both : (test : TopUse → Bool) (fault : TopUse → Fault) (us vs : List TopUse) → faults_of test fault (us ++ vs) ≡ faults_of test fault us ++ faults_of test fault vs
faults_both test fault [] vs = refl
faults_both test fault (u ∷ us) vs = go (test u) (faults_both test fault us vs)
  where
    go : (b : Bool) → faults_of test fault (us ++ vs) ≡ faults_of test fault us ++ faults_of test fault vs →
        cond b (fault u ∷ faults_of test fault (us ++ vs)) (faults_of test fault (us ++ vs)) ≡ cond b (fault u ∷ faults_of test fault us) (faults_of test fault us) ++ faults_of test fault vs
    go true e = ap (λ fs. fault u ∷ fs) e
    go false e = e

uses_faults : (test : TopUse → Bool) (fault : TopUse → Fault) (made : UseIn → Fault) (Z : Tree → Bool) → ((k : ℕ) (x : List ℕ) (u : Use) → fault (seen Z k u) ≡ made (use_in x u)) →
    (k : ℕ) (x : List ℕ) (us : List Use) → faults_of test fault (map (seen Z k) us) ≡ map made (kept_uses test Z k x us)
uses_faults test fault made Z h k x [] = refl
uses_faults test fault made Z h k x (u ∷ us) = go (test (seen Z k u)) (uses_faults test fault made Z h k x us)
  where
    go : (b : Bool) → faults_of test fault (map (seen Z k) us) ≡ map made (kept_uses test Z k x us) →
        cond b (fault (seen Z k u) ∷ faults_of test fault (map (seen Z k) us)) (faults_of test fault (map (seen Z k) us)) ≡ map made (cond b (use_in x u ∷ kept_uses test Z k x us) (kept_uses test Z k x us))
    go true e = let f = h k x u in rw (f, e) refl
    go false e = e

all_faults : (test : TopUse → Bool) (fault : TopUse → Fault) (made : UseIn → Fault) (Z : Tree → Bool) → ((k : ℕ) (x : List ℕ) (u : Use) → fault (seen Z k u) ≡ made (use_in x u)) →
    (k : ℕ) (ts : List TypeDefinition) → faults_of test fault (uses_from Z k ts) ≡ map made (kept_all test Z k ts)
all_faults test fault made Z h k [] = refl
all_faults test fault made Z h k (t ∷ ts) =
    faults_both test fault (tree_uses Z k t.body) (uses_from Z (suc k) ts)
    ∙ ap (λ fs. fs ++ faults_of test fault (uses_from Z (suc k) ts)) (uses_faults test fault made Z h k t.name (top_uses t.body))
    ∙ ap (λ fs. map made (kept_uses test Z k t.name (top_uses t.body)) ++ fs) (all_faults test fault made Z h (suc k) ts)
    ∙ sym (map-append made (kept_uses test Z k t.name (top_uses t.body)) (kept_all test Z (suc k) ts))

-- the chains of uses that a fact allows, and the paths of a graph of uses
module _ (types : List Row) (ds : List TypeDef) (fs : List FunctionDefinition) (unique : AreUnique ds) (Z : Tree → Bool)
    (front : Bool) (A : Use → Type 0) (counted : (u : Use) → A u → front ≡ true → all_empty Z u.before ≡ true) (allowed : (u : Use) → (front ≡ true → all_empty Z u.before ≡ true) → A u)
    (g : List (List ℕ)) (graph : IsGraphOf ds (uses_from Z 0 (map (type_definition types) ds)) front g) (st : List Standing) (parts : AreComponents g st) where
  abbrev P : ProgramTree
  P = program_of types ds fs

  use_edge : (i : ℕ) (u : Use) (w : ℕ) → i < length ds → IsOneOf u (top_uses (body_at_number types ds i)) → first_of ds u.name ≡ Some w → A u → HasEdge g i w
  use_edge i u w l m e a = (graph.edges i w).1 (record { used = seen Z i u; listed = (let z : 0 + i ≡ i = omega arith in subst (λ n. IsOneOf (seen Z n u) (uses_from Z 0 (map (type_definition types) ds))) z (use_listed Z types 0 ds i u l m)); owner = refl; target = e; counts = counted u a })

  -- what a name's definition is
  body_of_name : (x : List ℕ) (T : PlacedTree) → placed_body (map (type_definition types) ds) x ≡ Some T → (k : ℕ) × (first_of ds x ≡ Some k) × (k < length ds) × (body_at_number types ds k ≡ T)
  body_of_name x T e = go (first_of ds x) refl
    where
      go : (o : Option ℕ) → first_of ds x ≡ o → (k : ℕ) × (first_of ds x ≡ Some k) × (k < length ds) × (body_at_number types ds k ≡ T)
      go None f = absurd (let q : None ≡ Some T = sym (placed_defined types ds x ∙ ap (placed_of types) (first_missing 0 ds x f)) ∙ e in cc)
      go (Some k) f =
          let d = defined_at ds x k no_def f in
          let q : Some (body_at_number types ds k) ≡ Some T = sym (placed_defined types ds x ∙ ap (placed_of types) d.1) ∙ e in
          (k, f, d.0, cc)

  name_of_body : (k : ℕ) → k < length ds → placed_body (map (type_definition types) ds) (name_at ds k) ≡ Some (body_at_number types ds k)
  name_of_body k l = placed_defined types ds (name_at ds k) ∙ ap (placed_of types) (defined_at ds (name_at ds k) k no_def (unique k no_def l)).1

  chain_path : {y z : List ℕ} → Leads P A y z → (k : ℕ) → first_of ds z ≡ Some k → (t : ℕ) × (first_of ds y ≡ Some t) × Path g t k
  chain_path arrived k e = (k, e, stay)
  chain_path (use_then {x} {y} {z} s r) k e =
      let i = chain_path r k e in
      let b = body_of_name x s.0 s.2 in
      let m : IsOneOf s.1 (top_uses (body_at_number types ds b.0)) = subst (λ T. IsOneOf s.1 (top_uses T)) (sym b.3) s.3 in
      (b.0, b.1, edge_then (use_edge b.0 s.1 i.0 b.2 m (ap (first_of ds) s.4 ∙ i.1) s.5) i.2)

  path_chain : {t k : ℕ} → Path g t k → Leads P A (name_at ds t) (name_at ds k)
  path_chain stay = arrived
  path_chain (edge_then {u = t} {v} {w = k} e p) =
      let r = (graph.edges t v).0 e in
      let s = use_source Z types 0 ds r.used r.listed in
      let z : 0 + s.number ≡ s.number = omega arith in
      let n : s.number ≡ t = sym z ∙ sym (ap (λ (x : TopUse). x.owner) s.is) ∙ r.owner in
      let l : t < length ds = subst (λ i. i < length ds) n s.high in
      let m : IsOneOf s.source (top_uses (body_at_number types ds t)) = subst (λ i. IsOneOf s.source (top_uses (body_at_number types ds i))) n s.listed in
      let w : s.source.name ≡ name_at ds v = sym (ap (λ (x : TopUse). x.name) s.is) ∙ sym (named ds r.used.name v r.target) in
      let a : A s.source = allowed s.source (λ q. sym (ap (λ (x : TopUse). x.is_front) s.is) ∙ r.counts q) in
      use_then (body_at_number types ds t, s.source, name_of_body t l, m, w, a) (path_chain p)

  -- a use that counts leads back exactly where the two definitions are in one component
  pub back_leads : (k : ℕ) (u : Use) → is_back ds st (seen Z k u) ≡ true → k < length ds → Leads P A u.name (name_at ds k)
  back_leads k u e l = go (first_of ds u.name) refl e
    where
      go : (o : Option ℕ) → first_of ds u.name ≡ o → same_as st k o ≡ true → Leads P A u.name (name_at ds k)
      go None f s = absurd (cc)
      go (Some t) f s =
          let n = graph.count in
          let lt = defined_in ds u.name t f in
          subst (λ x. Leads P A x (name_at ds k)) (named ds u.name t f) (path_chain ((parts.same k t (omega arith) (omega arith)).0 s).1)

  pub leads_back : (k : ℕ) (u : Use) → k < length ds → IsOneOf u (top_uses (body_at_number types ds k)) → A u → Leads P A u.name (name_at ds k) → is_back ds st (seen Z k u) ≡ true
  leads_back k u l m a c =
      let r = chain_path c k (unique k no_def l) in
      let n = graph.count in
      let lt = defined_in ds u.name r.0 r.1 in
      ap (same_as st k) r.1 ∙ (parts.same k r.0 (omega arith) (omega arith)).1 (edge_then (use_edge k u r.0 l m r.1 a) stay, r.2)

all_can : (E : Definitions) (Z : Tree → Bool) → ((T : Tree) → (Z T ≡ true) ↔ Fits E T empty) → (Ts : List Tree) → all_empty Z Ts ≡ true → AllCanBeEmpty E Ts
all_can E Z d [] e = tt
all_can E Z d (T ∷ Ts) e = let r = and_parts (Z T) (all_empty Z Ts) e in ((d T).0 r.0, all_can E Z d Ts r.1)

can_all : (E : Definitions) (Z : Tree → Bool) → ((T : Tree) → (Z T ≡ true) ↔ Fits E T empty) → (Ts : List Tree) → AllCanBeEmpty E Ts → all_empty Z Ts ≡ true
can_all E Z d [] a = refl
can_all E Z d (T ∷ Ts) a = let b = (d T).1 a.0 in let c = can_all E Z d Ts a.1 in rw (b, c) refl

pub all_recursion_faults : (types : List Row) (ds : List TypeDef) (fs : List FunctionDefinition) → AreUnique ds → (Z : Tree → Bool) → ((T : Tree) → (Z T ≡ true) ↔ Fits (meanings types ds) T empty) →
    (g h : List (List ℕ)) (st su : List Standing) → IsGraphOf ds (uses_from Z 0 (map (type_definition types) ds)) false g → AreComponents g st →
    IsGraphOf ds (uses_from Z 0 (map (type_definition types) ds)) true h → AreComponents h su → (faults : List Fault) →
    faults ≡ in_order (faults_of (recurs OutsideTail ds st) (recursion_fault OutsideTail) (uses_from Z 0 (map (type_definition types) ds)) ++ faults_of (recurs Unguarded ds su) (recursion_fault Unguarded) (uses_from Z 0 (map (type_definition types) ds))) →
    AreRecursionFaults (program_of types ds fs) faults
all_recursion_faults types ds fs unique Z decides g h st su ig ag ih ah faults e =
    let ts = map (type_definition types) ds in
    let E = meanings types ds in
    let P = program_of types ds fs in
    record {
      outside = kept_all (recurs OutsideTail ds st) Z 0 ts;
      unguarded = kept_all (recurs Unguarded ds su) Z 0 ts;
      outside_all = keeps_all (recurs OutsideTail ds st) Z (λ w. IsOutsideTail P w.owner w.use_there) types 0 ds (λ i u l m. (let z : i ≡ 0 + i = omega arith in
          subst (λ n. Decided (recurs OutsideTail ds st) Z (λ w. IsOutsideTail P w.owner w.use_there) n (name_at ds i) u) z (
            λ t. (let r = and_parts (not u.is_tail) (is_back ds st (seen Z i u)) t in
                (not_true u.is_tail r.0, back_leads types ds fs unique Z false AnyUse (λ x a q. absurd (cc)) (λ x a. tt) g ig st ag i u r.1 l)),
            λ q. (let b = leads_back types ds fs unique Z false AnyUse (λ x a z. absurd (cc)) (λ x a. tt) g ig st ag i u l m tt q.1 in
                and_from (not u.is_tail) (is_back ds st (seen Z i u)) (not_from_false u.is_tail q.0) b),
          )));
      unguarded_all = keeps_all (recurs Unguarded ds su) Z (λ w. IsUnguarded P w.owner w.use_there) types 0 ds (λ i u l m. (let z : i ≡ 0 + i = omega arith in
          subst (λ n. Decided (recurs Unguarded ds su) Z (λ w. IsUnguarded P w.owner w.use_there) n (name_at ds i) u) z (
            λ t. (let r = and_parts (all_empty Z u.before) (is_back ds su (seen Z i u)) t in
                (all_can E Z decides u.before r.0, back_leads types ds fs unique Z true (IsFrontUse E) (λ x a q. can_all E Z decides x.before a) (λ x a. all_can E Z decides x.before (a refl)) h ih su ah i u r.1 l)),
            λ q. (let b = leads_back types ds fs unique Z true (IsFrontUse E) (λ x a z. can_all E Z decides x.before a) (λ x a. all_can E Z decides x.before (a refl)) h ih su ah i u l m q.0 q.1 in
                and_from (all_empty Z u.before) (is_back ds su (seen Z i u)) (can_all E Z decides u.before q.0) b),
          )));
      listed = e ∙ ap in_order
          (ap (λ xs. xs ++ faults_of (recurs Unguarded ds su) (recursion_fault Unguarded) (uses_from Z 0 ts)) (all_faults (recurs OutsideTail ds st) (recursion_fault OutsideTail) not_tail_fault Z (λ k x u. refl) 0 ts)
          ∙ ap (λ xs. map not_tail_fault (kept_all (recurs OutsideTail ds st) Z 0 ts) ++ xs) (all_faults (recurs Unguarded ds su) (recursion_fault Unguarded) unguarded_fault Z (λ k x u. refl) 0 ts));
    }

-- one list at most
keeps_same : {A : Type 0} (Q : A → Type 0) {xs ys zs : List A} → Keeps Q xs ys → Keeps Q xs zs → ys ≡ zs
keeps_same Q all_seen all_seen = refl
keeps_same Q (kept {x} p j) (kept q k) = ap (λ ys. x ∷ ys) (keeps_same Q j k)
keeps_same Q (kept p j) (left_out n k) = absurd (n p)
keeps_same Q (left_out n j) (kept p k) = absurd (n p)
keeps_same Q (left_out n j) (left_out m k) = keeps_same Q j k

pub one_list : (P : ProgramTree) (fs gs : List Fault) → AreRecursionFaults P fs → AreRecursionFaults P gs → fs ≡ gs
one_list P fs gs a b =
    let o = keeps_same (λ (w : UseIn). IsOutsideTail P w.owner w.use_there) a.outside_all b.outside_all in
    let u = keeps_same (λ (w : UseIn). IsUnguarded P w.owner w.use_there) a.unguarded_all b.unguarded_all in
    a.listed ∙ ap (λ xs. in_order (map not_tail_fault xs ++ map unguarded_fault a.unguarded)) o
    ∙ ap (λ xs. in_order (map not_tail_fault b.outside ++ map unguarded_fault xs)) u ∙ sym b.listed
