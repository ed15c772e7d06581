-- Lines of types.
use Rattle.std.proofs.Common.{◌≡◌, ℕ, zero, suc, ◌+◌, ◌-◌, ◌<◌, ◌≤◌, arith, List, [], ◌∷◌, ◌++◌, Bor, map, length, length-append, get_or, take, drop, Option, Some, None, Result, Ok, Err, refl, ap, sym, subst, ◌∙◌}
use Rattle.std.specs.Prelude.{codes, IfOk, ◌^◌}
use Rattle.std.specs.List.{AllZip, AllByRecursion}
use Rattle.std.specs.Fmt.{decimal}
use Rattle.std.proofs.lemmas.List.{append_cancel_left, length-take-le}
use Rattle.std.proofs.lemmas.Slice.Zip.{all_zipped_more}
use Rattle.xd_doc.specs.declared.NoMemory.{NoMemory}
use Rattle.xd_syntax.specs.Tree.{Tree, Empty}
use Rattle.xd_syntax.specs.TypeText.{type_text}
use Rattle.xd_syntax.specs.Table.{Row, KeepsRows}
use Rattle.xd_syntax.specs.Types.{BelongsTo, tree}
use Rattle.xd_syntax.specs.SoundTables.{IsTypeAt}
use Rattle.xd_syntax.specs.Kept.{ProgramTable}
use Rattle.xd_syntax.specs.declared.types.TypeId.{TypeId}
use Rattle.xd_sound.proofs.AdoptLaws.{type_kept}
use Rattle.xd_proof.specs.Lines.{space, IsFreeOf, SpellsNumber, IsNumber}
use Rattle.xd_proof.specs.Parts.{ProofLine, type_part, SpellsTypePart, SpellParts}
use Rattle.xd_proof.specs.Form.{types_from}
use Rattle.xd_proof.proofs.BeginLemmas.{spell_joined}
use Rattle.xd_proof.proofs.LineLemmas.{same_front, no_mark}
use Rattle.xd_proof.proofs.Unique.{decimal_free, number_one}
use Rattle.xd_proof_read.specs.Naming.{IsTypeRead, SpellsTypeOf, GrowsTypes}
use Rattle.xd_proof_read.specs.BadLines.{IsTypeLine, IsBadTypeLine}
use Rattle.xd_proof_read.proofs.NamingFacts.{spelled_kept}
use Rattle.xd_proof_read.proofs.GoalFacts.{texts, length-texts, text_at, one_more_line}

module _ (R : List ℕ → Tree → Type 0) where
  -- what stands after the word
  behind_type : (line behind : List ℕ) (k : ℕ) (T : Tree) → line ≡ codes "type" ++ space ∷ behind → IsTypeLine R line k T → SpellsTypePart R behind k T
  behind_type line behind k T e f =
      subst (λ b. SpellsTypePart R b k T) (ap (λ l. drop 1 l) (append_cancel_left (codes "type") (space ∷ f.behind) (space ∷ behind) (sym f.whole ∙ e))) f.reads

  pub no_type_word : (line word : List ℕ) (k : ℕ) → word ≡ codes "type" → ((rest : List ℕ) → line ≡ word ++ space ∷ rest → ⊥) → (T : Tree) → IsTypeLine R line k T → ⊥
  no_type_word line word k e never T f = never f.behind (f.whole ∙ ap (λ w. w ++ space ∷ f.behind) (sym e))

  word_is : (line word behind : List ℕ) → word ≡ codes "type" → line ≡ word ++ space ∷ behind → line ≡ codes "type" ++ space ∷ behind
  word_is line word behind e f = f ∙ ap (λ w. w ++ space ∷ behind) e

  pub no_type_space : (line word behind : List ℕ) (k : ℕ) → word ≡ codes "type" → line ≡ word ++ space ∷ behind → IsFreeOf space behind → (T : Tree) → IsTypeLine R line k T → ⊥
  no_type_space line word behind k e f g T t =
      let s = behind_type line behind k T (word_is line word behind e f) t in
      no_mark space (decimal k) ((s.reads).behind) behind g (sym (s.reads).whole)

  number_is : (line word behind number text : List ℕ) (k : ℕ) (T : Tree) → word ≡ codes "type" → line ≡ word ++ space ∷ behind → behind ≡ number ++ space ∷ text → IsFreeOf space number → IsTypeLine R line k T →
      SpellsNumber number k × R text T
  number_is line word behind number text k T e f g h t =
      let s = behind_type line behind k T (word_is line word behind e f) t in
      let q = s.reads in
      let r = same_front space number (decimal k) text q.behind h (decimal_free k s.number) (sym g ∙ q.whole) in
      (record { digits = r.0; number = s.number }, subst (λ b. R b T) (sym r.1) q.reads)

  pub no_type_number : (line word behind number text : List ℕ) (k : ℕ) → word ≡ codes "type" → line ≡ word ++ space ∷ behind → behind ≡ number ++ space ∷ text → IsFreeOf space number →
      ((n : ℕ) → SpellsNumber number n → ⊥) → (T : Tree) → IsTypeLine R line k T → ⊥
  no_type_number line word behind number text k e f g h never T t = never k (number_is line word behind number text k T e f g h t).0

  pub other_number : (line word behind number text : List ℕ) (k n : ℕ) → word ≡ codes "type" → line ≡ word ++ space ∷ behind → behind ≡ number ++ space ∷ text → IsFreeOf space number →
      SpellsNumber number n → (n ≡ k → ⊥) → (T : Tree) → IsTypeLine R line k T → ⊥
  other_number line word behind number text k n e f g h s never T t = never (number_one number n k s (number_is line word behind number text k T e f g h t).0)

  pub type_line : (line word behind number text : List ℕ) (k n : ℕ) (types : List Row) (r : Result (Option TypeId) NoMemory) → word ≡ codes "type" → line ≡ word ++ space ∷ behind → behind ≡ number ++ space ∷ text → IsFreeOf space number →
      SpellsNumber number n → n ≡ k → IfOk r (IsTypeRead R text types) → IfOk r (IsTypeRead (λ l T. IsTypeLine R l k T) line types)
  type_line line word behind number text k n types (Ok None) e f g h s m never = λ T t. never T (number_is line word behind number text k T e f g h t).1
  type_line line word behind number text k n types (Ok (Some id)) e f g h s m (T, t, i) = (
    T,
    record {
      behind = behind;
      whole = word_is line word behind e f;
      reads = record {
        number = subst IsNumber m s.number;
        reads = record { behind = text; whole = g ∙ ap (λ w. w ++ space ∷ text) (s.digits ∙ ap decimal m); reads = t };
      };
    },
    i,
  )
  type_line line word behind number text k n types (Err x) e f g h s m o = tt

  -- ---- several
  pub types_joined : (k : ℕ) (Ts Us : List Tree) → types_from {A = ℕ} k (Ts ++ Us) ≡ types_from k Ts ++ types_from (k + length Ts) Us
  types_joined k [] Us = ap (λ j. types_from j Us) (omega arith)
  types_joined k (T ∷ Ts) Us = ap (λ l. type_part k T ∷ l) (types_joined (k + 1) Ts Us ∙ ap (λ j. types_from (k + 1) Ts ++ types_from j Us) (omega arith))

  length-types : (k : ℕ) (Ts : List Tree) → length (types_from {A = ℕ} k Ts) ≡ length Ts
  length-types k [] = refl
  length-types k (T ∷ Ts) = ap suc (length-types (k + 1) Ts)

  length-spelled : {A : Type 0} (S : List ℕ → A → Type 0) (ls : List (List ℕ)) (ps : List (ProofLine A)) → SpellParts R S ls ps → length ls ≡ length ps
  length-spelled S [] [] s = refl
  length-spelled S [] (p ∷ ps) s = absurd s
  length-spelled S (l ∷ ls) [] s = absurd s
  length-spelled S (l ∷ ls) (p ∷ ps) s = ap suc (length-spelled S ls ps s.1)

  pub many_types : (ls : List (List ℕ)) (k : ℕ) (Ts : List Tree) → SpellParts R SpellsNumber ls (types_from k Ts) → length ls ≡ length Ts
  many_types ls k Ts s = length-spelled SpellsNumber ls (types_from k Ts) s ∙ length-types k Ts

  pub one_type_more : (ls : List (List ℕ)) (line : List ℕ) (Ts : List Tree) (T : Tree) (k : ℕ) → SpellParts R SpellsNumber ls (types_from 1 Ts) → k ≡ length ls + 1 → IsTypeLine R line k T →
      SpellParts R SpellsNumber (ls ++ line ∷ []) (types_from 1 (Ts ++ T ∷ []))
  one_type_more ls line Ts T k s e t =
      let l = many_types ls 1 Ts s in
      subst (SpellParts R SpellsNumber (ls ++ line ∷ [])) (sym (types_joined 1 Ts (T ∷ [])))
      (spell_joined R SpellsNumber ls (line ∷ []) (types_from 1 Ts) (types_from (1 + length Ts) (T ∷ [])) s (subst (λ j. IsTypeLine R line j T) (omega (arith, e, l)) t, tt))

  -- lines of types that are all the empty one
  pub fillers : (empty : R (type_text Empty) Empty) (k n : ℕ) → 0 < k → k + n ≤ 10 ^ 18 → (ls : List (List ℕ)) × (Ts : List Tree) × (length Ts ≡ n) × SpellParts {A = ℕ} R SpellsNumber ls (types_from k Ts)
  fillers empty k zero p h = ([], [], refl, tt)
  fillers empty k (suc n) p h =
      let r = fillers empty (k + 1) n (omega arith) (omega (arith, h)) in (
        (codes "type" ++ space ∷ (decimal k ++ space ∷ type_text Empty)) ∷ r.0,
        Empty ∷ r.1,
        ap suc r.2,
        (
          record {
            behind = decimal k ++ space ∷ type_text Empty;
            whole = refl;
            reads = record { number = record { least = p; most = omega (arith, h) }; reads = record { behind = type_text Empty; whole = refl; reads = empty } };
          },
          r.3,
        ),
      )

  -- lines of types, and others after them
  pub types_split : {A : Type 0} (S : List ℕ → A → Type 0) (k : ℕ) (xs ys : List (List ℕ)) (Ts : List Tree) (qs : List (ProofLine A)) → length xs ≡ length Ts → SpellParts R S (xs ++ ys) (types_from k Ts ++ qs) →
      SpellParts {A = ℕ} R SpellsNumber xs (types_from k Ts) × SpellParts R S ys qs
  types_split S k [] ys [] qs l s = (tt, s)
  types_split S k [] ys (T ∷ Ts) qs l s = absurd (omega (arith, l))
  types_split S k (x ∷ xs) ys [] qs l s = absurd (omega (arith, l))
  types_split S k (x ∷ xs) ys (T ∷ Ts) qs l s = let r = types_split S (k + 1) xs ys Ts qs (omega (arith, l)) s.1 in ((s.0, r.0), r.1)

  pub type_at : (k : ℕ) (xs : List (List ℕ)) (line : List ℕ) (ys : List (List ℕ)) (Ts : List Tree) (qs : List (ProofLine ℕ)) → length xs < length Ts → SpellParts R SpellsNumber (xs ++ line ∷ ys) (types_from k Ts ++ qs) →
      (T : Tree) × IsTypeLine R line (k + length xs) T
  type_at k [] line ys [] qs l s = absurd (omega (arith, l))
  type_at k [] line ys (T ∷ Ts) qs l s = (T, subst (λ j. IsTypeLine R line j T) (omega arith) s.0)
  type_at k (x ∷ xs) line ys [] qs l s = absurd (omega (arith, l))
  type_at k (x ∷ xs) line ys (T ∷ Ts) qs l s =
      let r = type_at (k + 1) xs line ys Ts qs (omega (arith, l)) s.1 in
      (r.0, subst (λ j. IsTypeLine R line j r.0) (omega arith) r.1)

  -- the types of lines are one list
  pub same_types : (k : ℕ) (Ts Us : List Tree) → types_from {A = ℕ} k Ts ≡ types_from k Us → Ts ≡ Us
  same_types k [] [] e = refl
  same_types k [] (U ∷ Us) e = absurd (cc)
  same_types k (T ∷ Ts) [] e = absurd (cc)
  same_types k (T ∷ Ts) (U ∷ Us) e =
      let h : T ≡ U = cc in
      let t : types_from {A = ℕ} (k + 1) Ts ≡ types_from (k + 1) Us = ap (λ l. drop 1 l) e in
      ap (λ V. V ∷ Ts) h ∙ ap (λ l. U ∷ l) (same_types (k + 1) Ts Us t)

  pub too_few : (xs : List (List ℕ)) (k : ℕ) (Ts : List Tree) (qs : List (ProofLine ℕ)) → SpellParts R SpellsNumber xs (types_from k Ts ++ qs) → length Ts ≤ length xs
  too_few xs k Ts qs s =
      let a = length-spelled SpellsNumber xs (types_from k Ts ++ qs) s in
      let b = length-append (types_from k Ts) qs in
      let c = length-types k Ts in
      omega (arith, a, b, c)

-- types that were read, one by one
pub ids_more : (old new : List Row) (ids : List TypeId) (Ts : List Tree) (id : TypeId) (T : Tree) → KeepsRows old new → AllZip (λ i U. IsTypeAt old U i) ids Ts → IsTypeAt new T id → AllZip (λ i U. IsTypeAt new U i) (ids ++ id ∷ []) (Ts ++ T ∷ [])
ids_more old new ids Ts id T k a i = all_zipped_more (λ j U. IsTypeAt new U j) ids Ts id T (kept ids Ts a) i
  where
    kept : (ids : List TypeId) (Ts : List Tree) → AllZip (λ j U. IsTypeAt old U j) ids Ts → AllZip (λ j U. IsTypeAt new U j) ids Ts
    kept [] [] a = a
    kept [] (U ∷ Us) a = absurd a
    kept (j ∷ js) [] a = absurd a
    kept (j ∷ js) (U ∷ Us) a = (type_kept old new U j k a.0, kept js Us a.1)

pub trees_of : (rows : List Row) (ids : List TypeId) (Ts : List Tree) → AllZip (λ i U. IsTypeAt rows U i) ids Ts → map (tree rows) ids ≡ Ts
trees_of rows [] [] a = refl
trees_of rows [] (U ∷ Us) a = absurd a
trees_of rows (i ∷ ids) [] a = absurd a
trees_of rows (i ∷ ids) (U ∷ Us) a = ap (λ T. T ∷ map (tree rows) ids) (a.0).same ∙ ap (λ l. U ∷ l) (trees_of rows ids Us a.1)

pub ids_there : (rows : List Row) (ids : List TypeId) (Ts : List Tree) → AllZip (λ i U. IsTypeAt rows U i) ids Ts → AllByRecursion (BelongsTo rows) ids × (length ids ≡ length Ts)
ids_there rows [] [] a = (tt, refl)
ids_there rows [] (U ∷ Us) a = absurd a
ids_there rows (i ∷ ids) [] a = absurd a
ids_there rows (i ∷ ids) (U ∷ Us) a = let r = ids_there rows ids Us a.1 in (((a.0).belongs, r.0), ap suc r.1)

-- the lines are those of types, and these are their numbers in the program
pub record AreTypesRead (R : List ℕ → Tree → Type 0) (rows : List Row) (lines : List (List ℕ)) (ids : List TypeId) : Type 0 where
  pub types : List Tree
  pub spelled : SpellParts {A = ℕ} R SpellsNumber lines (types_from 1 types)
  pub there : AllZip (λ i U. IsTypeAt rows U i) ids types

pub types_on : (R : List ℕ → Tree → Type 0) (old new : List Row) (lines : List (List ℕ)) (ids : List TypeId) (line : List ℕ) (id : TypeId) (k : ℕ) → KeepsRows old new → AreTypesRead R old lines ids → k ≡ length lines + 1 →
    ((T : Tree) × IsTypeLine R line k T × IsTypeAt new T id) → AreTypesRead R new (lines ++ line ∷ []) (ids ++ id ∷ [])
types_on R old new lines ids line id k keeps a e (T, t, i) =
    record { types = a.types ++ T ∷ []; spelled = one_type_more R lines line a.types T k a.spelled e t; there = ids_more old new ids a.types id T keeps a.there i }

pub types_stop : (R : List ℕ → Tree → Type 0) (old : List Row) (lines : List (List ℕ)) (ids : List TypeId) (line : List ℕ) (i k : ℕ) → AreTypesRead R old (take i lines) ids → i < length lines → line ≡ get_or lines i [] → k ≡ i + 1 →
    ((T : Tree) → IsTypeLine R line k T → ⊥) → IsBadTypeLine R lines k
types_stop R old lines ids line i k a h f e never =
    let z : i ≡ k - 1 = omega (arith, e) in
    record {
      number = (omega (arith, e), omega (arith, e, h));
      types = a.types;
      before = subst (λ j. SpellParts R SpellsNumber (take j lines) (types_from 1 a.types)) z a.spelled;
      here = λ T t. never T (subst (λ l. IsTypeLine R l k T) (ap (λ j. get_or lines j []) (sym z) ∙ sym f) t);
    }

module _ (p q : ProgramTable) (g : GrowsTypes p q) (new : List Row) (keeps : KeepsRows q.types new) (number i : ℕ) (xs : List (Bor (List ℕ))) (d : Bor (List ℕ)) (ids : List TypeId) (o : Option TypeId) (h : i < length xs) (e : number ≡ i)
    (a : AreTypesRead (SpellsTypeOf p) q.types (take i (texts xs)) ids) (t : IsTypeRead (λ l T. IsTypeLine (SpellsTypeOf q) l (number + 1) T) (get_or xs i d).now new o) where
  said_before : IsTypeRead (λ l T. IsTypeLine (SpellsTypeOf p) l (number + 1) T) (get_or xs i d).now new o
  said_before = subst (λ (R : List ℕ → Tree → Type 0). IsTypeRead (λ l T. IsTypeLine R l (number + 1) T) (get_or xs i d).now new o) (spelled_kept p q g) t

  within : i < length (texts xs)
  within = let l = length-texts xs in omega (arith, l, h)

  pub type_read : (id : TypeId) → o ≡ Some id → AreTypesRead (SpellsTypeOf p) new (take (i + 1) (texts xs)) (ids ++ id ∷ [])
  type_read id f =
      let r = subst (IsTypeRead (λ l T. IsTypeLine (SpellsTypeOf p) l (number + 1) T) (get_or xs i d).now new) f said_before in
      let w = within in
      let k = length-take-le i (texts xs) (omega (arith, w)) in
      subst (λ ls. AreTypesRead (SpellsTypeOf p) new ls (ids ++ id ∷ [])) (sym (one_more_line (texts xs) i (get_or xs i d).now within (text_at xs i d h)))
      (types_on (SpellsTypeOf p) q.types new (take i (texts xs)) ids (get_or xs i d).now id (number + 1) keeps a (omega (arith, e, k)) r)

  pub no_type_read : o ≡ None → IsBadTypeLine (SpellsTypeOf p) (texts xs) (number + 1)
  no_type_read f =
      types_stop (SpellsTypeOf p) q.types (texts xs) ids (get_or xs i d).now i (number + 1) a within (text_at xs i d h) (omega (arith, e))
      (subst (IsTypeRead (λ l T. IsTypeLine (SpellsTypeOf p) l (number + 1) T) (get_or xs i d).now new) f said_before)
