-- Texts of the two formats, as they are read.
use Rattle.std.proofs.Common.{Bor, Vec, Global, Bool, true, false, ◌≡◌, ℕ, zero, suc, ◌+◌, ◌<◌, ◌≤◌, arith, List, [], ◌∷◌, ◌++◌, length, take, drop, append-nil, Result, Ok, Err, refl, ap, sym, subst, ◌∙◌}
use Rattle.std.specs.Prelude.{codes, min, nat_eq, IfOk, IfErr}
use Rattle.std.proofs.lemmas.Bool.{eqb-true, eqb-false}
use Rattle.std.specs.List.{AllZip}
use Rattle.std.proofs.lemmas.List.{take-append-drop, map-append, length-take-le}
use Rattle.xd_syntax.specs.Tree.{Tree, Empty}
use Rattle.xd_syntax.specs.TypeText.{type_text}
use Rattle.xd_syntax.specs.Table.{Row}
use Rattle.xd_syntax.specs.SoundTables.{IsTypeAt}
use Rattle.xd_syntax.specs.Kept.{ProgramTable, program_tree}
use Rattle.xd_syntax.specs.NameFaults.{known_types}
use Rattle.xd_syntax.specs.declared.types.TypeId.{TypeId}
use Rattle.xd_meaning.specs.Violation.{Lined}
use Rattle.xd_proof.specs.Lines.{SpellsNumber, IsCut}
use Rattle.xd_proof.specs.Parts.{Follows, SpellParts}
use Rattle.xd_proof.specs.Form.{GoalBlock, goal_list, types_from, goals_from, AreProof, IsProofText, IsFirstBadLine}
use Rattle.xd_proof.proofs.OneText.{type_one}
use Rattle.xd_proof.specs.declared.proof.ProofGoal.{ProofGoal}
use Rattle.xd_proof.specs.Goals.{AreGoalsAt}
use Rattle.xd_proof_read.specs.declared.error.ProofError.{ProofError}
use Rattle.xd_proof_read.specs.declared.error.ProofError.TheVariants.{Form, NoMemory}
use Rattle.xd_proof_read.specs.declared.formats.Format.{Format}
use Rattle.xd_proof_read.specs.declared.naming.Naming.TheVariants.{Spelled, Numbered}
use Rattle.xd_proof_read.specs.Naming.{NamesType, SpellsTypeOf, Names, NamingStands, GrowsTypes}
use Rattle.xd_proof_read.specs.BadLines.{ProofLines, GoalLines, IsFirstBad, IsBadTypeLine, IsBehind, TellsLine, title_of}
use Rattle.xd_proof_read.proofs.NamingFacts.{spelled_kept, empty_spelled}
use Rattle.xd_proof_read.proofs.GoalFacts.{texts, length-texts, bad_behind}
use Rattle.xd_proof_read.proofs.TypeFacts.{trees_of, ids_there, many_types}
use Rattle.xd_proof_read.proofs.WholeTexts.{first_behind, second_behind, second_whole, bad_none, bad_title, bad_no_count, bad_count, bad_type, bad_short, bad_line, bad_left}

-- ---- what an error tells
pub tells : (P Q : ℕ → Type 0) → ((n : ℕ) → P n → Q n) → (e : ProofError) → TellsLine P e → TellsLine Q e
tells P Q f (Form n) t = f n t
tells P Q f NoMemory t = tt

pub result_tells : {A : Type 0} (P Q : ℕ → Type 0) → ((n : ℕ) → P n → Q n) → (r : Result A ProofError) → IfErr r (TellsLine P) → IfErr r (TellsLine Q)
result_tells P Q f (Ok x) t = tt
result_tells P Q f (Err e) t = tells P Q f e t

module _ (p : ProgramTable) where
  one : (b : List ℕ) (T U : Tree) → SpellsTypeOf p b T → SpellsTypeOf p b U → T ≡ U
  one = type_one (known_types (program_tree p))

  empty : SpellsTypeOf p (type_text Empty) Empty
  empty = empty_spelled (known_types (program_tree p))

  -- ---- no lines, and titles
  pub no_lines : (xs : List (Bor (List ℕ))) → length xs ≡ 0 → IsFirstBad (ProofLines (SpellsTypeOf p)) (texts xs) 1
  no_lines [] e = bad_none (SpellsTypeOf p) one empty
  no_lines (x ∷ xs) e = absurd (omega (arith, e))

  pub no_title : (xs rest : List (Bor (List ℕ))) (x : Bor (List ℕ)) → xs ≡ x ∷ rest → ((f : Format) → x.now ≡ title_of f → ⊥) → IsFirstBad (ProofLines (SpellsTypeOf p)) (texts xs) 1
  no_title xs rest x e never = subst (λ l. IsFirstBad (ProofLines (SpellsTypeOf p)) (texts l) 1) (sym e) (bad_title (SpellsTypeOf p) one empty x.now (texts rest) never)

  -- ---- the first format
  first_bad : (ls : List (List ℕ)) (n : ℕ) → IsBehind 1 (IsFirstBad (GoalLines (SpellsTypeOf p) (Names p Spelled)) ls) n → IsFirstBad (ProofLines (SpellsTypeOf p)) (codes "xduce-proof 1" ∷ ls) n
  first_bad ls n (k, e, f) = bad_behind (ProofLines (SpellsTypeOf p)) (GoalLines (SpellsTypeOf p) (SpellsTypeOf p)) (codes "xduce-proof 1" ∷ []) ls k n (first_behind (SpellsTypeOf p)) e f

  pub first_tells : {A : Type 0} (ls : List (List ℕ)) (r : Result A ProofError) → IfErr r (TellsLine (IsBehind 1 (IsFirstBad (GoalLines (SpellsTypeOf p) (Names p Spelled)) ls))) →
      IfErr r (TellsLine (IsFirstBad (ProofLines (SpellsTypeOf p)) (codes "xduce-proof 1" ∷ ls)))
  first_tells ls r t = result_tells (IsBehind 1 (IsFirstBad (GoalLines (SpellsTypeOf p) (Names p Spelled)) ls)) (IsFirstBad (ProofLines (SpellsTypeOf p)) (codes "xduce-proof 1" ∷ ls)) (first_bad ls) r t

  -- ---- the second format, up to its types
  pub second_empty : (xs : List (Bor (List ℕ))) → length xs ≡ 0 → IsFirstBad (ProofLines (SpellsTypeOf p)) (codes "xduce-proof 2" ∷ texts xs) 2
  second_empty [] e = bad_no_count (SpellsTypeOf p) one empty
  second_empty (x ∷ xs) e = absurd (omega (arith, e))

  pub second_no_count : (xs rest : List (Bor (List ℕ))) (x : Bor (List ℕ)) (word : List ℕ) → xs ≡ x ∷ rest → word ≡ codes "types" → ((n : ℕ) → Follows word SpellsNumber x.now n → ⊥) →
      IsFirstBad (ProofLines (SpellsTypeOf p)) (codes "xduce-proof 2" ∷ texts xs) 2
  second_no_count xs rest x word e f never =
      subst (λ l. IsFirstBad (ProofLines (SpellsTypeOf p)) (codes "xduce-proof 2" ∷ texts l) 2) (sym e)
      (bad_count (SpellsTypeOf p) one empty x.now (texts rest) (λ n t. never n (subst (λ w. Follows w SpellsNumber x.now n) (sym f) t)))

-- The lines after the title: the number of types, so many lines of types as there are, and the
-- rest.
pub record IsCutInto (xs : List (Bor (List ℕ))) (line : List ℕ) (m many : ℕ) (typed goals : List (List ℕ)) : Type 0 where
  pub lines : texts xs ≡ line ∷ (typed ++ goals)
  pub count : Follows (codes "types") SpellsNumber line m
  pub length_typed : length typed ≡ many
  pub few : many ≤ m
  pub all : many < m → goals ≡ []

pub cut_into : (xs rest front back : List (Bor (List ℕ))) (x : Bor (List ℕ)) (word : List ℕ) (m many : ℕ) → xs ≡ x ∷ rest → word ≡ codes "types" → Follows word SpellsNumber x.now m → many ≡ min (length rest) m → front ≡ take many rest →
    back ≡ drop many rest → IsCutInto xs x.now m many (texts front) (texts back)
cut_into xs rest front back x word m many e f count k a b =
    let h : many ≤ length rest = omega (arith, k) in
    record {
      lines =
          ap texts e
          ∙ ap (λ l. x.now ∷ l) (ap texts (sym (take-append-drop many rest) ∙ ap (λ l. l ++ drop many rest) (sym a) ∙ ap (λ l. front ++ l) (sym b)) ∙ map-append (λ (y : Bor (List ℕ)). y.now) front back);
      count = subst (λ w. Follows w SpellsNumber x.now m) f count;
      length_typed = length-texts front ∙ ap length a ∙ length-take-le many rest h;
      few = omega (arith, k);
      all = λ l. ap texts (b ∙ none_left many rest (omega (arith, k, l)));
    }
  where
    none_left : (n : ℕ) (ys : List (Bor (List ℕ))) → length ys ≤ n → drop n ys ≡ []
    none_left zero [] g = refl
    none_left zero (y ∷ ys) g = absurd (omega (arith, g))
    none_left (suc n) [] g = refl
    none_left (suc n) (y ∷ ys) g = none_left n ys (omega (arith, g))

module _ (p : ProgramTable) (xs : List (Bor (List ℕ))) (line : List ℕ) (m many : ℕ) (typed goals : List (List ℕ)) (c : IsCutInto xs line m many typed goals) where
  whole_is : codes "xduce-proof 2" ∷ line ∷ (typed ++ goals) ≡ codes "xduce-proof 2" ∷ texts xs
  whole_is = ap (λ l. codes "xduce-proof 2" ∷ l) (sym c.lines)

  pub types_tell : (e : ProofError) → TellsLine (IsBehind 2 (IsBadTypeLine (SpellsTypeOf p) typed)) e → TellsLine (IsFirstBad (ProofLines (SpellsTypeOf p)) (codes "xduce-proof 2" ∷ texts xs)) e
  types_tell e t =
      tells (IsBehind 2 (IsBadTypeLine (SpellsTypeOf p) typed)) (IsFirstBad (ProofLines (SpellsTypeOf p)) (codes "xduce-proof 2" ∷ texts xs))
      (λ n b. subst (λ l. IsFirstBad (ProofLines (SpellsTypeOf p)) l n) whole_is
      (bad_type (SpellsTypeOf p) (one p) (empty p) line typed goals m b.0 n c.count (let l = c.length_typed in let f = c.few in omega (arith, l, f)) b.2 b.1)) e t

  pub short_is : (Ts : List Tree) → SpellParts (SpellsTypeOf p) SpellsNumber typed (types_from 1 Ts) → many < m → IsFirstBad (ProofLines (SpellsTypeOf p)) (codes "xduce-proof 2" ∷ texts xs) (many + 3)
  short_is Ts s h =
      subst (λ l. IsFirstBad (ProofLines (SpellsTypeOf p)) l (many + 3)) (ap (λ l. codes "xduce-proof 2" ∷ line ∷ l) (sym (append-nil typed) ∙ ap (λ l. typed ++ l) (sym (c.all h))) ∙ whole_is)
      (bad_short (SpellsTypeOf p) (one p) (empty p) line typed Ts m (many + 3) c.count s (let l = c.length_typed in omega (arith, l, h)) (let l = c.length_typed in omega (arith, l)))

  -- ---- and after its types
  module _ (q : ProgramTable) (g : GrowsTypes p q) (ids : Vec TypeId Global) (Ts : List Tree) (s : SpellParts (SpellsTypeOf p) SpellsNumber typed (types_from 1 Ts)) (a : AllZip (λ id T. IsTypeAt q.types T id) ids.items Ts) (h : m ≤ many) where
    so_many : length Ts ≡ m
    so_many = let k = many_types (SpellsTypeOf p) typed 1 Ts s in let l = c.length_typed in let f = c.few in omega (arith, k, l, f, h)

    pub numbers_stand : NamingStands q.types (Numbered ids)
    numbers_stand =
        let r = ids_there q.types ids.items Ts a in
        let k = so_many in
        let l = r.1 in
        let n = ((c.count).reads).number.least in
        (r.0, omega (arith, k, l, n))

    count_is : Follows (codes "types") SpellsNumber line (length Ts)
    count_is = subst (λ k. Follows (codes "types") SpellsNumber line k) (sym so_many) c.count

    names_are : Names q (Numbered ids) ≡ NamesType Ts
    names_are = ap NamesType (trees_of q.types ids.items Ts a)

    pub second_tells : {A : Type 0} (r : Result A ProofError) → IfErr r (TellsLine (IsBehind (m + 2) (IsFirstBad (GoalLines (SpellsTypeOf q) (Names q (Numbered ids))) goals))) →
        IfErr r (TellsLine (IsFirstBad (ProofLines (SpellsTypeOf p)) (codes "xduce-proof 2" ∷ texts xs)))
    second_tells r t =
        result_tells (IsBehind (m + 2) (IsFirstBad (GoalLines (SpellsTypeOf q) (Names q (Numbered ids))) goals)) (IsFirstBad (ProofLines (SpellsTypeOf p)) (codes "xduce-proof 2" ∷ texts xs))
        (λ n b. subst (λ l. IsFirstBad (ProofLines (SpellsTypeOf p)) l n) whole_is
        (bad_behind (ProofLines (SpellsTypeOf p)) (GoalLines (SpellsTypeOf p) (NamesType Ts)) (codes "xduce-proof 2" ∷ line ∷ typed) goals b.0 n (second_behind (SpellsTypeOf p) (one p) line typed Ts count_is s)
        (let l = c.length_typed in let k = c.few in let e = b.1 in omega (arith, l, k, e, h))
        (subst (λ (S : List ℕ → Tree → Type 0). IsFirstBad (GoalLines (SpellsTypeOf p) S) goals b.0) names_are (subst (λ (R : List ℕ → Tree → Type 0). IsFirstBad (GoalLines R (Names q (Numbered ids))) goals b.0) (spelled_kept p q g) b.2)))) r t

    pub second_reads : {A : Type 0} (rows : List Row) (r : Result (List ProofGoal) A) →
        IfOk r (λ proof. (bs : List (GoalBlock Tree)) × SpellParts (SpellsTypeOf q) (Names q (Numbered ids)) goals (goal_list bs) × AreGoalsAt rows proof (goals_from (m + 2 + 2) bs)) →
        IfOk r (λ proof. (gs : List Lined) × AreProof (SpellsTypeOf p) (codes "xduce-proof 2" ∷ texts xs) gs × AreGoalsAt rows proof gs)
    second_reads rows (Err e) t = tt
    second_reads rows (Ok proof) (bs, t, made) =
        let t' : SpellParts (SpellsTypeOf p) (NamesType Ts) goals (goal_list bs) =
        subst (λ (S : List ℕ → Tree → Type 0). SpellParts (SpellsTypeOf p) S goals (goal_list bs)) names_are (subst (λ (R : List ℕ → Tree → Type 0). SpellParts R (Names q (Numbered ids)) goals (goal_list bs)) (spelled_kept p q g) t) in
        let w = second_whole (SpellsTypeOf p) (one p) line typed Ts count_is s goals bs t' in
        let k = so_many in (
          goals_from (4 + length Ts) bs,
          subst (λ l. AreProof (SpellsTypeOf p) l (goals_from (4 + length Ts) bs)) whole_is w,
          subst (λ n. AreGoalsAt rows proof (goals_from n bs)) (omega (arith, k)) made,
        )

-- ---- the bytes
module _ (p : ProgramTable) (bytes : List ℕ) (slice items : List (Bor (List ℕ))) (left : List ℕ) (e : slice ≡ items) (cut : IsCut bytes (texts items) left) where
  cut_slice : IsCut bytes (texts slice) left
  cut_slice = subst (λ l. IsCut bytes (texts l) left) (sym e) cut

  pub text_tells : (x : ProofError) → TellsLine (IsFirstBad (ProofLines (SpellsTypeOf p)) (texts slice)) x → TellsLine (IsFirstBadLine (SpellsTypeOf p) bytes) x
  text_tells x t = tells (IsFirstBad (ProofLines (SpellsTypeOf p)) (texts slice)) (IsFirstBadLine (SpellsTypeOf p) bytes) (bad_line (SpellsTypeOf p) bytes (texts slice) left cut_slice) x t

  none_behind : (test : Bool) → test ≡ nat_eq (length left) 0 → test ≡ true → left ≡ []
  none_behind test f g = go left (eqb-true (length left) 0 (sym f ∙ g))
    where
      go : (l : List ℕ) → length l ≡ 0 → l ≡ []
      go [] h = refl
      go (x ∷ l) h = absurd (omega (arith, h))

  pub text_reads : (rows : List Row) (made : List ProofGoal) (test : Bool) → test ≡ nat_eq (length left) 0 → test ≡ true → ((gs : List Lined) × AreProof (SpellsTypeOf p) (texts slice) gs × AreGoalsAt rows made gs) →
      (gs : List Lined) × IsProofText (SpellsTypeOf p) bytes gs × AreGoalsAt rows made gs
  text_reads rows made test f g (gs, a, m) = (gs, record { lines = texts slice; cut = subst (IsCut bytes (texts slice)) (none_behind test f g) cut_slice; read = a }, m)

  pub text_left : (rows : List Row) (made : List ProofGoal) (test : Bool) (n : ℕ) → test ≡ nat_eq (length left) 0 → test ≡ false → n ≡ length items → ((gs : List Lined) × AreProof (SpellsTypeOf p) (texts slice) gs × AreGoalsAt rows made gs) →
      IsFirstBadLine (SpellsTypeOf p) bytes (n + 1)
  text_left rows made test n f g h (gs, a, m) =
      bad_left (SpellsTypeOf p) bytes (texts slice) left cut_slice (n + 1) (let l = length-texts slice in let k = ap length e in omega (arith, h, l, k)) (λ z. eqb-false (length left) 0 (sym f ∙ g) (ap length z)) gs a
