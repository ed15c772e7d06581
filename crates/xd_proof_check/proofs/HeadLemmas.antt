-- Heads of goals, while the lister meets more continuations.
use Rattle.std.proofs.Common.{◌≡◌, ℕ, zero, suc, ◌+◌, ◌<◌, ◌≤◌, arith, inl, inr, List, [], ◌∷◌, ◌++◌, flat_map, map, length, take, get_or, refl, ap, sym, subst, ◌∙◌, append-nil}
use Rattle.std.specs.List.{AllByRecursion, AllZip}
use Rattle.std.proofs.lemmas.List.{take_more}
use Rattle.std.proofs.lemmas.Bool.{cases_lt}
use Rattle.xd_doc.proofs.Lists.{zip_both, flat_more}
use Rattle.xd_syntax.specs.Kept.{ProgramTable}
use Rattle.xd_syntax.specs.Table.{Row}
use Rattle.xd_syntax.specs.Tree.{Tree, Definitions}
use Rattle.xd_syntax.specs.Types.{tree}
use Rattle.xd_syntax.specs.declared.types.TypeId.{TypeId}
use Rattle.xd_rules.specs.Heads.{Head}
use Rattle.xd_meaning.specs.Heads as laws
use Rattle.xd_continuations.specs.Chains.{KeepsLinks}
use Rattle.xd_moves.specs.Cells.{Cell}
use Rattle.xd_heads.specs.Numbered.{IsHeadIn, Serves}
use Rattle.xd_heads.specs.declared.lister.HeadLister.{HeadLister}
use Rattle.xd_heads.specs.declared.lister.NumberedHead.{NumberedHead}
use Rattle.xd_heads.proofs.HeadListerLemmas.{number_kept, numbers_tell}
use Rattle.xd_moves.specs.Codes.{number_at}
use Rattle.xd_proof.specs.Cases.{IsTree}
use Rattle.xd_proof_check.specs.CaseWalk.{CasesFit}
use Rattle.xd_proof_check.specs.GoalWalk.{GoalFits, PartsFit, SheetView}
use Rattle.xd_proof_check.specs.Corresponds.{Knows}
use Rattle.xd_proof_check.specs.GoalHeads.{AreGoalHeads, AreHeadsOf}
use Rattle.xd_proof.specs.declared.proof.ProofGoal.{ProofGoal}
use Rattle.xd_proof.specs.declared.cases.ReadCase.{ReadCase}
use Rattle.xd_proof_check.specs.declared.heads.GoalHeads.{GoalHeads}
use Rattle.xd_proof_check.specs.declared.path.Path.{Path}

numbered_kept : (types : List Row) (old new : List Cell) → KeepsLinks old new → (made : NumberedHead) (h : Head Tree) → IsHeadIn types old made h → IsHeadIn types new made h
numbered_kept types old new k made h i = record { kind = i.kind; content = number_kept types old new k made.content h.content i.content; rest = number_kept types old new k made.rest h.rest i.rest }

pub heads_kept : (types : List Row) (old new : List Cell) → KeepsLinks old new → (made : List NumberedHead) (hs : List (Head Tree)) → AllZip (IsHeadIn types old) made hs → AllZip (IsHeadIn types new) made hs
heads_kept types old new k [] [] z = tt
heads_kept types old new k [] (h ∷ hs) z = absurd z
heads_kept types old new k (m ∷ ms) [] z = absurd z
heads_kept types old new k (m ∷ ms) (h ∷ hs) z = (numbered_kept types old new k m h z.0, heads_kept types old new k ms hs z.1)

-- one more type's heads
pub heads_more : (types : List Row) (old new : List Cell) (E : Definitions) (ids : List TypeId) (i : ℕ) (d : TypeId) (made made' more : List NumberedHead) → KeepsLinks old new → i < length ids →
    AreHeadsOf types old E (take i ids) made → AllZip (IsHeadIn types new) more (laws.heads E (tree types (get_or ids i d))) → made' ≡ made ++ more → AreHeadsOf types new E (take (i + 1) ids) made'
heads_more types old new E ids i d made made' more k h a b e =
    let f : TypeId → List (Head Tree) = λ id. laws.heads E (tree types id) in
    let l = ap (flat_map f) (take_more ids i d h) ∙ flat_more f (take i ids) (get_or ids i d) in
    subst (λ xs. AllZip (IsHeadIn types new) xs (flat_map f (take (i + 1) ids))) (sym e)
    (subst (λ hs. AllZip (IsHeadIn types new) (made ++ more) hs) (sym l)
    (zip_both (IsHeadIn types new) made (flat_map f (take i ids)) more (f (get_or ids i d)) (heads_kept types old new k made (flat_map f (take i ids)) a) b))

-- the heads of the left alone
pub heads_alone : (types : List Row) (cells : List Cell) (E : Definitions) (id : TypeId) (made : List NumberedHead) → AllZip (IsHeadIn types cells) made (laws.heads E (tree types id)) →
    AreHeadsOf types cells E (id ∷ []) made
heads_alone types cells E id made z = subst (λ hs. AllZip (IsHeadIn types cells) made hs) (sym (append-nil (laws.heads E (tree types id)))) z

-- ---- what a lister knows

pub knows : (p : ProgramTable) (l : HeadLister) → Serves p l → Knows p.types l.cells l.numbers.items
knows p l s = record { tell = numbers_tell p l s; nodes = s.numbers }

pub numbers_within : (p : ProgramTable) (l : HeadLister) → Serves p l → (i : ℕ) → number_at l.numbers.items i ≤ length l.cells
numbers_within p l s i = elim (cases_lt i (length p.types)) [ inl h ↦ (let k = s.numbers i h in k.within) | inr h ↦ (let e = beyond l.numbers.items i (let c = s.count in omega arith) in omega arith) ]
  where
    beyond : (ns : List ℕ) (i : ℕ) → length ns ≤ i → number_at ns i ≡ 0
    beyond [] i h = refl
    beyond (n ∷ ns) zero h = absurd (omega arith)
    beyond (n ∷ ns) (suc i) h = beyond ns i (omega arith)

-- heads have their places in marks that are long enough
parts_fit : (types : List Row) (cells : List Cell) (p : Path) → length cells < length p.content.items → length cells < length p.rest.items → (made : List NumberedHead) (hs : List (Head Tree)) →
    AllZip (IsHeadIn types cells) made hs → AllByRecursion (PartsFit p) made
parts_fit types cells p c r [] hs z = tt
parts_fit types cells p c r (m ∷ ms) [] z = absurd z
parts_fit types cells p c r (m ∷ ms) (h ∷ hs) z =
    let i = z.0 in
    let x = i.content in
    let y = i.rest in
    ((let w = x.within in omega arith, let w = y.within in omega arith), parts_fit types cells p c r ms hs z.1)

-- so have the heads of a goal's rights
pub rights_fit : (types : List Row) (cells : List Cell) (E : Definitions) (g : ProofGoal) (h : GoalHeads) (p : Path) → AreGoalHeads types cells E g h → length cells < length p.content.items →
    length cells < length p.rest.items → AllByRecursion (PartsFit p) h.rights.items
rights_fit types cells E g h p a c r = parts_fit types cells p c r h.rights.items (flat_map (λ (id : TypeId). laws.heads E (tree types id)) g.rights.items) a.rights

mapped_at : (f : NumberedHead → ℕ) (n : ℕ) (hs : List NumberedHead) → AllByRecursion (λ (h : NumberedHead). f h < n) hs → 0 < n → (i : ℕ) → number_at (map f hs) i < n
mapped_at f n [] a z i = z
mapped_at f n (h ∷ hs) a z zero = a.0
mapped_at f n (h ∷ hs) a z (suc i) = mapped_at f n hs a.1 z i

contents_fit : (p : Path) (hs : List NumberedHead) → AllByRecursion (PartsFit p) hs → AllByRecursion (λ (h : NumberedHead). h.content < length p.content.items) hs
contents_fit p [] a = tt
contents_fit p (h ∷ hs) a = ((a.0).0, contents_fit p hs a.1)

rests_fit : (p : Path) (hs : List NumberedHead) → AllByRecursion (PartsFit p) hs → AllByRecursion (λ (h : NumberedHead). h.rest < length p.rest.items) hs
rests_fit p [] a = tt
rests_fit p (h ∷ hs) a = ((a.0).1, rests_fit p hs a.1)

some_room : (numbers : List ℕ) (n : ℕ) → ((i : ℕ) → number_at numbers i < n) → 0 < n
some_room numbers n h = let a = h 0 in omega arith

-- so do their numbers as lists
pub cases_fit : (s : SheetView) (g : ProofGoal) (h : GoalHeads) (p : Path) → GoalFits s g h p → (cs : List ReadCase) (ls rs : List NumberedHead) (contents rests : List ℕ) → cs ≡ g.cases.items → rs ≡ h.rights.items →
    contents ≡ map (λ (x : NumberedHead). x.content) rs → rests ≡ map (λ (x : NumberedHead). x.rest) rs →
    CasesFit (record { goals = s.goals; numbers = s.numbers; cases = cs; left = ls; rights = rs; contents = contents; rests = rests }) p
cases_fit s g h p f cs ls rs contents rests c r k m =
    let a = subst (AllByRecursion (PartsFit p)) (sym r) f.rights in
    record {
      belong = f.belong;
      trees = subst (AllByRecursion IsTree) (sym c) f.trees;
      on_content = f.on_content;
      on_rest = f.on_rest;
      contents_fit = λ i. subst (λ ns. number_at ns i < length p.content.items) (sym k)
          (mapped_at (λ (x : NumberedHead). x.content) (length p.content.items) rs (contents_fit p rs a) (some_room s.numbers (length p.content.items) f.on_content) i);
      rests_fit = λ i. subst (λ ns. number_at ns i < length p.rest.items) (sym m)
          (mapped_at (λ (x : NumberedHead). x.rest) (length p.rest.items) rs (rests_fit p rs a) (some_room s.numbers (length p.rest.items) f.on_rest) i);
      contents = k;
      rests = m;
      split = subst (λ xs. length xs ≤ length p.split.items) (sym r) f.split;
    }
