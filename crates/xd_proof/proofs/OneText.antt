-- A text is a proof text of one list of goals.
use Rattle.std.proofs.Common.{◌≡◌, ℕ, ◌+◌, arith, List, [], ◌∷◌, ◌++◌, length, get_or, drop, Option, Some, refl, ap, sym, subst, ◌∙◌, inl, inr}
use Rattle.xd_syntax.specs.Tree.{Tree}
use Rattle.xd_syntax.specs.Placed.{unplaced}
use Rattle.xd_rules.specs.Rules.{numbered}
use Rattle.xd_meaning.specs.Violation.{Lined}
use Rattle.xd_parse.proofs.Sure.{texts_mean_one_thing}
use Rattle.xd_proof.specs.Lines.{SpellsNumber}
use Rattle.xd_proof.specs.Parts.{SpellParts}
use Rattle.xd_proof.specs.Form.{GoalBlock, goal_list, types_from, first_format, second_format, goals_from, AreNamed, NamesTypes, NameTypes, AreProof, IsProofText}
use Rattle.xd_proof.specs.TypeTexts.{SpellsType}
use Rattle.xd_proof.specs.Course.{at_count, at_end, along}
use Rattle.xd_proof.proofs.CourseLemmas.{list_follows}
use Rattle.xd_proof.proofs.LineLemmas.{same_cut}
use Rattle.xd_proof.proofs.Unique.{number_one, parts_one}

pub type_one : (known : List (List ℕ)) (b : List ℕ) (T U : Tree) → SpellsType known b T → SpellsType known b U → T ≡ U
type_one known b T U s t = sym s.same ∙ ap unplaced (texts_mean_one_thing.types b s.placed t.placed (s.text).spelled (t.text).spelled) ∙ t.same

module _ {A : Type 0} where
  lists_one : (bs cs : List (GoalBlock A)) → goal_list bs ≡ goal_list cs → bs ≡ cs
  lists_one [] [] e = refl
  lists_one [] (c ∷ cs) e = absurd (let z : 0 ≡ length (c ∷ cs) = cc in omega (arith, z))
  lists_one (b ∷ bs) [] e = absurd (let z : length (b ∷ bs) ≡ 0 = cc in omega (arith, z))
  lists_one (b ∷ bs) (c ∷ cs) e =
      let p = list_follows (b ∷ bs) (omega arith) in
      let q = list_follows (c ∷ cs) (omega arith) in
      let z : Some (at_end (b ∷ bs)) ≡ Some (at_end (c ∷ cs)) = sym p ∙ ap (λ l. along (Some at_count) l) e ∙ q in
      cc

  types_one : (k : ℕ) (Ts Us : List Tree) (bs cs : List (GoalBlock A)) → types_from k Ts ++ goal_list bs ≡ types_from k Us ++ goal_list cs → (Ts ≡ Us) × (goal_list bs ≡ goal_list cs)
  types_one k [] [] bs cs e = (refl, e)
  types_one k [] (U ∷ Us) bs cs e = absurd (cc)
  types_one k (T ∷ Ts) [] bs cs e = absurd (cc)
  types_one k (T ∷ Ts) (U ∷ Us) bs cs e =
      let h : T ≡ U = cc in
      let r = types_one (k + 1) Ts Us bs cs (ap (λ l. drop 1 l) e) in
      (ap (λ V. V ∷ Ts) h ∙ ap (λ l. U ∷ l) r.0, r.1)

some_one : (o : Option Tree) (T U : Tree) → o ≡ Some T → o ≡ Some U → T ≡ U
some_one o T U p q = cc

named_one : (Ts : List Tree) (ns : List ℕ) (Us Vs : List Tree) → AreNamed Ts ns Us → AreNamed Ts ns Vs → Us ≡ Vs
named_one Ts [] [] [] p q = refl
named_one Ts [] [] (V ∷ Vs) p q = absurd q
named_one Ts [] (U ∷ Us) Vs p q = absurd p
named_one Ts (n ∷ ns) [] Vs p q = absurd p
named_one Ts (n ∷ ns) (U ∷ Us) [] p q = absurd q
named_one Ts (n ∷ ns) (U ∷ Us) (V ∷ Vs) p q = ap (λ T. T ∷ Us) (some_one (numbered Ts n) U V p.0 q.0) ∙ ap (λ l. V ∷ l) (named_one Ts ns Us Vs p.1 q.1)

block_one : (Ts : List Tree) (b : GoalBlock ℕ) (c d : GoalBlock Tree) → NamesTypes Ts b c → NamesTypes Ts b d → c ≡ d
block_one Ts b c d p q =
    ap (λ T. let x : GoalBlock Tree = record { left = T; rights = c.rights; empty_right = c.empty_right; cases = c.cases } in x) (some_one (numbered Ts b.left) c.left d.left p.left q.left)
    ∙ ap (λ Us. let x : GoalBlock Tree = record { left = d.left; rights = Us; empty_right = c.empty_right; cases = c.cases } in x) (named_one Ts b.rights c.rights d.rights p.rights q.rights)
    ∙ ap (λ o. let x : GoalBlock Tree = record { left = d.left; rights = d.rights; empty_right = o; cases = c.cases } in x) (sym p.empty_right ∙ q.empty_right)
    ∙ ap (λ cs. let x : GoalBlock Tree = record { left = d.left; rights = d.rights; empty_right = d.empty_right; cases = cs } in x) (sym p.cases ∙ q.cases)

blocks_one : (Ts : List Tree) (bs : List (GoalBlock ℕ)) (cs ds : List (GoalBlock Tree)) → NameTypes Ts bs cs → NameTypes Ts bs ds → cs ≡ ds
blocks_one Ts [] [] [] p q = refl
blocks_one Ts [] [] (d ∷ ds) p q = absurd q
blocks_one Ts [] (c ∷ cs) ds p q = absurd p
blocks_one Ts (b ∷ bs) [] ds p q = absurd p
blocks_one Ts (b ∷ bs) (c ∷ cs) [] p q = absurd q
blocks_one Ts (b ∷ bs) (c ∷ cs) (d ∷ ds) p q = ap (λ x. x ∷ cs) (block_one Ts b c d p.0 q.0) ∙ ap (λ l. d ∷ l) (blocks_one Ts bs cs ds p.1 q.1)

module _ (known : List (List ℕ)) where
  apart : (ls : List (List ℕ)) (bs : List (GoalBlock Tree)) (Ts : List Tree) (cs : List (GoalBlock ℕ)) →
      SpellParts (SpellsType known) (SpellsType known) ls (first_format bs) → SpellParts (SpellsType known) SpellsNumber ls (second_format Ts cs) → ⊥
  apart [] bs Ts cs s t = s
  apart (l ∷ ls) bs Ts cs s t = let z : 49 ≡ 50 = ap (λ x. get_or x 12 0) (sym s.0 ∙ t.0) in omega (arith, z)

  read_one : (ls : List (List ℕ)) (gs hs : List Lined) → AreProof (SpellsType known) ls gs → AreProof (SpellsType known) ls hs → gs ≡ hs
  read_one ls gs hs (inl f) (inl g) =
      let e = parts_one (SpellsType known) (SpellsType known) (type_one known) (type_one known) ls (first_format f.blocks) (first_format g.blocks) f.spelled g.spelled in
      f.read ∙ ap (goals_from 3) (lists_one f.blocks g.blocks (ap (λ l. drop 1 l) e)) ∙ sym g.read
  read_one ls gs hs (inl f) (inr g) = absurd (apart ls f.blocks g.types g.blocks f.spelled g.spelled)
  read_one ls gs hs (inr f) (inl g) = absurd (apart ls g.blocks f.types f.blocks g.spelled f.spelled)
  read_one ls gs hs (inr f) (inr g) =
      let e = parts_one (SpellsType known) SpellsNumber (type_one known) number_one ls (second_format f.types f.blocks) (second_format g.types g.blocks) f.spelled g.spelled in
      let r = types_one 1 f.types g.types f.blocks g.blocks (ap (λ l. drop 2 l) e) in
      let b : f.blocks ≡ g.blocks = lists_one f.blocks g.blocks r.1 in
      let n : NameTypes g.types g.blocks f.meant = subst (λ Ts. NameTypes Ts g.blocks f.meant) r.0 (subst (λ bs. NameTypes f.types bs f.meant) b f.named) in
      f.read ∙ ap (λ Ts. goals_from (4 + length Ts) f.meant) r.0 ∙ ap (goals_from (4 + length g.types)) (blocks_one g.types g.blocks f.meant g.meant n g.named) ∙ sym g.read

  pub text_one : (bytes : List ℕ) (gs hs : List Lined) → IsProofText (SpellsType known) bytes gs → IsProofText (SpellsType known) bytes hs → gs ≡ hs
  text_one bytes gs hs p q =
      read_one q.lines gs hs (subst (λ ls. AreProof (SpellsType known) ls gs) (same_cut bytes p.lines q.lines [] [] p.cut q.cut).0 p.read) q.read
