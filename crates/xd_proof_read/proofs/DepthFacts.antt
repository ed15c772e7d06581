-- The types of a proof text are no deeper than a text may be nested.
use Rattle.std.proofs.Common.{◌≡◌, ℕ, zero, suc, ◌+◌, ◌≤◌, arith, List, [], ◌∷◌, ◌++◌, map, length, Some, refl, ap, sym, subst, inl, inr}
use Rattle.std.specs.List.{AllZip, AllByRecursion}
use Rattle.xd_doc.proofs.Lists.{all_parts}
use Rattle.xd_lex.specs.Tokens.{tokens_of}
use Rattle.xd_syntax.specs.Tree.{Tree}
use Rattle.xd_syntax.specs.TypeDepth.{depth}
use Rattle.xd_syntax.specs.Table.{Row}
use Rattle.xd_syntax.specs.Types.{tree}
use Rattle.xd_syntax.specs.SoundTables.{IsTypeAt}
use Rattle.xd_syntax.specs.Shallow.{nesting_limit}
use Rattle.xd_syntax.specs.declared.types.TypeId.{TypeId}
use Rattle.xd_grammar.specs.declared.grammar.Nonterminal.TheVariants as nonterminals
use Rattle.xd_parse_trees.specs.Values.{a_tree}
use Rattle.xd_parse_trees.specs.Reading.{Reads}
use Rattle.xd_parse_trees.proofs.Rows.{one_value}
use Rattle.xd_parse.proofs.Sure.{sure}
use Rattle.xd_parse.proofs.Spelled.{read_within}
use Rattle.xd_parse.proofs.ValueDepthLemmas.{all_within}
use Rattle.xd_parse_trees.proofs.Depth.{AnyWithin}
use Rattle.xd_rules.specs.Rules.{numbered}
use Rattle.xd_meaning.specs.Violation.{Lined}
use Rattle.xd_proof.specs.Lines.{SpellsNumber}
use Rattle.xd_proof.specs.Parts.{ProofLine, type_part, left_part, right_part, SpellsPart, SpellParts}
use Rattle.xd_proof.specs.Form.{GoalBlock, block_parts, blocks_from, types_from, goals_from, block_length, AreNamed, NameTypes, AreProof, IsProofText}
use Rattle.xd_proof.specs.TypeTexts.{SpellsType}
use Rattle.xd_proof.specs.declared.proof.ProofGoal.{ProofGoal}
use Rattle.xd_proof.specs.Goals.{AreGoalsAt}
use Rattle.xd_proof_read.specs.Depths.{IsShallowGoal}

abbrev Shallow : Tree → Type 0
Shallow T = depth T ≤ nesting_limit

-- ---- the text of a type
pub text_shallow : (known : List (List ℕ)) (bytes : List ℕ) (T : Tree) → SpellsType known bytes T → Shallow T
text_shallow known bytes T s =
    let r : Reads nonterminals.TypeText (tokens_of bytes) [] (a_tree s.placed) = λ rest w m. (let q = sure ((s.text).spelled).means rest (w ∷ []) m in (q.0, one_value w (a_tree s.placed) q.1)) in
    let h : AnyWithin nesting_limit 0 s.placed = all_within nesting_limit nonterminals.TypeText (tokens_of bytes) (a_tree s.placed) (read_within nesting_limit nonterminals.TypeText (tokens_of bytes) [] (a_tree s.placed) ((s.text).within).spells r) in
    subst Shallow s.same (let a = h.1 in omega arith)

-- ---- the types of goals
record ShallowBlock (b : GoalBlock Tree) : Type 0 where
  left : Shallow b.left
  rights : AllByRecursion Shallow b.rights

abbrev ShallowPart : {A : Type 0} → (A → Type 0) → ProofLine A → Type 0
ShallowPart P (left_part x) = P x
ShallowPart P (right_part x) = P x
ShallowPart P (type_part n T) = Shallow T
ShallowPart P _ = Unit {0}

module _ {A : Type 0} (known : List (List ℕ)) (S : List ℕ → A → Type 0) (P : A → Type 0) (f : (bytes : List ℕ) (x : A) → S bytes x → P x) where
  part_shallow : (l : List ℕ) (p : ProofLine A) → SpellsPart (SpellsType known) S l p → ShallowPart P p
  part_shallow l (left_part x) s = f s.behind x s.reads
  part_shallow l (right_part x) s = f s.behind x s.reads
  part_shallow l (type_part n T) s = let r = (s.reads).reads in text_shallow known r.behind T r.reads
  part_shallow l _ s = tt

  parts_shallow : (ls : List (List ℕ)) (ps : List (ProofLine A)) → SpellParts (SpellsType known) S ls ps → AllByRecursion (ShallowPart P) ps
  parts_shallow [] [] s = tt
  parts_shallow [] (p ∷ ps) s = absurd s
  parts_shallow (l ∷ ls) [] s = absurd s
  parts_shallow (l ∷ ls) (p ∷ ps) s = (part_shallow l p s.0, parts_shallow ls ps s.1)

rights_shallow : (Us : List Tree) → AllByRecursion (ShallowPart Shallow) (map right_part Us) → AllByRecursion Shallow Us
rights_shallow [] a = tt
rights_shallow (U ∷ Us) a = (a.0, rights_shallow Us a.1)

blocks_shallow : (k : ℕ) (bs : List (GoalBlock Tree)) (rest : List (ProofLine Tree)) → AllByRecursion (ShallowPart Shallow) (blocks_from k bs ++ rest) → AllByRecursion ShallowBlock bs
blocks_shallow k [] rest a = tt
blocks_shallow k (b ∷ bs) rest a =
    let r = all_parts (ShallowPart Shallow) (blocks_from k (b ∷ bs)) rest a in
    let q = all_parts (ShallowPart Shallow) (block_parts k b) (blocks_from (k + 1) bs) r.0 in
    let m = all_parts (ShallowPart Shallow) (map right_part b.rights) _ (((q.0).1).1) in
    (record { left = ((q.0).1).0; rights = rights_shallow b.rights m.0 }, blocks_shallow (k + 1) bs [] (subst (AllByRecursion (ShallowPart Shallow)) (sym (nil (blocks_from (k + 1) bs))) q.1))
  where
    nil : (xs : List (ProofLine Tree)) → xs ++ [] ≡ xs
    nil [] = refl
    nil (x ∷ xs) = ap (λ l. x ∷ l) (nil xs)

types_shallow : (k : ℕ) (Ts : List Tree) (rest : List (ProofLine ℕ)) → AllByRecursion (ShallowPart (λ n. Unit {0})) (types_from k Ts ++ rest) → AllByRecursion Shallow Ts
types_shallow k [] rest a = tt
types_shallow k (T ∷ Ts) rest a = (a.0, types_shallow (k + 1) Ts rest a.1)

numbered_shallow : (Ts : List Tree) (n : ℕ) (T : Tree) → AllByRecursion Shallow Ts → numbered Ts n ≡ Some T → Shallow T
numbered_shallow Ts zero T a e = absurd (cc)
numbered_shallow [] (suc n) T a e = absurd (cc)
numbered_shallow (U ∷ Us) (suc zero) T a e = let z : U ≡ T = cc in subst Shallow z a.0
numbered_shallow (U ∷ Us) (suc (suc n)) T a e = numbered_shallow Us (suc n) T a.1 e

named_shallow : (Ts : List Tree) (ns : List ℕ) (Us : List Tree) → AllByRecursion Shallow Ts → AreNamed Ts ns Us → AllByRecursion Shallow Us
named_shallow Ts [] [] a n = tt
named_shallow Ts [] (U ∷ Us) a n = absurd n
named_shallow Ts (m ∷ ns) [] a n = absurd n
named_shallow Ts (m ∷ ns) (U ∷ Us) a n = (numbered_shallow Ts m U a n.0, named_shallow Ts ns Us a n.1)

meant_shallow : (Ts : List Tree) (bs : List (GoalBlock ℕ)) (cs : List (GoalBlock Tree)) → AllByRecursion Shallow Ts → NameTypes Ts bs cs → AllByRecursion ShallowBlock cs
meant_shallow Ts [] [] a n = tt
meant_shallow Ts [] (c ∷ cs) a n = absurd n
meant_shallow Ts (b ∷ bs) [] a n = absurd n
meant_shallow Ts (b ∷ bs) (c ∷ cs) a n = (record { left = numbered_shallow Ts b.left c.left a (n.0).left; rights = named_shallow Ts b.rights c.rights a (n.0).rights }, meant_shallow Ts bs cs a n.1)

ids_shallow : (rows : List Row) (ids : List TypeId) (Us : List Tree) → AllZip (λ id T. IsTypeAt rows T id) ids Us → AllByRecursion Shallow Us → AllByRecursion (λ id. depth (tree rows id) ≤ nesting_limit) ids
ids_shallow rows [] [] z a = tt
ids_shallow rows [] (U ∷ Us) z a = tt
ids_shallow rows (i ∷ ids) [] z a = absurd z
ids_shallow rows (i ∷ ids) (U ∷ Us) z a = (subst Shallow (sym (z.0).same) a.0, ids_shallow rows ids Us z.1 a.1)

made_shallow : (rows : List Row) (n : ℕ) (bs : List (GoalBlock Tree)) (made : List ProofGoal) → AreGoalsAt rows made (goals_from n bs) → AllByRecursion ShallowBlock bs → AllByRecursion (IsShallowGoal rows) made
made_shallow rows n [] [] z a = tt
made_shallow rows n [] (g ∷ gs) z a = absurd z
made_shallow rows n (b ∷ bs) [] z a = tt
made_shallow rows n (b ∷ bs) (g ∷ gs) z a =
    let at = (z.0).goal in
    let here = a.0 in
    (record { left = subst Shallow (sym (at.left).same) here.left; rights = ids_shallow rows (g.rights).items b.rights at.rights here.rights }, made_shallow rows (n + block_length b) bs gs z.1 a.1)

module _ (known : List (List ℕ)) (rows : List Row) (made : List ProofGoal) where
  goals_shallow : (ls : List (List ℕ)) (goals : List Lined) → AreProof (SpellsType known) ls goals → AreGoalsAt rows made goals → AllByRecursion (IsShallowGoal rows) made
  goals_shallow ls goals (inl f) m =
      let a = parts_shallow known (SpellsType known) Shallow (text_shallow known) ls _ f.spelled in
      made_shallow rows 3 f.blocks made (subst (AreGoalsAt rows made) f.read m) (blocks_shallow 1 f.blocks _ (a.1).1)
  goals_shallow ls goals (inr f) m =
      let a = parts_shallow known SpellsNumber (λ n. Unit {0}) (λ b x s. tt) ls _ f.spelled in
      made_shallow rows (4 + length f.types) f.meant made (subst (AreGoalsAt rows made) f.read m) (meant_shallow f.types f.blocks f.meant (types_shallow 1 f.types _ (a.1).1) f.named)

  pub proof_shallow : (bytes : List ℕ) → ((goals : List Lined) × IsProofText (SpellsType known) bytes goals × AreGoalsAt rows made goals) → AllByRecursion (IsShallowGoal rows) made
  proof_shallow bytes (goals, t, m) = goals_shallow t.lines goals t.read m
