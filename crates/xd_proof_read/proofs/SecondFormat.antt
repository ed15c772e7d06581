-- How lines begin a text of the second format: its goals name types by numbers, and otherwise are
-- lists of goals.
use Rattle.std.proofs.Common.{◌≡◌, ℕ, suc, ◌+◌, List, [], ◌∷◌, ◌++◌, map, length, Option, Some, None, refl, ap, sym, subst, ◌∙◌}
use Rattle.std.specs.Prelude.{codes}
use Rattle.std.specs.List.{AllZip, AllByRecursion}
use Rattle.xd_syntax.specs.Tree.{Tree}
use Rattle.xd_rules.specs.Rules.{Case, numbered}
use Rattle.xd_proof.specs.Lines.{SpellsNumber}
use Rattle.xd_proof.specs.Parts.{ProofLine, first_title, second_title, type_count, type_part, goal_count, goal_part, left_part, right_part, empty_part, case_part, end_part, Follows, SpellsPart, SpellParts}
use Rattle.xd_proof.specs.Form.{GoalBlock, empty_parts, block_parts, blocks_from, goal_list, AreNamed, NamesTypes, NameTypes}
use Rattle.xd_proof_read.specs.Naming.{NamesType}

-- ---- numbers in place of types
-- the first part is the second, with a number for its type
abbrev PartNames : List Tree → ProofLine ℕ → ProofLine Tree → Type 0
PartNames Ts (left_part n) (left_part T) = numbered Ts n ≡ Some T
PartNames Ts (right_part n) (right_part T) = numbered Ts n ≡ Some T
PartNames Ts (goal_count n) (goal_count m) = n ≡ m
PartNames Ts (goal_part n) (goal_part m) = n ≡ m
PartNames Ts (empty_part n) (empty_part m) = n ≡ m
PartNames Ts (case_part c) (case_part d) = c ≡ d
PartNames Ts end_part end_part = Unit {0}
PartNames Ts _ _ = ⊥

module _ (R : List ℕ → Tree → Type 0) (Ts : List Tree) where
  part_to : (l : List ℕ) (p : ProofLine ℕ) (q : ProofLine Tree) → PartNames Ts p q → SpellsPart R SpellsNumber l p → SpellsPart R (NamesType Ts) l q
  part_to l (left_part n) (left_part T) e s = record { behind = s.behind; whole = s.whole; reads = record { number = n; spelled = s.reads; stands = e } }
  part_to l (right_part n) (right_part T) e s = record { behind = s.behind; whole = s.whole; reads = record { number = n; spelled = s.reads; stands = e } }
  part_to l (goal_count n) (goal_count m) e s = subst (λ k. Follows (codes "goals") SpellsNumber l k) e s
  part_to l (goal_part n) (goal_part m) e s = subst (λ k. Follows (codes "goal") SpellsNumber l k) e s
  part_to l (empty_part n) (empty_part m) e s = subst (λ k. Follows (codes "empty") SpellsNumber l k) e s
  part_to l (case_part c) (case_part d) e s = subst (λ k. SpellsPart R (NamesType Ts) l (case_part k)) e s
  part_to l end_part end_part e s = s
  part_to l _ _ e s = absurd e

  parts_to : (ls : List (List ℕ)) (ps : List (ProofLine ℕ)) (qs : List (ProofLine Tree)) → AllZip (PartNames Ts) ps qs → SpellParts R SpellsNumber ls ps → SpellParts R (NamesType Ts) ls qs
  parts_to [] [] [] z s = tt
  parts_to [] [] (q ∷ qs) z s = absurd z
  parts_to [] (p ∷ ps) qs z s = absurd s
  parts_to (l ∷ ls) [] qs z s = absurd s
  parts_to (l ∷ ls) (p ∷ ps) [] z s = absurd z
  parts_to (l ∷ ls) (p ∷ ps) (q ∷ qs) z s = (part_to l p q z.0 s.0, parts_to ls ps qs z.1 s.1)

  -- a part of a list of goals
  abbrev IsGoalPart : ProofLine Tree → Type 0
  IsGoalPart first_title = ⊥
  IsGoalPart second_title = ⊥
  IsGoalPart (type_count n) = ⊥
  IsGoalPart (type_part n T) = ⊥
  IsGoalPart _ = Unit {0}

  part_from : (l : List ℕ) (q : ProofLine Tree) → IsGoalPart q → SpellsPart R (NamesType Ts) l q → (p : ProofLine ℕ) × PartNames Ts p q × SpellsPart R SpellsNumber l p
  part_from l (left_part T) g s = let m = s.reads in (left_part m.number, m.stands, record { behind = s.behind; whole = s.whole; reads = m.spelled })
  part_from l (right_part T) g s = let m = s.reads in (right_part m.number, m.stands, record { behind = s.behind; whole = s.whole; reads = m.spelled })
  part_from l (goal_count n) g s = (goal_count n, refl, s)
  part_from l (goal_part n) g s = (goal_part n, refl, s)
  part_from l (empty_part n) g s = (empty_part n, refl, s)
  part_from l (case_part c) g s = (case_part c, refl, s)
  part_from l end_part g s = (end_part, tt, s)
  part_from l _ g s = absurd g

  parts_from : (ls : List (List ℕ)) (qs : List (ProofLine Tree)) → AllByRecursion IsGoalPart qs → SpellParts R (NamesType Ts) ls qs → (ps : List (ProofLine ℕ)) × AllZip (PartNames Ts) ps qs × SpellParts R SpellsNumber ls ps
  parts_from [] [] g s = ([], tt, tt)
  parts_from [] (q ∷ qs) g s = absurd s
  parts_from (l ∷ ls) [] g s = absurd s
  parts_from (l ∷ ls) (q ∷ qs) g s =
      let a = part_from l q g.0 s.0 in
      let r = parts_from ls qs g.1 s.1 in
      (a.0 ∷ r.0, (a.1, r.1), (a.2, r.2))

  zip_joined : (ps ps' : List (ProofLine ℕ)) (qs qs' : List (ProofLine Tree)) → AllZip (PartNames Ts) ps qs → AllZip (PartNames Ts) ps' qs' → AllZip (PartNames Ts) (ps ++ ps') (qs ++ qs')
  zip_joined [] ps' [] qs' a b = b
  zip_joined [] ps' (q ∷ qs) qs' a b = absurd a
  zip_joined (p ∷ ps) ps' [] qs' a b = absurd a
  zip_joined (p ∷ ps) ps' (q ∷ qs) qs' a b = (a.0, zip_joined ps ps' qs qs' a.1 b)

  zip_split : (qs qs' : List (ProofLine Tree)) (ps : List (ProofLine ℕ)) → AllZip (PartNames Ts) ps (qs ++ qs') →
      (front : List (ProofLine ℕ)) × (back : List (ProofLine ℕ)) × (ps ≡ front ++ back) × AllZip (PartNames Ts) front qs × AllZip (PartNames Ts) back qs'
  zip_split [] qs' ps z = ([], ps, refl, tt, z)
  zip_split (q ∷ qs) qs' [] z = absurd z
  zip_split (q ∷ qs) qs' (p ∷ ps) z = let r = zip_split qs qs' ps z.1 in (p ∷ r.0, r.1, ap (λ l. p ∷ l) r.2, (z.0, r.3), r.4)

  -- ---- the parts of a list of goals, in both directions
  rights_to : (ns : List ℕ) (Us : List Tree) → AreNamed Ts ns Us → AllZip (PartNames Ts) (map right_part ns) (map right_part Us)
  rights_to [] [] a = tt
  rights_to [] (U ∷ Us) a = absurd a
  rights_to (n ∷ ns) [] a = absurd a
  rights_to (n ∷ ns) (U ∷ Us) a = (a.0, rights_to ns Us a.1)

  empty_to : (o : Option ℕ) → AllZip (PartNames Ts) (empty_parts o) (empty_parts o)
  empty_to None = tt
  empty_to (Some n) = (refl, tt)

  cases_to : (cs : List Case) → AllZip (PartNames Ts) (map case_part cs) (map case_part cs)
  cases_to [] = tt
  cases_to (c ∷ cs) = (refl, cases_to cs)

  block_to : (k : ℕ) (b : GoalBlock ℕ) (m : GoalBlock Tree) → NamesTypes Ts b m → AllZip (PartNames Ts) (block_parts k b) (block_parts k m)
  block_to k b m a = (
    refl,
    (
      a.left,
      zip_joined (map right_part b.rights) (empty_parts b.empty_right ++ map case_part b.cases) (map right_part m.rights) (empty_parts m.empty_right ++ map case_part m.cases) (rights_to b.rights m.rights a.rights)
          (zip_joined (empty_parts b.empty_right) (map case_part b.cases) (empty_parts m.empty_right) (map case_part m.cases)
          (subst (λ o. AllZip (PartNames Ts) (empty_parts b.empty_right) (empty_parts o)) a.empty_right (empty_to b.empty_right))
          (subst (λ cs. AllZip (PartNames Ts) (map case_part b.cases) (map case_part cs)) a.cases (cases_to b.cases))),
    ),
  )

  blocks_to : (k : ℕ) (bs : List (GoalBlock ℕ)) (ms : List (GoalBlock Tree)) → NameTypes Ts bs ms → AllZip (PartNames Ts) (blocks_from k bs) (blocks_from k ms)
  blocks_to k [] [] a = tt
  blocks_to k [] (m ∷ ms) a = absurd a
  blocks_to k (b ∷ bs) [] a = absurd a
  blocks_to k (b ∷ bs) (m ∷ ms) a = zip_joined (block_parts k b) (blocks_from (k + 1) bs) (block_parts k m) (blocks_from (k + 1) ms) (block_to k b m a.0) (blocks_to (k + 1) bs ms a.1)

  as_many : (bs : List (GoalBlock ℕ)) (ms : List (GoalBlock Tree)) → NameTypes Ts bs ms → length bs ≡ length ms
  as_many [] [] a = refl
  as_many [] (m ∷ ms) a = absurd a
  as_many (b ∷ bs) [] a = absurd a
  as_many (b ∷ bs) (m ∷ ms) a = ap suc (as_many bs ms a.1)

  list_to : (bs : List (GoalBlock ℕ)) (ms : List (GoalBlock Tree)) → NameTypes Ts bs ms → AllZip (PartNames Ts) (goal_list bs) (goal_list ms)
  list_to bs ms a = (as_many bs ms a, zip_joined (blocks_from 1 bs) (end_part ∷ []) (blocks_from 1 ms) (end_part ∷ []) (blocks_to 1 bs ms a) (tt, tt))

  rights_from : (Us : List Tree) (ps : List (ProofLine ℕ)) → AllZip (PartNames Ts) ps (map right_part Us) → (ns : List ℕ) × AreNamed Ts ns Us × (ps ≡ map right_part ns)
  rights_from [] [] z = ([], tt, refl)
  rights_from [] (p ∷ ps) z = absurd z
  rights_from (U ∷ Us) [] z = absurd z
  rights_from (U ∷ Us) (right_part n ∷ ps) z = let r = rights_from Us ps z.1 in (n ∷ r.0, (z.0, r.1), ap (λ l. right_part n ∷ l) r.2)
  rights_from (U ∷ Us) (_ ∷ ps) z = absurd z.0

  empty_from : (o : Option ℕ) (ps : List (ProofLine ℕ)) → AllZip (PartNames Ts) ps (empty_parts o) → ps ≡ empty_parts o
  empty_from None [] z = refl
  empty_from None (p ∷ ps) z = absurd z
  empty_from (Some m) [] z = absurd z
  empty_from (Some m) (empty_part n ∷ []) z = ap (λ k. empty_part k ∷ []) z.0
  empty_from (Some m) (empty_part n ∷ (q ∷ ps)) z = absurd z.1
  empty_from (Some m) (_ ∷ ps) z = absurd z.0

  cases_from : (cs : List Case) (ps : List (ProofLine ℕ)) → AllZip (PartNames Ts) ps (map case_part cs) → ps ≡ map case_part cs
  cases_from [] [] z = refl
  cases_from [] (p ∷ ps) z = absurd z
  cases_from (c ∷ cs) [] z = absurd z
  cases_from (c ∷ cs) (case_part d ∷ ps) z = ap (λ k. case_part k ∷ ps) z.0 ∙ ap (λ l. case_part c ∷ l) (cases_from cs ps z.1)
  cases_from (c ∷ cs) (_ ∷ ps) z = absurd z.0

  -- what stands after the left
  rest_from : (m : GoalBlock Tree) (k n : ℕ) (ps : List (ProofLine ℕ)) → numbered Ts n ≡ Some m.left → AllZip (PartNames Ts) ps (map right_part m.rights ++ (empty_parts m.empty_right ++ map case_part m.cases)) →
      (b : GoalBlock ℕ) × NamesTypes Ts b m × (goal_part k ∷ left_part n ∷ ps ≡ block_parts k b)
  rest_from m k n ps h z =
      let a = zip_split (map right_part m.rights) (empty_parts m.empty_right ++ map case_part m.cases) ps z in
      let b = zip_split (empty_parts m.empty_right) (map case_part m.cases) a.1 a.4 in
      let r = rights_from m.rights a.0 a.3 in (
        record { left = n; rights = r.0; empty_right = m.empty_right; cases = m.cases },
        record { left = h; rights = r.1; empty_right = refl; cases = refl },
        ap (λ l. goal_part k ∷ left_part n ∷ l)
            (a.2 ∙ ap (λ l. l ++ a.1) r.2 ∙ ap (λ l. map right_part r.0 ++ l) (b.2 ∙ ap (λ l. l ++ b.1) (empty_from m.empty_right b.0 b.3) ∙ ap (λ l. empty_parts m.empty_right ++ l) (cases_from m.cases b.1 b.4))),
      )

  block_from : (k : ℕ) (m : GoalBlock Tree) (ps : List (ProofLine ℕ)) → AllZip (PartNames Ts) ps (block_parts k m) → (b : GoalBlock ℕ) × NamesTypes Ts b m × (ps ≡ block_parts k b)
  block_from k m [] z = absurd z
  block_from k m (p ∷ []) z = absurd z.1
  block_from k m (goal_part j ∷ (left_part n ∷ ps)) z =
      let r = rest_from m k n ps (z.1).0 (z.1).1 in
      (r.0, r.1, ap (λ i. goal_part i ∷ left_part n ∷ ps) z.0 ∙ r.2)
  block_from k m (goal_part j ∷ (_ ∷ ps)) z = absurd (z.1).0
  block_from k m (_ ∷ (q ∷ ps)) z = absurd z.0

  blocks_back : (k : ℕ) (ms : List (GoalBlock Tree)) (ps : List (ProofLine ℕ)) → AllZip (PartNames Ts) ps (blocks_from k ms) → (bs : List (GoalBlock ℕ)) × NameTypes Ts bs ms × (ps ≡ blocks_from k bs)
  blocks_back k [] [] z = ([], tt, refl)
  blocks_back k [] (p ∷ ps) z = absurd z
  blocks_back k (m ∷ ms) ps z =
      let a = zip_split (block_parts k m) (blocks_from (k + 1) ms) ps z in
      let b = block_from k m a.0 a.3 in
      let r = blocks_back (k + 1) ms a.1 a.4 in
      (b.0 ∷ r.0, (b.1, r.1), a.2 ∙ ap (λ l. l ++ a.1) b.2 ∙ ap (λ l. block_parts k b.0 ++ l) r.2)

  end_from : (ps : List (ProofLine ℕ)) → AllZip (PartNames Ts) ps (end_part ∷ []) → ps ≡ end_part ∷ []
  end_from [] z = absurd z
  end_from (end_part ∷ []) z = refl
  end_from (end_part ∷ (q ∷ ps)) z = absurd z.1
  end_from (_ ∷ ps) z = absurd z.0

  list_from : (ms : List (GoalBlock Tree)) (ps : List (ProofLine ℕ)) → AllZip (PartNames Ts) ps (goal_list ms) → (bs : List (GoalBlock ℕ)) × NameTypes Ts bs ms × (ps ≡ goal_list bs)
  list_from ms [] z = absurd z
  list_from ms (goal_count n ∷ ps) z =
      let a = zip_split (blocks_from 1 ms) (end_part ∷ []) ps z.1 in
      let b = blocks_back 1 ms a.0 a.3 in
      let n_is : n ≡ length b.0 = z.0 ∙ sym (as_many b.0 ms b.1) in
      (b.0, b.1, ap (λ k. goal_count k ∷ ps) n_is ∙ ap (λ l. goal_count (length b.0) ∷ l) (a.2 ∙ ap (λ l. l ++ a.1) b.2 ∙ ap (λ l. blocks_from 1 b.0 ++ l) (end_from a.1 a.4)))
  list_from ms (_ ∷ ps) z = absurd z.0

  all_joined : (xs ys : List (ProofLine Tree)) → AllByRecursion IsGoalPart xs → AllByRecursion IsGoalPart ys → AllByRecursion IsGoalPart (xs ++ ys)
  all_joined [] ys a b = b
  all_joined (x ∷ xs) ys a b = (a.0, all_joined xs ys a.1 b)

  rights_parts : (Us : List Tree) → AllByRecursion IsGoalPart (map right_part Us)
  rights_parts [] = tt
  rights_parts (U ∷ Us) = (tt, rights_parts Us)

  empty_part_parts : (o : Option ℕ) → AllByRecursion IsGoalPart (empty_parts o)
  empty_part_parts None = tt
  empty_part_parts (Some n) = (tt, tt)

  cases_parts : (cs : List Case) → AllByRecursion IsGoalPart (map case_part cs)
  cases_parts [] = tt
  cases_parts (c ∷ cs) = (tt, cases_parts cs)

  blocks_parts : (k : ℕ) (ms : List (GoalBlock Tree)) → AllByRecursion IsGoalPart (blocks_from k ms)
  blocks_parts k [] = tt
  blocks_parts k (m ∷ ms) =
      all_joined (block_parts k m) (blocks_from (k + 1) ms)
      (tt, (tt, all_joined (map right_part m.rights) (empty_parts m.empty_right ++ map case_part m.cases) (rights_parts m.rights) (all_joined (empty_parts m.empty_right) (map case_part m.cases) (empty_part_parts m.empty_right) (cases_parts m.cases))))
      (blocks_parts (k + 1) ms)

  list_parts : (ms : List (GoalBlock Tree)) → AllByRecursion IsGoalPart (goal_list ms)
  list_parts ms = (tt, all_joined (blocks_from 1 ms) (end_part ∷ []) (blocks_parts 1 ms) (tt, tt))

  -- lines of goals that name types by numbers
  pub lines_named : (ls : List (List ℕ)) (bs : List (GoalBlock ℕ)) (ms : List (GoalBlock Tree)) → NameTypes Ts bs ms → SpellParts R SpellsNumber ls (goal_list bs) → SpellParts R (NamesType Ts) ls (goal_list ms)
  lines_named ls bs ms a s = parts_to ls (goal_list bs) (goal_list ms) (list_to bs ms a) s

  -- the goals that are named so
  pub meant_by : (ls : List (List ℕ)) (ms : List (GoalBlock Tree)) → SpellParts R (NamesType Ts) ls (goal_list ms) → (bs : List (GoalBlock ℕ)) × NameTypes Ts bs ms × SpellParts R SpellsNumber ls (goal_list bs)
  meant_by ls ms s =
      let r = parts_from ls (goal_list ms) (list_parts ms) s in
      let b = list_from ms r.0 r.1 in
      (b.0, b.1, subst (SpellParts R SpellsNumber ls) b.2 r.2)
