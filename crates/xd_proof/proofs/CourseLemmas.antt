-- The course of the lines of a proof follows exactly the lists of goals.
use Rattle.std.proofs.Common.{◌≡◌, ◌↔◌, ℕ, zero, suc, ◌+◌, ◌-◌, ◌<◌, ◌≤◌, arith, Bool, true, false, ◌&&◌, List, [], ◌∷◌, ◌++◌, map, length, length-append, append_assoc, append-nil, Option, Some, None, refl, ap, sym, subst, ◌∙◌}
use Rattle.std.specs.Prelude.{nat_eq, nat_lt}
use Rattle.std.specs.List.{AllByRecursion}
use Rattle.std.proofs.lemmas.Bool.{eq-eqb, eqb-true, ltb-true, lt-ltb, and_from}
use Rattle.xd_doc.proofs.Bools.{and_parts}
use Rattle.xd_doc.proofs.Lists.{map_append}
use Rattle.xd_rules.specs.Rules.{Case}
use Rattle.xd_proof.specs.Parts.{ProofLine, goal_count, goal_part, left_part, right_part, empty_part, case_part, end_part}
use Rattle.xd_proof.specs.Form.{GoalBlock, empty_parts, block_parts, blocks_from, goal_list}
use Rattle.xd_proof.specs.Course.{Course, at_count, at_first_goal, at_left, in_rights, in_cases, at_end, only_if, plain_block, with_empty, with_case, after_goal, next, and_on, along}

pub only : {B : Type 0} (b : Bool) (x y : B) → only_if b x ≡ Some y → (b ≡ true) × (x ≡ y)
only true x y e = (refl, cc)
only false x y e = absurd (cc)

pub only_true : {B : Type 0} (b : Bool) (x : B) → b ≡ true → only_if b x ≡ Some x
only_true true x e = refl
only_true false x e = absurd (cc)

module _ {A : Type 0} where
  -- the lines that a course has after it
  abbrev pub seen : Course A → List (ProofLine A)
  seen at_count = []
  seen (at_first_goal n) = goal_count n ∷ []
  seen (at_left n bs) = goal_count n ∷ (blocks_from 1 bs ++ goal_part (length bs + 1) ∷ [])
  seen (in_rights n bs T Us) = goal_count n ∷ (blocks_from 1 bs ++ block_parts (length bs + 1) (plain_block T Us))
  seen (in_cases n bs b) = goal_count n ∷ (blocks_from 1 bs ++ block_parts (length bs + 1) b)
  seen (at_end bs) = goal_list bs

  -- there are goals to come where one is being read
  abbrev pub Stands : Course A → Type 0
  Stands at_count = Unit {0}
  Stands (at_first_goal n) = 0 < n
  Stands (at_left n bs) = length bs < n
  Stands (in_rights n bs T Us) = length bs < n
  Stands (in_cases n bs b) = length bs < n
  Stands (at_end bs) = 0 < length bs

  blocks_joined : (k : ℕ) (bs cs : List (GoalBlock A)) → blocks_from k (bs ++ cs) ≡ blocks_from k bs ++ blocks_from (k + length bs) cs
  blocks_joined k [] cs = ap (λ j. blocks_from j cs) (omega arith)
  blocks_joined k (b ∷ bs) cs =
      ap (λ l. block_parts k b ++ l) (blocks_joined (k + 1) bs cs ∙ ap (λ j. blocks_from (k + 1) bs ++ blocks_from j cs) (omega arith))
      ∙ sym (append_assoc (block_parts k b) (blocks_from (k + 1) bs) (blocks_from (k + length (b ∷ bs)) cs))

  one_more : (bs : List (GoalBlock A)) (b : GoalBlock A) → blocks_from 1 (bs ++ b ∷ []) ≡ blocks_from 1 bs ++ block_parts (length bs + 1) b
  one_more bs b =
      blocks_joined 1 bs (b ∷ [])
      ∙ ap (λ l. blocks_from 1 bs ++ l) (append-nil (block_parts (1 + length bs) b))
      ∙ ap (λ j. blocks_from 1 bs ++ block_parts j b) (omega arith)

  -- what stands after the blocks grows by a line
  grown : (n : ℕ) (B X Y : List (ProofLine A)) (p : ProofLine A) → Y ≡ X ++ p ∷ [] → goal_count n ∷ (B ++ Y) ≡ (goal_count n ∷ (B ++ X)) ++ p ∷ []
  grown n B X Y p e = ap (λ l. goal_count n ∷ l) (ap (λ l. B ++ l) e ∙ sym (append_assoc B X (p ∷ [])))

  right_grown : (k : ℕ) (T : A) (Us : List A) (U : A) → block_parts k (plain_block T (Us ++ U ∷ [])) ≡ block_parts k (plain_block T Us) ++ right_part U ∷ []
  right_grown k T Us U =
      ap (λ l. goal_part k ∷ left_part T ∷ l)
      (append-nil (map right_part (Us ++ U ∷ [])) ∙ map_append right_part Us (U ∷ []) ∙ ap (λ l. l ++ right_part U ∷ []) (sym (append-nil (map right_part Us))))

  empty_grown : (k : ℕ) (T : A) (Us : List A) (m : ℕ) → block_parts k (with_empty T Us m) ≡ block_parts k (plain_block T Us) ++ empty_part m ∷ []
  empty_grown k T Us m = ap (λ l. goal_part k ∷ left_part T ∷ (l ++ empty_part m ∷ [])) (sym (append-nil (map right_part Us)))

  case_grown : (k : ℕ) (b : GoalBlock A) (c : Case) → block_parts k (with_case b c) ≡ block_parts k b ++ case_part c ∷ []
  case_grown k b c =
      ap (λ l. goal_part k ∷ left_part b.left ∷ (map right_part b.rights ++ (empty_parts b.empty_right ++ l))) (map_append case_part b.cases (c ∷ []))
      ∙ ap (λ l. goal_part k ∷ left_part b.left ∷ (map right_part b.rights ++ l)) (sym (append_assoc (empty_parts b.empty_right) (map case_part b.cases) (case_part c ∷ [])))
      ∙ ap (λ l. goal_part k ∷ left_part b.left ∷ l) (sym (append_assoc (map right_part b.rights) (empty_parts b.empty_right ++ map case_part b.cases) (case_part c ∷ [])))

  -- a course that has come from these lines by this one
  abbrev Comes : List (ProofLine A) → ProofLine A → Course A → Type 0
  Comes before p d = (seen d ≡ before ++ p ∷ []) × Stands d

  behind_goal : (n : ℕ) (bs : List (GoalBlock A)) (b : GoalBlock A) (p : ProofLine A) (d : Course A) → length bs < n → after_goal n bs b p ≡ Some d →
      Comes (goal_count n ∷ (blocks_from 1 bs ++ block_parts (length bs + 1) b)) p d
  behind_goal n bs b (goal_part k) d s e =
      let r = only (nat_eq k (length bs + 2) && nat_lt (length bs + 1) n) (at_left n (bs ++ b ∷ [])) d e in
      let q = and_parts (nat_eq k (length bs + 2)) (nat_lt (length bs + 1) n) r.0 in
      let kk = eqb-true k (length bs + 2) q.0 in
      let j : length (bs ++ b ∷ []) + 1 ≡ k = omega (arith, length-append bs (b ∷ []), kk) in
      let lt = ltb-true (length bs + 1) n q.1 in
      subst (Comes (goal_count n ∷ (blocks_from 1 bs ++ block_parts (length bs + 1) b)) (goal_part k)) r.1 (
        ap (λ l. goal_count n ∷ (l ++ goal_part (length (bs ++ b ∷ []) + 1) ∷ [])) (one_more bs b)
            ∙ ap (λ i. goal_count n ∷ (blocks_from 1 bs ++ block_parts (length bs + 1) b ++ goal_part i ∷ [])) j,
        omega (arith, length-append bs (b ∷ []), lt),
      )
  behind_goal n bs b end_part d s e =
      let r = only (nat_eq n (length bs + 1)) (at_end (bs ++ b ∷ [])) d e in
      let nn = eqb-true n (length bs + 1) r.0 in
      let j : length (bs ++ b ∷ []) ≡ n = omega (arith, length-append bs (b ∷ []), nn) in
      subst (Comes (goal_count n ∷ (blocks_from 1 bs ++ block_parts (length bs + 1) b)) end_part) r.1 (
        ap (λ l. goal_count (length (bs ++ b ∷ [])) ∷ (l ++ end_part ∷ [])) (one_more bs b)
            ∙ ap (λ i. goal_count i ∷ (blocks_from 1 bs ++ block_parts (length bs + 1) b ++ end_part ∷ [])) j,
        omega (arith, length-append bs (b ∷ []), nn),
      )
  behind_goal n bs b (case_part c) d s e =
      let x : in_cases n bs (with_case b c) ≡ d = cc in
      subst (Comes (goal_count n ∷ (blocks_from 1 bs ++ block_parts (length bs + 1) b)) (case_part c)) x
      (grown n (blocks_from 1 bs) (block_parts (length bs + 1) b) (block_parts (length bs + 1) (with_case b c)) (case_part c) (case_grown (length bs + 1) b c), s)
  behind_goal n bs b _ d s e = absurd (cc)

  comes : (c : Course A) (p : ProofLine A) (d : Course A) → Stands c → next c p ≡ Some d → Comes (seen c) p d
  comes at_count (goal_count n) d s e =
      let r = only (nat_lt 0 n) (at_first_goal n) d e in
      subst (Comes [] (goal_count n)) r.1 (refl, ltb-true 0 n r.0)
  comes at_count _ d s e = absurd (cc)
  comes (at_first_goal n) (goal_part k) d s e =
      let r = only (nat_eq k 1) (at_left n []) d e in
      subst (Comes (goal_count n ∷ []) (goal_part k)) r.1 (ap (λ j. goal_count n ∷ goal_part j ∷ []) (sym (eqb-true k 1 r.0)), s)
  comes (at_first_goal n) _ d s e = absurd (cc)
  comes (at_left n bs) (left_part T) d s e =
      let x : in_rights n bs T [] ≡ d = cc in
      subst (Comes (seen (at_left n bs)) (left_part T)) x (grown n (blocks_from 1 bs) (goal_part (length bs + 1) ∷ []) (goal_part (length bs + 1) ∷ left_part T ∷ []) (left_part T) refl, s)
  comes (at_left n bs) _ d s e = absurd (cc)
  comes (in_rights n bs T Us) (right_part U) d s e =
      let x : in_rights n bs T (Us ++ U ∷ []) ≡ d = cc in
      subst (Comes (seen (in_rights n bs T Us)) (right_part U)) x
      (grown n (blocks_from 1 bs) (block_parts (length bs + 1) (plain_block T Us)) (block_parts (length bs + 1) (plain_block T (Us ++ U ∷ []))) (right_part U) (right_grown (length bs + 1) T Us U), s)
  comes (in_rights n bs T Us) (empty_part m) d s e =
      let x : in_cases n bs (with_empty T Us m) ≡ d = cc in
      subst (Comes (seen (in_rights n bs T Us)) (empty_part m)) x
      (grown n (blocks_from 1 bs) (block_parts (length bs + 1) (plain_block T Us)) (block_parts (length bs + 1) (with_empty T Us m)) (empty_part m) (empty_grown (length bs + 1) T Us m), s)
  comes (in_rights n bs T Us) p d s e = behind_goal n bs (plain_block T Us) p d s e
  comes (in_cases n bs b) p d s e = behind_goal n bs b p d s e
  comes (at_end bs) _ d s e = absurd (cc)

  lost : (ps : List (ProofLine A)) → along None ps ≡ None
  lost [] = refl
  lost (p ∷ ps) = lost ps

  pub all_seen : (c : Course A) (ps : List (ProofLine A)) (d : Course A) → Stands c → along (Some c) ps ≡ Some d → (seen d ≡ seen c ++ ps) × Stands d
  all_seen c [] d s e = let x : c ≡ d = cc in subst (λ w. (seen w ≡ seen c ++ []) × Stands w) x (sym (append-nil (seen c)), s)
  all_seen c (p ∷ ps) d s e = go (next c p) refl e (λ w t h. all_seen w ps d t h)
    where
      go : (o : Option (Course A)) → next c p ≡ o → along o ps ≡ Some d → ((w : Course A) → Stands w → along (Some w) ps ≡ Some d → (seen d ≡ seen w ++ ps) × Stands d) →
          (seen d ≡ seen c ++ p ∷ ps) × Stands d
      go None q h rec = let z = lost ps in absurd (cc)
      go (Some w) q h rec =
          let r = comes c p w s q in
          let t = rec w r.1 h in
          (t.0 ∙ ap (λ l. l ++ ps) r.0 ∙ append_assoc (seen c) (p ∷ []) ps, t.1)

-- The list of goals is followed to its end.
module _ {A : Type 0} where
  abbrev has_cases : GoalBlock A → List Case → GoalBlock A
  has_cases b cs = record b { cases = cs }

  -- after the cases, a line that ends the goal
  cases_end : (n : ℕ) (bs : List (GoalBlock A)) (b : GoalBlock A) (cs : List Case) (q : ProofLine A) (rest : List (ProofLine A)) →
      along (Some (in_cases n bs b)) (map case_part cs ++ q ∷ rest) ≡ along (after_goal n bs (has_cases b (b.cases ++ cs)) q) rest
  cases_end n bs b [] q rest = ap (λ l. along (after_goal n bs (has_cases b l) q) rest) (sym (append-nil b.cases))
  cases_end n bs b (c ∷ cs) q rest =
      cases_end n bs (with_case b c) cs q rest
      ∙ ap (λ l. along (after_goal n bs (has_cases b l) q) rest) (append_assoc b.cases (c ∷ []) cs)

  rights_follow : (n : ℕ) (bs : List (GoalBlock A)) (T : A) (Us Vs : List A) (rest : List (ProofLine A)) →
      along (Some (in_rights n bs T Us)) (map right_part Vs ++ rest) ≡ along (Some (in_rights n bs T (Us ++ Vs))) rest
  rights_follow n bs T Us [] rest = ap (λ l. along (Some (in_rights n bs T l)) rest) (sym (append-nil Us))
  rights_follow n bs T Us (V ∷ Vs) rest =
      rights_follow n bs T (Us ++ V ∷ []) Vs rest ∙ ap (λ l. along (Some (in_rights n bs T l)) rest) (append_assoc Us (V ∷ []) Vs)

  -- the line is the first one of a goal, or the last one of the proof
  abbrev EndsGoal : ProofLine A → Type 0
  EndsGoal (goal_part k) = Unit {0}
  EndsGoal end_part = Unit {0}
  EndsGoal _ = ⊥

  plain_end : (n : ℕ) (bs : List (GoalBlock A)) (T : A) (Us : List A) (q : ProofLine A) → EndsGoal q → next (in_rights n bs T Us) q ≡ after_goal n bs (plain_block T Us) q
  plain_end n bs T Us (goal_part k) e = refl
  plain_end n bs T Us end_part e = refl
  plain_end n bs T Us _ e = absurd e

  rights_end : (n : ℕ) (bs : List (GoalBlock A)) (T : A) (Us : List A) (o : Option ℕ) (cs : List Case) (q : ProofLine A) (rest : List (ProofLine A)) → EndsGoal q →
      along (Some (in_rights n bs T Us)) (empty_parts o ++ (map case_part cs ++ q ∷ rest))
      ≡ along (after_goal n bs (record { left = T; rights = Us; empty_right = o; cases = cs }) q) rest
  rights_end n bs T Us None [] q rest e = ap (λ (o : Option (Course A)). along o rest) (plain_end n bs T Us q e)
  rights_end n bs T Us None (c ∷ cs) q rest e = cases_end n bs (with_case (plain_block T Us) c) cs q rest
  rights_end n bs T Us (Some m) cs q rest e = cases_end n bs (with_empty T Us m) cs q rest

  -- the lines of a goal after its first one
  abbrev inner : GoalBlock A → List (ProofLine A)
  inner b = left_part b.left ∷ (map right_part b.rights ++ (empty_parts b.empty_right ++ map case_part b.cases))

  block_end : (n : ℕ) (bs : List (GoalBlock A)) (b : GoalBlock A) (q : ProofLine A) (rest : List (ProofLine A)) → EndsGoal q →
      along (Some (at_left n bs)) (inner b ++ q ∷ rest) ≡ along (after_goal n bs b q) rest
  block_end n bs b q rest e =
      ap (λ l. along (Some (in_rights n bs b.left [])) l)
      (append_assoc (map right_part b.rights) (empty_parts b.empty_right ++ map case_part b.cases) (q ∷ rest)
      ∙ ap (λ l. map right_part b.rights ++ l) (append_assoc (empty_parts b.empty_right) (map case_part b.cases) (q ∷ rest)))
      ∙ rights_follow n bs b.left [] b.rights (empty_parts b.empty_right ++ (map case_part b.cases ++ q ∷ rest))
      ∙ rights_end n bs b.left b.rights b.empty_right b.cases q rest e

  follows : (n : ℕ) (bs : List (GoalBlock A)) (b : GoalBlock A) (cs : List (GoalBlock A)) (k : ℕ) → k ≡ length bs + 2 → n ≡ length bs + 1 + length cs →
      along (Some (at_left n bs)) (inner b ++ (blocks_from k cs ++ end_part ∷ [])) ≡ Some (at_end (bs ++ b ∷ cs))
  follows n bs b [] k ke e =
      block_end n bs b end_part [] tt
      ∙ only_true (nat_eq n (length bs + 1)) (at_end (bs ++ b ∷ [])) (eq-eqb n (length bs + 1) (omega (arith, e)))
  follows n bs b (c ∷ cs) k ke e =
      block_end n bs b (goal_part k) (inner c ++ blocks_from (k + 1) cs ++ end_part ∷ []) tt
      ∙ ap (λ o. along o (inner c ++ blocks_from (k + 1) cs ++ end_part ∷ []))
      (only_true (nat_eq k (length bs + 2) && nat_lt (length bs + 1) n) (at_left n (bs ++ b ∷ []))
      (and_from _ _ (eq-eqb k (length bs + 2) ke) (lt-ltb (length bs + 1) n (omega (arith, e)))))
      ∙ ap (λ l. along (Some (at_left n (bs ++ b ∷ []))) l) (append_assoc (inner c) (blocks_from (k + 1) cs) (end_part ∷ []))
      ∙ follows n (bs ++ b ∷ []) c cs (k + 1) (omega (arith, length-append bs (b ∷ []), ke)) (omega (arith, length-append bs (b ∷ []), e))
      ∙ ap (λ l. Some (at_end l)) (append_assoc bs (b ∷ []) (c ∷ cs))

  pub list_follows : (bs : List (GoalBlock A)) → 0 < length bs → along (Some at_count) (goal_list bs) ≡ Some (at_end bs)
  list_follows [] h = absurd (omega (arith, h))
  list_follows (b ∷ bs) h =
      ap (λ o. along o (blocks_from 1 (b ∷ bs) ++ end_part ∷ [])) (only_true (nat_lt 0 (length (b ∷ bs))) (at_first_goal (length (b ∷ bs))) (lt-ltb 0 (length (b ∷ bs)) h))
      ∙ ap (λ l. along (Some (at_left (length (b ∷ bs)) [])) l) (append_assoc (inner b) (blocks_from 2 bs) (end_part ∷ []))
      ∙ follows (length (b ∷ bs)) [] b bs 2 refl (omega arith)

  pub along_joined : (o : Option (Course A)) (ps qs : List (ProofLine A)) → along o (ps ++ qs) ≡ along (along o ps) qs
  along_joined o [] qs = refl
  along_joined o (p ∷ ps) qs = along_joined (and_on (λ d. next d p) o) ps qs

  pub front_stands : (o : Option (Course A)) (ps qs : List (ProofLine A)) (d : Course A) → along o (ps ++ qs) ≡ Some d → (c : Course A) × (along o ps ≡ Some c)
  front_stands o ps qs d e = go (along o ps) refl (sym (along_joined o ps qs) ∙ e)
    where
      go : (w : Option (Course A)) → along o ps ≡ w → along w qs ≡ Some d → (c : Course A) × (along o ps ≡ Some c)
      go None q h = let z = lost qs in absurd (cc)
      go (Some c) q h = (c, q)

  -- a list of goals that goes on from these lines
  abbrev pub GoesOn : List (ProofLine A) → Type 0
  GoesOn ps = (more : List (ProofLine A)) × (bs : List (GoalBlock A)) × (0 < length bs) × (ps ++ more ≡ goal_list bs)

  abbrev copies : A → ℕ → List (GoalBlock A)
  copies x zero = []
  copies x (suc n) = plain_block x [] ∷ copies x n

  copies_length : (x : A) (n : ℕ) → length (copies x n) ≡ n
  copies_length x zero = refl
  copies_length x (suc n) = ap suc (copies_length x n)

  -- lines that a list of goals can always be ended by, where there are n goals
  abbrev pub Filler : A → ℕ → ProofLine A → Type 0
  Filler x n (goal_count m) = m ≡ 1
  Filler x n (goal_part k) = (0 < k) × (k ≤ n)
  Filler x n (left_part y) = y ≡ x
  Filler x n end_part = Unit {0}
  Filler x n _ = ⊥

  -- a list of goals that goes on from these lines, by such lines
  abbrev pub IsFilled : A → ℕ → List (ProofLine A) → Type 0
  IsFilled x n ps = (more : List (ProofLine A)) × (bs : List (GoalBlock A)) × (0 < length bs) × (ps ++ more ≡ goal_list bs) × AllByRecursion (Filler x n) more

  fillers : (x : A) (n k m : ℕ) → 0 < k → k + m ≤ n + 1 → AllByRecursion (Filler x n) (blocks_from k (copies x m) ++ end_part ∷ [])
  fillers x n k zero p h = (tt, tt)
  fillers x n k (suc m) p h = ((p, omega (arith, h)), (refl, fillers x n (k + 1) m (omega arith) (omega (arith, h))))

  goal_filled : (x : A) (n : ℕ) (bs : List (GoalBlock A)) (b : GoalBlock A) → length bs < n → IsFilled x n (goal_count n ∷ (blocks_from 1 bs ++ block_parts (length bs + 1) b))
  goal_filled x n bs b s =
      let cs = copies x (n - (length bs + 1)) in
      let all = bs ++ b ∷ cs in
      let l : length all ≡ n = omega (arith, s, length-append bs (b ∷ cs), copies_length x (n - (length bs + 1))) in
      let more = blocks_from (length bs + 2) cs ++ end_part ∷ [] in
      let same : blocks_from 1 all ≡ blocks_from 1 bs ++ (block_parts (length bs + 1) b ++ blocks_from (length bs + 2) cs) =
      blocks_joined 1 bs (b ∷ cs) ∙ ap (λ j. blocks_from 1 bs ++ (block_parts j b ++ blocks_from (j + 1) cs)) (omega arith)
      ∙ ap (λ j. blocks_from 1 bs ++ (block_parts (length bs + 1) b ++ blocks_from j cs)) (omega arith) in (
        more,
        all,
        omega (arith, l, s),
        ap (λ r. goal_count n ∷ r)
            (append_assoc (blocks_from 1 bs) (block_parts (length bs + 1) b) more
            ∙ ap (λ r. blocks_from 1 bs ++ r) (sym (append_assoc (block_parts (length bs + 1) b) (blocks_from (length bs + 2) cs) (end_part ∷ [])))
            ∙ sym (append_assoc (blocks_from 1 bs) (block_parts (length bs + 1) b ++ blocks_from (length bs + 2) cs) (end_part ∷ []))
            ∙ ap (λ r. r ++ end_part ∷ []) (sym same))
            ∙ ap (λ i. goal_count i ∷ (blocks_from 1 all ++ end_part ∷ [])) (sym l),
        fillers x n (length bs + 2) (n - (length bs + 1)) (omega arith) (omega (arith, s)),
      )

  left_filled : (x : A) (n : ℕ) (bs : List (GoalBlock A)) → length bs < n → IsFilled x n (goal_count n ∷ (blocks_from 1 bs ++ goal_part (length bs + 1) ∷ []))
  left_filled x n bs s =
      let r = goal_filled x n bs (plain_block x []) s in (
        left_part x ∷ r.0,
        r.1,
        r.2,
        ap (λ l. goal_count n ∷ l)
            (append_assoc (blocks_from 1 bs) (goal_part (length bs + 1) ∷ []) (left_part x ∷ r.0)
            ∙ sym (append_assoc (blocks_from 1 bs) (goal_part (length bs + 1) ∷ left_part x ∷ []) r.0))
            ∙ r.3,
        (refl, r.4),
      )

  first_filled : (x : A) (n : ℕ) → 0 < n → IsFilled x n (goal_count n ∷ [])
  first_filled x n s = let r = left_filled x n [] s in (goal_part 1 ∷ r.0, r.1, r.2, r.3, ((omega arith, omega (arith, s)), r.4))

  abbrev pub count_of : Course A → ℕ
  count_of at_count = 1
  count_of (at_first_goal n) = n
  count_of (at_left n bs) = n
  count_of (in_rights n bs T Us) = n
  count_of (in_cases n bs b) = n
  count_of (at_end bs) = length bs

  pub course_filled : (x : A) (c : Course A) → Stands c → IsFilled x (count_of c) (seen c)
  course_filled x at_count s = let r = first_filled x 1 (omega arith) in (goal_count 1 ∷ r.0, r.1, r.2, r.3, (refl, r.4))
  course_filled x (at_first_goal n) s = first_filled x n s
  course_filled x (at_left n bs) s = left_filled x n bs s
  course_filled x (in_rights n bs T Us) s = goal_filled x n bs (plain_block T Us) s
  course_filled x (in_cases n bs b) s = goal_filled x n bs b s
  course_filled x (at_end bs) s = ([], bs, s, append-nil (goal_list bs), tt)

  course_goes_on : (x : A) (c : Course A) → Stands c → GoesOn (seen c)
  course_goes_on x c s = let r = course_filled x c s in (r.0, r.1, r.2, r.3)

  pub course_reads : (ps : List (ProofLine A)) (bs : List (GoalBlock A)) → (along (Some at_count) ps ≡ Some (at_end bs)) ↔ ((ps ≡ goal_list bs) × (0 < length bs))
  course_reads ps bs = (
    (λ e. let r = all_seen at_count ps (at_end bs) tt e in (sym r.0, r.1)),
    (λ r. ap (λ l. along (Some at_count) l) r.0 ∙ list_follows bs r.1),
  )

  pub course_begins : A → (ps : List (ProofLine A)) → ((c : Course A) × (along (Some at_count) ps ≡ Some c)) ↔ GoesOn ps
  course_begins x ps = (
    (λ f. let r = all_seen at_count ps f.0 tt f.1 in let g = course_goes_on x f.0 r.1 in (g.0, g.1, g.2, ap (λ l. l ++ g.0) (sym r.0) ∙ g.3)),
    (λ g. front_stands (Some at_count) ps g.0 (at_end g.1) (ap (λ l. along (Some at_count) l) g.3 ∙ list_follows g.1 g.2)),
  )
