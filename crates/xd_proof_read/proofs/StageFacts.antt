-- The stages of the lines of goals follow the course of the lines.
use Rattle.std.proofs.Common.{Vec, Global, ◌≡◌, ℕ, suc, ◌+◌, arith, Bool, true, false, ◌&&◌, List, [], ◌∷◌, ◌++◌, length, length-append, Option, Some, None, Result, Ok, Err, refl, ap, sym, subst, ◌∙◌, rules}
use Rattle.std.specs.Prelude.{nat_eq, nat_lt, vec_len, MatchOption, IfOk}
use Rattle.std.specs.List.{AllZip}
use Rattle.std.proofs.lemmas.Bool.{ne_eqb}
use Rattle.std.proofs.lemmas.Slice.Zip.{all_zipped_more}
use Rattle.xd_doc.specs.declared.NoMemory.{NoMemory}
use Rattle.xd_doc.proofs.Lists.{zip_long}
use Rattle.xd_syntax.specs.Tree.{Tree}
use Rattle.xd_syntax.specs.Table.{Row, KeepsRows}
use Rattle.xd_syntax.specs.SoundTables.{IsTypeAt}
use Rattle.xd_syntax.specs.Kept.{ProgramTable}
use Rattle.xd_syntax.specs.declared.types.TypeId.{TypeId}
use Rattle.xd_sound.proofs.AdoptLaws.{type_kept}
use Rattle.xd_rules.specs.Rules.{Case}
use Rattle.xd_meaning.specs.Violation.{Lined}
use Rattle.xd_proof.specs.Parts.{ProofLine, first_title, second_title, type_count, type_part, goal_count, goal_part, left_part, right_part, empty_part, case_part, end_part}
use Rattle.xd_proof.specs.Form.{GoalBlock, block_length, goals_from}
use Rattle.xd_proof.specs.Course.{Course, at_count, at_first_goal, at_left, in_rights, in_cases, at_end, only_if, plain_block, with_empty, with_case, after_goal, next}
use Rattle.xd_proof.proofs.CourseLemmas.{only, only_true}
use Rattle.xd_proof.proofs.Unique.{part_one}
use Rattle.xd_proof.specs.declared.cases.ReadCase.{ReadCase}
use Rattle.xd_proof.specs.Cases.{IsCase}
use Rattle.xd_proof.specs.declared.proof.ProofGoal.{ProofGoal}
use Rattle.xd_proof.specs.Goals.{IsLinedAt, AreGoalsAt}
use Rattle.xd_proof_read.specs.declared.naming.Naming.{Naming}
use Rattle.xd_proof_read.specs.declared.said.Said.{Said}
use Rattle.xd_proof_read.specs.declared.said.Said.TheVariants as said
use Rattle.xd_proof_read.specs.declared.stages.Ended.{Ended}
use Rattle.xd_proof_read.specs.declared.stages.Stage.{Stage}
use Rattle.xd_proof_read.specs.declared.stages.Stage.TheVariants as stages
use Rattle.xd_proof_read.specs.Naming.{SpellsTypeOf, Names}
use Rattle.xd_proof_read.specs.Said.{IsPart, IsOfGoals, Says}
use Rattle.xd_proof_read.specs.Stages.{lines_of, lined_behind, AreEnded, IsStage, passed, IsNext, LeadsTo, GoesTo, IsLineTaken}
use Rattle.xd_proof_read.proofs.NamingFacts.{CanName}

-- ---- which part was said
abbrev Never : {A : Type 0} → (A → Said) → Said → Type 0
Never {A} made s = (x : A) → s ≡ made x → ⊥

module _ (types : List Row) where
  no_right : (s : Said) (T : Tree) → Never said.Right s → IsPart types s (right_part T) → ⊥
  no_right (said.Right i) T h q = h i refl
  no_right _ T h q = q

  no_empty : (s : Said) (m : ℕ) → Never said.Empty s → IsPart types s (empty_part m) → ⊥
  no_empty (said.Empty n) m h q = h n refl
  no_empty _ m h q = q

  no_case : (s : Said) (c : Case) → Never said.Case s → IsPart types s (case_part c) → ⊥
  no_case (said.Case m) c h q = h m refl
  no_case _ c h q = q

  no_end : (s : Said) → (s ≡ said.End → ⊥) → IsPart types s end_part → ⊥
  no_end said.End h q = h refl
  no_end _ h q = q

-- the same, where the line or the stage is told by an equation
pub as_said : (stage : Stage) (s t : Said) (line : ℕ) (o : Option Stage) → s ≡ t → LeadsTo stage t line o → LeadsTo stage s line o
as_said stage s t line o e f = subst (λ x. LeadsTo stage x line o) (sym e) f

pub as_stage : (stage other : Stage) (s : Said) (line : ℕ) (o : Option Stage) → stage ≡ other → LeadsTo other s line o → LeadsTo stage s line o
as_stage stage other s line o e f = subst (λ x. LeadsTo x s line o) (sym e) f

-- ---- the number of goals
-- ---- the first line of the first goal
only_false : {B : Type 0} (b : Bool) (x : B) → b ≡ false → only_if b x ≡ None
only_false true x e = absurd (cc)
only_false false x e = refl

pub count_other : (n k line : ℕ) → (k ≡ 1 → ⊥) → LeadsTo (stages.AtFirstGoal n) (said.Goal k) line None
count_other n k line h types first (at_first_goal m) (goal_part j) i q e = only_false (nat_eq j 1) (at_left m []) (ne_eqb j 1 (λ z. h (q ∙ z)))
count_other n k line h types first (at_first_goal m) p i q e = absurd q
count_other n k line h types first c p i q e = absurd i

-- ---- the left
pub left_next : (ended : Ended) (begun : ℕ) (id : TypeId) (goal : ProofGoal) → goal.line ≡ begun → goal.left ≡ id → (goal.rights).items ≡ [] → goal.empty_right ≡ None → (goal.cases).items ≡ [] →
    (line : ℕ) → LeadsTo (stages.AtLeft ended begun) (said.Left id) line (Some (stages.InRights ended goal))
left_next ended begun id goal l i r m k line types first (at_left n bs) (left_part T) s q e = (
  in_rights n bs T [],
  refl,
  (
    s.0,
    record {
      line = l ∙ s.1;
      goal = record {
        left = subst (IsTypeAt types T) (sym i) q;
        rights = subst (λ (xs : List TypeId). AllZip (λ x U. IsTypeAt types U x) xs []) (sym r) tt;
        empty_right = m;
        cases = subst (λ (xs : List ReadCase). AllZip IsCase xs []) (sym k) tt;
      };
    },
  ),
)
left_next ended begun id goal l i r m k line types first (at_left n bs) p s q e = absurd q
left_next ended begun id goal l i r m k line types first c p s q e = absurd s

-- ---- rights, and the line on being empty
pub right_next : (ended : Ended) (goal new : ProofGoal) (id : TypeId) (line : ℕ) → new.line ≡ goal.line → new.left ≡ goal.left → (new.rights).items ≡ (goal.rights).items ++ id ∷ [] → new.empty_right ≡ goal.empty_right → new.cases ≡ goal.cases →
    LeadsTo (stages.InRights ended goal) (said.Right id) line (Some (stages.InRights ended new))
right_next ended goal new id line a b r m k types first (in_rights n bs T Us) (right_part U) s q e =
    let old = (s.1).goal in (
      in_rights n bs T (Us ++ U ∷ []),
      refl,
      (
        s.0,
        record {
          line = a ∙ (s.1).line;
          goal = record {
            left = subst (IsTypeAt types T) (sym b) old.left;
            rights = subst (λ (xs : List TypeId). AllZip (λ x V. IsTypeAt types V x) xs (Us ++ U ∷ [])) (sym r) (all_zipped_more (λ x V. IsTypeAt types V x) (goal.rights).items Us id U old.rights q);
            empty_right = m ∙ old.empty_right;
            cases = subst (λ (xs : Vec ReadCase Global). AllZip IsCase xs.items []) (sym k) old.cases;
          };
        },
      ),
    )
right_next ended goal new id line a b r m k types first (in_rights n bs T Us) p s q e = absurd q
right_next ended goal new id line a b r m k types first c p s q e = absurd s

pub empty_next : (ended : Ended) (goal new : ProofGoal) (k line : ℕ) → new.line ≡ goal.line → new.left ≡ goal.left → new.rights ≡ goal.rights → new.empty_right ≡ Some k → new.cases ≡ goal.cases →
    LeadsTo (stages.InRights ended goal) (said.Empty k) line (Some (stages.InCases ended new))
empty_next ended goal new k line a b r m d types first (in_rights n bs T Us) (empty_part j) s q e =
    let old = (s.1).goal in (
      in_cases n bs (with_empty T Us j),
      refl,
      (
        s.0,
        record {
          line = a ∙ (s.1).line;
          goal = record {
            left = subst (IsTypeAt types T) (sym b) old.left;
            rights = subst (λ (xs : Vec TypeId Global). AllZip (λ x V. IsTypeAt types V x) xs.items Us) (sym r) old.rights;
            empty_right = m ∙ ap Some q;
            cases = subst (λ (xs : Vec ReadCase Global). AllZip IsCase xs.items []) (sym d) old.cases;
          };
        },
      ),
    )
empty_next ended goal new k line a b r m d types first (in_rights n bs T Us) p s q e = absurd q
empty_next ended goal new k line a b r m d types first c p s q e = absurd s

-- other lines stand after the rights as they stand after cases
right_other : (ended : Ended) (goal : ProofGoal) (s : Said) (line : ℕ) (o : Option Stage) → Never said.Right s → Never said.Empty s → LeadsTo (stages.InCases ended goal) s line o → LeadsTo (stages.InRights ended goal) s line o
right_other ended goal s line o h k f types first (in_rights n bs T Us) (right_part U) i q e = absurd (no_right types s U h q)
right_other ended goal s line o h k f types first (in_rights n bs T Us) (empty_part j) i q e = absurd (no_empty types s j k q)
right_other ended goal s line o h k f types first (in_rights n bs T Us) p i q e = f types first (in_cases n bs (plain_block T Us)) p i q e
right_other ended goal s line o h k f types first c p i q e = absurd i

pub right_others : (ended : Ended) (goal : ProofGoal) (s : Said) (line : ℕ) (r : Result (Option Stage) NoMemory) → Never said.Right s → Never said.Empty s →
    IfOk r (LeadsTo (stages.InCases ended goal) s line) → IfOk r (LeadsTo (stages.InRights ended goal) s line)
right_others ended goal s line (Ok o) h k f = right_other ended goal s line o h k f
right_others ended goal s line (Err x) h k f = tt

-- ---- cases
pub case_next : (ended : Ended) (goal new : ProofGoal) (made : ReadCase) (line : ℕ) → new.line ≡ goal.line → new.left ≡ goal.left → new.rights ≡ goal.rights → new.empty_right ≡ goal.empty_right → (new.cases).items ≡ (goal.cases).items ++ made ∷ [] →
    LeadsTo (stages.InCases ended goal) (said.Case made) line (Some (stages.InCases ended new))
case_next ended goal new made line a b r m d types first (in_cases n bs g) (case_part k) s q e =
    let old = (s.1).goal in (
      in_cases n bs (with_case g k),
      refl,
      (
        s.0,
        record {
          line = a ∙ (s.1).line;
          goal = record {
            left = subst (IsTypeAt types g.left) (sym b) old.left;
            rights = subst (λ (xs : Vec TypeId Global). AllZip (λ x V. IsTypeAt types V x) xs.items g.rights) (sym r) old.rights;
            empty_right = m ∙ old.empty_right;
            cases = subst (λ (xs : List ReadCase). AllZip IsCase xs (g.cases ++ k ∷ [])) (sym d) (all_zipped_more IsCase (goal.cases).items g.cases made k old.cases q);
          };
        },
      ),
    )
case_next ended goal new made line a b r m d types first (in_cases n bs g) p s q e = absurd q
case_next ended goal new made line a b r m d types first c p s q e = absurd s

-- ---- the end of a goal
goals_joined : (n : ℕ) (bs : List (GoalBlock Tree)) (b : GoalBlock Tree) → goals_from n (bs ++ b ∷ []) ≡ goals_from n bs ++ lined_behind n bs b ∷ []
goals_joined n [] b = ap (λ i. let x : Lined = record { line = i; goal = record { left = b.left; rights = b.rights; empty_right = b.empty_right; cases = b.cases } } in x ∷ []) (omega arith)
goals_joined n (c ∷ bs) b =
    ap (λ l. let x : Lined = record { line = n; goal = record { left = c.left; rights = c.rights; empty_right = c.empty_right; cases = c.cases } } in x ∷ l)
    (goals_joined (n + block_length c) bs b
    ∙ ap (λ i. goals_from (n + block_length c) bs ++ (let x : Lined = record { line = i; goal = record { left = b.left; rights = b.rights; empty_right = b.empty_right; cases = b.cases } } in x) ∷ []) (omega arith))

lines_joined : (bs : List (GoalBlock Tree)) (b : GoalBlock Tree) → lines_of (bs ++ b ∷ []) ≡ lines_of bs + block_length b
lines_joined [] b = omega arith
lines_joined (c ∷ bs) b = let h = lines_joined bs b in omega (arith, h)

length-goals : (n : ℕ) (bs : List (GoalBlock Tree)) → length (goals_from n bs) ≡ length bs
length-goals n [] = refl
length-goals n (b ∷ bs) = ap suc (length-goals (n + block_length b) bs)

pub length-made : (types : List Row) (made : List ProofGoal) (n : ℕ) (bs : List (GoalBlock Tree)) → AreGoalsAt types made (goals_from n bs) → length made ≡ length bs
length-made types made n bs a = zip_long (IsLinedAt types) made (goals_from n bs) a ∙ length-goals n bs

one_ended : (types : List Row) (first count : ℕ) (ended more : Ended) (goal : ProofGoal) (bs : List (GoalBlock Tree)) (b : GoalBlock Tree) → more.count ≡ ended.count → (more.goals).items ≡ (ended.goals).items ++ goal ∷ [] →
    AreEnded types first ended count bs → IsLinedAt types goal (lined_behind first bs b) → AreEnded types first more count (bs ++ b ∷ [])
one_ended types first count ended more goal bs b e f a g = record {
  count = e ∙ a.count;
  goals =
      subst (λ l. AreGoalsAt types (more.goals).items l) (sym (goals_joined first bs b))
      (subst (λ (l : List ProofGoal). AreGoalsAt types l (goals_from first bs ++ lined_behind first bs b ∷ [])) (sym f) (all_zipped_more (IsLinedAt types) (ended.goals).items (goals_from first bs) goal (lined_behind first bs b) a.goals g));
}

-- so many goals are ended then
many_ended : (types : List Row) (first count : ℕ) (more : Ended) (bs : List (GoalBlock Tree)) (b : GoalBlock Tree) → AreEnded types first more count (bs ++ b ∷ []) → vec_len more.goals ≡ length bs + 1
many_ended types first count more bs b a =
    let w : vec_len more.goals ≡ length (more.goals).items = search rules in
    let l = length-made types (more.goals).items first (bs ++ b ∷ []) a.goals in
    let k = length-append bs (b ∷ []) in
    omega (arith, w, l, k)

abbrev goes_on : ℕ → Ended → Bool
goes_on k more = nat_eq k (vec_len more.goals + 1) && nat_lt (vec_len more.goals) more.count

same_test : (types : List Row) (first count k j : ℕ) (more : Ended) (bs : List (GoalBlock Tree)) (b : GoalBlock Tree) → AreEnded types first more count (bs ++ b ∷ []) → k ≡ j →
    goes_on k more ≡ (nat_eq j (length bs + 2) && nat_lt (length bs + 1) count)
same_test types first count k j more bs b a e =
    let l = many_ended types first count more bs b a in
    ap (λ x. nat_eq x (vec_len more.goals + 1) && nat_lt (vec_len more.goals) more.count) e
    ∙ ap (λ x. nat_eq j (x + 1) && nat_lt x more.count) l
    ∙ ap (λ x. nat_eq j (length bs + 1 + 1) && nat_lt (length bs + 1) x) a.count
    ∙ ap (λ x. nat_eq j x && nat_lt (length bs + 1) count) (omega arith)

pub goal_next : (ended more : Ended) (goal : ProofGoal) (k line : ℕ) (test : Bool) → more.count ≡ ended.count → (more.goals).items ≡ (ended.goals).items ++ goal ∷ [] → test ≡ goes_on k more → test ≡ true →
    LeadsTo (stages.InCases ended goal) (said.Goal k) line (Some (stages.AtLeft more line))
goal_next ended more goal k line test a b t h types first (in_cases n bs g) (goal_part j) s q e =
    let m = one_ended types first n ended more goal bs g a b s.0 s.1 in
    let l = lines_joined bs g in (
      at_left n (bs ++ g ∷ []),
      only_true (nat_eq j (length bs + 2) && nat_lt (length bs + 1) n) (at_left n (bs ++ g ∷ [])) (sym (same_test types first n k j more bs g m q) ∙ sym t ∙ h),
      (m, omega (arith, e, l)),
    )
goal_next ended more goal k line test a b t h types first (in_cases n bs g) p s q e = absurd q
goal_next ended more goal k line test a b t h types first c p s q e = absurd s

pub goal_none : (ended more : Ended) (goal : ProofGoal) (k line : ℕ) (test : Bool) → more.count ≡ ended.count → (more.goals).items ≡ (ended.goals).items ++ goal ∷ [] → test ≡ goes_on k more → test ≡ false →
    LeadsTo (stages.InCases ended goal) (said.Goal k) line None
goal_none ended more goal k line test a b t h types first (in_cases n bs g) (goal_part j) s q e =
    let m = one_ended types first n ended more goal bs g a b s.0 s.1 in
    only_false (nat_eq j (length bs + 2) && nat_lt (length bs + 1) n) (at_left n (bs ++ g ∷ [])) (sym (same_test types first n k j more bs g m q) ∙ sym t ∙ h)
goal_none ended more goal k line test a b t h types first (in_cases n bs g) p s q e = absurd q
goal_none ended more goal k line test a b t h types first c p s q e = absurd s

same_end : (types : List Row) (first count : ℕ) (more : Ended) (bs : List (GoalBlock Tree)) (b : GoalBlock Tree) → AreEnded types first more count (bs ++ b ∷ []) → nat_eq more.count (vec_len more.goals) ≡ nat_eq count (length bs + 1)
same_end types first count more bs b a = ap (λ x. nat_eq x (vec_len more.goals)) a.count ∙ ap (nat_eq count) (many_ended types first count more bs b a)

pub end_next : (ended more : Ended) (goal : ProofGoal) (line : ℕ) (test : Bool) → more.count ≡ ended.count → (more.goals).items ≡ (ended.goals).items ++ goal ∷ [] → test ≡ nat_eq more.count (vec_len more.goals) → test ≡ true →
    LeadsTo (stages.InCases ended goal) said.End line (Some (stages.AtEnd more.goals))
end_next ended more goal line test a b t h types first (in_cases n bs g) end_part s q e =
    let m = one_ended types first n ended more goal bs g a b s.0 s.1 in (
      at_end (bs ++ g ∷ []),
      only_true (nat_eq n (length bs + 1)) (at_end (bs ++ g ∷ [])) (sym (same_end types first n more bs g m) ∙ sym t ∙ h),
      m.goals,
    )
end_next ended more goal line test a b t h types first (in_cases n bs g) p s q e = absurd q
end_next ended more goal line test a b t h types first c p s q e = absurd s

pub end_none : (ended more : Ended) (goal : ProofGoal) (line : ℕ) (test : Bool) → more.count ≡ ended.count → (more.goals).items ≡ (ended.goals).items ++ goal ∷ [] → test ≡ nat_eq more.count (vec_len more.goals) → test ≡ false →
    LeadsTo (stages.InCases ended goal) said.End line None
end_none ended more goal line test a b t h types first (in_cases n bs g) end_part s q e =
    let m = one_ended types first n ended more goal bs g a b s.0 s.1 in
    only_false (nat_eq n (length bs + 1)) (at_end (bs ++ g ∷ [])) (sym (same_end types first n more bs g m) ∙ sym t ∙ h)
end_none ended more goal line test a b t h types first (in_cases n bs g) p s q e = absurd q
end_none ended more goal line test a b t h types first c p s q e = absurd s

-- ---- the end
-- ---- lines passed, and types that are added
behind_passed : (n : ℕ) (bs : List (GoalBlock Tree)) (b : GoalBlock Tree) (p : ProofLine Tree) (d : Course Tree) → after_goal n bs b p ≡ Some d → passed d ≡ lines_of bs + block_length b + 2
behind_passed n bs b (goal_part k) d e =
    let r = only (nat_eq k (length bs + 2) && nat_lt (length bs + 1) n) (at_left n (bs ++ b ∷ [])) d e in
    subst (λ w. passed w ≡ lines_of bs + block_length b + 2) r.1 (let l = lines_joined bs b in omega (arith, l))
behind_passed n bs b end_part d e =
    let r = only (nat_eq n (length bs + 1)) (at_end (bs ++ b ∷ [])) d e in
    subst (λ w. passed w ≡ lines_of bs + block_length b + 2) r.1 (let l = lines_joined bs b in omega (arith, l))
behind_passed n bs b (case_part c) d e =
    let x : in_cases n bs (with_case b c) ≡ d = cc in
    subst (λ w. passed w ≡ lines_of bs + block_length b + 2) x (let l = length-append b.cases (c ∷ []) in omega (arith, l))
behind_passed n bs b _ d e = absurd (cc)

pub one_passed : (c : Course Tree) (p : ProofLine Tree) (d : Course Tree) → next c p ≡ Some d → passed d ≡ passed c + 1
one_passed at_count (goal_count n) d e = let r = only (nat_lt 0 n) (at_first_goal n) d e in subst (λ w. passed w ≡ 1) r.1 refl
one_passed at_count _ d e = absurd (cc)
one_passed (at_first_goal n) (goal_part k) d e = let r = only (nat_eq k 1) (at_left n []) d e in subst (λ w. passed w ≡ 2) r.1 refl
one_passed (at_first_goal n) _ d e = absurd (cc)
one_passed (at_left n bs) (left_part T) d e = let x : in_rights n bs T [] ≡ d = cc in subst (λ w. passed w ≡ lines_of bs + 2 + 1) x (omega arith)
one_passed (at_left n bs) _ d e = absurd (cc)
one_passed (in_rights n bs T Us) (right_part U) d e =
    let x : in_rights n bs T (Us ++ U ∷ []) ≡ d = cc in
    subst (λ w. passed w ≡ lines_of bs + block_length (plain_block T Us) + 1 + 1) x (let l = length-append Us (U ∷ []) in omega (arith, l))
one_passed (in_rights n bs T Us) (empty_part k) d e =
    let x : in_cases n bs (with_empty T Us k) ≡ d = cc in
    subst (λ w. passed w ≡ lines_of bs + block_length (plain_block T Us) + 1 + 1) x (omega arith)
one_passed (in_rights n bs T Us) p d e = let h = behind_passed n bs (plain_block T Us) p d e in omega (arith, h)
one_passed (in_cases n bs b) p d e = let h = behind_passed n bs b p d e in omega (arith, h)
one_passed (at_end bs) _ d e = absurd (cc)

-- only lines of goals go on
stray : (c : Course Tree) → (next c first_title ≡ None) × (next c second_title ≡ None) × ((n : ℕ) → next c (type_count n) ≡ None) × ((n : ℕ) (T : Tree) → next c (type_part n T) ≡ None)
stray at_count = (refl, refl, (λ n. refl), (λ n T. refl))
stray (at_first_goal n) = (refl, refl, (λ n. refl), (λ n T. refl))
stray (at_left n bs) = (refl, refl, (λ n. refl), (λ n T. refl))
stray (in_rights n bs T Us) = (refl, refl, (λ n. refl), (λ n T. refl))
stray (in_cases n bs b) = (refl, refl, (λ n. refl), (λ n T. refl))
stray (at_end bs) = (refl, refl, (λ n. refl), (λ n T. refl))

none_some : {A : Type 0} (o : Option A) (x : A) → o ≡ None → o ≡ Some x → ⊥
none_some o x e f = cc

pub of_goals : (c : Course Tree) (p : ProofLine Tree) (d : Course Tree) → next c p ≡ Some d → IsOfGoals p
of_goals c first_title d e = none_some (next c first_title) d (stray c).0 e
of_goals c second_title d e = none_some (next c second_title) d (stray c).1 e
of_goals c (type_count n) d e = none_some (next c (type_count n)) d ((stray c).2 n) e
of_goals c (type_part n T) d e = none_some (next c (type_part n T)) d ((stray c).3 n T) e
of_goals c _ d e = tt

all_kept : {A B : Type 0} (P Q : A → B → Type 0) → ((x : A) (y : B) → P x y → Q x y) → (xs : List A) (ys : List B) → AllZip P xs ys → AllZip Q xs ys
all_kept P Q f [] [] a = a
all_kept P Q f [] (y ∷ ys) a = absurd a
all_kept P Q f (x ∷ xs) [] a = absurd a
all_kept P Q f (x ∷ xs) (y ∷ ys) a = (f x y a.0, all_kept P Q f xs ys a.1)

goal_kept : (old new : List Row) → KeepsRows old new → (made : ProofGoal) (l : Lined) → IsLinedAt old made l → IsLinedAt new made l
goal_kept old new k made l a =
    let g = a.goal in
    record {
      line = a.line;
      goal = record {
        left = type_kept old new (l.goal).left made.left k g.left;
        rights = all_kept (λ id T. IsTypeAt old T id) (λ id T. IsTypeAt new T id) (λ id T. type_kept old new T id k) (made.rights).items (l.goal).rights g.rights;
        empty_right = g.empty_right;
        cases = g.cases;
      };
    }

pub goals_kept : (old new : List Row) → KeepsRows old new → (made : List ProofGoal) (goals : List Lined) → AreGoalsAt old made goals → AreGoalsAt new made goals
goals_kept old new k made goals a = all_kept (IsLinedAt old) (IsLinedAt new) (goal_kept old new k) made goals a

ended_kept : (old new : List Row) → KeepsRows old new → (first n : ℕ) (made : Ended) (bs : List (GoalBlock Tree)) → AreEnded old first made n bs → AreEnded new first made n bs
ended_kept old new k first n made bs a = record { count = a.count; goals = goals_kept old new k (made.goals).items (goals_from first bs) a.goals }

pub stage_kept : (old new : List Row) → KeepsRows old new → (first : ℕ) (s : Stage) (c : Course Tree) → IsStage old first s c → IsStage new first s c
stage_kept old new k first stages.AtCount at_count i = i
stage_kept old new k first (stages.AtFirstGoal m) (at_first_goal n) i = i
stage_kept old new k first (stages.AtLeft e l) (at_left n bs) i = (ended_kept old new k first n e bs i.0, i.1)
stage_kept old new k first (stages.InRights e g) (in_rights n bs T Us) i = (ended_kept old new k first n e bs i.0, goal_kept old new k g (lined_behind first bs (plain_block T Us)) i.1)
stage_kept old new k first (stages.InCases e g) (in_cases n bs b) i = (ended_kept old new k first n e bs i.0, goal_kept old new k g (lined_behind first bs b) i.1)
stage_kept old new k first (stages.AtEnd made) (at_end bs) i = goals_kept old new k made.items (goals_from first bs) i
stage_kept old new k first s c i = absurd i

-- ---- a line, read and placed
same_part : (p : ProgramTable) (naming : Naming) (n : CanName (SpellsTypeOf p) (Names p naming)) (line : List ℕ) (a b : ProofLine Tree) → Says p naming line a → Says p naming line b → b ≡ a
same_part p naming n line a b s t = part_one (SpellsTypeOf p) (Names p naming) n.types_one n.one line b a t.spelled s.spelled

pub taken : (p q : ProgramTable) (naming : Naming) → CanName (SpellsTypeOf p) (Names p naming) → (line : List ℕ) (stage : Stage) (number : ℕ) (s : Said) (r : Result (Option Stage) NoMemory) → KeepsRows p.types q.types →
    ((part : ProofLine Tree) × Says p naming line part × IsPart q.types s part) → IfOk r (LeadsTo stage s number) → IfOk r (IsLineTaken p naming line stage number q.types)
taken p q naming can line stage number s (Err x) k h f = tt
taken p q naming can line stage number s (Ok o) k (part, says, is) f = λ first c i e. go o first c (f q.types first c part (stage_kept p.types q.types k first stage c i) is e)
  where
    go : (o : Option Stage) (first : ℕ) (c : Course Tree) → IsNext q.types first c part o → MatchOption o ((d : Course Tree) → GoesTo p naming line c d → ⊥) (λ w. (d : Course Tree) × GoesTo p naming line c d × IsStage q.types first w d)
    go None first c none = λ d g. none_some (next c part) d none (subst (λ x. next c x ≡ Some d) (same_part p naming can line part g.part says g.says) g.goes)
    go (Some w) first c (d, n, i) = (d, record { part = part; says = says; goes = n }, i)

pub not_taken : (p : ProgramTable) (naming : Naming) (line : List ℕ) (stage : Stage) (number : ℕ) (types : List Row) → ((part : ProofLine Tree) → Says p naming line part → ⊥) → IsLineTaken p naming line stage number types None
not_taken p naming line stage number types never first c i e = λ d g. never g.part g.says
