-- Goals of a proof, one after the other.
use Rattle.std.proofs.Common.{◌≡◌, ℕ, zero, suc, ◌+◌, ◌<◌, ◌≤◌, arith, true, false, not, ◌&&◌, Bool, Option, Some, None, Result, Ok, Err, IfOk, List, [], ◌∷◌, ◌++◌, flat_map, length, drop, get_or, refl, ap, sym, subst, ◌∙◌, append-nil}
use Rattle.std.specs.List.{AllByRecursion, AllZip}
use Rattle.std.specs.Option.{option_map}
use Rattle.std.proofs.lemmas.List.{drop_all}
use Rattle.xd_doc.proofs.Lists.{zip_long}
use Rattle.xd_syntax.specs.Tree.{Tree, Definitions}
use Rattle.xd_syntax.specs.Table.{Row}
use Rattle.xd_syntax.specs.Types.{tree}
use Rattle.xd_syntax.specs.SoundTables.{IsTypeAt}
use Rattle.xd_meaning.specs.CanBeEmpty.{can_be_empty}
use Rattle.xd_sound.specs.Emptiness.{is_marked}
use Rattle.xd_syntax.specs.declared.types.TypeId.{TypeId}
use Rattle.xd_meaning.specs.Heads as laws
use Rattle.xd_meaning.specs.Consistent.{Goal, right_heads}
use Rattle.xd_rules.specs.Rules.{numbered, wanted}
use Rattle.xd_meaning.specs.Violation.{Lined, bad_empty, empty_lines, line_behind}
use Rattle.xd_laws.proofs.FirstWrong.{at_line, empty_stands, or_next, reason_unless, right_is_empty, wrong_cases, wrong_goal, wrong_goals}
use Rattle.xd_moves.specs.Cells.{Cell}
use Rattle.xd_heads.specs.Numbered.{IsHeadIn}
use Rattle.xd_heads.specs.declared.lister.NumberedHead.{NumberedHead}
use Rattle.xd_proof.specs.Goals.{IsGoalAt, IsLinedAt}
use Rattle.xd_proof.specs.declared.cases.ReadCase.{ReadCase}
use Rattle.xd_proof.specs.declared.proof.ProofGoal.{ProofGoal}
use Rattle.xd_proof_check.specs.CaseWalk.{Meets}
use Rattle.xd_proof_check.specs.Corresponds.{IsClaimAt}
use Rattle.xd_proof_check.specs.GoalHeads.{AreGoalHeads}
use Rattle.xd_proof_check.specs.GoalWalk.{MarksDecide, SheetView, Stands, violation_of, empty_marked, empty_marked_by, right_marked}
use Rattle.xd_proof_check.specs.declared.check.Violation.{Violation}
use Rattle.xd_proof_check.specs.declared.heads.GoalHeads.{GoalHeads}

module _ (types : List Row) (E : Definitions) (marks : List Bool) (known : MarksDecide types E marks) where
  mark_same : (id : TypeId) (T : Tree) → IsTypeAt types T id → is_marked marks id.at ≡ can_be_empty E T
  mark_same id T i = known id.at i.belongs ∙ ap (can_be_empty E) i.same

  right_same : (ids : List TypeId) (Ts : List Tree) → AllZip (λ id T. IsTypeAt types T id) ids Ts → (n : ℕ) → right_marked marks (numbered ids n) ≡ right_is_empty E (numbered Ts n)
  right_same ids Ts z zero = refl
  right_same [] [] z (suc n) = refl
  right_same [] (T ∷ Ts) z (suc n) = absurd z
  right_same (id ∷ ids) [] z (suc n) = absurd z
  right_same (id ∷ ids) (T ∷ Ts) z (suc zero) = mark_same id T z.0
  right_same (id ∷ ids) (T ∷ Ts) z (suc (suc n)) = right_same ids Ts z.1 (suc n)

  empty_same : (made : ProofGoal) (g : Goal) → IsGoalAt types made g → empty_marked marks made ≡ empty_stands E g g.empty_right
  empty_same made g i = ap (empty_marked_by marks made) i.empty_right ∙ go g.empty_right
    where
      go : (o : Option ℕ) → empty_marked_by marks made o ≡ empty_stands E g o
      go None = ap not (mark_same made.left g.left i.left)
      go (Some n) =
          ap (λ b. b && right_marked marks (numbered made.rights.items n)) (mark_same made.left g.left i.left)
          ∙ ap (λ b. can_be_empty E g.left && b) (right_same made.rights.items g.rights i.rights n)

  line_is : (made : ProofGoal) (l : Lined) → IsLinedAt types made l → made.line + 2 + length made.rights.items ≡ line_behind l
  line_is made l i =
      ap (λ n. n + 2 + length made.rights.items) i.line ∙ ap (λ n. l.line + 2 + n) (let g = i.goal in zip_long (λ id T. IsTypeAt types T id) made.rights.items (l.goal).rights g.rights)

  goal_wrong : (gs : List Goal) (made : ProofGoal) (l : Lined) (line : ℕ) → IsLinedAt types made l → line ≡ made.line + 2 + length made.rights.items → empty_marked marks made ≡ false →
      Some (line, bad_empty) ≡ wrong_goal E gs l
  goal_wrong gs made l line i e f =
      ap (λ n. Some (n, bad_empty)) (e ∙ line_is made l i)
      ∙ ap (λ b. or_next (at_line (line_behind l) (reason_unless b bad_empty)) (wrong_cases E gs l.goal (line_behind l + empty_lines (l.goal).empty_right) (wanted (laws.heads E (l.goal).left) (right_heads E l.goal)) (l.goal).cases))
      (sym f ∙ empty_same made l.goal i.goal)

  goal_right : (gs : List Goal) (made : ProofGoal) (l : Lined) (line first : ℕ) → IsLinedAt types made l → line ≡ made.line + 2 + length made.rights.items → first ≡ line + empty_lines made.empty_right →
      empty_marked marks made ≡ true → wrong_cases E gs l.goal first (wanted (laws.heads E (l.goal).left) (right_heads E l.goal)) (l.goal).cases ≡ wrong_goal E gs l
  goal_right gs made l line first i e f t =
      ap (λ n. wrong_cases E gs l.goal n (wanted (laws.heads E (l.goal).left) (right_heads E l.goal)) (l.goal).cases)
      (f ∙ ap (λ n. n + empty_lines made.empty_right) (e ∙ line_is made l i) ∙ ap (λ o. line_behind l + empty_lines o) (let g = i.goal in g.empty_right))
      ∙ ap (λ b. or_next (at_line (line_behind l) (reason_unless b bad_empty)) (wrong_cases E gs l.goal (line_behind l + empty_lines (l.goal).empty_right) (wanted (laws.heads E (l.goal).left) (right_heads E l.goal)) (l.goal).cases))
      (sym t ∙ empty_same made l.goal i.goal)

module _ (types : List Row) (cells : List Cell) (E : Definitions) (gs : List Goal) (s : SheetView) (a : Stands types cells gs s) where
  same_rights : (ids : List TypeId) (Ts : List Tree) → AllZip (λ id T. IsTypeAt types T id) ids Ts → flat_map (λ (id : TypeId). laws.heads E (tree types id)) ids ≡ flat_map (laws.heads E) Ts
  same_rights [] [] z = refl
  same_rights [] (T ∷ Ts) z = absurd z
  same_rights (id ∷ ids) [] z = absurd z
  same_rights (id ∷ ids) (T ∷ Ts) z =
      ap (λ U. laws.heads E U ++ flat_map (λ (i : TypeId). laws.heads E (tree types i)) ids) (let i = z.0 in i.same) ∙ ap (λ hs. laws.heads E T ++ hs) (same_rights ids Ts z.1)

  pub meets : (made : ProofGoal) (g : Goal) (h : GoalHeads) → IsGoalAt types made g → AreGoalHeads types cells E made h → (contents rests : List ℕ) →
      Meets types cells E gs g (record { goals = s.goals; numbers = s.numbers; cases = made.cases.items; left = h.left.items; rights = h.rights.items; contents = contents; rests = rests })
  meets made g h i j contents rests = record {
    numbers = a.numbers;
    goals = a.goals;
    cases = i.cases;
    left = subst (λ hs. AllZip (IsHeadIn types cells) h.left.items hs) (append-nil (laws.heads E (tree types made.left)) ∙ ap (laws.heads E) (let k = i.left in k.same)) j.left;
    rights = subst (λ hs. AllZip (IsHeadIn types cells) h.rights.items hs) (same_rights made.rights.items g.rights i.rights) j.rights;
  }

pub goal_refused : (types : List Row) (E : Definitions) (marks : List Bool) → MarksDecide types E marks → (gs : List Goal) (made : ProofGoal) (line : ℕ) → line ≡ made.line + 2 + length made.rights.items →
    empty_marked marks made ≡ false → (l : Lined) → IsLinedAt types made l → Some (line, bad_empty) ≡ wrong_goal E gs l
goal_refused types E marks known gs made line e f l i = goal_wrong types E marks known gs made l line i e f

-- what is wrong first in the cases of a goal, where the rule on the empty document holds, is what
-- is wrong with the goal
pub goal_found : {X : Type 0} (types : List Row) (cells : List Cell) (E : Definitions) (goals : List ProofGoal) (marks : List Bool) (numbers : List ℕ) (made : ProofGoal) (h : GoalHeads) (line first : ℕ)
    (r : Result (Option Violation) X) → MarksDecide types E marks →
    ((gs : List Goal) → AllZip (IsClaimAt types) goals gs → Stands types cells gs (record { goals = goals; numbers = numbers })) →
    line ≡ made.line + 2 + length made.rights.items → first ≡ line + empty_lines made.empty_right → empty_marked marks made ≡ true → AreGoalHeads types cells E made h →
    IfOk r (λ found. (types : List Row) (cells : List Cell) (E : Definitions) (gs : List Goal) (g : Goal) → Stands types cells gs (record { goals = goals; numbers = numbers }) →
    IsGoalAt types made g → AreGoalHeads types cells E made h → option_map violation_of found ≡ wrong_cases E gs g first (wanted (laws.heads E g.left) (right_heads E g)) g.cases) →
    IfOk r (λ found. (gs : List Goal) (l : Lined) → AllZip (IsClaimAt types) goals gs → IsLinedAt types made l → option_map violation_of found ≡ wrong_goal E gs l)
goal_found types cells E goals marks numbers made h line first (Ok found) known a e f t j k = λ gs l z i.
    k types cells E gs l.goal (a gs z) i.goal j ∙ goal_right types E marks known gs made l line first i e f t
goal_found types cells E goals marks numbers made h line first (Err x) known a e f t j k = tt

-- ---- from goal to goal

zip_drop : {A B : Type 0} (P : A → B → Type 0) (xs : List A) (ys : List B) → AllZip P xs ys → (i : ℕ) (x : A) → i < length xs → x ≡ get_or xs i x → (y : B) × (drop i ys ≡ y ∷ drop (suc i) ys) × P x y
zip_drop P [] ys z i x h e = absurd (omega arith)
zip_drop P (v ∷ xs) [] z i x h e = absurd z
zip_drop P (v ∷ xs) (w ∷ ys) z zero x h e = (w, refl, subst (λ a. P a w) (sym e) z.0)
zip_drop P (v ∷ xs) (w ∷ ys) z (suc i) x h e = zip_drop P xs ys z.1 i x (omega arith) e

-- a goal that was looked at, and those after it
pub goals_step : (types : List Row) (E : Definitions) (gs : List Goal) (goals : List ProofGoal) (ls : List Lined) (at : ℕ) (g : ProofGoal) (found : Option Violation) →
    AllZip (IsLinedAt types) goals ls → at < length goals → g ≡ get_or goals at g → ((l : Lined) → IsLinedAt types g l → option_map violation_of found ≡ wrong_goal E gs l) →
    wrong_goals E gs (drop at ls) ≡ or_next (option_map violation_of found) (wrong_goals E gs (drop (at + 1) ls))
goals_step types E gs goals ls at g found z l e says =
    let r = zip_drop (IsLinedAt types) goals ls z at g l e in
    let n : suc at ≡ at + 1 = omega arith in
    ap (wrong_goals E gs) r.1 ∙ ap (λ o. or_next o (wrong_goals E gs (drop (suc at) ls))) (sym (says r.0 r.2))
    ∙ ap (λ i. or_next (option_map violation_of found) (wrong_goals E gs (drop i ls))) n

pub none_drop : (E : Definitions) (gs : List Goal) (ls : List Lined) (at : ℕ) → length ls ≤ at → wrong_goals E gs (drop at ls) ≡ None
none_drop E gs ls at h = ap (wrong_goals E gs) (drop_all at ls h)

pub lined_long : (types : List Row) (gs : List ProofGoal) (ls : List Lined) → AllZip (IsLinedAt types) gs ls → length gs ≡ length ls
lined_long types gs ls z = zip_long (IsLinedAt types) gs ls z

pub id_there : (n : ℕ) (ids : List TypeId) (k : ℕ) (id : TypeId) → AllByRecursion (λ (x : TypeId). x.at < n) ids → Some id ≡ numbered ids k → id.at < n
id_there n ids zero id a e = cc
id_there n [] (suc k) id a e = cc
id_there n (x ∷ ids) (suc zero) id a e = let q : x ≡ id = cc in subst (λ (y : TypeId). y.at < n) q a.0
id_there n (x ∷ ids) (suc (suc k)) id a e = id_there n ids (suc k) id a.1 e

pub meets_by : (types : List Row) (cells : List Cell) (E : Definitions) (gs : List Goal) (s : SheetView) → Stands types cells gs s → (made : ProofGoal) (g : Goal) (h : GoalHeads) → IsGoalAt types made g →
    AreGoalHeads types cells E made h → (contents rests : List ℕ) (cs : List ReadCase) (ls rs : List NumberedHead) → cs ≡ made.cases.items → ls ≡ h.left.items → rs ≡ h.rights.items →
    Meets types cells E gs g (record { goals = s.goals; numbers = s.numbers; cases = cs; left = ls; rights = rs; contents = contents; rests = rests })
meets_by types cells E gs s a made g h i j contents rests cs ls rs p q r =
    subst (λ x. Meets types cells E gs g (record { goals = s.goals; numbers = s.numbers; cases = x; left = ls; rights = rs; contents = contents; rests = rests })) (sym p)
    (subst (λ x. Meets types cells E gs g (record { goals = s.goals; numbers = s.numbers; cases = made.cases.items; left = x; rights = rs; contents = contents; rests = rests })) (sym q)
    (subst (λ x. Meets types cells E gs g (record { goals = s.goals; numbers = s.numbers; cases = made.cases.items; left = h.left.items; rights = x; contents = contents; rests = rests })) (sym r)
    (meets types cells E gs s a made g h i j contents rests)))
