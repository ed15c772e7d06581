-- How far the lines from the number of goals on have come, and which line may follow.
use Rattle.std.specs.Prelude.{ℕ, ◌+◌, Bool, cond, nat_eq, nat_lt, ◌&&◌, List, [], ◌∷◌, ◌++◌, length, Option, Some, None}
use Rattle.xd_rules.specs.Rules.{Case}
use Rattle.xd_proof.specs.Parts.{ProofLine, goal_count, goal_part, left_part, right_part, empty_part, case_part, end_part}
use Rattle.xd_proof.specs.Form.{GoalBlock}

-- `count` is the number of goals to come in all, `ended` are those before the one that is being
-- read.
pub data Course (A : Type 0) : Type 0 where
  at_count : Course A
  at_first_goal : (count : ℕ) → Course A
  at_left : (count : ℕ) (ended : List (GoalBlock A)) → Course A
  in_rights : (count : ℕ) (ended : List (GoalBlock A)) (left : A) (rights : List A) → Course A
  in_cases : (count : ℕ) (ended : List (GoalBlock A)) (now : GoalBlock A) → Course A
  at_end : (ended : List (GoalBlock A)) → Course A

abbrev pub only_if : {B : Type 0} → Bool → B → Option B
only_if b x = cond b (Some x) None

abbrev pub and_on : {B C : Type 0} → (B → Option C) → Option B → Option C
and_on f None = None
and_on f (Some x) = f x

module _ {A : Type 0} where
  -- a goal without a case and without the line on being empty
  abbrev pub plain_block : A → List A → GoalBlock A
  plain_block T Us = record { left = T; rights = Us; empty_right = None; cases = [] }

  abbrev pub with_empty : A → List A → ℕ → GoalBlock A
  with_empty T Us n = record { left = T; rights = Us; empty_right = Some n; cases = [] }

  abbrev pub with_case : GoalBlock A → Case → GoalBlock A
  with_case b c = record b { cases = b.cases ++ c ∷ [] }

  -- the goal is ended by the first line of the next one, or by the proof's end
  abbrev pub after_goal : ℕ → List (GoalBlock A) → GoalBlock A → ProofLine A → Option (Course A)
  after_goal n bs b (goal_part k) = only_if (nat_eq k (length bs + 2) && nat_lt (length bs + 1) n) (at_left n (bs ++ b ∷ []))
  after_goal n bs b end_part = only_if (nat_eq n (length bs + 1)) (at_end (bs ++ b ∷ []))
  after_goal n bs b (case_part c) = Some (in_cases n bs (with_case b c))
  after_goal n bs b _ = None

  -- the course after this line, if it may follow
  abbrev pub next : Course A → ProofLine A → Option (Course A)
  next at_count (goal_count n) = only_if (nat_lt 0 n) (at_first_goal n)
  next at_count _ = None
  next (at_first_goal n) (goal_part k) = only_if (nat_eq k 1) (at_left n [])
  next (at_first_goal n) _ = None
  next (at_left n bs) (left_part T) = Some (in_rights n bs T [])
  next (at_left n bs) _ = None
  next (in_rights n bs T Us) (right_part U) = Some (in_rights n bs T (Us ++ U ∷ []))
  next (in_rights n bs T Us) (empty_part k) = Some (in_cases n bs (with_empty T Us k))
  next (in_rights n bs T Us) p = after_goal n bs (plain_block T Us) p
  next (in_cases n bs b) p = after_goal n bs b p
  next (at_end bs) _ = None

  -- the course after these lines
  abbrev pub along : Option (Course A) → List (ProofLine A) → Option (Course A)
  along c [] = c
  along c (p ∷ ps) = along (and_on (λ d. next d p) c) ps
