-- A number that each step of work lowers.
use Rattle.std.specs.Prelude.{ℕ, zero, suc, ◌+◌, ◌<◌, ◌≤◌, List, [], ◌∷◌, ◌++◌, map, length, Option, Some, None, slice_get}
use Rattle.std.specs.List.{flat_map}
use Rattle.xd_auto.specs.declared.auto.State.{State}
use Rattle.xd_rules.specs.Rules.{Claim}
use Rattle.xd_state_heads.specs.Moves.{IsInOrder, claim_with}
use Rattle.xd_goals.specs.Rows.{GoalRow, row_at}
use Rattle.xd_goals.specs.declared.table.Standing.{Standing}
use Rattle.xd_goals.specs.declared.table.Standing.TheVariants.{Holds, Refuted, Waiting}

-- of n goals at most: one that isn't made yet weighs most, then one that waits, then one that
-- holds, and one that is refuted nothing
abbrev pub standing_weight : ℕ → Standing → ℕ
standing_weight n Holds = n
standing_weight n (Refuted seq) = 0
standing_weight n Waiting = n + 1

abbrev pub weight : ℕ → Option GoalRow → ℕ
weight n None = n + 2
weight n (Some row) = standing_weight n row.standing

abbrev pub total : (ℕ → ℕ) → ℕ → ℕ
total f zero = 0
total f (suc k) = total f k + f k

abbrev pub potential : ℕ → List GoalRow → ℕ
potential n rows = total (λ i. weight n (slice_get rows i)) n

-- whatever the number of goals that there may be
abbrev pub Lowers : List GoalRow → List GoalRow → Type 0
Lowers old new = (n : ℕ) → length new ≤ n → potential n new < potential n old

-- the lists of so many states from a number on, each state once and in order
abbrev pub rising : ℕ → ℕ → List (List State)
rising zero from = [] ∷ []
rising (suc n) from = rising n (suc from) ++ map (λ (ss : List State). record { number = from } ∷ ss) (rising n (suc from))

abbrev pub states_below : ℕ → List State
states_below zero = []
states_below (suc n) = record { number = n } ∷ states_below n

-- the claims that a table makes by itself on an automaton with so many states
abbrev pub possible : ℕ → List (Claim State)
possible n = flat_map (λ (s : State). map (claim_with s) (rising n 0)) (states_below n)

-- the goals from a number on have each right once, in order
abbrev pub AreMadeFrom : ℕ → List GoalRow → Type 0
AreMadeFrom first rows = (i : ℕ) → first ≤ i → i < length rows → IsInOrder (row_at rows i).rights
