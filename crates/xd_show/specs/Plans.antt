-- Plans of names.
use Rattle.std.specs.Prelude.{◌≡◌, ◌<◌, ℕ, List, length, get_or}
use Rattle.std.specs.List.{AllByRecursion}
use Rattle.xd_auto.specs.declared.auto.State.{State}
use Rattle.xd_auto.specs.Automaton.{Automaton, IsState}
use Rattle.xd_show.specs.declared.plan.Plan.{Plan}

-- the state stands among these
abbrev pub IsNamed : List State → State → Type 0
IsNamed named s = (k : ℕ) × (k < length named) × (get_or named k s ≡ s)

-- each state of the automaton does
abbrev pub AllAreNamed : Automaton → List State → Type 0
AllAreNamed a named = (s : State) → IsState a s → IsNamed named s

-- a plan speaks of states, and the start has the first name
pub record IsPlan (a : Automaton) (start : State) (plan : Plan) : Type 0 where
  pub named : AllByRecursion (IsState a) plan.named.items
  pub placed : AllByRecursion (IsState a) plan.placed.items
  pub some : 0 < length plan.named.items
  pub first : get_or plan.named.items 0 start ≡ start
