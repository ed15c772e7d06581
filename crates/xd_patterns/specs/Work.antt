-- How many steps a list of pieces takes at most until all that can come next is found.
use Rattle.std.specs.Prelude.{ℕ, zero, suc, ◌+◌, List, [], ◌∷◌, length, Option, Some, None}
use Rattle.xd_syntax.specs.Tree.{Tree, Empty, Text, Words, Name, Elem, Seq, Alt, Star, Plus, Opt, Val, Definitions, body}
use Rattle.xd_pattern_runs.specs.Runs.{Continuation}
use Rattle.xd_pattern_runs.specs.Steps.{Ahead}

-- the steps of a part itself, and how often what stands after it is come to
pub record Cost : Type 0 where
  pub steps : ℕ
  pub stops : ℕ

abbrev pub times : ℕ → ℕ → ℕ
times zero n = 0
times (suc k) n = n + times k n

abbrev pub cost_by : (List ℕ → Cost) → Tree → Cost
cost_by N Empty = record { steps = 1; stops = 1 }
cost_by N Text = record { steps = 1; stops = 0 }
cost_by N (Words w) = record { steps = 1; stops = 0 }
cost_by N (Name y) = record { steps = (N y).steps + 1; stops = (N y).stops }
cost_by N (Elem c T) = record { steps = 1; stops = 0 }
cost_by N (Seq T U) = record { steps = (cost_by N T).steps + times (cost_by N T).stops (cost_by N U).steps + 1; stops = times (cost_by N T).stops (cost_by N U).stops }
cost_by N (Alt T U) = record { steps = (cost_by N T).steps + (cost_by N U).steps + 1; stops = (cost_by N T).stops + (cost_by N U).stops }
cost_by N (Star T) = record { steps = (cost_by N T).steps + (cost_by N T).stops + 1; stops = 1 }
cost_by N (Plus T) = record { steps = (cost_by N T).steps + times (cost_by N T).stops ((cost_by N T).steps + (cost_by N T).stops + 1) + 1; stops = (cost_by N T).stops }
cost_by N (Opt T) = record { steps = (cost_by N T).steps + 1; stops = (cost_by N T).stops + 1 }
cost_by N (Val y T) = record { steps = (cost_by N T).steps + 1; stops = (cost_by N T).stops }

abbrev pub cost_of_definition : (Tree → Cost) → Option Tree → Cost
cost_of_definition F None = record { steps = 0; stops = 0 }
cost_of_definition F (Some T) = F T

abbrev pub cost_of_name : Definitions → ℕ → List ℕ → Cost
cost_of_name E zero y = record { steps = 0; stops = 0 }
cost_of_name E (suc n) y = cost_of_definition (cost_by (cost_of_name E n)) (body E y)

unfoldable pub cost : Definitions → Tree → Cost
cost E T = cost_by (cost_of_name E (length E)) T

abbrev pub steps_of : Definitions → Continuation → ℕ
steps_of E [] = 1
steps_of E (p ∷ K) = (cost E p.part).steps + times (cost E p.part).stops (steps_of E K)

-- the steps that are left
abbrev pub work_left : Definitions → List Ahead → ℕ
work_left E [] = 0
work_left E (a ∷ ts) = steps_of E a.front + work_left E ts
