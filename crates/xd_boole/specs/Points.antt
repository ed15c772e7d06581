-- Points and moves by their numbers.
use Rattle.std.specs.Prelude.{ℕ, ◌<◌, List, [], ◌∷◌, map, slice_index_or}
use Rattle.std.specs.List.{AllByRecursion}
use Rattle.xd_auto.specs.declared.auto.State.{State}
use Rattle.xd_auto.specs.declared.auto.LabelMove.{LabelMove}
use Rattle.xd_auto.specs.declared.auto.TextMove.{TextMove}
use Rattle.xd_auto.specs.Automaton.{Automaton, IsState}
use Rattle.xd_boole.specs.Meaning.{PointView, less}

abbrev pub state_at : ℕ → State
state_at i = record { number = i }

abbrev pub no_point : PointView
no_point = less (state_at 0) []

abbrev pub point_at : List PointView → ℕ → PointView
point_at points i = slice_index_or points i no_point

abbrev pub point_key : PointView → List ℕ
point_key p = p.left.number ∷ map (λ (s : State). s.number) p.rights

-- the states of the point belong to their automata
pub record IsPointOf (a b : Automaton) (p : PointView) : Type 0 where
  pub left : IsState a p.left
  pub rights : AllByRecursion (IsState b) p.rights

-- the move leads to states below n
abbrev pub MoveBelow : ℕ → LabelMove → Type 0
MoveBelow n m = (m.content.number < n) × (m.rest.number < n)

abbrev pub TextBelow : ℕ → TextMove → Type 0
TextBelow n m = m.rest.number < n
