-- Several unknowns that are taken out at once.
use Rattle.std.specs.Prelude.{◌≡◌, ◌↔◌, ◌⊎◌, ◌<◌, ℕ, Bool, true, false, not, ◌&&◌, List, length, get_or, Option, Some, None}
use Rattle.std.specs.List.{AllByRecursion}
use Rattle.xd_doc.specs.Document.{Document}
use Rattle.xd_syntax.specs.Table.{Row}
use Rattle.xd_same_types.specs.Same.{HasTops, Meaning}
use Rattle.xd_show_solve.specs.Equations.{Equals, IsFine, IsFineSide, IsSolved, Product, ProductTakes, Side, SideTakes, SideTops, SumStands, Unknowns, side_in}
use Rattle.xd_show_solve.specs.Systems.{AreEquations, AreFineSums, SumsTops, is_alive}
use Rattle.xd_show_solve.specs.declared.sums.Term.{Term}
use Rattle.xd_show_solve.specs.declared.sums.Sum.{Sum}

-- the new right side of an unknown that is taken out
abbrev pub own_at : List (Option Sum) → ℕ → Option Sum
own_at owns i = get_or owns i None

abbrev pub has_sum : Option Sum → Bool
has_sum None = false
has_sum (Some own) = true

-- the unknown is taken out
abbrev pub is_out : List (Option Sum) → ℕ → Bool
is_out owns i = has_sum (own_at owns i)

-- all that are allowed but those that are taken out
abbrev pub allowed_still : (ℕ → Bool) → List (Option Sum) → ℕ → Bool
allowed_still allowed owns j = allowed j && not (is_out owns j)

-- each unknown that is taken out stands for just the documents of its right side
abbrev pub OwnsEqual : Meaning → Unknowns → List Row → List (Option Sum) → Type 0
OwnsEqual N X types owns = (i : ℕ) (own : Sum) → own_at owns i ≡ Some own → Equals N X i (side_in types own)

-- their right sides use unknowns that stay
abbrev pub OwnsFine : List Row → (ℕ → Bool) → List ℕ → List (Option Sum) → Type 0
OwnsFine types allowed ranks owns = (i : ℕ) (own : Sum) → own_at owns i ≡ Some own → IsFineSide (allowed_still allowed owns) ranks (get_or ranks i 0) (side_in types own)

abbrev pub OwnsTops : List (List ℕ) → List Row → List (Option Sum) → Type 0
OwnsTops known types owns = (i : ℕ) (own : Sum) → own_at owns i ≡ Some own → SideTops known (side_in types own)

abbrev pub OwnsStand : List Row → List (Option Sum) → Type 0
OwnsStand types owns = (i : ℕ) (own : Sum) → own_at owns i ≡ Some own → SumStands types own

-- the right side without the unknown itself, of one that is alive and isn't the first
pub record IsOwn (old new : List Row) (sums : List Sum) (alive : List Bool) (i : ℕ) (own : Sum) : Type 0 where
  pub within : i < length sums
  pub later : 0 < i
  pub alive_there : is_alive alive i ≡ true
  pub solved : (s : Sum) → s ≡ get_or sums i s → IsSolved i (side_in old s) (side_in new own)
  pub stands : SumStands new own

abbrev pub AreOwns : List Row → List Row → List Sum → List Bool → List (Option Sum) → Type 0
AreOwns old new sums alive owns = (i : ℕ) (own : Sum) → own_at owns i ≡ Some own → IsOwn old new sums alive i own

-- no term has an unknown that is taken out
abbrev pub LackOut : List (Option Sum) → List Term → Type 0
LackOut owns ts = AllByRecursion (λ (t : Term). is_out owns t.to ≡ false) ts

abbrev pub AreApart : List (Option Sum) → Type 0
AreApart owns = (i : ℕ) (own : Sum) → own_at owns i ≡ Some own → LackOut owns own.terms.items

-- the new side is the old one with right sides in the places of the unknowns that are taken out
pub record IsTaken (types : List Row) (owns : List (Option Sum)) (s new : Side) : Type 0 where
  pub takes : (N : Meaning) (X : Unknowns) → OwnsEqual N X types owns → (d : Document) → SideTakes N X d new ↔ SideTakes N X d s
  pub fine : (allowed : ℕ → Bool) (ranks : List ℕ) (bound : ℕ) → IsFineSide allowed ranks bound s → OwnsFine types allowed ranks owns → IsFineSide (allowed_still allowed owns) ranks bound new
  pub tops : (known : List (List ℕ)) → OwnsTops known types owns → SideTops known s → SideTops known new

-- one product more, with right sides in the places of these
pub record AddsTaken (types : List Row) (owns : List (Option Sum)) (now : Side) (p : Product) (new : Side) : Type 0 where
  pub takes : (N : Meaning) (X : Unknowns) → OwnsEqual N X types owns → (d : Document) → SideTakes N X d new ↔ (SideTakes N X d now ⊎ ProductTakes N X d p)
  pub fine : (allowed : ℕ → Bool) (ranks : List ℕ) (bound : ℕ) → IsFine allowed ranks bound p → OwnsFine types allowed ranks owns → IsFineSide (allowed_still allowed owns) ranks bound now → IsFineSide (allowed_still allowed owns) ranks bound new
  pub tops : (known : List (List ℕ)) → HasTops known p.by → OwnsTops known types owns → SideTops known now → SideTops known new

-- the same, unless the unknown itself is taken out
pub record IsTakenUnless (out : Bool) (types : List Row) (owns : List (Option Sum)) (s new : Side) : Type 0 where
  pub taken : out ≡ false → IsTaken types owns s new
  pub tops : (known : List (List ℕ)) → OwnsTops known types owns → SideTops known s → SideTops known new

-- one right side was written anew, unless its unknown is taken out
pub record TakesAt (old new : List Row) (owns : List (Option Sum)) (at : ℕ) (before after : List Sum) : Type 0 where
  pub count : length after ≡ length before
  pub others : (i : ℕ) (s : Sum) → (i ≡ at → ⊥) → get_or after i s ≡ get_or before i s
  pub here : (s t : Sum) → s ≡ get_or before at s → t ≡ get_or after at t → IsTakenUnless (is_out owns at) old owns (side_in old s) (side_in new t)

-- all were, but those of unknowns that are taken out
pub record TakesEach (old new : List Row) (owns : List (Option Sum)) (before after : List Sum) : Type 0 where
  pub count : length after ≡ length before
  pub each : (i : ℕ) (s t : Sum) → i < length before → s ≡ get_or before i s → t ≡ get_or after i t → IsTakenUnless (is_out owns i) old owns (side_in old s) (side_in new t)

-- those that are left are alive, and aren't taken out
pub record LeavesAlive (owns : List (Option Sum)) (living left : List Bool) : Type 0 where
  pub count : length left ≡ length living
  pub alive : (j : ℕ) → is_alive left j ≡ allowed_still (is_alive living) owns j

-- some unknowns are taken out, or none: the equations that are left hold, and are fine
pub record TakesSome (old new : List Row) (living left : List Bool) (before after : List Sum) : Type 0 where
  pub count : length after ≡ length before
  pub alive_count : length left ≡ length living
  pub alive : (j : ℕ) → is_alive left j ≡ true → is_alive living j ≡ true
  pub first : is_alive living 0 ≡ true → is_alive left 0 ≡ true
  pub equations : (N : Meaning) (X : Unknowns) (ranks : List ℕ) → AreFineSums old living ranks before → AreEquations N X old living before → AreEquations N X new left after
  pub fine : (ranks : List ℕ) → AreFineSums old living ranks before → AreFineSums new left ranks after
  pub tops : (known : List (List ℕ)) → SumsTops known old before → SumsTops known new after
