-- Equations for several unknowns.
use Rattle.std.specs.Prelude.{◌≡◌, ◌⊎◌, ◌↔◌, ◌+◌, ◌<◌, ℕ, nat_eq, Bool, true, false, is_some, if◌then◌else◌, List, [], map, length, get_or, Option}
use Rattle.std.specs.Prelude.{slice_set as set}
use Rattle.std.specs.List.{AllByRecursion}
use Rattle.std.specs.Option.{IfSome}
use Rattle.xd_doc.specs.Document.{Document}
use Rattle.xd_syntax.specs.Table.{Row}
use Rattle.xd_same_types.specs.Same.{HasTops, Meaning}
use Rattle.xd_show_solve.specs.Equations.{Covers, SameSide, Shortens, Side, Unknowns, Equals, IsFineSide, IsReplaced, ConstantTakes, SideTops, SumStands, side_in, own_in}
use Rattle.xd_syntax.specs.declared.types.TypeId.{TypeId}
use Rattle.xd_show_solve.specs.declared.sums.Term.{Term}
use Rattle.xd_show_solve.specs.declared.sums.Sum.{Sum}
use Rattle.xd_show_solve.specs.declared.weights.Candidate.{Candidate}

abbrev pub is_alive : List Bool → ℕ → Bool
is_alive alive i = get_or alive i false

-- each unknown that is left stands for just the documents of its right side
abbrev pub AreEquations : Meaning → Unknowns → List Row → List Bool → List Sum → Type 0
AreEquations N X types alive sums = (i : ℕ) (s : Sum) → i < length sums → is_alive alive i ≡ true → s ≡ get_or sums i s → Equals N X i (side_in types s)

-- the right sides of unknowns that are left use only such, which take an item before or have a
-- smaller rank
abbrev pub AreFineSums : List Row → List Bool → List ℕ → List Sum → Type 0
AreFineSums types alive ranks sums = (i : ℕ) (s : Sum) → i < length sums → is_alive alive i ≡ true → s ≡ get_or sums i s → IsFineSide (is_alive alive) ranks (get_or ranks i 0) (side_in types s)

-- each name that the types of the sums use outside of labels is among these
abbrev pub SumsTops : List (List ℕ) → List Row → List Sum → Type 0
SumsTops known types sums = (i : ℕ) (s : Sum) → i < length sums → s ≡ get_or sums i s → SideTops known (side_in types s)

abbrev pub AllStand : List Row → List Sum → Type 0
AllStand types sums = AllByRecursion (SumStands types) sums

-- no term has the unknown
abbrev pub LacksUnknown : ℕ → Sum → Type 0
LacksUnknown i s = AllByRecursion (λ (t : Term). nat_eq t.to i ≡ false) s.terms.items

-- one right side was written anew, with another one in the place of an unknown
pub record ReplacesAt (old new : List Row) (gone : ℕ) (own : Sum) (at : ℕ) (before after : List Sum) : Type 0 where
  pub count : length after ≡ length before
  pub others : (i : ℕ) (s : Sum) → (i ≡ at → ⊥) → get_or after i s ≡ get_or before i s
  pub here : (s t : Sum) → s ≡ get_or before at s → t ≡ get_or after at t → IsReplaced gone (side_in new own) (side_in old s) (side_in new t)

-- an unknown is taken out: the equations that are left hold, and are fine
pub record TakesOut (old new : List Row) (gone : ℕ) (living left : List Bool) (before after : List Sum) : Type 0 where
  pub count : length after ≡ length before
  pub alive : left ≡ set living gone false
  pub equations : (N : Meaning) (X : Unknowns) (ranks : List ℕ) → AreFineSums old living ranks before → AreEquations N X old living before → AreEquations N X new left after
  pub fine : (ranks : List ℕ) → AreFineSums old living ranks before → AreFineSums new left ranks after
  pub tops : (known : List (List ℕ)) → SumsTops known old before → SumsTops known new after

-- all unknowns are alive
abbrev pub all_alive : List Sum → List Bool
all_alive sums = map (λ s. true) sums

-- the type is what the first unknown stands for; without a type it stands for no document
pub record IsSolution (old new : List Row) (sums : List Sum) (o : Option TypeId) : Type 0 where
  pub exact : (N : Meaning) (X : Unknowns) (ranks : List ℕ) → AreFineSums old (all_alive sums) ranks sums → AreEquations N X old (all_alive sums) sums →
      (d : Document) → (X 0 d ≡ true) ↔ ConstantTakes N d (own_in new o)
  pub tops : (known : List (List ℕ)) → SumsTops known old sums → IfSome (own_in new o) (HasTops known)

-- an unknown that is left, and isn't the first
pub record IsLeft (sums : List Sum) (alive : List Bool) (c : Candidate) : Type 0 where
  pub within : c.number < length sums
  pub later : 0 < c.number
  pub alive_there : is_alive alive c.number ≡ true

-- how many terms a sum has, and one more for the type alone
abbrev pub summand_count : Sum → ℕ
summand_count s = length s.terms.items + (if is_some s.constant then 1 else 0)

-- a sum at a place has fewer summands than another one, or as many and stands before it
abbrev pub ComesBefore : Sum → ℕ → Sum → ℕ → Type 0
ComesBefore t other s at = (summand_count t < summand_count s) ⊎ ((summand_count t ≡ summand_count s) × (other < at))

-- the same of the sums at two places
abbrev pub IsBefore : List Sum → ℕ → ℕ → Type 0
IsBefore sums other at = (s t : Sum) → s ≡ get_or sums at s → t ≡ get_or sums other t → ComesBefore t other s at

-- another sum that comes before the one, all of whose summands the one has
pub record IsCovered (sums : List Sum) (at other : ℕ) : Type 0 where
  pub within : other < length sums
  pub covers : (s t : Sum) → s ≡ get_or sums at s → t ≡ get_or sums other t → Covers s t
  pub before : IsBefore sums other at

-- the new side is the sum's with the unknown of a sum that comes before it
pub record UsesEarlier (types : List Row) (sums : List Sum) (at : ℕ) (s : Sum) (new : Side) : Type 0 where
  pub other : ℕ
  pub within : other < length sums
  pub shortens : (t : Sum) → t ≡ get_or sums other t → Shortens other (side_in types t) (side_in types s) new
  pub before : (t : Sum) → t ≡ get_or sums other t → ComesBefore t other s at

-- the new side says what the sum at a place says, where the equations hold
abbrev pub Rewrites : List Row → List Sum → ℕ → Side → Type 0
Rewrites types sums at new = (s : Sum) → s ≡ get_or sums at s → SameSide (side_in types s) new ⊎ UsesEarlier types sums at s new

-- the equations were written anew: where they held they hold, and where each term took an item they
-- are fine by some ranks
pub record Reduces (old new : List Row) (before after : List Sum) : Type 0 where
  pub count : length after ≡ length before
  pub equations : (N : Meaning) (X : Unknowns) → AreEquations N X old (all_alive before) before → AreEquations N X new (all_alive after) after
  pub fine : AreFineSums old (all_alive before) [] before → (ranks : List ℕ) × AreFineSums new (all_alive after) ranks after
  pub tops : (known : List (List ℕ)) → SumsTops known old before → SumsTops known new after
