-- Which uses have a fault of recursion, by components.
use Rattle.std.specs.Prelude.{◌≡◌, ℕ, ◌<◌, Bool, true, false, not, cond, ◌&&◌, ◌⊎◌, ◌↔◌, List, [], ◌∷◌, length, Option, Some, None}
use Rattle.xd_doc.specs.Members.{IsOneOf}
use Rattle.xd_syntax.specs.NameFaults.{fault_at}
use Rattle.xd_syntax.specs.declared.types.TypeDef.{TypeDef}
use Rattle.xd_syntax.specs.declared.fault.Fault.{Fault}
use Rattle.xd_syntax.specs.declared.fault.FaultKind.TheVariants as kinds
use Rattle.xd_sound.specs.Graph.{HasEdge}
use Rattle.xd_sound.specs.TypeNames.{first_of}
use Rattle.xd_rec.specs.Components.{standing_of, has_same_number}
use Rattle.xd_rec.specs.declared.components.Standing.{Standing}
use Rattle.xd_rec.specs.declared.faults.Recursion.{Recursion}
use Rattle.xd_rec.specs.declared.faults.Recursion.TheVariants.{OutsideTail, Unguarded}
use Rattle.xd_rec.specs.declared.uses.TopUse.{TopUse}

-- each use stands in one of the definitions
abbrev pub AreOwned : List TypeDef → List TopUse → Type 0
AreOwned ds us = (u : TopUse) → IsOneOf u us → u.owner < length ds

-- a use that counts leads from the definition v to the definition w
pub record IsUsedIn (ds : List TypeDef) (us : List TopUse) (front_only : Bool) (v w : ℕ) : Type 0 where
  pub used : TopUse
  pub listed : IsOneOf used us
  pub owner : used.owner ≡ v
  pub target : first_of ds used.name ≡ Some w
  pub counts : front_only ≡ true → used.is_front ≡ true

-- the edges are those of the uses that count
pub record IsGraphOf (ds : List TypeDef) (us : List TopUse) (front_only : Bool) (g : List (List ℕ)) : Type 0 where
  pub count : length g ≡ length ds
  pub edges : (v w : ℕ) → HasEdge g v w ↔ IsUsedIn ds us front_only v w

abbrev pub same_as : List Standing → ℕ → Option ℕ → Bool
same_as st v None = false
same_as st v (Some w) = has_same_number (standing_of st v) (standing_of st w)

-- the definition that a use names is in the component of the one that it stands in
abbrev pub is_back : List TypeDef → List Standing → TopUse → Bool
is_back ds st u = same_as st u.owner (first_of ds u.name)

-- the use is outside tail position, or a front use, and leads back
abbrev pub recurs : Recursion → List TypeDef → List Standing → TopUse → Bool
recurs OutsideTail ds st u = not u.is_tail && is_back ds st u
recurs Unguarded ds st u = u.is_front && is_back ds st u

abbrev pub recursion_fault : Recursion → TopUse → Fault
recursion_fault OutsideTail u = fault_at u.place (kinds.NotTail u.name)
recursion_fault Unguarded u = fault_at u.place (kinds.Unguarded u.name)

-- the faults of the uses that a test finds
abbrev pub faults_of : (TopUse → Bool) → (TopUse → Fault) → List TopUse → List Fault
faults_of test fault [] = []
faults_of test fault (u ∷ us) = cond (test u) (fault u ∷ faults_of test fault us) (faults_of test fault us)

-- the edge of a use that counts is added, and no other
pub record AddsUse (ds : List TypeDef) (u : TopUse) (front_only : Bool) (old new : List (List ℕ)) : Type 0 where
  pub count : length new ≡ length old
  pub kept : (v w : ℕ) → HasEdge old v w → HasEdge new v w
  pub only : (v w : ℕ) → HasEdge new v w → ((u.owner ≡ v) × (first_of ds u.name ≡ Some w) × (front_only ≡ true → u.is_front ≡ true)) ⊎ HasEdge old v w
  pub added : (w : ℕ) → first_of ds u.name ≡ Some w → (front_only ≡ true → u.is_front ≡ true) → HasEdge new u.owner w
