-- Faults of recursion: outside tail position, and unguarded. (This project's own rule.)
use Rattle.std.specs.Prelude.{◌≡◌, ℕ, Bool, true, false, cond, List, [], ◌∷◌, ◌++◌, map, flat_map, Option, Some, None}
use Rattle.std.specs.Str.{bytes_eq}
use Rattle.xd_base.specs.declared.Place.{Place}
use Rattle.xd_doc.specs.Document.{empty}
use Rattle.xd_doc.specs.Members.{IsOneOf}
use Rattle.xd_syntax.specs.Tree.{Tree, Definitions}
use Rattle.xd_syntax.specs.Placed.{PlacedTree, Name_at, Seq_at, Alt_at, Star_at, Plus_at, Opt_at, Val_at, unplaced}
use Rattle.xd_syntax.specs.Fits.{Fits}
use Rattle.xd_syntax.specs.Program.{TypeDefinition, ProgramTree, names_of}
use Rattle.xd_syntax.specs.Order.{in_order}
use Rattle.xd_syntax.specs.NameFaults.{fault_at, name_faults}
use Rattle.xd_syntax.specs.declared.fault.Fault.{Fault}
use Rattle.xd_syntax.specs.declared.fault.FaultKind.TheVariants.{NotTail, Unguarded}

-- a use outside every label: the name, its place, whether it is a tail use, and the types that
-- stand before it
pub record Use : Type 0 where
  pub name : List ℕ
  pub place : Place
  pub is_tail : Bool
  pub before : List Tree

-- something follows it, or a repetition is around it
abbrev pub not_tail : Use → Use
not_tail u = record u { is_tail = false }

-- this type stands before it too
abbrev pub behind_type : Tree → Use → Use
behind_type T u = record u { before = T ∷ u.before }

-- the uses outside every label, in order
abbrev pub top_uses : PlacedTree → List Use
top_uses (Name_at p x) = record { name = x; place = p; is_tail = true; before = [] } ∷ []
top_uses (Seq_at p T U) = map not_tail (top_uses T) ++ map (behind_type (unplaced T)) (top_uses U)
top_uses (Alt_at p T U) = top_uses T ++ top_uses U
top_uses (Star_at p T) = map not_tail (top_uses T)
top_uses (Plus_at p T) = map not_tail (top_uses T)
top_uses (Opt_at p T) = top_uses T
top_uses (Val_at p x q T) = top_uses T
top_uses _ = []

-- the empty document fits each of these types
abbrev pub AllCanBeEmpty : Definitions → List Tree → Type 0
AllCanBeEmpty E [] = Unit {0}
AllCanBeEmpty E (T ∷ Ts) = Fits E T empty × AllCanBeEmpty E Ts

-- everything before it can be empty
abbrev pub IsFrontUse : Definitions → Use → Type 0
IsFrontUse E u = AllCanBeEmpty E u.before

-- the first definition of a name
abbrev pub placed_body : List TypeDefinition → List ℕ → Option PlacedTree
placed_body [] x = None
placed_body (t ∷ ts) x = cond (bytes_eq t.name x) (Some t.body) (placed_body ts x)

-- a use of the second name outside every label of the definition of the first, which the fact
-- allows
abbrev pub UsesAtTop : ProgramTree → (Use → Type 0) → List ℕ → List ℕ → Type 0
UsesAtTop P A x y =
    (T : PlacedTree) × (u : Use)
    × (placed_body P.types x ≡ Some T) × IsOneOf u (top_uses T) × (u.name ≡ y) × A u

-- a chain of such uses leads from the first name to the second, or they are the same
pub data Leads (P : ProgramTree) (A : Use → Type 0) : List ℕ → List ℕ → Type 0 where
  arrived : {x : List ℕ} → Leads P A x x
  use_then : {x y z : List ℕ} → UsesAtTop P A x y → Leads P A y z → Leads P A x z

-- allows every use
abbrev pub AnyUse : Use → Type 0
AnyUse u = Unit {0}

-- a use that is no tail use, from which a chain leads back to the definition that it stands in
abbrev pub IsOutsideTail : ProgramTree → List ℕ → Use → Type 0
IsOutsideTail P x u = (u.is_tail ≡ false) × Leads P AnyUse u.name x

-- a front use from which a chain of front uses leads back
abbrev pub IsUnguarded : ProgramTree → List ℕ → Use → Type 0
IsUnguarded P x u = IsFrontUse (names_of P) u × Leads P (IsFrontUse (names_of P)) u.name x

-- the second list is what the fact keeps of the first, in order
pub data Keeps {A : Type 0} (P : A → Type 0) : List A → List A → Type 0 where
  all_seen : Keeps P [] []
  kept : {x : A} {xs ys : List A} → P x → Keeps P xs ys → Keeps P (x ∷ xs) (x ∷ ys)
  left_out : {x : A} {xs ys : List A} → (P x → ⊥) → Keeps P xs ys → Keeps P (x ∷ xs) ys

-- a use and the name in whose definition it stands
pub record UseIn : Type 0 where
  pub owner : List ℕ
  pub use_there : Use

-- the uses outside every label of all definitions, in order
abbrev pub all_top_uses : List TypeDefinition → List UseIn
all_top_uses ts =
    flat_map (λ (t : TypeDefinition).
    map (λ u. let w : UseIn = record { owner = t.name; use_there = u } in w) (top_uses t.body)) ts

-- the fault of a use outside tail position
abbrev pub not_tail_fault : UseIn → Fault
not_tail_fault w = fault_at w.use_there.place (NotTail w.use_there.name)

-- the fault of an unguarded use
abbrev pub unguarded_fault : UseIn → Fault
unguarded_fault w = fault_at w.use_there.place (Unguarded w.use_there.name)

-- these are all faults of recursion, in order
pub record AreRecursionFaults (P : ProgramTree) (fs : List Fault) : Type 0 where
  pub outside : List UseIn
  pub unguarded : List UseIn
  pub outside_all : Keeps (λ w. IsOutsideTail P w.owner w.use_there) (all_top_uses P.types) outside
  pub unguarded_all : Keeps (λ w. IsUnguarded P w.owner w.use_there) (all_top_uses P.types) unguarded
  pub listed : fs ≡ in_order (map not_tail_fault outside ++ map unguarded_fault unguarded)

-- no fault of names, arity, linearity or recursion
pub record IsSound (P : ProgramTree) : Type 0 where
  pub names : name_faults P ≡ []
  pub recursion : AreRecursionFaults P []
