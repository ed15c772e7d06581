-- Equations between sets of documents: an unknown is a sum of types, each in front of an unknown,
-- and of one type alone.
use Rattle.std.specs.Prelude.{◌≡◌, ◌↔◌, ◌⊎◌, ◌<◌, ℕ, nat_eq, Bool, true, not, ◌&&◌, List, [], ◌∷◌, map, get_or, Option, Some, None}
use Rattle.xd_syntax.specs.declared.types.TypeId.{TypeId}
use Rattle.std.specs.List.{AllByRecursion}
use Rattle.std.specs.Option.{IfSome, option_map}
use Rattle.xd_doc.specs.Document.{Document}
use Rattle.xd_doc.specs.Members.{IsOneOf}
use Rattle.xd_syntax.specs.Tree.{Tree, Alt, Star}
use Rattle.xd_syntax.specs.Fits.{Split}
use Rattle.xd_syntax.specs.Table.{Row, tree_at}
use Rattle.xd_syntax.specs.Types.{BelongsTo}
use Rattle.xd_same_types.specs.Same.{Meaning, FitsAs, HasTops, MeansSame, TakesItem}
use Rattle.xd_show_solve.specs.declared.sums.Term.{Term}
use Rattle.xd_show_solve.specs.declared.sums.Sum.{Sum}

-- a type in front of an unknown
pub record Product : Type 0 where
  pub by : Tree
  pub to : ℕ

pub record Side : Type 0 where
  pub products : List Product
  pub constant : Option Tree

-- which documents unknowns stand for
abbrev pub Unknowns : Type 0
Unknowns = ℕ → Document → Bool

-- the document is one that fits the type, followed by one of the unknown
abbrev pub ProductTakes : Meaning → Unknowns → Document → Product → Type 0
ProductTakes N X d p = Split (FitsAs N p.by) (λ e. X p.to e ≡ true) d

abbrev pub SomeTakes : Meaning → Unknowns → Document → List Product → Type 0
SomeTakes N X d [] = ⊥
SomeTakes N X d (p ∷ ps) = ProductTakes N X d p ⊎ SomeTakes N X d ps

abbrev pub ConstantTakes : Meaning → Document → Option Tree → Type 0
ConstantTakes N d None = ⊥
ConstantTakes N d (Some T) = FitsAs N T d

-- the document is one of the right side
abbrev pub SideTakes : Meaning → Unknowns → Document → Side → Type 0
SideTakes N X d s = SomeTakes N X d s.products ⊎ ConstantTakes N d s.constant

-- the unknown stands for just the documents of the right side
abbrev pub Equals : Meaning → Unknowns → ℕ → Side → Type 0
Equals N X i s = (d : Document) → (X i d ≡ true) ↔ SideTakes N X d s

-- The unknown may be used: it is allowed, and the type in front of it takes an item, or its rank is
-- below a bound.
pub record IsFine (allowed : ℕ → Bool) (ranks : List ℕ) (bound : ℕ) (p : Product) : Type 0 where
  pub use_allowed : allowed p.to ≡ true
  pub guarded : TakesItem p.by ⊎ (get_or ranks p.to 0 < bound)

abbrev pub IsFineSide : (ℕ → Bool) → List ℕ → ℕ → Side → Type 0
IsFineSide allowed ranks bound s = AllByRecursion (IsFine allowed ranks bound) s.products

-- each name that the types of a side use outside of labels is among these
abbrev pub SideTops : List (List ℕ) → Side → Type 0
SideTops known s = AllByRecursion (λ (p : Product). HasTops known p.by) s.products × IfSome s.constant (HasTops known)

-- the right side that a sum over a table of types stands for
abbrev pub product_in : List Row → Term → Product
product_in types t = record { by = tree_at types t.by.at; to = t.to }

abbrev pub side_in : List Row → Sum → Side
side_in types s = record { products = map (product_in types) s.terms.items; constant = option_map (λ id. tree_at types id.at) s.constant }

-- the types that a sum names are there
pub record SumStands (types : List Row) (s : Sum) : Type 0 where
  pub terms : AllByRecursion (λ t. BelongsTo types t.by) s.terms.items
  pub constant : IfSome s.constant (BelongsTo types)

-- what stands in front of one unknown
abbrev pub own_in : List Row → Option TypeId → Option Tree
own_in types o = option_map (λ (id : TypeId). tree_at types id.at) o

abbrev pub OwnTakes : Meaning → Unknowns → Document → ℕ → Option Tree → Type 0
OwnTakes N X d i None = ⊥
OwnTakes N X d i (Some T) = ProductTakes N X d (record { by = T; to = i })

-- all that are allowed but one
abbrev pub allowed_but : (ℕ → Bool) → ℕ → ℕ → Bool
allowed_but allowed i j = allowed j && not (nat_eq j i)

-- the new side is the old one with one product more
pub record AddsProduct (old : Side) (p : Product) (new : Side) : Type 0 where
  pub takes : (N : Meaning) (X : Unknowns) (d : Document) → SideTakes N X d new ↔ (SideTakes N X d old ⊎ ProductTakes N X d p)
  pub fine : (allowed : ℕ → Bool) (ranks : List ℕ) (bound : ℕ) → IsFineSide allowed ranks bound old → IsFine allowed ranks bound p → IsFineSide allowed ranks bound new
  pub tops : (known : List (List ℕ)) → SideTops known old → HasTops known p.by → SideTops known new

-- with one type more
pub record AddsConstant (old : Side) (T : Tree) (new : Side) : Type 0 where
  pub takes : (N : Meaning) (X : Unknowns) (d : Document) → SideTakes N X d new ↔ (SideTakes N X d old ⊎ FitsAs N T d)
  pub fine : (allowed : ℕ → Bool) (ranks : List ℕ) (bound : ℕ) → IsFineSide allowed ranks bound old → IsFineSide allowed ranks bound new
  pub tops : (known : List (List ℕ)) → SideTops known old → HasTops known T → SideTops known new

-- with a type in front of a whole side
pub record AddsMultiple (old : Side) (A : Tree) (s new : Side) : Type 0 where
  pub takes : (N : Meaning) (X : Unknowns) (d : Document) → SideTakes N X d new ↔ (SideTakes N X d old ⊎ Split (FitsAs N A) (λ e. SideTakes N X e s) d)
  pub fine : (allowed : ℕ → Bool) (ranks : List ℕ) (bound : ℕ) → IsFineSide allowed ranks bound old → IsFineSide allowed ranks bound s → IsFineSide allowed ranks bound new
  pub guarded : (allowed : ℕ → Bool) (ranks : List ℕ) (bound : ℕ) → IsFineSide allowed ranks bound old → TakesItem A → AllByRecursion (λ (p : Product). allowed p.to ≡ true) s.products → IsFineSide allowed ranks bound new
  pub tops : (known : List (List ℕ)) → SideTops known old → HasTops known A → SideTops known s → SideTops known new

-- a right side in two parts: what stands in front of one unknown, and the rest
pub record IsParted (s : Side) (i : ℕ) (own : Option Tree) (rest : Side) : Type 0 where
  pub takes : (N : Meaning) (X : Unknowns) (d : Document) → SideTakes N X d s ↔ (OwnTakes N X d i own ⊎ SideTakes N X d rest)
  pub item : (allowed : ℕ → Bool) (ranks : List ℕ) → IsFineSide allowed ranks (get_or ranks i 0) s → IfSome own TakesItem
  pub fine : (allowed : ℕ → Bool) (ranks : List ℕ) (bound : ℕ) → IsFineSide allowed ranks bound s → IsFineSide (allowed_but allowed i) ranks bound rest
  pub tops : (known : List (List ℕ)) → SideTops known s → IfSome own (HasTops known) × SideTops known rest

-- what stands in front of an unknown, and one type more
abbrev pub OwnMore : Option Tree → Tree → Tree → Type 0
OwnMore None T made = MeansSame made T
OwnMore (Some O) T made = MeansSame made (Alt O T)

-- the second right side of an unknown is the first one without the unknown itself
pub record IsSolved (i : ℕ) (s new : Side) : Type 0 where
  pub equals : (N : Meaning) (X : Unknowns) (allowed : ℕ → Bool) (ranks : List ℕ) → IsFineSide allowed ranks (get_or ranks i 0) s → Equals N X i s → Equals N X i new
  pub fine : (allowed : ℕ → Bool) (ranks : List ℕ) (bound : ℕ) → IsFineSide allowed ranks bound s → IsFineSide (allowed_but allowed i) ranks bound new
  pub tops : (known : List (List ℕ)) → SideTops known s → SideTops known new

-- the new side is the old one with the right side of an unknown's equation in the place of the
-- unknown
pub record IsReplaced (i : ℕ) (by s new : Side) : Type 0 where
  pub takes : (N : Meaning) (X : Unknowns) → Equals N X i by → (d : Document) → SideTakes N X d new ↔ SideTakes N X d s
  pub fine : (allowed : ℕ → Bool) (ranks : List ℕ) (bound : ℕ) → IsFineSide allowed ranks bound s → IsFineSide (allowed_but allowed i) ranks (get_or ranks i 0) by → IsFineSide (allowed_but allowed i) ranks bound new
  pub tops : (known : List (List ℕ)) → SideTops known by → SideTops known s → SideTops known new

-- one product more, in one part or the other
pub record PartsMore (i : ℕ) (own : Option Tree) (rest : Side) (p : Product) (more : Option Tree) (new : Side) : Type 0 where
  pub takes : (N : Meaning) (X : Unknowns) (d : Document) → (OwnTakes N X d i more ⊎ SideTakes N X d new) ↔ ((OwnTakes N X d i own ⊎ SideTakes N X d rest) ⊎ ProductTakes N X d p)
  pub item : (allowed : ℕ → Bool) (ranks : List ℕ) → IsFine allowed ranks (get_or ranks i 0) p → IfSome own TakesItem → IfSome more TakesItem
  pub fine : (allowed : ℕ → Bool) (ranks : List ℕ) (bound : ℕ) → IsFine allowed ranks bound p → IsFineSide (allowed_but allowed i) ranks bound rest → IsFineSide (allowed_but allowed i) ranks bound new
  pub tops : (known : List (List ℕ)) → HasTops known p.by → IfSome own (HasTops known) × SideTops known rest → IfSome more (HasTops known) × SideTops known new

-- one product more, with the right side of an unknown's equation in the place of the unknown
pub record AddsReplaced (i : ℕ) (by now : Side) (p : Product) (new : Side) : Type 0 where
  pub takes : (N : Meaning) (X : Unknowns) → Equals N X i by → (d : Document) → SideTakes N X d new ↔ (SideTakes N X d now ⊎ ProductTakes N X d p)
  pub fine : (allowed : ℕ → Bool) (ranks : List ℕ) (bound : ℕ) → IsFine allowed ranks bound p → IsFineSide (allowed_but allowed i) ranks (get_or ranks i 0) by → IsFineSide (allowed_but allowed i) ranks bound now → IsFineSide (allowed_but allowed i) ranks bound new
  pub tops : (known : List (List ℕ)) → HasTops known p.by → SideTops known by → SideTops known now → SideTops known new

-- a repetition of the type in front of a whole side
pub record IsAgainBefore (L : Tree) (rest new : Side) : Type 0 where
  pub star : Tree
  pub same : MeansSame star (Star L)
  pub multiple : AddsMultiple (record { products = []; constant = None }) star rest new

abbrev pub TermsStand : List Row → List Term → Type 0
TermsStand types ts = AllByRecursion (λ (t : Term). BelongsTo types t.by) ts

abbrev pub products : List Row → List Term → List Product
products types ts = map (product_in types) ts

-- the first sum has all that the second one has
pub record Covers (s t : Sum) : Type 0 where
  pub terms : AllByRecursion (λ u. IsOneOf u s.terms.items) t.terms.items
  pub constant : (t.constant ≡ None) ⊎ (s.constant ≡ t.constant)

-- the new side has the product too, unless the other one has it
pub record AddsUnless (other now : Side) (p : Product) (new : Side) : Type 0 where
  pub within : (N : Meaning) (X : Unknowns) (d : Document) → SideTakes N X d new → SideTakes N X d now ⊎ ProductTakes N X d p
  pub covered : (N : Meaning) (X : Unknowns) (d : Document) → SideTakes N X d now ⊎ ProductTakes N X d p → SideTakes N X d new ⊎ SideTakes N X d other
  pub fine : (allowed : ℕ → Bool) (ranks : List ℕ) (bound : ℕ) → IsFineSide allowed ranks bound now → IsFine allowed ranks bound p → IsFineSide allowed ranks bound new
  pub tops : (known : List (List ℕ)) → SideTops known now → HasTops known p.by → SideTops known new

-- the new side is the old one without what the other one has
pub record IsShort (other s new : Side) : Type 0 where
  pub within : (N : Meaning) (X : Unknowns) (d : Document) → SideTakes N X d new → SideTakes N X d s
  pub covered : (N : Meaning) (X : Unknowns) (d : Document) → SideTakes N X d s → SideTakes N X d new ⊎ SideTakes N X d other
  pub fine : (allowed : ℕ → Bool) (ranks : List ℕ) (bound : ℕ) → IsFineSide allowed ranks bound s → IsFineSide allowed ranks bound new
  pub tops : (known : List (List ℕ)) → SideTops known s → SideTops known new

-- the new side is the old one with an unknown in the place of what its side has
pub record Shortens (i : ℕ) (other s new : Side) : Type 0 where
  pub takes : (N : Meaning) (X : Unknowns) → Equals N X i other → (d : Document) → SideTakes N X d new ↔ SideTakes N X d s
  pub fine : (allowed : ℕ → Bool) (ranks : List ℕ) (bound : ℕ) → allowed i ≡ true → get_or ranks i 0 < bound → IsFineSide allowed ranks bound s → IsFineSide allowed ranks bound new
  pub tops : (known : List (List ℕ)) → SideTops known s → SideTops known new

-- both sides say the same
pub record SameSide (s new : Side) : Type 0 where
  pub takes : (N : Meaning) (X : Unknowns) (d : Document) → SideTakes N X d new ↔ SideTakes N X d s
  pub fine : (allowed : ℕ → Bool) (ranks : List ℕ) (bound : ℕ) → IsFineSide allowed ranks bound s → IsFineSide allowed ranks bound new
  pub tops : (known : List (List ℕ)) → SideTops known s → SideTops known new

-- what is kept of a constant, where another one may be it
abbrev pub kept_constant : Option TypeId → Option TypeId → Option TypeId
kept_constant o None = o
kept_constant o (Some x) = None
