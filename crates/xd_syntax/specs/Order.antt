-- What comes first: faults in order of place, then of number, and lists one after the other.
use Rattle.std.specs.Prelude.{◌≡◌, ℕ, Bool, true, false, cond, ◌||◌, ◌&&◌, nat_lt, nat_eq, List, [], ◌∷◌, ◌++◌, Option, Some, None}
use Rattle.xd_base.specs.declared.Place.{Place}
use Rattle.xd_syntax.specs.declared.fault.Fault.{Fault}
use Rattle.xd_syntax.specs.declared.fault.FaultKind.{FaultKind}
use Rattle.xd_syntax.specs.declared.fault.FaultKind.TheVariants.{NotUtf8, Syntax, TooDeep, DuplicateName, UnknownType, UnknownFunction, UnknownVariable, Arity, NotLinear, NotTail, Unguarded, NotExhaustive, Argument, Result, NoSuchName, NoMain}

-- an earlier line, or the same line and an earlier column
abbrev pub is_earlier : Place → Place → Bool
is_earlier p q = nat_lt p.line q.line || (nat_eq p.line q.line && nat_lt p.column q.column)

-- the same line and the same column
abbrev pub is_same_place : Place → Place → Bool
is_same_place p q = nat_eq p.line q.line && nat_eq p.column q.column

-- the number that a kind of fault has in reports
abbrev pub number_of : FaultKind → ℕ
number_of NotUtf8 = 1
number_of Syntax = 2
number_of TooDeep = 3
number_of (DuplicateName w) = 4
number_of (UnknownType w) = 5
number_of (UnknownFunction w) = 6
number_of (UnknownVariable w) = 7
number_of (Arity w given wanted) = 8
number_of (NotLinear w) = 9
number_of (NotTail w) = 10
number_of (Unguarded w) = 11
number_of (NotExhaustive d) = 12
number_of (Argument d) = 13
number_of (Result d) = 14
number_of (NoSuchName s) = 15
number_of NoMain = 16

-- a fault without a place stands before all others
abbrev pub comes_before : Option Place → ℕ → Option Place → ℕ → Bool
comes_before None m None n = nat_lt m n
comes_before None m (Some q) n = true
comes_before (Some p) m None n = false
comes_before (Some p) m (Some q) n = is_earlier p q || (is_same_place p q && nat_lt m n)

-- the earlier place comes first, and at one place the lower number
abbrev pub precedes : Fault → Fault → Bool
precedes f g = comes_before f.place (number_of f.kind) g.place (number_of g.kind)

-- an item among items in order, in front of those that it precedes and after the others
abbrev pub put_in : {A : Type 0} → (A → A → Bool) → A → List A → List A
put_in before x [] = x ∷ []
put_in before x (y ∷ ys) = cond (before x y) (x ∷ (y ∷ ys)) (y ∷ put_in before x ys)

-- items in order already, and among them the others, one by one
abbrev pub ordered_after : {A : Type 0} → (A → A → Bool) → List A → List A → List A
ordered_after before done [] = done
ordered_after before done (x ∷ xs) = ordered_after before (put_in before x done) xs

-- the items in order; those of which neither precedes the other stay as they stood
abbrev pub ordered : {A : Type 0} → (A → A → Bool) → List A → List A
ordered before xs = ordered_after before [] xs

-- what two parts have, the first part's first
abbrev pub InTurn : {A : Type 0} → (List A → Type 0) → (List A → Type 0) → List A → Type 0
InTurn X Y zs = (xs : List _) × (ys : List _) × X xs × Y ys × (zs ≡ xs ++ ys)

-- the faults in order of place, then of number
abbrev pub in_order : List Fault → List Fault
in_order fs = ordered precedes fs
