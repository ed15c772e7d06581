-- Laws of the definitions.
use Rattle.std.specs.Prelude.{◌≡◌, ℕ, ◌+◌, ◌≤◌, ◌↔◌, true, false, ◌⊎◌, List, [], map, length, Some}
use Rattle.std.specs.List.{AllByRecursion}
use Rattle.xd_doc.specs.Document.{Document, empty, has_item}
use Rattle.xd_doc.specs.Members.{IsOneOf}
use Rattle.xd_syntax.specs.Tree.{Tree, Elem, Seq, Alt, Star, Plus, Opt, Val, Definitions}
use Rattle.xd_syntax.specs.Fits.{Fits}
use Rattle.xd_meaning.specs.FitsWithin.{FitsWithin}
use Rattle.xd_syntax.specs.Placed.{PlacedTree, unplaced}
use Rattle.xd_syntax.specs.Ways.{ways, ways_within, unfoldings, Takes}
use Rattle.xd_meaning.specs.FirstMatch.{first}
use Rattle.xd_syntax.specs.NameFaults.{linearity_faults}
use Rattle.xd_meaning.specs.Bindings.{variables_of, first_bindings}
use Rattle.xd_syntax.specs.Proper.{IsProperProgram}
use Rattle.xd_meaning.specs.CanBeEmpty.{can_be_empty}
use Rattle.xd_rules.specs.Heads.{Head}
use Rattle.xd_meaning.specs.Heads.{heads, heads_within}
use Rattle.xd_meaning.specs.HeadBegins.{Begins}
use Rattle.xd_syntax.specs.Program.{ProgramTree, names_of}
use Rattle.xd_syntax.specs.RecursionFaults.{IsSound}
use Rattle.xd_meaning.specs.Meaning.{Done, Environment, looked_up, meaning}
use Rattle.xd_meaning.specs.Consistent.{Goal, IsConsistent, ClaimHolds}
use Rattle.xd_meaning.specs.Violation.{Reason, Lined, goals_of, IsFirstViolation}

-- the binders dropped
abbrev pub bare : Tree → Tree
bare (Elem c T) = Elem c (bare T)
bare (Seq T U) = Seq (bare T) (bare U)
bare (Alt T U) = Alt (bare T) (bare U)
bare (Star T) = Star (bare T)
bare (Plus T) = Plus (bare T)
bare (Opt T) = Opt (bare T)
bare (Val x T) = bare T
bare T = T

-- a pattern takes a document exactly where the document fits the pattern with its binders dropped
abbrev pub PatternsAreTypes : Type 0
PatternsAreTypes = (P : ProgramTree) → IsSound P → (A : Tree) (d : Document) → Takes (names_of P) A d ↔ Fits (names_of P) (bare A) d

-- more unfoldings give the same list of ways
abbrev pub WaysSettle : Type 0
WaysSettle = (P : ProgramTree) → IsSound P → (A : Tree) (d : Document) (n : ℕ) → unfoldings (names_of P) d ≤ n →
    ways_within (names_of P) n A d ≡ ways (names_of P) A d

-- what fits, fits within as many unfoldings, or more
abbrev pub FitsSettles : Type 0
FitsSettles = (P : ProgramTree) → IsSound P → (T : Tree) (d : Document) (n : ℕ) → unfoldings (names_of P) d ≤ n →
    Fits (names_of P) T d ↔ FitsWithin (names_of P) n T d

-- within any number of unfoldings, and within some, is the same as to fit, sound or not
abbrev pub FitsIsWithinSome : Type 0
FitsIsWithinSome = (E : Definitions) (T : Tree) (d : Document) → Fits E T d ↔ ((n : ℕ) × FitsWithin E n T d)

-- a document with an item fits a type exactly where it begins as one of the type's heads
abbrev pub HeadsDecide : Type 0
HeadsDecide = (P : ProgramTree) → IsSound P → (T : Tree) (d : Document) → has_item d ≡ true →
    Fits (names_of P) T d ↔ ((h : Head Tree) × IsOneOf h (heads (names_of P) T) × Begins (names_of P) h d)

-- the empty document fits a type exactly where the type can be empty
abbrev pub EmptyDecides : Type 0
EmptyDecides = (P : ProgramTree) → IsSound P → (T : Tree) → (can_be_empty (names_of P) T ≡ true) ↔ Fits (names_of P) T empty

-- the list of heads is done: more unfoldings give the same one
abbrev pub HeadsSettle : Type 0
HeadsSettle = (P : ProgramTree) → IsSound P → (T : Tree) (n : ℕ) → length (names_of P) ≤ n →
    heads_within (names_of P) n T ≡ heads (names_of P) T

-- what is done with some calls is done with one more, and that one is left
abbrev pub FuelIsLeft : Type 0
FuelIsLeft = (P : ProgramTree) (n : ℕ) (d v : Document) (m : ℕ) → meaning P n d ≡ Done v m → meaning P (n + 1) d ≡ Done v (m + 1)

-- in a consistent proof, over the definitions of a sound program, every goal's claim holds
abbrev pub ConsistentProofsHold : Type 0
ConsistentProofsHold = (P : ProgramTree) → IsSound P → (goals : List Goal) → IsConsistent (names_of P) goals → AllByRecursion (ClaimHolds (names_of P)) goals

-- a proof is consistent, or it has a first violation
abbrev pub ViolationsAreFound : Type 0
ViolationsAreFound = (E : Definitions) (ls : List Lined) → IsConsistent E (goals_of ls) ⊎ ((n : ℕ) × (r : Reason) × IsFirstViolation E ls n r)

-- no line is a first violation exactly where the rules hold
abbrev pub RulesAreTested : Type 0
RulesAreTested = (E : Definitions) (ls : List Lined) → ((n : ℕ) (r : Reason) → IsFirstViolation E ls n r → ⊥) ↔ IsConsistent E (goals_of ls)

-- there is one first violation at most
abbrev pub ViolationIsOne : Type 0
ViolationIsOne = (E : Definitions) (ls : List Lined) (n m : ℕ) (r q : Reason) → IsFirstViolation E ls n r → IsFirstViolation E ls m q → (n ≡ m) × (r ≡ q)

-- a variable has the same document in both lists of a first match's bindings, or none in either
abbrev pub BindingsAgree : Type 0
BindingsAgree = (P : ProgramTree) → IsProperProgram P → (Q : Tree) (d : Document) (vs ws : Environment) → first (names_of P) Q d ≡ Some vs →
    first_bindings (names_of P) Q d ≡ Some ws → (x : List ℕ) → looked_up ws x ≡ looked_up vs x

-- a first match of a linear pattern binds each variable once, in order of first occurrence
abbrev pub BindingsAreInOrder : Type 0
BindingsAreInOrder = (E : Definitions) (Q : PlacedTree) → linearity_faults Q ≡ [] → (d : Document) (ws : Environment) →
    first_bindings E (unplaced Q) d ≡ Some ws → map (λ v. v.0) ws ≡ variables_of (unplaced Q)
