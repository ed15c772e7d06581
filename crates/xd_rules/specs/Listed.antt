-- What lists have, and names in order.
use Rattle.std.specs.Prelude.{◌≡◌, ℕ, true, List}
use Rattle.std.specs.List.{AllByRecursion, flat_map}
use Rattle.std.specs.List.Sorted.{IsStrictlySortedBy}
use Rattle.std.specs.Ordering.{nat_cmp}
use Rattle.std.specs.Cmp.Lexicographic.{slice_cmp}
use Rattle.xd_doc.specs.Classes.{is_named}
use Rattle.xd_doc.specs.Members.{IsOneOf}
use Rattle.xd_rules.specs.Heads.{Head, Named, labels_of, texts_of}

-- P holds of some element
abbrev pub SomeOf : {X : Type 0} → (X → Type 0) → List X → Type 0
SomeOf {X} P xs = (x : X) × IsOneOf x xs × P x

-- P holds of no element
abbrev pub NoneOf : {X : Type 0} → (X → Type 0) → List X → Type 0
NoneOf P xs = AllByRecursion (λ x. ¬ (P x)) xs

-- all these names are among the others
abbrev pub AreAmong : List (List ℕ) → List (List ℕ) → Type 0
AreAmong names all = (name : List ℕ) → is_named names name ≡ true → is_named all name ≡ true

-- these names, each once, in byte order
pub record IsSorted (names sorted : List (List ℕ)) : Type 0 where
  pub order : IsStrictlySortedBy (slice_cmp nat_cmp) sorted
  pub same : (name : List ℕ) → is_named sorted name ≡ is_named names name

-- the names of all these heads
pub record AreNames {S : Type 0} (heads : List (Head S)) (named : Named) : Type 0 where
  pub labels : IsSorted (flat_map (λ (h : Head S). labels_of h.kind) heads) named.labels
  pub texts : IsSorted (flat_map (λ (h : Head S). texts_of h.kind) heads) named.texts
