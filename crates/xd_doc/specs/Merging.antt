-- How two lists of names in order are merged.
use Rattle.std.specs.Prelude.{◌≡◌, Bool, true, false, not, cond, ◌&&◌, ◌||◌, List, [], ◌∷◌, Option, Some, None}
use Rattle.std.specs.declared.cmp.Ordering.{Ordering}
use Rattle.std.specs.declared.cmp.Ordering.TheVariants.{Less, Equal}
use Rattle.std.specs.List.Sorted.{IsStrictlySortedBy}
use Rattle.std.specs.List.{list_any, AllByRecursion}
use Rattle.xd_doc.specs.ClassForms.{AreClassNames}
use Rattle.xd_doc.specs.declared.names.Names.{Names}

-- the names of a list are all above this one
abbrev pub AllAbove : {N : Type 0} → (N → N → Ordering) → N → List N → Type 0
AllAbove order name = AllByRecursion (λ n. order name n ≡ Less)

-- the name is the first of the list, or stands below all of it
abbrev pub IsAhead : {N : Type 0} → (N → N → Ordering) → N → List N → Bool → Type 0
IsAhead order name [] true = ⊥
IsAhead order name (n ∷ ns) true = order n name ≡ Equal
IsAhead order name ns false = AllAbove order name ns

-- the least name of two lists, and which of them it stands in
pub record IsNext {N : Type 0} (is_name : N → Bool) (order : N → N → Ordering) (one two : List N) (name : N) (in_one in_two : Bool) : Type 0 where
  pub word : is_name name ≡ true
  pub some : (in_one || in_two) ≡ true
  pub ahead_one : IsAhead order name one in_one
  pub ahead_two : IsAhead order name two in_two

-- it is in the class of these names, or of all but these
abbrev pub is_in : Bool → Bool → Bool
is_in except named = cond except (not named) named

-- the names that what two classes have in common names, or excepts
abbrev pub is_kept : Bool → Bool → Bool → Bool → Bool
is_kept ex ex2 named named2 = is_in (ex && ex2) (is_in ex named && is_in ex2 named2)

-- the names of two lists that are kept, in order
pub record IsMerged {N : Type 0} (is_name : N → Bool) (order : N → N → Ordering) (same : N → N → Bool) (ex ex2 : Bool) (one two made : List N) : Type 0 where
  pub words : AllByRecursion (λ n. is_name n ≡ true) made
  pub sorted : IsStrictlySortedBy order made
  pub above : (name : N) → AllAbove order name one → AllAbove order name two → AllAbove order name made
  pub named : (x : N) → list_any (λ n. same n x) made ≡ is_kept ex ex2 (list_any (λ n. same n x) one) (list_any (λ n. same n x) two)

-- what the first class has and is in the second, which has these names or all but these; no class
-- where that is nothing
abbrev pub common_has : {N : Type 0} → (N → N → Bool) → Names N → List N → Bool → N → Bool
common_has same c names except x = is_in c.except (list_any (λ n. same n x) c.names.value.items) && is_in except (list_any (λ n. same n x) names)

pub record IsCommonClass {N : Type 0} (is_name : N → Bool) (order : N → N → Ordering) (same : N → N → Bool) (c : Names N) (names : List N) (except : Bool) (made : Names N) : Type 0 where
  pub valid : AreClassNames is_name order made.names.value.items made.except
  pub has : (x : N) → is_in made.except (list_any (λ n. same n x) made.names.value.items) ≡ common_has same c names except x

abbrev pub IsCommon : {N : Type 0} → (N → Bool) → (N → N → Ordering) → (N → N → Bool) → Names N → List N → Bool → Option (Names N) → Type 0
IsCommon {N = N} is_name order same c names except None = (x : N) → common_has same c names except x ≡ false
IsCommon {N = N} is_name order same c names except (Some made) = IsCommonClass is_name order same c names except made
