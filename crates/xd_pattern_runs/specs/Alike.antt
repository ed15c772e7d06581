-- Lists that are the same but for later repeats of their members.
use Rattle.std.specs.Prelude.{◌≡◌, ℕ, List, [], ◌∷◌, Option, Some, None}
use Rattle.xd_doc.specs.Document.{Document}
use Rattle.xd_doc.specs.Members.{IsOneOf}

-- what variables hold
abbrev pub Holding : Type 0
Holding = List ℕ → Document

abbrev pub or_then : Option Holding → Option Holding → Option Holding
or_then (Some h) o = Some h
or_then None o = o

-- the first that a function gives on the members in turn
abbrev pub pick : {A : Type 0} → (A → Option Holding) → List A → Option Holding
pick f [] = None
pick f (x ∷ xs) = or_then (f x) (pick f xs)

-- the lists have the same members, and whatever is looked for, the same one is the first
pub record Alike {A : Type 0} (L M : List A) : Type 0 where
  pub first : (f : A → Option Holding) → pick f L ≡ pick f M
  pub into : (x : A) → IsOneOf x L → IsOneOf x M
  pub back : (x : A) → IsOneOf x M → IsOneOf x L
