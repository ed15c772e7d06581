-- Interned lists: each link is an item and an older list.
use Rattle.std.specs.Prelude.{◌≡◌, ℕ, ◌≤◌, ◌⊎◌, List, [], ◌∷◌, ◌++◌, length, get_or}
use Rattle.xd_doc.specs.Members.{IsOneOf}
use Rattle.xd_continuations.specs.Bounds.{lists_within}
use Rattle.xd_continuations.specs.declared.links.Link.{Link}

-- the lists of links, after those of older ones
abbrev pub lists_after : {A : Type 0} → List (List A) → List (Link A) → List (List A)
lists_after Ks [] = Ks
lists_after Ks (c ∷ cs) = lists_after (Ks ++ (c.item ∷ get_or Ks c.behind []) ∷ []) cs

-- all lists that the links make: number 0 is the empty one, and number n + 1 that of the n-th link
abbrev pub lists_in : {A : Type 0} → List (Link A) → List (List A)
lists_in cs = lists_after ([] ∷ []) cs

-- the list with this number
unfoldable pub list_at : {A : Type 0} → List (Link A) → ℕ → List A
list_at cs n = get_or (lists_in cs) n []

-- each link stands on an older list, and none stands twice
abbrev pub AreLinksAfter : {A : Type 0} → List (Link A) → List (Link A) → Type 0
AreLinksAfter older [] = Unit {0}
AreLinksAfter older (c ∷ cs) = (c.behind ≤ length older) × (IsOneOf c older → ⊥) × AreLinksAfter (older ++ c ∷ []) cs

abbrev pub AreLinks : {A : Type 0} → List (Link A) → Type 0
AreLinks cs = AreLinksAfter [] cs

-- the link is one of the old ones, and then they stay, or else it is the newest
abbrev pub HasLink : {A : Type 0} → List (Link A) → Link A → List (Link A) → Type 0
HasLink old c new = (IsOneOf c old × (new ≡ old)) ⊎ (new ≡ old ++ c ∷ [])

-- old links stand where they stood
pub record KeepsLinks {A : Type 0} (old new : List (Link A)) : Type 0 where
  pub more : List (Link A)
  pub grown : new ≡ old ++ more

-- how many lists of at most so many of these there are
unfoldable pub room : {A : Type 0} → List A → ℕ → ℕ
room xs most = length (lists_within xs most)
