-- Documents joined and measured.
use Rattle.std.proofs.Common.{◌≡◌, ◌<◌, ◌≤◌, arith, true, refl}
use Rattle.xd_doc.specs.Document.{Document, empty, text, element, join, has_item}
use Rattle.xd_syntax.specs.Ways.{item_count}

-- there is an item
abbrev pub HasItem : Document → Type 0
HasItem empty = ⊥
HasItem (text s d) = Unit {0}
HasItem (element l c d) = Unit {0}

pub filled : (d : Document) → has_item d ≡ true → HasItem d
filled empty h = cc
filled (text s d) h = tt
filled (element l c d) h = tt

pub has : (d : Document) → HasItem d → has_item d ≡ true
has empty h = absurd h
has (text s d) h = refl
has (element l c d) h = refl

pub item_count_le : (a b : Document) → item_count b ≤ item_count (join a b)
item_count_le empty b = omega arith
item_count_le (text s a) b = let i = item_count_le a b in omega arith
item_count_le (element l c a) b = let i = item_count_le a b in omega arith

pub item_count_some : (a b : Document) → HasItem a → item_count b < item_count (join a b)
item_count_some empty b h = absurd h
item_count_some (text s a) b h = let i = item_count_le a b in omega arith
item_count_some (element l c a) b h = let i = item_count_le a b in omega arith
