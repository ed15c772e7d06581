-- Runs over a document: something for each of its items, at every depth.
use Rattle.std.specs.Prelude.{◌≡◌, ◌⊎◌, Bool, true, false, cond}
use Rattle.xd_doc.specs.Document.{Document, empty, text, element, join}

-- what a text or an element is given, and then the same for the items in the element and after it
pub data Run (A : Type 0) : Type 0 where
  at_end : Run A
  at_text : (given : A) (rest : Run A) → Run A
  at_element : (given : A) (content rest : Run A) → Run A

abbrev pub map_run : {A B : Type 0} → (A → B) → Run A → Run B
map_run f at_end = at_end
map_run f (at_text x r) = at_text (f x) (map_run f r)
map_run f (at_element x k r) = at_element (f x) (map_run f k) (map_run f r)

-- for each item whether it belongs to some variable
abbrev pub Trace : Type 0
Trace = Run Bool

-- the items that belong to the variable, in order and with their contents
abbrev pub held : Document → Trace → Document
held empty t = empty
held (text c d) at_end = empty
held (text c d) (at_text own r) = join (cond own (text c empty) empty) (held d r)
held (text c d) (at_element own k r) = empty
held (element l c d) at_end = empty
held (element l c d) (at_text own r) = empty
held (element l c d) (at_element own k r) = join (cond own (element l c empty) empty) (join (held c k) (held d r))

-- no item belongs to the variable
abbrev pub IsFree : Trace → Type 0
IsFree at_end = Unit {0}
IsFree (at_text own r) = (own ≡ false) × IsFree r
IsFree (at_element own k r) = (own ≡ false) × IsFree k × IsFree r

-- items of the variable, with nothing of it in their contents, and after them none
abbrev pub IsBlock : Trace → Type 0
IsBlock at_end = Unit {0}
IsBlock (at_text own r) = ((own ≡ true) × IsBlock r) ⊎ ((own ≡ false) × IsFree r)
IsBlock (at_element own k r) = ((own ≡ true) × IsFree k × IsBlock r) ⊎ ((own ≡ false) × IsFree k × IsFree r)

-- one such block, in the document or in one content, and no other item of the variable
abbrev pub IsTogether : Trace → Type 0
IsTogether at_end = Unit {0}
IsTogether (at_text own r) = ((own ≡ true) × IsBlock r) ⊎ ((own ≡ false) × IsTogether r)
IsTogether (at_element own k r) =
    ((own ≡ true) × IsFree k × IsBlock r) ⊎ ((own ≡ false) × ((IsFree k × IsTogether r) ⊎ (IsTogether k × IsFree r)))
