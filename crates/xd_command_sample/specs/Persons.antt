-- Persons in a row, and the names and telephones among them.
use Rattle.std.specs.Prelude.{ℕ, suc, zero, ◌%◌, ◌++◌, List, codes, decimal, nat_eq, if◌then◌else◌}
use Rattle.xd_doc.specs.Document.{Document, empty, text, element}

-- an element around one text, and then the document
abbrev pub field : (label characters : List ℕ) → Document → Document
field label characters d = element label (text characters empty) d

-- The person of this number, and then the document: a name, an address, and a telephone unless 3
-- divides the number.
abbrev pub person : ℕ → Document → Document
person i d =
    field (codes "name") (codes "p" ++ decimal i)
    (field (codes "addr") (codes "s" ++ decimal i)
    (if nat_eq (i % 3) 0 then d else field (codes "tel") (decimal i) d))

-- the persons from 1 to this number, in order, and then the document
abbrev pub persons_to : ℕ → Document → Document
persons_to zero d = d
persons_to (suc n) d = persons_to n (person (suc n) d)

-- the name and the telephone of the person of this number, where it has one, and then the document
abbrev pub listed : ℕ → Document → Document
listed i d =
    if nat_eq (i % 3) 0 then d
    else field (codes "name") (codes "p" ++ decimal i) (field (codes "tel") (decimal i) d)

-- those of the persons from 1 to this number, in order, and then the document
abbrev pub listed_to : ℕ → Document → Document
listed_to zero d = d
listed_to (suc n) d = listed_to n (listed (suc n) d)

-- so many persons
abbrev pub sample_of : ℕ → Document
sample_of persons = persons_to persons empty

-- the names and telephones of those that have one, of so many persons
abbrev pub telephones_to : ℕ → Document
telephones_to persons = listed_to persons empty
