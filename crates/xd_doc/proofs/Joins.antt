-- On joined documents.
use Rattle.std.proofs.Common.{◌≡◌, refl, ap}
use Rattle.xd_doc.specs.Document.{Document, empty, text, element, join}

pub join_empty-right : (d : Document) → join d empty ≡ d
join_empty-right empty = refl
join_empty-right (text s d) = ap (text s) (join_empty-right d)
join_empty-right (element l c d) = ap (element l c) (join_empty-right d)

pub join_assoc : (a b c : Document) → join (join a b) c ≡ join a (join b c)
join_assoc empty b c = refl
join_assoc (text s a) b c = ap (text s) (join_assoc a b c)
join_assoc (element l k a) b c = ap (element l k) (join_assoc a b c)

-- what is joined to nothing was nothing
pub joined_none : (a b : Document) → join a b ≡ empty → (a ≡ empty) × (b ≡ empty)
joined_none empty b e = (refl, e)
joined_none (text s a) b e = cc
joined_none (element l k a) b e = cc
