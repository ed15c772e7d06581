-- The splits of a document into two that are it, joined.
use Rattle.std.specs.Prelude.{ℕ, List, [], ◌∷◌, map}
use Rattle.xd_doc.specs.Document.{Document, empty, text, element}
use Rattle.xd_plain.specs.PlainDocuments.{document_of}
use Rattle.xd_plain.specs.declared.fits.Split.{Split}

abbrev pub behind_text : List ℕ → List (Document × Document) → List (Document × Document)
behind_text s ps = map (λ p. (text s p.0, p.1)) ps

abbrev pub behind_element : List ℕ → Document → List (Document × Document) → List (Document × Document)
behind_element l c ps = map (λ p. (element l c p.0, p.1)) ps

-- the shortest front first
abbrev pub splits : Document → List (Document × Document)
splits empty = (empty, empty) ∷ []
splits (text s r) = (empty, text s r) ∷ behind_text s (splits r)
splits (element l c r) = (empty, element l c r) ∷ behind_element l c (splits r)

abbrev pub splits_of : List Split → List (Document × Document)
splits_of ss = map (λ s. (document_of s.front, document_of s.back)) ss
