-- Parts of documents, and how the prover tells one document from another.
use Rattle.std.specs.Prelude.{◌≡◌, ℕ, ◌+◌, List, [], ◌∷◌, zero, suc}
use Rattle.std.proofs.Common.{refl, ap, ◌∙◌}
use Rattle.std.specs.Coded.{Coded, code_by, coded×, coded_ℕ, coded_list}
use Rattle.xd_doc.specs.Document.{Document, element, empty, text}

-- the first item of the first document, and then the second
abbrev pub first_then : Document → Document → Document
first_then empty e = e
first_then (text s r) e = text s e
first_then (element l c r) e = element l c e

-- the number of its own items
abbrev pub breadth : Document → ℕ
breadth empty = 0
breadth (text s r) = breadth r + 1
breadth (element l c r) = breadth r + 1

-- what follows the first item
abbrev pub rest_of : Document → Document
rest_of empty = empty
rest_of (text s r) = r
rest_of (element l c r) = r

-- the content of the first item
abbrev pub content_of : Document → Document
content_of empty = empty
content_of (text s r) = empty
content_of (element l c r) = c

-- By what follows the prover tells one document from another, since a model must be data that has a
-- code: a document is written as its items in postfix order, and read back with a stack. No
-- contract cites it.
abbrev pub written : Document → List (ℕ × List ℕ) → List (ℕ × List ℕ)
written empty ts = (0, []) ∷ ts
written (text s r) ts = written r ((1, s) ∷ ts)
written (element l c r) ts = written c (written r ((2, l) ∷ ts))

abbrev pub step_at : ℕ → List ℕ → List Document → List Document
step_at zero s ds = empty ∷ ds
step_at (suc zero) s [] = []
step_at (suc zero) s (r ∷ ds) = text s r ∷ ds
step_at (suc (suc n)) s [] = []
step_at (suc (suc n)) s (r ∷ []) = []
step_at (suc (suc n)) s (r ∷ (c ∷ ds)) = element s c r ∷ ds

abbrev pub read_back : List (ℕ × List ℕ) → List Document → List Document
read_back [] ds = ds
read_back (t ∷ ts) ds = read_back ts (step_at t.0 t.1 ds)

abbrev pub top_of : List Document → Document
top_of [] = empty
top_of (d ∷ ds) = d

pub read_back-written : (d : Document) (ts : List (ℕ × List ℕ)) (ds : List Document) → read_back (written d ts) ds ≡ read_back ts (d ∷ ds)
read_back-written empty ts ds = refl
read_back-written (text s r) ts ds = read_back-written r ((1, s) ∷ ts) ds
read_back-written (element l c r) ts ds = read_back-written c (written r ((2, l) ∷ ts)) ds ∙ read_back-written r ((2, l) ∷ ts) (c ∷ ds)

pub top_back : (d : Document) → top_of (read_back (written d []) []) ≡ d
top_back d = ap top_of (read_back-written d [] [])

abbrev pub document_code : Coded Document
document_code = code_by (List (ℕ × List ℕ)) (coded_list (coded× coded_ℕ (coded_list coded_ℕ))) (λ d. written d []) (λ ts. top_of (read_back ts [])) top_back
