-- What the reader keeps while elements are open.
use Rattle.std.specs.Prelude.{◌≡◌, ℕ, ◌^◌, ◌<◌, ◌≤◌, ◌↔◌, List, [], ◌∷◌, ◌++◌, length, take, drop, reverse, IsUtf8}
use Rattle.std.specs.List.{AllByRecursion}
use Rattle.xd_doc.specs.Document.{Document, empty, text, element}
use Rattle.xd_doc.specs.Stored.{document_at}
use Rattle.xd_doc.specs.StoredSeq.{BelongsTo}
use Rattle.xd_doc.specs.declared.store.Seq.{Seq}
use Rattle.xd_read.specs.declared.moves.Expect.{Expect}
use Rattle.xd_read.specs.declared.reader.Finished.{Finished}
use Rattle.xd_read.specs.declared.reader.Finished.TheVariants.{Text, Element}
use Rattle.xd_read.specs.declared.reader.OpenElement.{OpenElement}
use Rattle.xd_read.specs.declared.reader.Reader.{Reader}
use Rattle.xd_read.specs.Grammar.{Terminal}
use Rattle.xd_read.specs.Completes.{Frame, Completes}

-- the part stands in the whole text, which fits the memory, at this byte
pub record StandsAt (whole : List ℕ) (at : ℕ) (part : List ℕ) : Type 0 where
  pub utf8 : IsUtf8 whole
  pub fits : length whole < 2 ^ 63
  pub before : List ℕ
  pub behind : List ℕ
  pub split : whole ≡ before ++ (part ++ behind)
  pub place : length before ≡ at

-- finished items as a document
abbrev pub items_of : List Document → List Finished → Document
items_of ds [] = empty
items_of ds (Text s ∷ fs) = text s (items_of ds fs)
items_of ds (Element l seq ∷ fs) = element l (document_at ds seq) (items_of ds fs)

-- the items so far of the innermost open element, or of the document; the open elements come
-- innermost first
abbrev pub front_of : List Document → List Finished → List OpenElement → Document
front_of ds fs [] = items_of ds fs
front_of ds fs (o ∷ os) = items_of ds (drop o.start fs)

-- the open elements, each with the items before it in what holds it
abbrev pub frames_of : List Document → List Finished → List OpenElement → List Frame
frames_of ds fs [] = []
frames_of ds fs (o ∷ os) = record { label = o.label; before = front_of ds (take o.start fs) os } ∷ frames_of ds (take o.start fs) os

-- the content of a finished element is a document of the store
abbrev pub IsInStore : List Document → Finished → Type 0
IsInStore ds (Text s) = Unit {0}
IsInStore ds (Element l seq) = BelongsTo ds seq

-- each open element begins within the n items that are finished, and the outer ones before it
abbrev pub AreMarks : ℕ → List OpenElement → Type 0
AreMarks n [] = Unit {0}
AreMarks n (o ∷ os) = (o.start ≤ n) × AreMarks o.start os

-- the finished items and the open elements, outermost first, belong together and to the store
pub record IsReady (ds : List Document) (fs : List Finished) (os : List OpenElement) : Type 0 where
  pub finished : AllByRecursion (IsInStore ds) fs
  pub marks : AreMarks (length fs) (reverse os)

-- from what the reader keeps, the terminals ts complete the document d
abbrev pub CanComplete : List Document → Expect → List Finished → List OpenElement → List Terminal → Document → Type 0
CanComplete ds e fs os ts d = Completes e (front_of ds fs (reverse os)) (frames_of ds fs (reverse os)) ts d

-- the reader has gone past the terminal t
pub record Passes (ds : List Document) (e : Expect) (fs : List Finished) (os : List OpenElement) (t : Terminal) (ds' : List Document) (e' : Expect) (fs' : List Finished) (os' : List OpenElement) : Type 0 where
  pub ready : IsReady ds' fs' os'
  pub same : (ts : List Terminal) (d : Document) → CanComplete ds e fs os (t ∷ ts) d ↔ CanComplete ds' e' fs' os' ts d

-- the terminal t completes the document d
pub record Ends (ds : List Document) (e : Expect) (fs : List Finished) (os : List OpenElement) (t : Terminal) (d : Document) : Type 0 where
  pub ended : CanComplete ds e fs os (t ∷ []) d

-- no document goes on with the terminal t
abbrev pub Stops : List Document → Expect → List Finished → List OpenElement → Terminal → Type 0
Stops ds e fs os t = (ts : List Terminal) (d : Document) → CanComplete ds e fs os (t ∷ ts) d → ⊥

-- the items from the element's start on have become its content
pub record IsClosed (ds : List Document) (fs : List Finished) (o : OpenElement) (ds' : List Document) (fs' : List Finished) : Type 0 where
  pub content : Seq
  pub belongs : BelongsTo ds' content
  pub document : document_at ds' content ≡ items_of ds (drop o.start fs)
  pub items : fs' ≡ take o.start fs ++ Element o.label content ∷ []

-- the same of a reader

abbrev pub IsReaderReady : List Document → Reader → Type 0
IsReaderReady ds r = IsReady ds r.finished.items r.elements.items

abbrev pub PassesToken : List Document → Reader → Terminal → List Document → Reader → Type 0
PassesToken ds r t ds' r' = Passes ds r.expect r.finished.items r.elements.items t ds' r'.expect r'.finished.items r'.elements.items

abbrev pub EndsDocument : List Document → Reader → Terminal → Document → Type 0
EndsDocument ds r t d = Ends ds r.expect r.finished.items r.elements.items t d

abbrev pub StopsAt : List Document → Reader → Terminal → Type 0
StopsAt ds r t = Stops ds r.expect r.finished.items r.elements.items t
