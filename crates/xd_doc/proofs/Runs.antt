-- Traces that give a variable nothing.
use Rattle.std.proofs.Common.{◌≡◌, inl, inr, refl}
use Rattle.xd_doc.specs.Document.{Document, empty, text, element}
use Rattle.xd_doc.specs.Runs.{Trace, at_end, at_text, at_element, held, IsFree, IsBlock, IsTogether}

pub held_free : (d : Document) (t : Trace) → IsFree t → held d t ≡ empty
held_free empty t h = refl
held_free (text c d) at_end h = refl
held_free (text c d) (at_text own r) h = rw (h.0, held_free d r h.1) refl
held_free (text c d) (at_element own k r) h = refl
held_free (element l c d) at_end h = refl
held_free (element l c d) (at_text own r) h = refl
held_free (element l c d) (at_element own k r) h = rw (h.0, held_free c k h.1, held_free d r h.2) refl

pub block_free : (t : Trace) → IsFree t → IsBlock t
block_free at_end h = tt
block_free (at_text own r) h = inr h
block_free (at_element own k r) h = inr h

pub together_free : (t : Trace) → IsFree t → IsTogether t
together_free at_end h = tt
together_free (at_text own r) h = inr (h.0, together_free r h.1)
together_free (at_element own k r) h = inr (h.0, inl (h.1, together_free r h.2))
