-- Traces that are free, whole or blocks, and what they hold.
use Rattle.std.proofs.Common.{◌≡◌, ℕ, inl, inr, true, false, cond, refl, sym, ◌∙◌}
use Rattle.std.specs.List.{slice_get}
use Rattle.xd_doc.specs.Document.{Document, empty, text, element}
use Rattle.xd_doc.specs.Classes.{class_has}
use Rattle.xd_doc.specs.Runs.{Run, Trace, at_end, at_text, at_element, held, IsFree, IsBlock}
use Rattle.xd_doc.proofs.Runs.{held_free}
use Rattle.xd_auto.specs.declared.auto.State.{State}
use Rattle.xd_auto.specs.declared.auto.LabelMove.{LabelMove}
use Rattle.xd_auto.specs.declared.auto.TextMove.{TextMove}
use Rattle.xd_auto.specs.Automaton.{Automaton, moves_at}
use Rattle.xd_auto.specs.Runs.{IsAcceptingRun}
use Rattle.xd_auto.specs.Traces.{Owned, trace_of, after_text, after_element, in_element}
use Rattle.xd_auto.proofs.Anys.{IsSomeAnd-parts}
use Rattle.xd_given.specs.Owning.{IsWhole}

-- the trace is one of the document
abbrev pub Fits : Document → Trace → Type 0
Fits empty at_end = Unit {0}
Fits empty (at_text own r) = ⊥
Fits empty (at_element own k r) = ⊥
Fits (text c d) at_end = ⊥
Fits (text c d) (at_text own r) = Fits d r
Fits (text c d) (at_element own k r) = ⊥
Fits (element l c d) at_end = ⊥
Fits (element l c d) (at_text own r) = ⊥
Fits (element l c d) (at_element own k r) = Fits c k × Fits d r

-- an accepting run's is
pub fits : (a : Automaton) (b : Owned) (d : Document) (s : State) (run : Run ℕ) (q : State) → IsAcceptingRun a d s run → Fits d (trace_of a b q run)
fits a b empty s at_end q h = tt
fits a b empty s (at_text n r) q h = absurd h
fits a b empty s (at_element n c r) q h = absurd h
fits a b (text t d) s at_end q h = absurd h
fits a b (text t d) s (at_text n r) q h =
    let f = IsSomeAnd-parts (slice_get (moves_at a s).texts n) (λ (m : TextMove). (class_has m.words t ≡ true) × IsAcceptingRun a d m.rest r) h in
    fits a b d f.item.rest r (after_text a q n) f.holds.1
fits a b (text t d) s (at_element n c r) q h = absurd h
fits a b (element l k d) s at_end q h = absurd h
fits a b (element l k d) s (at_text n r) q h = absurd h
fits a b (element l k d) s (at_element n c r) q h =
    let f = IsSomeAnd-parts (slice_get (moves_at a s).labels n) (λ (m : LabelMove). (class_has m.class l ≡ true) × IsAcceptingRun a k m.content c × IsAcceptingRun a d m.rest r) h in
    (fits a b k f.item.content c (in_element a q n) f.holds.1, fits a b d f.item.rest r (after_element a q n) f.holds.2)

-- a trace that is whole and free is one of the empty document
pub whole_free : (d : Document) (t : Trace) → Fits d t → IsWhole t → IsFree t → d ≡ empty
whole_free empty t h w f = refl
whole_free (text c d) at_end h w f = absurd h
whole_free (text c d) (at_text own r) h w f = absurd (let both : true ≡ false = sym w.0 ∙ f.0 in cc)
whole_free (text c d) (at_element own k r) h w f = absurd h
whole_free (element l c d) at_end h w f = absurd h
whole_free (element l c d) (at_text own r) h w f = absurd h
whole_free (element l c d) (at_element own k r) h w f = absurd (let both : true ≡ false = sym w.0 ∙ f.0 in cc)

-- a whole trace holds the document
pub whole_held : (d : Document) (t : Trace) → Fits d t → IsWhole t → held d t ≡ d
whole_held empty t h w = refl
whole_held (text c d) at_end h w = absurd h
whole_held (text c d) (at_text own r) h w = rw (w.0, whole_held d r h w.1) refl
whole_held (text c d) (at_element own k r) h w = absurd h
whole_held (element l c d) at_end h w = absurd h
whole_held (element l c d) (at_text own r) h w = absurd h
whole_held (element l c d) (at_element own k r) h w = rw (w.0, held_free c k w.1, whole_held d r h.1 w.2) refl

-- a whole trace is a block
pub whole_block : (t : Trace) → IsWhole t → IsBlock t
whole_block at_end w = tt
whole_block (at_text own r) w = inl (w.0, whole_block r w.1)
whole_block (at_element own k r) w = inl (w.0, w.1, whole_block r w.2)

-- the items at the front that belong to the variable, whatever is in them
abbrev pub front : Document → Trace → Document
front empty t = empty
front (text c d) at_end = empty
front (text c d) (at_text own r) = cond own (text c (front d r)) empty
front (text c d) (at_element own k r) = empty
front (element l c d) at_end = empty
front (element l c d) (at_text own r) = empty
front (element l c d) (at_element own k r) = cond own (element l c (front d r)) empty

pub front_free : (d : Document) (t : Trace) → IsFree t → front d t ≡ empty
front_free empty t f = refl
front_free (text c d) at_end f = refl
front_free (text c d) (at_text own r) f = rw f.0 refl
front_free (text c d) (at_element own k r) f = refl
front_free (element l c d) at_end f = refl
front_free (element l c d) (at_text own r) f = refl
front_free (element l c d) (at_element own k r) f = rw f.0 refl

-- a block holds just these
pub front_held : (d : Document) (t : Trace) → IsBlock t → held d t ≡ front d t
front_held empty t k = refl
front_held (text c d) at_end k = refl
front_held (text c d) (at_text own r) (inl k) = rw (k.0, front_held d r k.1) refl
front_held (text c d) (at_text own r) (inr k) = rw (k.0, held_free d r k.1) refl
front_held (text c d) (at_element own k r) h = refl
front_held (element l c d) at_end k = refl
front_held (element l c d) (at_text own r) k = refl
front_held (element l c d) (at_element own k r) (inl h) = rw (h.0, held_free c k h.1, front_held d r h.2) refl
front_held (element l c d) (at_element own k r) (inr h) = rw (h.0, held_free c k h.1, held_free d r h.2) refl

pub front_whole : (d : Document) (t : Trace) → Fits d t → IsWhole t → front d t ≡ d
front_whole d t h w = sym (front_held d t (whole_block t w)) ∙ whole_held d t h w
