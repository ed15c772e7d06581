-- What the moves of a run say of its items, and what they give to a variable.
use Rattle.std.specs.Prelude.{◌≡◌, ℕ, ◌↔◌, Bool, true, Option, Some, None, slice_get}
use Rattle.xd_doc.specs.Document.{Document, is_proper}
use Rattle.xd_doc.specs.Runs.{Run, at_end, at_text, at_element, IsTogether, held}
use Rattle.xd_auto.specs.declared.auto.State.{State}
use Rattle.xd_auto.specs.declared.auto.LabelMove.{LabelMove}
use Rattle.xd_auto.specs.declared.auto.TextMove.{TextMove}
use Rattle.xd_auto.specs.Automaton.{Automaton, accepts, moves_at}
use Rattle.xd_auto.specs.Runs.{IsAcceptingRun}

-- what is said of each move of a state, by its number among the moves on a text or on an element
pub record OfMoves (A : Type 0) : Type 0 where
  pub text : State → ℕ → A
  pub element : State → ℕ → A

-- whether it belongs to a variable
abbrev pub Owned : Type 0
Owned = OfMoves Bool

-- what a function tells of it
abbrev pub map_moves : {A B : Type 0} → (A → B) → OfMoves A → OfMoves B
map_moves f b = record { text = λ s n. f (b.text s n); element = λ s n. f (b.element s n) }

-- where a move leads, or the state itself where there is no move
abbrev pub text_rest_or : State → Option TextMove → State
text_rest_or s None = s
text_rest_or s (Some m) = m.rest

abbrev pub content_or : State → Option LabelMove → State
content_or s None = s
content_or s (Some m) = m.content

abbrev pub rest_or : State → Option LabelMove → State
rest_or s None = s
rest_or s (Some m) = m.rest

-- where the state's move of this number leads
abbrev pub after_text : Automaton → State → ℕ → State
after_text a s n = text_rest_or s (slice_get (moves_at a s).texts n)

abbrev pub in_element : Automaton → State → ℕ → State
in_element a s n = content_or s (slice_get (moves_at a s).labels n)

abbrev pub after_element : Automaton → State → ℕ → State
after_element a s n = rest_or s (slice_get (moves_at a s).labels n)

-- the run from the state, with what is said of its moves in place of their numbers
abbrev pub trace_of : {A : Type 0} → Automaton → OfMoves A → State → Run ℕ → Run A
trace_of a b s at_end = at_end
trace_of a b s (at_text n r) = at_text (b.text s n) (trace_of a b (after_text a s n) r)
trace_of a b s (at_element n c r) = at_element (b.element s n) (trace_of a b (in_element a s n) c) (trace_of a b (after_element a s n) r)

-- in each accepting run the items of the variable stand directly one after another, in the document
-- or in one content
abbrev pub KeepsTogether : Automaton → Owned → State → Type 0
KeepsTogether a b start = (d : Document) (run : Run ℕ) → IsAcceptingRun a d start run → IsTogether (trace_of a b start run)

-- some accepting run gives the variable this document, on a document that is proper where this one
-- is
pub record IsGiven (a : Automaton) (b : Owned) (start : State) (e : Document) : Type 0 where
  pub document : Document
  pub proper : is_proper e ≡ true → is_proper document ≡ true
  pub run : Run ℕ
  pub accepting : IsAcceptingRun a document start run
  pub gives : held document (trace_of a b start run) ≡ e

-- the state accepts exactly what accepting runs give the variable
abbrev pub AcceptsGiven : Automaton → Owned → State → Automaton → State → Type 0
AcceptsGiven a b start made state = (e : Document) → (accepts made e state ≡ true) ↔ IsGiven a b start e
