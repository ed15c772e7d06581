-- What a validator stands for.
use Rattle.std.specs.Prelude.{ℕ, ◌≡◌, ◌==◌, ◌&&◌, Bool, true, not, List, [], ◌∷◌, ◌++◌, length, reverse}
use Rattle.xd_auto.specs.declared.auto.State.{State}
use Rattle.xd_auto.specs.Automaton.{Automaton, accepts, moves_at}
use Rattle.xd_empty.specs.Parts.{AreMarks, is_marked}
use Rattle.xd_doc.specs.Document.{Document, is_proper}
use Rattle.xd_read.specs.Grammar.{Terminal, End, Spells, Begins}
use Rattle.std.specs.List.{list_any}
use Rattle.xd_stream.specs.StopByState.{BeginsAccepted}
use Rattle.xd_stream.specs.Positions.{takes_close, takes_comma, takes_item, takes_paren_r, takes_parens}
use Rattle.xd_stream.specs.Expecting.{pair_goes_by_label, pair_goes_by_text}
use Rattle.xd_stream.specs.Fed.{open_elements}
use Rattle.xd_stream.specs.Standing.{ArePlaces, AreItemMarks, Keeps, groups}
use Rattle.xd_stream.specs.declared.pairs.Pair.{Pair}
use Rattle.xd_stream.specs.declared.position.Position.{Position}
use Rattle.xd_stream.specs.declared.validator.Validator.{Validator}
use Rattle.xd_stream.specs.declared.validator.Refusal.{Refusal}
use Rattle.xd_stream.specs.declared.validator.Refusal.TheVariants.{Malformed, Outside, NoMemory}

-- what it tests against
abbrev pub tested : Validator → Automaton
tested v = v.automaton

abbrev pub tested_from : Validator → State
tested_from v = v.start

-- how many elements are open, and what may come
abbrev pub depth_of : Validator → ℕ
depth_of v = length v.places.items

abbrev pub position_of : Validator → Position
position_of v = v.position

abbrev pub pairs_of : Validator → List Pair
pairs_of v = v.pairs.items

-- the present state of some pair accepts the empty document
abbrev pub some_last : Validator → Bool
some_last v = list_any (λ p. (moves_at v.automaton p.present).last) v.pairs.items

-- the validator stands after these terminals
pub record StandsAfter (v : Validator) (ts : List Terminal) : Type 0 where
  pub keeps : Keeps v.automaton v.start v.marks.items v.position v.pairs.items (groups v.waiting.items (reverse v.places.items)) ts
  pub marks : AreMarks v.automaton v.marks.items
  pub items : AreItemMarks v.automaton v.with_items.items
  pub places : ArePlaces (length v.waiting.items) (reverse v.places.items)
  pub nesting : open_elements 0 ts ≡ length v.places.items

-- it stands after some
abbrev pub IsReady : Validator → Type 0
IsReady v = (ts : List Terminal) × StandsAfter v ts

-- what it is for is the same
pub record IsSameFor (v w : Validator) : Type 0 where
  pub automaton : w.automaton ≡ v.automaton
  pub start : w.start ≡ v.start

-- it has gone over the terminal, which a document goes on with; whether an accepted one does isn't
-- known yet
pub record Goes (v : Validator) (t : Terminal) (w : Validator) : Type 0 where
  pub same : IsSameFor v w
  pub stands : (ts : List Terminal) → StandsAfter v ts → StandsAfter w (ts ++ t ∷ [])
  pub begins : (ts : List Terminal) → StandsAfter v ts → Begins (ts ++ t ∷ [])

-- it has gone past the terminal, and what there is begins an accepted document
pub record Passes (v : Validator) (t : Terminal) (w : Validator) : Type 0 where
  pub same : IsSameFor v w
  pub stands : (ts : List Terminal) → StandsAfter v ts → StandsAfter w (ts ++ t ∷ [])
  pub begins : (ts : List Terminal) → StandsAfter v ts → BeginsAccepted v.automaton v.start (ts ++ t ∷ [])

-- why it doesn't go past the terminal
abbrev pub Refuses : Validator → Terminal → Refusal → Type 0
Refuses v t Malformed = (ts : List Terminal) → StandsAfter v ts → ¬ (Begins (ts ++ t ∷ []))
Refuses v t Outside = (ts : List Terminal) → StandsAfter v ts → (Begins (ts ++ t ∷ [])) × (¬ (BeginsAccepted v.automaton v.start (ts ++ t ∷ [])))
Refuses v t NoMemory = Unit {0}

-- the terminals and the end spell a document that is accepted
abbrev pub Ends : Validator → Type 0
Ends v = (ts : List Terminal) → StandsAfter v ts → (d : Document) × Spells (ts ++ End ∷ []) d × (is_proper d ≡ true) × (accepts v.automaton d v.start ≡ true)

-- ---- what may come

-- the innermost content, or the document, may end here
abbrev pub may_end : Validator → Bool
may_end v = takes_close v.position && some_last v

-- no element is open
abbrev pub is_outermost : Validator → Bool
is_outermost v = length v.places.items == 0

-- the `]` of an element may come; the document may end here
abbrev pub may_close : Validator → Bool
may_close v = not (is_outermost v) && may_end v

abbrev pub may_finish : Validator → Bool
may_finish v = is_outermost v && may_end v

-- a comma may come, and then an item
abbrev pub may_go_on : Validator → Bool
may_go_on v = takes_comma v.position && list_any (λ p. is_marked v.with_items.items p.present) v.pairs.items

-- `()` may come, and its `)`
abbrev pub may_be_empty : Validator → Bool
may_be_empty v = takes_parens v.position && some_last v

abbrev pub may_close_parens : Validator → Bool
may_close_parens v = takes_paren_r v.position && some_last v

-- an element with the label may come, and the text
abbrev pub may_open : Validator → List ℕ → Bool
may_open v l = takes_item v.position && list_any (pair_goes_by_label v.automaton v.marks.items l) v.pairs.items

abbrev pub may_take_text : Validator → List ℕ → Bool
may_take_text v t = takes_item v.position && list_any (pair_goes_by_text v.automaton v.marks.items t) v.pairs.items
