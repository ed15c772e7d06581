-- Pairs of states and what they lead to, as tests.
use Rattle.std.specs.Prelude.{◌≡◌, ℕ, ◌<◌, Bool, false, not, ◌&&◌, ◌==◌, List, ◌++◌, length, slice_index_or}
use Rattle.std.specs.List.{list_any}
use Rattle.xd_doc.specs.Classes.{class_has}
use Rattle.xd_auto.specs.declared.auto.State.{State}
use Rattle.xd_auto.specs.declared.auto.LabelMove.{LabelMove}
use Rattle.xd_auto.specs.declared.auto.TextMove.{TextMove}
use Rattle.xd_auto.specs.Automaton.{Automaton, IsState, moves_at, state_number}
use Rattle.xd_empty.specs.Parts.{is_marked}
use Rattle.xd_stream.specs.declared.pairs.Pair.{Pair}
use Rattle.xd_stream.specs.declared.pairs.Waiting.{Waiting}

abbrev pub same_state : State → State → Bool
same_state s t = state_number s == state_number t

-- the move leads over the text to a marked state, and the pair with it passes the test
abbrev pub leads_text : List Bool → List ℕ → (Pair → Bool) → State → TextMove → Bool
leads_text marks t f first m = class_has m.words t && (is_marked marks m.rest && f (record { first = first; present = m.rest }))

-- the move leads over an element with the label to marked states, and passes the test
abbrev pub leads_label : List Bool → List ℕ → (Waiting → Bool) → State → LabelMove → Bool
leads_label marks l f first m = class_has m.class l && ((is_marked marks m.content && is_marked marks m.rest) && f (record { first = first; content = m.content; rest = m.rest }))

-- the content began with this state, and may end
abbrev pub ends_in : Automaton → State → Pair → Bool
ends_in a content p = same_state p.first content && (moves_at a p.present).last

-- some pair leads over the text to one that passes the test
abbrev pub leads_over_text : Automaton → List Bool → List ℕ → (Pair → Bool) → List Pair → Bool
leads_over_text a marks t f = list_any (λ p. list_any (leads_text marks t f p.first) (moves_at a p.present).texts)

abbrev pub leads_over_label : Automaton → List Bool → List ℕ → (Waiting → Bool) → List Pair → Bool
leads_over_label a marks l f = list_any (λ p. list_any (leads_label marks l f p.first) (moves_at a p.present).labels)

-- every move of a pair on a text takes every text
abbrev pub TakesEveryText : Automaton → List Pair → Type 0
TakesEveryText a now = (t : List ℕ) → list_any (λ p. list_any (λ m. not (class_has m.words t)) (moves_at a p.present).texts) now ≡ false

-- the same of leading over a text, whichever it is
abbrev pub leads_on_text : List Bool → (Pair → Bool) → State → TextMove → Bool
leads_on_text marks f first m = is_marked marks m.rest && f (record { first = first; present = m.rest })

abbrev pub leads_over_every_text : Automaton → List Bool → (Pair → Bool) → List Pair → Bool
leads_over_every_text a marks f = list_any (λ p. list_any (leads_on_text marks f p.first) (moves_at a p.present).texts)

-- an element's content began and may begin with these
abbrev pub begins_content : (Pair → Bool) → Waiting → Bool
begins_content f w = f (record { first = w.content; present = w.content })

-- a move on an element whose content may end leads to a pair that passes the test
abbrev pub leads_behind : Automaton → List Pair → (Pair → Bool) → Waiting → Bool
leads_behind a now f w = list_any (ends_in a w.content) now && f (record { first = w.first; present = w.rest })

-- just the numbers of the states that the contents which may end began with
abbrev pub HasEnded : Automaton → List Pair → List ℕ → Type 0
HasEnded a now numbers = (content : State) → list_any (λ n. n == state_number content) numbers ≡ list_any (ends_in a content) now

-- the present state of each pair belongs to the automaton
abbrev pub AreStates : Automaton → List Pair → Type 0
AreStates a now = (k : ℕ) (d : Pair) → k < length now → IsState a (slice_index_or now k d).present

-- after what was there stand the moves of a pair on an element with the label
pub record AddsMoves (a : Automaton) (marks : List Bool) (l : List ℕ) (p : Pair) (old new : List Waiting) : Type 0 where
  pub added : List Waiting
  pub behind : new ≡ old ++ added
  pub same : (f : Waiting → Bool) → list_any f added ≡ list_any (leads_label marks l f p.first) (moves_at a p.present).labels

-- after what was there stand the moves of these pairs on an element with the label
pub record AddsWaiting (a : Automaton) (marks : List Bool) (l : List ℕ) (now : List Pair) (old new : List Waiting) : Type 0 where
  pub added : List Waiting
  pub behind : new ≡ old ++ added
  pub same : (f : Waiting → Bool) → list_any f added ≡ leads_over_label a marks l f now
