-- What states accept and moves take, and points: a state of one automaton, the left, and states of
-- another that are taken away from it, the rights.
use Rattle.std.specs.Prelude.{◌≡◌, ℕ, Bool, true, not, cond, ◌&&◌, List, [], ◌∷◌, map, nat_lt, nat_eq, length}
use Rattle.std.specs.List.{list_any}
use Rattle.xd_doc.specs.Document.{Document, text, element}
use Rattle.xd_doc.specs.Classes.{class_has}
use Rattle.xd_auto.specs.declared.auto.State.{State}
use Rattle.xd_auto.specs.declared.auto.LabelMove.{LabelMove}
use Rattle.xd_auto.specs.declared.auto.TextMove.{TextMove}
use Rattle.xd_auto.specs.Automaton.{Automaton, accepts, moves_at}

abbrev pub is_last_in : Automaton → State → Bool
is_last_in a s = (moves_at a s).last

-- some state of the set accepts the document
abbrev pub any_accepts : Automaton → List State → Document → Bool
any_accepts a states d = list_any (λ s. accepts a d s) states

-- a state, and states that are taken away from it
pub record PointView : Type 0 where
  pub left : State
  pub rights : List State

-- the left accepts the document, and none of the rights does
abbrev pub means : Automaton → Automaton → PointView → Document → Bool
means a b p d = accepts a d p.left && not (any_accepts b p.rights d)

abbrev pub less : State → List State → PointView
less left rights = record { left = left; rights = rights }

-- an element before a document, and a text before a document
pub record ElementFirst : Type 0 where
  pub label : List ℕ
  pub content : Document
  pub rest : Document

pub record TextFirst : Type 0 where
  pub characters : List ℕ
  pub rest : Document

abbrev pub element_of : ElementFirst → Document
element_of q = element q.label q.content q.rest

abbrev pub text_of : TextFirst → Document
text_of q = text q.characters q.rest

-- a move takes the element, or the text, and what follows it
abbrev pub move_takes : Automaton → ElementFirst → LabelMove → Bool
move_takes a q m = class_has m.class q.label && (accepts a q.content m.content && accepts a q.rest m.rest)

abbrev pub text_takes : Automaton → TextFirst → TextMove → Bool
text_takes a q m = class_has m.words q.characters && accepts a q.rest m.rest

-- the moves of a state take, one by one, what those of the other automaton do
pub record TellSame (a b : Automaton) : Type 0 where
  pub labels : (q : ElementFirst) (s : State) → map (move_takes b q) (moves_at b s).labels ≡ map (move_takes a q) (moves_at a s).labels
  pub texts : (q : TextFirst) (s : State) → map (text_takes b q) (moves_at b s).texts ≡ map (text_takes a q) (moves_at a s).texts

-- the states with one more, each once, in the order of their numbers
abbrev pub with_state : State → List State → List State
with_state s [] = s ∷ []
with_state s (t ∷ ts) = cond (nat_lt t.number s.number) (t ∷ with_state s ts) (cond (nat_eq t.number s.number) (t ∷ ts) (s ∷ t ∷ ts))

abbrev pub with_states : List State → List State → List State
with_states [] states = states
with_states (s ∷ ss) states = with_states ss (with_state s states)

abbrev pub has_state : State → List State → Bool
has_state s states = list_any (λ t. nat_eq t.number s.number) states

-- each of the states is one of the others
abbrev pub is_within : List State → List State → Bool
is_within others [] = true
is_within others (s ∷ ss) = has_state s others && is_within others ss

-- the state belongs to the automaton
abbrev pub is_state : Automaton → State → Bool
is_state a s = nat_lt s.number (length a)
