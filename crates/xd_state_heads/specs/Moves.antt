-- The moves of a state as heads, label moves first, and what states accept.
use Rattle.std.specs.Prelude.{◌≡◌, ℕ, suc, ◌<◌, ◌≤◌, Bool, true, List, [], ◌∷◌, ◌++◌, map, cond, nat_lt, nat_eq}
use Rattle.std.specs.List.{AllByRecursion}
use Rattle.xd_doc.specs.Document.{Document}
use Rattle.xd_auto.specs.declared.auto.State.{State}
use Rattle.xd_auto.specs.declared.auto.LabelMove.{LabelMove}
use Rattle.xd_auto.specs.declared.auto.TextMove.{TextMove}
use Rattle.xd_auto.specs.Automaton.{Automaton, accepts, moves_at}
use Rattle.xd_rules.specs.Heads.{Head, element_in, text_in}
use Rattle.xd_rules.specs.Rules.{Claim}

abbrev pub label_head : LabelMove → Head State
label_head m = record { kind = element_in m.class; content = m.content; rest = m.rest }

-- nothing stands in a text, and its content says nothing
abbrev pub text_head : TextMove → Head State
text_head m = record { kind = text_in m.words; content = m.rest; rest = m.rest }

abbrev pub heads_of : Automaton → State → List (Head State)
heads_of a s = map label_head (moves_at a s).labels ++ map text_head (moves_at a s).texts

abbrev pub is_last_in : Automaton → State → Bool
is_last_in a s = (moves_at a s).last

-- the state accepts the document
abbrev pub Accepts : Automaton → State → Document → Type 0
Accepts a s d = accepts a d s ≡ true

abbrev pub claim_with : State → List State → Claim State
claim_with left rights = record { left = left; rights = rights }

-- the states with one more, each once, in the order of their numbers
abbrev pub with_state : State → List State → List State
with_state s [] = s ∷ []
with_state s (t ∷ ts) = cond (nat_lt t.number s.number) (t ∷ with_state s ts) (cond (nat_eq t.number s.number) (t ∷ ts) (s ∷ t ∷ ts))

-- states of an automaton with so many
abbrev pub AreBelow : ℕ → List State → Type 0
AreBelow n states = AllByRecursion (λ (s : State). s.number < n) states

-- states whose numbers rise, each at least this number
abbrev pub RiseFrom : ℕ → List State → Type 0
RiseFrom n [] = Unit {0}
RiseFrom n (s ∷ ss) = (n ≤ s.number) × RiseFrom (suc s.number) ss

-- each state once, in the order of their numbers
abbrev pub IsInOrder : List State → Type 0
IsInOrder states = RiseFrom 0 states
