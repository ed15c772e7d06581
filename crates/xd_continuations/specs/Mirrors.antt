-- Automata whose states have continuations, and the moves of these.
use Rattle.std.specs.Prelude.{◌≡◌, List, [], ◌∷◌, Option, Some}
use Rattle.xd_syntax.specs.Tree.{Tree, Definitions, seq_of}
use Rattle.xd_meaning.specs.CanBeEmpty.{can_be_empty}
use Rattle.xd_auto.specs.Automaton.{Automaton, IsState, moves_at}
use Rattle.xd_auto.specs.declared.auto.State.{State}
use Rattle.xd_auto.specs.declared.auto.LabelMove.{LabelMove}
use Rattle.xd_auto.specs.declared.auto.TextMove.{TextMove}
use Rattle.xd_rules.specs.Heads.{element_in, text_in}
use Rattle.xd_continuations.specs.Continuation.{Move, moves, IsContinuation}

-- the continuation of a state, where it has one
abbrev pub Continuations : Type 0
Continuations = State → Option (List Tree)

-- the label moves are the moves on an element, in order, each with its class, to states of its
-- content and its rest; the text moves are those on a text
pub data AreMirrored (C : Continuations) : List Move → List LabelMove → List TextMove → Type 0 where
  no_move : AreMirrored C [] [] []
  on_label : {m : Move} {ms : List Move} {l : LabelMove} {ls : List LabelMove} {ts : List TextMove} →
      m.kind ≡ element_in l.class → C l.content ≡ Some m.content → C l.rest ≡ Some m.rest → AreMirrored C ms ls ts → AreMirrored C (m ∷ ms) (l ∷ ls) ts
  on_text : {m : Move} {ms : List Move} {ls : List LabelMove} {t : TextMove} {ts : List TextMove} →
      m.kind ≡ text_in t.words → C t.rest ≡ Some m.rest → AreMirrored C ms ls ts → AreMirrored C (m ∷ ms) ls (t ∷ ts)

-- the state has the flag and the moves of the continuation
pub record IsMirror (E : Definitions) (C : Continuations) (a : Automaton) (s : State) (K : List Tree) : Type 0 where
  pub state : IsState a s
  pub continuation : IsContinuation K
  pub flag : (moves_at a s).last ≡ can_be_empty E (seq_of K)
  pub moves : AreMirrored C (moves E K) (moves_at a s).labels (moves_at a s).texts

-- each state that has a continuation has its flag and its moves
abbrev pub AreMirrors : Definitions → Continuations → Automaton → Type 0
AreMirrors E C a = (s : State) (K : List Tree) → C s ≡ Some K → IsMirror E C a s K
