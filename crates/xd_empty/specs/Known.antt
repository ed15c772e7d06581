-- What is known of the states of an automaton that only grows.
use Rattle.std.specs.Prelude.{◌≡◌, ◌<◌, ◌≤◌, false, Option, None, List, length, slice_index_or}
use Rattle.xd_doc.specs.Document.{Document}
use Rattle.xd_doc.specs.StoreNodes.{Keeps}
use Rattle.xd_doc.specs.declared.store.Seq.{Seq}
use Rattle.xd_auto.specs.declared.auto.State.{State}
use Rattle.xd_auto.specs.Automaton.{Automaton, Extends, LeadsBelow, accepts, moves_at, state_number}
use Rattle.xd_empty.specs.Inhabited.{AreWitnesses, IsUnknown}

-- the document that is known of a state; none past the end
abbrev pub document_of : List (Option Seq) → State → Option Seq
document_of known s = slice_index_or known (state_number s) None

-- the first states of the automaton lead to each other alone, and of each a document that it
-- accepts is known, or that it accepts none
pub record Knows (a : Automaton) (ds : List Document) (known : List (Option Seq)) : Type 0 where
  pub within : length known ≤ length a
  pub closed : (s : State) → state_number s < length known → LeadsBelow (length known) (moves_at a s)
  pub witnesses : AreWitnesses a ds known
  pub none : (s : State) → state_number s < length known → IsUnknown known s → (d : Document) → accepts a d s ≡ false

-- what is known stays known of an automaton that extends the old one, with a store that keeps the
-- old documents
abbrev pub StaysKnown : List (Option Seq) → Type 0
StaysKnown known = (old new : Automaton) (ds es : List Document) → Extends old new → Keeps ds es → Knows old ds known → Knows new es known
