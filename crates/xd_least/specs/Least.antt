-- Least documents of the states of an automaton.
use Rattle.std.specs.Prelude.{◌≡◌, ℕ, ◌<◌, ◌≤◌, min, true, false, Option, Some, None, List, length, slice_index_or}
use Rattle.xd_doc.specs.Document.{Document, size}
use Rattle.xd_doc.specs.Stored.{document_at}
use Rattle.xd_doc.specs.StoredSeq.{BelongsTo}
use Rattle.xd_doc.specs.StoreNodes.{Keeps}
use Rattle.xd_auto.specs.declared.auto.State.{State}
use Rattle.xd_auto.specs.Automaton.{Automaton, Extends, LeadsBelow, accepts, moves_at, state_number}
use Rattle.xd_least.specs.declared.document.LeastDocument.{LeastDocument}
use Rattle.xd_least.specs.declared.sizes.TheConstants.{SIZE_LIMIT}

-- what the state accepts
abbrev pub Accepts : Automaton → State → Document → Type 0
Accepts a s d = accepts a d s ≡ true

-- sizes are told apart below this number alone
abbrev pub size_limit : ℕ
size_limit = SIZE_LIMIT

-- a size as it is kept
abbrev pub capped : ℕ → ℕ
capped n = min n size_limit

-- a document of the store that the state accepts, with its size; no document that the state accepts
-- is smaller than the size that is kept
pub record IsLeastOf (a : Automaton) (ds : List Document) (s : State) (f : LeastDocument) : Type 0 where
  pub belongs : BelongsTo ds f.seq
  pub accepted : accepts a (document_at ds f.seq) s ≡ true
  pub sized : f.size ≡ capped (size (document_at ds f.seq))
  pub least : (d : Document) → accepts a d s ≡ true → f.size ≤ size d

-- what is known of the state; nothing past the end
abbrev pub known_of : List (Option LeastDocument) → State → Option LeastDocument
known_of fs s = slice_index_or fs (state_number s) None

-- the document that is known of the state
abbrev pub IsKnown : List (Option LeastDocument) → State → LeastDocument → Type 0
IsKnown fs s f = known_of fs s ≡ Some f

-- no document of the state is known
abbrev pub IsUnknown : List (Option LeastDocument) → State → Type 0
IsUnknown fs s = known_of fs s ≡ None

-- each document that is known is a least one of its state
abbrev pub AreLeast : Automaton → List Document → List (Option LeastDocument) → Type 0
AreLeast a ds fs = (s : State) (f : LeastDocument) → IsKnown fs s f → IsLeastOf a ds s f

-- the first states of the automaton lead to each other alone, and of each a least document is
-- known, or that it accepts none
pub record Knows (a : Automaton) (ds : List Document) (fs : List (Option LeastDocument)) : Type 0 where
  pub within : length fs ≤ length a
  pub closed : (s : State) → state_number s < length fs → LeadsBelow (length fs) (moves_at a s)
  pub least : AreLeast a ds fs
  pub none : (s : State) → state_number s < length fs → IsUnknown fs s → (d : Document) → accepts a d s ≡ false

-- for each state of the automaton a least document; none is there exactly where the state accepts
-- none
pub record AreAllLeast (a : Automaton) (ds : List Document) (fs : List (Option LeastDocument)) : Type 0 where
  pub count : length fs ≡ length a
  pub least : AreLeast a ds fs
  pub none : (s : State) → IsUnknown fs s → (d : Document) → accepts a d s ≡ false

-- what is known stays known of an automaton that extends the old one, with a store that keeps the
-- old documents
abbrev pub StaysKnown : List (Option LeastDocument) → Type 0
StaysKnown fs = (old new : Automaton) (ds es : List Document) → Extends old new → Keeps ds es → Knows old ds fs → Knows new es fs
