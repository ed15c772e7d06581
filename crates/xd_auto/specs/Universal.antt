-- States that accept every document in the plainest way.
use Rattle.std.specs.Prelude.{◌≡◌, true, [], ◌∷◌}
use Rattle.xd_doc.specs.Classes.{NameClass}
use Rattle.xd_auto.specs.declared.auto.State.{State}
use Rattle.xd_auto.specs.declared.auto.LabelMove.{LabelMove}
use Rattle.xd_auto.specs.declared.auto.TextMove.{TextMove}
use Rattle.xd_auto.specs.Automaton.{Automaton, IsState, StateMoves, moves_at}

-- the class of all names
abbrev pub every_name : NameClass
every_name = record { names = []; except = true }

-- one move on every element, and one on every text, each back to the state
abbrev pub moves_back : State → LabelMove
moves_back s = record { class = every_name; content = s; rest = s }

abbrev pub reads_back : State → TextMove
reads_back s = record { words = every_name; rest = s }

abbrev pub universal_moves : State → StateMoves
universal_moves s = record { last = true; labels = moves_back s ∷ []; texts = reads_back s ∷ [] }

-- the state has these moves alone, and accepts the empty document
pub record IsUniversal (a : Automaton) (s : State) : Type 0 where
  pub state : IsState a s
  pub moves : moves_at a s ≡ universal_moves s
