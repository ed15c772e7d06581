-- What runs of a compiled pattern give its variables is what its ways bind them to.
use Rattle.std.specs.Prelude.{◌≡◌, ◌↔◌, ℕ, true, List, []}
use Rattle.xd_doc.specs.Document.{Document, is_proper}
use Rattle.xd_auto.specs.declared.auto.State.{State}
use Rattle.xd_auto.specs.Automaton.{Automaton, accepts}
use Rattle.xd_syntax.specs.Words.{has_word}
use Rattle.xd_syntax.specs.Tree.{Definitions, occurrences}
use Rattle.xd_syntax.specs.Placed.{PlacedTree, unplaced}
use Rattle.xd_syntax.specs.May.{MayBind}
use Rattle.xd_auto.specs.Traces.{IsGiven, KeepsTogether, Owned}
use Rattle.xd_patterns.specs.Marked.{Marking, IsCompiled, moves_of}

-- in each accepting run the items of a variable stand directly one after another
abbrev pub CompiledKeepTogether : Type 0
CompiledKeepTogether = (E : Definitions) (P : PlacedTree) (a : Automaton) (k : Marking) (s : State) → IsCompiled E (unplaced P) a k s → (x : List ℕ) → KeepsTogether a (moves_of k x) s

-- an accepting run gives the variable this document, on one that the other automaton's state accepts
pub record IsGivenWhere (a other : Automaton) (b : Owned) (s t : State) (e : Document) : Type 0 where
  pub given : IsGiven a b s e
  pub accepted : accepts other given.document t ≡ true

-- on documents that another state accepts, accepting runs give a variable what whole ways bind it
-- to
abbrev pub CompiledTell : Type 0
CompiledTell = (E : Definitions) (P : PlacedTree) (a : Automaton) (k : Marking) (s : State) → IsCompiled E (unplaced P) a k s → (x : List ℕ) → has_word (occurrences (unplaced P)) x ≡ true →
    (other : Automaton) (t : State) (e : Document) → is_proper e ≡ true → IsGivenWhere a other (moves_of k x) s t e ↔ MayBind E (λ d. accepts other d t ≡ true) [] P x e
