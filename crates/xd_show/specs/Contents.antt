-- What is written for contents, where names stand for states.
use Rattle.std.specs.Prelude.{◌≡◌, ◌↔◌, ◌<◌, ℕ, true, List, [], ◌∷◌, length, get_or, Option}
use Rattle.std.specs.List.{AllByRecursion}
use Rattle.xd_doc.specs.Document.{Document}
use Rattle.xd_auto.specs.declared.auto.State.{State}
use Rattle.xd_auto.specs.declared.auto.LabelMove.{LabelMove}
use Rattle.xd_auto.specs.Automaton.{Automaton, IsState, accepts, moves_at}
use Rattle.xd_doc.specs.Classes.{LabelClass}
use Rattle.xd_syntax.specs.Words.{any_word, has_word}
use Rattle.xd_syntax.specs.Tree.{Tree, Elem, Name}
use Rattle.xd_syntax.specs.Table.{Row, KeepsRows, tree_at}
use Rattle.xd_syntax.specs.Types.{BelongsTo}
use Rattle.xd_syntax.specs.declared.types.TypeId.{TypeId}
use Rattle.xd_same_types.specs.Grown.{NamesAmong}
use Rattle.xd_same_types.specs.Same.{Meaning, FitsAs, HasTops}
use Rattle.xd_show_solve.specs.Levels.{AreContents, IsWritten, MeansAny, WrittenBelong}

-- each of the words stands for what the state at its place accepts
abbrev pub MeansStates : Automaton → List (List ℕ) → List State → Meaning → Type 0
MeansStates a words named N = (k : ℕ) (w : List ℕ) (s : State) → k < length named → w ≡ get_or words k w → s ≡ get_or named k s → (d : Document) → N w d ≡ accepts a d s

-- each of the words is known
abbrev pub AreKnown : List (List ℕ) → List (List ℕ) → Type 0
AreKnown known words = AllByRecursion (λ w. has_word known w ≡ true) words

-- nodes were added, but no names aside from these words
pub record GrowsNames (words : List (List ℕ)) (old new : List Row) : Type 0 where
  pub rows : KeepsRows old new
  pub names : (known : List (List ℕ)) → AreKnown known words → NamesAmong known old → NamesAmong known new

-- More is written for contents. What was right is right, where names stand for what `P` says.
pub record GrowsContents (P : Meaning → Type 0) (a : Automaton) (old : List Row) (before : List (Option TypeId)) (new : List Row) (after : List (Option TypeId)) : Type 0 where
  pub count : length after ≡ length before
  pub right : (N : Meaning) → P N → AreContents a N old before → AreContents a N new after
  pub belong : WrittenBelong old before → WrittenBelong new after
  pub written : (s : State) → IsWritten before s → IsWritten after s

-- Where what is written for contents is right, just what the state accepts fits the type.
pub record IsTypeOf (P : Meaning → Type 0) (a : Automaton) (old : List Row) (written : List (Option TypeId)) (s : State) (new : List Row) (id : TypeId) : Type 0 where
  pub exact : (N : Meaning) → P N → AreContents a N old written → (d : Document) → (accepts a d s ≡ true) ↔ FitsAs N (tree_at new id.at) d
  pub belongs : BelongsTo new id
  pub tops : HasTops (any_word ∷ []) (tree_at new id.at)

-- for each content of each move a type is written
abbrev pub AreAllWritten : Automaton → List (Option TypeId) → Type 0
AreAllWritten a written = (s : State) → IsState a s → AllByRecursion (λ (m : LabelMove). IsWritten written m.content) (moves_at a s).labels

-- the word stands for what the state accepts
abbrev pub MeansState : Automaton → List ℕ → State → Meaning → Type 0
MeansState a w s N = (d : Document) → N w d ≡ accepts a d s

-- so it does, and `Any` stands for every document
abbrev pub MeansAnyAnd : Automaton → List ℕ → State → Meaning → Type 0
MeansAnyAnd a w s N = MeansAny N × MeansState a w s N

-- so do all these words
abbrev pub MeansAnyAndStates : Automaton → List (List ℕ) → List State → Meaning → Type 0
MeansAnyAndStates a words named N = MeansAny N × MeansStates a words named N

-- nothing is written but `Any` for states that accept every document
pub record AreFirst (a : Automaton) (types : List Row) (written : List (Option TypeId)) : Type 0 where
  pub count : length written ≡ length a
  pub right : (N : Meaning) → MeansAny N → AreContents a N types written
  pub belong : WrittenBelong types written

-- What is written for the contents of an automaton, where words stand for states: no name is used
-- but these words and `Any`.
pub record AreContentsBy (a : Automaton) (words : List (List ℕ)) (named : List State) (types : List Row) (written : List (Option TypeId)) : Type 0 where
  pub count : length written ≡ length a
  pub right : (N : Meaning) → MeansAnyAndStates a words named N → AreContents a N types written
  pub belong : WrittenBelong types written
  pub names : NamesAmong (any_word ∷ words) types

-- the type is the name under a label
abbrev pub IsUnderLabel : List ℕ → Tree → Type 0
IsUnderLabel w T = (k : LabelClass) × (T ≡ Elem k (Name w))

-- where what is written for contents is right, each type stands for the state at its place
pub record AreBodiesBy (a : Automaton) (words : List (List ℕ)) (named : List State) (old : List Row) (written : List (Option TypeId)) (new : List Row) (bodies : List TypeId) : Type 0 where
  pub count : length bodies ≡ length named
  pub each : (k : ℕ) (w : List ℕ) (s : State) (id : TypeId) → k < length named → w ≡ get_or words k w → s ≡ get_or named k s → id ≡ get_or bodies k id → IsTypeOf (MeansAnyAnd a w s) a old written s new id
