-- States that accept the same, made one.
use Rattle.std.specs.Prelude.{◌≡◌, ℕ, ◌<◌, ◌≤◌, ◌⊎◌, List, ◌++◌, map, length, nat_eq, Option, Some, slice_index_or}
use Rattle.std.specs.HashMap.{HashMap, get}
use Rattle.std.specs.List.{AllByRecursion, AllZip}
use Rattle.xd_doc.specs.Document.{Document}
use Rattle.xd_auto.specs.declared.auto.State.{State}
use Rattle.xd_auto.specs.declared.auto.LabelMove.{LabelMove}
use Rattle.xd_auto.specs.declared.auto.TextMove.{TextMove}
use Rattle.xd_auto.specs.Automaton.{Automaton, ChangesOnly, IsState, accepts, moves_at, no_moves, state_number}
use Rattle.xd_boole.specs.Universal.{AcceptsAll}
use Rattle.xd_boole.specs.declared.merging.Compared.{Compared}

-- the state that stands in for a state
abbrev pub stand_in : List State → State → State
stand_in same s = slice_index_or same (state_number s) s

-- for each state one that accepts the same
pub record AreStandIns (a : Automaton) (same : List State) : Type 0 where
  pub count : length same ≡ length a
  pub states : AllByRecursion (IsState a) same
  pub accept : (d : Document) (s : State) → accepts a d (stand_in same s) ≡ accepts a d s

-- these are the states that are compared, or the same state stands in for both
abbrev pub IsLike : List State → Compared → State → State → Type 0
IsLike same c u v = ((u ≡ c.one) × (v ≡ c.other)) ⊎ (stand_in same u ≡ stand_in same v)

pub record IsLikeLabel (same : List State) (c : Compared) (m n : LabelMove) : Type 0 where
  pub class : m.class ≡ n.class
  pub content : IsLike same c m.content n.content
  pub rest : IsLike same c m.rest n.rest

pub record IsLikeText (same : List State) (c : Compared) (m n : TextMove) : Type 0 where
  pub words : m.words ≡ n.words
  pub rest : IsLike same c m.rest n.rest

-- the states that are compared have moves on the same names, in the same order, to states that are
-- like each other
pub record AreLike (a : Automaton) (same : List State) (c : Compared) : Type 0 where
  pub last : (moves_at a c.one).last ≡ (moves_at a c.other).last
  pub labels : AllZip (IsLikeLabel same c) (moves_at a c.one).labels (moves_at a c.other).labels
  pub texts : AllZip (IsLikeText same c) (moves_at a c.one).texts (moves_at a c.other).texts

-- they are like each other, or both accept everything
abbrev pub AreBisimilar : Automaton → List State → Compared → Type 0
AreBisimilar a same c = AreLike a same c ⊎ (AcceptsAll a c.one × AcceptsAll a c.other)

-- a move that leads to the states that stand in for its own
abbrev pub redirected : List State → LabelMove → LabelMove
redirected same m = record { class = m.class; content = stand_in same m.content; rest = stand_in same m.rest }

abbrev pub text_redirected : List State → TextMove → TextMove
text_redirected same m = record { words = m.words; rest = stand_in same m.rest }

-- these moves were given to the state, redirected
pub record RedirectsLabels (same : List State) (s : State) (moves : List LabelMove) (old new : Automaton) : Type 0 where
  pub others : ChangesOnly s old new
  pub last : (moves_at new s).last ≡ (moves_at old s).last
  pub labels : (moves_at new s).labels ≡ (moves_at old s).labels ++ map (redirected same) moves
  pub texts : (moves_at new s).texts ≡ (moves_at old s).texts

pub record RedirectsTexts (same : List State) (s : State) (moves : List TextMove) (old new : Automaton) : Type 0 where
  pub others : ChangesOnly s old new
  pub last : (moves_at new s).last ≡ (moves_at old s).last
  pub labels : (moves_at new s).labels ≡ (moves_at old s).labels
  pub texts : (moves_at new s).texts ≡ (moves_at old s).texts ++ map (text_redirected same) moves

-- the state has its moves, redirected
pub record IsRedirected (a : Automaton) (same : List State) (made : Automaton) (s : State) : Type 0 where
  pub last : (moves_at made s).last ≡ (moves_at a s).last
  pub labels : (moves_at made s).labels ≡ map (redirected same) (moves_at a s).labels
  pub texts : (moves_at made s).texts ≡ map (text_redirected same) (moves_at a s).texts

-- the first states have their moves, and the others none yet
pub record RedirectsFirst (a : Automaton) (same : List State) (made : Automaton) (n : ℕ) : Type 0 where
  pub count : length made ≡ length a
  pub done : (s : State) → state_number s < n → state_number s < length a → IsRedirected a same made s
  pub bare : (s : State) → n ≤ state_number s → state_number s < length a → moves_at made s ≡ no_moves (moves_at a s).last

-- what was kept under a number
abbrev pub found_at : {S : Type 0} → HashMap ℕ State S → ℕ → Option State
found_at {S = S} found key = get nat_eq found key

-- all that is kept are states
abbrev pub KeepStates : {S : Type 0} → Automaton → HashMap ℕ State S → Type 0
KeepStates {S = S} a found = (key : ℕ) (s : State) → found_at found key ≡ Some s → IsState a s
