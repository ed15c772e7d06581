-- What variables are given on documents that a state accepts, and further states refuse.
use Rattle.std.specs.Prelude.{◌≡◌, ◌↔◌, ℕ, ◌<◌, Bool, true, false, List, length, slice_get, slice_index_or, Some}
use Rattle.xd_doc.specs.Document.{Document, is_proper}
use Rattle.xd_doc.specs.Runs.{Run, held}
use Rattle.xd_auto.specs.declared.auto.State.{State}
use Rattle.xd_auto.specs.Automaton.{Automaton, IsState, accepts}
use Rattle.xd_auto.specs.Traces.{Owned, IsGiven, trace_of}
use Rattle.xd_bind.specs.declared.tracks.Given.{Given}
use Rattle.xd_points.specs.declared.patterns.PatternStates.{PatternStates}
use Rattle.xd_points.specs.FirstRuns.{IsFirstRun}
use Rattle.xd_points.specs.Tables.{takes_alone}

-- the state accepts exactly these documents
abbrev pub AcceptsJust : (Document → Type 0) → Automaton → State → Type 0
AcceptsJust these made state = (e : Document) → (accepts made e state ≡ true) ↔ these e

-- the variable of this number, and a state that accepts exactly what it is given, where `gives` says
-- what that is for the owner of moves
pub record IsGivenFor (gives : Owned → Document → Type 0) (owned : ℕ → Owned) (variables : List (List ℕ)) (made : Automaton) (x : ℕ) (one : Given) : Type 0 where
  pub variable : slice_get variables x ≡ Some one.variable
  pub belongs : IsState made one.state
  pub given : AcceptsJust (gives (owned x)) made one.state

-- one for each variable, in their order, where `owned` are the moves that belong to the variable of
-- a number
pub record AreGivensFor (gives : Owned → Document → Type 0) (owned : ℕ → Owned) (variables : List (List ℕ)) (made : Automaton) (givens : List Given) : Type 0 where
  pub count : length givens ≡ length variables
  pub each : (x : ℕ) (d : Given) → x < length givens → IsGivenFor gives owned variables made x (slice_index_or givens x d)

-- an accepting run of the pattern's state gives the variable this document, on one that the left
-- accepts and none of the rights does
pub record IsGivenAlone (a : Automaton) (p : PatternStates) (b : Owned) (left pattern : State) (rights : List State) (e : Document) : Type 0 where
  pub given : IsGiven p.auto b pattern e
  pub alone : takes_alone a p left pattern rights given.document ≡ true

-- the first run of the pattern's state gives it so; the document is proper where this one is
pub record IsFirstGivenAlone (a : Automaton) (p : PatternStates) (b : Owned) (left pattern : State) (rights : List State) (e : Document) : Type 0 where
  pub document : Document
  pub proper : is_proper e ≡ true → is_proper document ≡ true
  pub run : Run ℕ
  pub first : IsFirstRun p.auto document pattern run
  pub gives : held document (trace_of p.auto b pattern run) ≡ e
  pub alone : takes_alone a p left pattern rights document ≡ true

-- what runs of either kind give
abbrev pub IsGivenAloneBy : Bool → Automaton → PatternStates → State → State → List State → Owned → Document → Type 0
IsGivenAloneBy false a p left pattern rights b e = IsGivenAlone a p b left pattern rights e
IsGivenAloneBy true a p left pattern rights b e = IsFirstGivenAlone a p b left pattern rights e

-- of accepting runs: a state for what one variable may be, and one for each variable
abbrev pub AcceptsGivenAlone : Automaton → PatternStates → Owned → State → State → List State → Automaton → State → Type 0
AcceptsGivenAlone a p b left pattern rights = AcceptsJust (IsGivenAloneBy false a p left pattern rights b)

abbrev pub IsGivenAloneOf : Automaton → PatternStates → (ℕ → Owned) → State → State → List State → List (List ℕ) → Automaton → ℕ → Given → Type 0
IsGivenAloneOf a p owned left pattern rights = IsGivenFor (IsGivenAloneBy false a p left pattern rights) owned

abbrev pub AreGivensAlone : Automaton → PatternStates → (ℕ → Owned) → State → State → List State → List (List ℕ) → Automaton → List Given → Type 0
AreGivensAlone a p owned left pattern rights = AreGivensFor (IsGivenAloneBy false a p left pattern rights) owned

-- the same of first runs
abbrev pub AcceptsFirstAlone : Automaton → PatternStates → Owned → State → State → List State → Automaton → State → Type 0
AcceptsFirstAlone a p b left pattern rights = AcceptsJust (IsGivenAloneBy true a p left pattern rights b)

abbrev pub IsFirstGivenAloneOf : Automaton → PatternStates → (ℕ → Owned) → State → State → List State → List (List ℕ) → Automaton → ℕ → Given → Type 0
IsFirstGivenAloneOf a p owned left pattern rights = IsGivenFor (IsGivenAloneBy true a p left pattern rights) owned

abbrev pub AreFirstGivensAlone : Automaton → PatternStates → (ℕ → Owned) → State → State → List State → List (List ℕ) → Automaton → List Given → Type 0
AreFirstGivensAlone a p owned left pattern rights = AreGivensFor (IsGivenAloneBy true a p left pattern rights) owned

-- both accept some document, a proper one, and none of the rights does
pub record IsSharedAlone (a : Automaton) (p : PatternStates) (left pattern : State) (rights : List State) : Type 0 where
  pub document : Document
  pub proper : is_proper document ≡ true
  pub alone : takes_alone a p left pattern rights document ≡ true
