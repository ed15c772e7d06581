-- Laws of continuations.
use Rattle.std.specs.Prelude.{Some, false, ◌≡◌, ℕ, ◌+◌, ◌<◌, ◌≤◌, ◌↔◌, true, List, ◌∷◌, ◌++◌, map, length}
use Rattle.std.specs.List.{AllByRecursion}
use Rattle.xd_doc.specs.Document.{Document, has_item}
use Rattle.xd_doc.specs.Members.{IsOneOf}
use Rattle.xd_syntax.specs.Tree.{Tree, Definitions, seq_of}
use Rattle.xd_syntax.specs.Fits.{Fits}
use Rattle.xd_meaning.specs.Heads.{pieces, heads}
use Rattle.xd_meaning.specs.HeadBegins.{Begins}
use Rattle.xd_syntax.specs.Program.{ProgramTree, names_of}
use Rattle.xd_syntax.specs.RecursionFaults.{IsSound}
use Rattle.xd_syntax.specs.Table.{AreBuilt}
use Rattle.xd_syntax.specs.Kept.{ProgramTable, program_tree}
use Rattle.xd_syntax.specs.declared.types.TypeDef.{TypeDef}
use Rattle.xd_auto.specs.Automaton.{Automaton, accepts}
use Rattle.xd_auto.specs.declared.auto.State.{State}
use Rattle.xd_syntax.specs.TypeDepth.{depth}
use Rattle.xd_continuations.specs.Depths.{NoneDeeper, IsNoDeeper}
use Rattle.xd_continuations.specs.Mirrors.{Continuations, AreMirrors}
use Rattle.xd_continuations.specs.Continuation.{Move, moves, head_of, IsMerged, AreMerged, IsContinuation}
use Rattle.xd_continuations.specs.TailUses.{RecursOnlyInTail}
use Rattle.xd_continuations.specs.Bounds.{Reached, NoneLarger, node_count, longest, possible, IsBounded}
use Rattle.xd_continuations.specs.Expansion.{Task, task, own_moves, tasks_left, tasks_of, Gives, moves_to_come, work_left}

-- the pieces of a type are a continuation that means the type
abbrev pub PiecesMean : Type 0
PiecesMean = (T : Tree) → IsMerged T → IsContinuation (pieces T) × (seq_of (pieces T) ≡ T)

-- and a continuation is the list of the pieces of what it means
abbrev pub MeaningsAreOne : Type 0
MeaningsAreOne = (K : List Tree) → IsContinuation K → pieces (seq_of K) ≡ K

-- the moves of a continuation are the heads of the type that it means, in order, repetitions kept
abbrev pub MovesAreHeads : Type 0
MovesAreHeads = (E : Definitions) → AreMerged E → (K : List Tree) → IsContinuation K → heads E (seq_of K) ≡ map head_of (moves E K)

-- content and rest of each move are continuations
abbrev pub MovesContinue : Type 0
MovesContinue = (E : Definitions) → AreMerged E → (K : List Tree) → IsContinuation K →
    AllByRecursion (λ (m : Move). IsContinuation m.content × IsContinuation m.rest) (moves E K)

-- a document with an item fits what a continuation means exactly where it begins as one of the
-- moves
abbrev pub MovesDecide : Type 0
MovesDecide = (P : ProgramTree) → IsSound P → AreMerged (names_of P) → (K : List Tree) → IsContinuation K → (d : Document) → has_item d ≡ true →
    Fits (names_of P) (seq_of K) d ↔ ((m : Move) × IsOneOf m (moves (names_of P) K) × Begins (names_of P) (head_of m) d)

-- a sound program recurs only in tail position
abbrev pub SoundRecursInTail : Type 0
SoundRecursInTail = (P : ProgramTree) → IsSound P → RecursOnlyInTail (names_of P)

-- the continuations that a type leads to are among finitely many
abbrev pub FinitelyMany : Type 0
FinitelyMany = (P : ProgramTree) → IsSound P → (T : Tree) (K : List Tree) → Reached (names_of P) T K → IsOneOf K (possible (names_of P) T)

-- What a loop over continuations keeps, where no definition has more than m nodes: the tasks that a
-- bounded task leaves are bounded, and so are the content and the rest of the moves that it gives,
-- where the contents have no more than m nodes.
abbrev pub IsBoundedTask : Definitions → ℕ → Task → Type 0
IsBoundedTask E m t = IsBounded E m (t.part ∷ t.behind)

pub record BoundsStay (E : Definitions) (m : ℕ) : Type 0 where
  pub short : (K : List Tree) → IsBounded E m K → length K ≤ longest E m
  pub content : (T : Tree) → node_count T ≤ m → IsBounded E m (pieces T)
  pub rest : (T : Tree) (K : List Tree) → IsBounded E m (T ∷ K) → IsBounded E m K
  pub tasks : (K : List Tree) → IsBounded E m K → AllByRecursion (IsBoundedTask E m) (tasks_of E K)
  pub left : (T : Tree) (K : List Tree) → IsBounded E m (T ∷ K) → AllByRecursion (IsBoundedTask E m) (tasks_left E T K)

abbrev pub BoundsStayInSound : Type 0
BoundsStayInSound = (P : ProgramTree) → IsSound P → (m : ℕ) → NoneLarger m (names_of P) → BoundsStay (names_of P) m

-- what is bounded stays so where types may be larger
abbrev pub BoundsGrow : Type 0
BoundsGrow = (E : Definitions) (m k : ℕ) (K : List Tree) → IsBounded E m K → IsBounded E (m + k) K

-- the tasks of a continuation stand for its moves, in order, repetitions kept
abbrev pub TasksStand : Type 0
TasksStand = (E : Definitions) (K : List Tree) → moves_to_come E (tasks_of E K) ≡ moves E K

-- a task that is worked off gives its own moves before those to come, and leaves less to do
abbrev pub TasksStep : Type 0
TasksStep = (P : ProgramTree) → IsSound P → (T : Tree) (K : List Tree) (ts : List Task) →
    (moves_to_come (names_of P) (task K T ∷ ts) ≡ own_moves T K ++ moves_to_come (names_of P) (tasks_left (names_of P) T K ++ ts))
    × (work_left (names_of P) (tasks_left (names_of P) T K ++ ts) + 1 ≤ work_left (names_of P) (task K T ∷ ts))

-- so the tasks of a continuation are worked off, and give its moves and no others
abbrev pub TasksGive : Type 0
TasksGive = (P : ProgramTree) → IsSound P → (K : List Tree) →
    Gives (names_of P) (tasks_of (names_of P) K) (moves (names_of P) K)
    × ((ms : List Move) → Gives (names_of P) (tasks_of (names_of P) K) ms → ms ≡ moves (names_of P) K)

-- what a state accepts whose continuation and moves it mirrors is what the continuation means
abbrev pub StatesAccept : Type 0
StatesAccept = (P : ProgramTree) → IsSound P → AreMerged (names_of P) → (C : Continuations) (a : Automaton) → AreMirrors (names_of P) C a →
    (d : Document) (s : State) (K : List Tree) → C s ≡ Some K → (accepts a d s ≡ true) ↔ Fits (names_of P) (seq_of K) d

-- contents and rests of moves are no deeper than the continuation and the definitions
abbrev pub MovesAreNoDeeper : Type 0
MovesAreNoDeeper = (limit : ℕ) → 1 ≤ limit → (E : Definitions) → AreMerged E → NoneDeeper limit E → (K : List Tree) → IsContinuation K → depth (seq_of K) ≤ limit →
    AllByRecursion (IsNoDeeper limit) (moves E K)

-- the definitions of a program in tables are merged
abbrev pub ProgramsAreMerged : Type 0
ProgramsAreMerged = (p : ProgramTable) → AreBuilt false p.types → AllByRecursion (λ (d : TypeDef). d.body.at < length p.types) p.type_defs →
    AreMerged (names_of (program_tree p))
