-- The laws of continuations.
use Rattle.std.proofs.Common.{[], sym, subst, ◌∙◌, append-nil}
use Rattle.xd_doc.proofs.Lists.{all_more}
use Rattle.xd_doc.specs.Members.{IsOneOf}
use Rattle.xd_syntax.specs.Tree.{seq_of}
use Rattle.xd_syntax.specs.Fits.{Fits}
use Rattle.xd_meaning.specs.Heads.{pieces}
use Rattle.xd_meaning.specs.HeadBegins.{Begins}
use Rattle.xd_syntax.specs.Program.{names_of}
use Rattle.xd_laws.proofs.Documents.{filled}
use Rattle.xd_syntax.proofs.Members.{map_mem, mem_map}
use Rattle.xd_laws.proofs.HeadsLaw.{head_fits, fits_head}
use Rattle.xd_laws.proofs.SoundGuarded.{guarded}
use Rattle.xd_continuations.specs.Continuation.{Move, moves, head_of, IsContinuation}
use Rattle.xd_continuations.specs.Bounds.{IsBounded}
use Rattle.xd_continuations.specs.Expansion.{tasks_of, Gives}
use Rattle.xd_continuations.specs.Laws.{PiecesMean, MeaningsAreOne, MovesAreHeads, MovesContinue, MovesDecide, SoundRecursInTail, FinitelyMany, BoundsStayInSound, BoundsGrow, TasksStand, TasksStep, TasksGive, StatesAccept, ProgramsAreMerged}
use Rattle.xd_continuations.proofs.AreMirroredLemmas.{mirrors_accept}
use Rattle.xd_continuations.proofs.IsMergedLemmas.{program_merged}
use Rattle.xd_continuations.proofs.MoveLemmas.{pieces_stand, pieces-seq_of, seq_of-pieces, IsMove, moves_are_heads, moves_continue}
use Rattle.xd_continuations.proofs.IsBoundedLemmas.{bounded_larger, bounded_length, bounded_rest, bounded_pieces, bounded_start}
use Rattle.xd_continuations.proofs.FiniteLemmas.{finitely_many}
use Rattle.xd_continuations.proofs.SoundTail.{recurs_only_in_tail}
use Rattle.xd_continuations.proofs.TaskBounds.{along_bounded, left_bounded}
use Rattle.xd_continuations.proofs.TaskLemmas.{tasks_stand, step_gives, step_falls, gives_moves, all_worked}

pub pieces_mean : PiecesMean
pieces_mean T m = (pieces_stand T m, seq_of-pieces T m)

pub meanings_are_one : MeaningsAreOne
meanings_are_one K k = pieces-seq_of K k

pub moves_are_heads_in : MovesAreHeads
moves_are_heads_in E m K k = moves_are_heads E m K k

pub moves_continue_in : MovesContinue
moves_continue_in E m K k =
    all_more IsMove (λ v. IsContinuation v.content × IsContinuation v.rest) (moves E K) (λ v i. (i.content, i.rest)) (moves_continue E m K k)

pub moves_decide : MovesDecide
moves_decide P s merged K k d i = (there, back)
  where
    there : Fits (names_of P) (seq_of K) d → (m : Move) × IsOneOf m (moves (names_of P) K) × Begins (names_of P) (head_of m) d
    there f =
        let r = fits_head (names_of P) (guarded P s) (seq_of K) d f (filled d i) in
        let q = mem_map head_of r.0 (moves (names_of P) K) (subst (IsOneOf r.0) (moves_are_heads (names_of P) merged K k) r.1) in
        (q.0, q.1, subst (λ h. Begins (names_of P) h d) (sym q.2) r.2)

    back : ((m : Move) × IsOneOf m (moves (names_of P) K) × Begins (names_of P) (head_of m) d) → Fits (names_of P) (seq_of K) d
    back r =
        head_fits (names_of P) (seq_of K) (head_of r.0) d
        (subst (IsOneOf (head_of r.0)) (sym (moves_are_heads (names_of P) merged K k)) (map_mem head_of r.0 (moves (names_of P) K) r.1)) r.2

pub sound_recurs_in_tail : SoundRecursInTail
sound_recurs_in_tail P s = recurs_only_in_tail P s

pub finitely_many_in : FinitelyMany
finitely_many_in P s T K r = finitely_many (names_of P) (recurs_only_in_tail P s) T r

pub bounds_stay : BoundsStayInSound
bounds_stay P s m small = record {
  short = bounded_length (names_of P) m;
  content = λ T h. subst (IsBounded (names_of P) m) (append-nil (pieces T)) (bounded_pieces (names_of P) m T [] (bounded_start (names_of P) m T h));
  rest = bounded_rest (names_of P) m;
  tasks = along_bounded (names_of P) m;
  left = left_bounded (names_of P) m (recurs_only_in_tail P s) small;
}

pub bounds_grow : BoundsGrow
bounds_grow E m k K b = bounded_larger E m k K b

pub tasks_stand_in : TasksStand
tasks_stand_in E K = tasks_stand E K

pub tasks_step : TasksStep
tasks_step P s T K ts = (step_gives (names_of P) (guarded P s) T K ts, step_falls (names_of P) (guarded P s) T K ts)

pub tasks_give : TasksGive
tasks_give P s K = (
  subst (Gives (names_of P) (tasks_of (names_of P) K)) (tasks_stand (names_of P) K) (all_worked (names_of P) (guarded P s) (tasks_of (names_of P) K)),
  λ ms g. gives_moves (names_of P) (guarded P s) g ∙ tasks_stand (names_of P) K,
)

pub states_accept : StatesAccept
states_accept P s merged C a mirrors d t K e = mirrors_accept (names_of P) (guarded P s) merged C a mirrors d t K e

pub programs_are_merged : ProgramsAreMerged
programs_are_merged p a h = program_merged p a h
