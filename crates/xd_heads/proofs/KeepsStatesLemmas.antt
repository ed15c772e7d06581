-- A sound program meets what the core asks for, and the core gives what the calls on it promise.
use Rattle.std.proofs.Common.{◌≡◌, ◌<◌, Bool, false, List, length, get_or, Some, arith, ap, ◌∙◌}
use Rattle.xd_doc.proofs.Bools.{same_tests}
use Rattle.xd_syntax.specs.Tree.{Tree, seq_of}
use Rattle.xd_syntax.specs.Table.{Row, AreBuilt, KeepsRows, tree_at}
use Rattle.xd_syntax.specs.Kept.{ProgramTable, ProgramStands, program_tree}
use Rattle.xd_syntax.specs.Program.{names_of}
use Rattle.xd_syntax.specs.RecursionFaults.{IsSound}
use Rattle.xd_sound.specs.TypeNames.{meanings}
use Rattle.xd_meaning.specs.CanBeEmpty.{can_be_empty}
use Rattle.xd_sound.specs.Emptiness.{AreEmptyMarks}
use Rattle.xd_syntax.specs.declared.types.TypeDef.{TypeDef}
use Rattle.xd_laws.specs.Guarded.{Guarded}
use Rattle.xd_laws.proofs.SoundGuarded.{guarded}
use Rattle.xd_laws.proofs.HeadsLaw.{empty_exact, empty_right}
use Rattle.xd_auto.specs.Automaton.{Automaton, state_number}
use Rattle.xd_auto.specs.declared.auto.State.{State}
use Rattle.xd_continuations.specs.Continuation.{AreMerged}
use Rattle.xd_continuations.proofs.IsMergedLemmas.{program_merged}
use Rattle.xd_continuations.proofs.SoundTail.{recurs_only_in_tail}
use Rattle.xd_continuations.proofs.GrownTables.{bodies_stand}
use Rattle.xd_moves.specs.Found.{AreDecidingMarks, AreOfTypes}
use Rattle.xd_heads.specs.States.{number_at}
use Rattle.xd_heads.specs.Compiled.{AreAllCompiled, AreSorted}
use Rattle.xd_heads.specs.CellsView.{CellsView}
use Rattle.xd_heads.specs.Mirrors.{continuation_of, KeepsStates, Mirrors}
use Rattle.xd_moves.proofs.PutsTasksLemmas.{continuation_kept}
use Rattle.xd_heads.proofs.StateLemmas.{number_below, number_front, number_within}
use Rattle.xd_heads.proofs.Mirrored.{type_is, type_of_number, types_stay, to_mirrors}

pub are_merged : (p : ProgramTable) → ProgramStands p → AreBuilt false p.types → AreMerged (names_of (program_tree p))
are_merged p s b = program_merged p b (bodies_stand p s)

-- marks that say of each node whether the empty document fits it say whether it can be empty
pub marks_decide : (types : List Row) (ds : List TypeDef) → Guarded (meanings types ds) → (marks : List Bool) → AreEmptyMarks types ds marks → AreDecidingMarks types ds marks
marks_decide types ds guarded marks m = record {
  count = m.count;
  right = λ i h.
      same_tests (get_or marks i false) (can_be_empty (meanings types ds) (tree_at types i))
      (λ e. empty_exact (meanings types ds) guarded (tree_at types i) ((m.exact i h).0 e))
      (λ e. (m.exact i h).1 (empty_right (meanings types ds) (tree_at types i) e));
}

-- ---- what is compiled

module _ (p : ProgramTable) (old new : CellsView) (a b : Automaton) (stands : ProgramStands p) (built : AreBuilt false p.types) (sound : IsSound (program_tree p)) (m : Mirrors p old a)
    (all : AreAllCompiled p.types p.type_defs old.cells new.cells old.states new.states b) where
  pub compiled_keeps : KeepsStates p.types p.types old new
  compiled_keeps = record {
    types = λ s T e.
        let r = type_is p.types old s T e in
        let n : number_at new.states (state_number s) ≡ Some r.0 = ap (λ os. number_at os (state_number s)) all.states_added.grown
        ∙ number_front old.states all.states_added.more (state_number s) r.0 r.1 in
        type_of_number p.types new s r.0 n
        ∙ ap (λ K. Some (seq_of K)) (continuation_kept p.types old.cells new.cells all.cells_added.kept r.0 (number_below (length old.cells) old.states (state_number s) r.0 m.kept.numbers r.1))
        ∙ ap Some r.2;
  }

  pub compiled_mirrors_again : AreSorted p.types p.type_defs new.cells new.states new.sorts (length new.states) → Mirrors p new b
  compiled_mirrors_again sorted =
      to_mirrors p new b (are_merged p stands built) all.compiled sorted (all.cells_added.nodes m.kept.nodes)
      (all.bounded (recurs_only_in_tail (program_tree p) sound) (bodies_stand p stands) m.kept.bounded)

-- what is kept while types are added, and then too
pub keeps_from : (old types : List Row) → KeepsRows old types → (c d : CellsView) → AreOfTypes old c.cells → KeepsStates types types c d → KeepsStates old types c d
keeps_from old types k c d a s = record { types = λ t T e. s.types t T (types_stay old types k c a t ∙ e) }

-- a state with a continuation is there
pub type_state : (types : List Row) (c : CellsView) (a : Automaton) (s : State) (T : Tree) → length a ≡ length c.states → continuation_of types c s ≡ Some T → state_number s < length a
type_state types c a s T o e = let r = type_is types c s T e in let w = number_within c.states (state_number s) r.0 r.1 in omega arith
