-- The goals of a proof of a row are such that a text can have them, and their text proves the row.
use Rattle.std.proofs.Common.{◌≡◌, ℕ, ◌≤◌, List, [], ◌∷◌, Option, sym, subst, ◌∙◌}
use Rattle.std.specs.List.{AllByRecursion}
use Rattle.xd_syntax.specs.Tree.{Tree}
use Rattle.xd_syntax.specs.TypeDepth.{depth}
use Rattle.xd_syntax.specs.NameFaults.{known_types}
use Rattle.xd_syntax.specs.Program.{ProgramTree, names_of}
use Rattle.xd_syntax.specs.Kept.{ProgramTable, AddsTypes, program_tree}
use Rattle.xd_syntax.specs.ShallowTables.{IsShallow}
use Rattle.xd_syntax.specs.Shallow.{nesting_limit}
use Rattle.xd_auto.specs.Automaton.{Automaton}
use Rattle.xd_auto.specs.declared.auto.State.{State}
use Rattle.xd_meaning.specs.Consistent.{Goal, IsConsistent}
use Rattle.xd_meaning.specs.Violation.{goals_of}
use Rattle.xd_goals.specs.Rows.{GoalRow, TableView, row_at}
use Rattle.xd_heads.specs.CellsView.{CellsView}
use Rattle.xd_heads.specs.Mirrors.{Mirrors, continuation_of}
use Rattle.xd_heads.proofs.Mirrored.{types_stay}
use Rattle.xd_proof.specs.declared.proof.ProofGoal.{ProofGoal}
use Rattle.xd_proof_make.specs.Written.{AreTypes}
use Rattle.xd_proof_make.specs.Made.{IsBetween, IsProofOf, UsesDefined}
use Rattle.xd_proof_write.specs.SecondText.{types_of}
use Rattle.xd_proof_write.specs.Laws.{AreWritable, IsWritable, SpellsGoals}
use Rattle.xd_proof_make.specs.ProofText.{IsOfKnownNames, ProvesRow, UsesKnownNames}

all_writable : (P : ProgramTree) (Ts : List Tree) → AllByRecursion (UsesDefined P) Ts → AllByRecursion (λ T. depth T ≤ nesting_limit) Ts → AllByRecursion (IsWritable (known_types P)) Ts
all_writable P [] n s = tt
all_writable P (T ∷ Ts) n s = (record { names = n.0; shallow = s.0 }, all_writable P Ts n.1 s.1)

rights_defined : (P : ProgramTree) (C : State → Option Tree) (ss : List State) (Ts : List Tree) → AllByRecursion (IsOfKnownNames P C) ss → AreTypes C ss Ts → AllByRecursion (UsesDefined P) Ts
rights_defined P C [] [] k h = tt
rights_defined P C [] (T ∷ Ts) k h = absurd h
rights_defined P C (s ∷ ss) [] k h = absurd h
rights_defined P C (s ∷ ss) (T ∷ Ts) k h = (k.0 T h.0, rights_defined P C ss Ts k.1 h.1)

module _ (old new : ProgramTable) (c : CellsView) (a : Automaton) (mirrors : Mirrors old c a) (adds : AddsTypes old new) (tree : program_tree new ≡ program_tree old) where
  abbrev P : ProgramTree
  P = program_tree old

  same_type : (s : State) → continuation_of new.types c s ≡ continuation_of old.types c s
  same_type s = types_stay old.types new.types adds.types c mirrors.kept.nodes s

  types_before : (ss : List State) (Ts : List Tree) → AreTypes (continuation_of new.types c) ss Ts → AreTypes (continuation_of old.types c) ss Ts
  types_before [] [] h = tt
  types_before [] (T ∷ Ts) h = absurd h
  types_before (s ∷ ss) [] h = absurd h
  types_before (s ∷ ss) (T ∷ Ts) h = (sym (same_type s) ∙ h.0, types_before ss Ts h.1)

  between_before : (row : GoalRow) (g : Goal) → IsBetween (continuation_of new.types c) row g → IsBetween (continuation_of old.types c) row g
  between_before row g b = record { left = sym (same_type row.left) ∙ b.left; rights = types_before row.rights g.rights b.rights }

  module _ (t : TableView) (goal : ℕ) (proof : List ProofGoal) (made : IsProofOf new c t goal proof) where
    claim_defined : UsesKnownNames P (continuation_of old.types c) (row_at t.rows goal) → AllByRecursion (UsesDefined (program_tree new)) (made.claim.left ∷ made.claim.rights)
    claim_defined k =
        let b = between_before (row_at t.rows goal) made.claim made.between in
        subst (λ (Q : ProgramTree). AllByRecursion (UsesDefined Q) (made.claim.left ∷ made.claim.rights)) (sym tree)
        (k.left made.claim.left b.left, rights_defined P (continuation_of old.types c) (row_at t.rows goal).rights made.claim.rights k.rights b.rights)

    -- a proof text can have the goals
    pub goals_writable : IsShallow new.types → UsesKnownNames P (continuation_of old.types c) (row_at t.rows goal) → AreWritable (known_types P) (goals_of made.lined)
    goals_writable s k = record {
      types = all_writable P (types_of (goals_of made.lined))
          (subst (λ (Q : ProgramTree). AllByRecursion (UsesDefined Q) (types_of (goals_of made.lined))) tree (made.named (claim_defined k)))
          (made.shallow s);
      goals = made.writable;
      goal_count = made.goal_count;
      type_count = made.type_count;
    }

    -- and what spells them proves the row
    pub text_proves : (text : List ℕ) → SpellsGoals (known_types P) text (goals_of made.lined) → ProvesRow P (continuation_of old.types c) (row_at t.rows goal) text
    text_proves text s = record {
      goals = goals_of made.lined;
      spelled = s;
      consistent = subst (λ (Q : ProgramTree). IsConsistent (names_of Q) (goals_of made.lined)) tree made.consistent;
      claim = made.claim;
      first = made.first;
      between = between_before (row_at t.rows goal) made.claim made.between;
    }
