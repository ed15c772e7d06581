-- Types and states whose names a program defines.
use Rattle.std.proofs.Common.{◌≡◌, ℕ, Bool, true, false, ◌||◌, cond, List, [], ◌∷◌, refl, ap, sym, subst}
use Rattle.std.specs.List.{AllByRecursion}
use Rattle.std.specs.Str.{bytes_eq}
use Rattle.xd_auto.specs.Automaton.{Automaton}
use Rattle.xd_auto.specs.declared.auto.State.{State}
use Rattle.xd_state_heads.specs.Moves.{claim_with}
use Rattle.xd_goals.specs.Rows.{TableView, claim_of, row_at}
use Rattle.xd_goals.specs.Verdicts.{IsProved}
use Rattle.xd_goals.proofs.GrowsByLemmas.{claim_within}
use Rattle.xd_heads.specs.CellsView.{CellsView}
use Rattle.xd_heads.specs.Mirrors.{IsTypeState, continuation_of}
use Rattle.xd_heads.proofs.Mirrored.{type_is}
use Rattle.xd_proof_make.specs.Made.{IsOfTypes, UsesDefined}
use Rattle.xd_proof_make.specs.ProofText.{IsOfKnownNames, UsesKnownNames}
use Rattle.xd_sound.proofs.AdoptLaws.{type_kept}
use Rattle.xd_syntax.specs.Kept.{ProgramTable, AddsTypes, program_tree}
use Rattle.xd_syntax.specs.NameFaults.{known_types}
use Rattle.xd_syntax.specs.Program.{ProgramTree}
use Rattle.xd_syntax.specs.Sound.{is_defined, type_named}
use Rattle.xd_syntax.specs.SoundTables.{IsTypeAt}
use Rattle.xd_syntax.specs.Tree.{Text, Name, uses_only}
use Rattle.xd_syntax.specs.Types.{tree}
use Rattle.xd_syntax.specs.Words.{has_word, string_word}
use Rattle.xd_syntax.specs.declared.types.TypeId.{TypeId}
use Rattle.xd_calls_proofs.specs.Known.{IsKnownState, IsKnownType}

-- a name that is defined uses no other
uses_itself : (P : ProgramTree) (w : List ℕ) → is_defined P w ≡ true → UsesDefined P (type_named w)
uses_itself P w e = go (bytes_eq string_word w) e
  where
    go : (b : Bool) → (b || has_word (known_types P) w) ≡ true → uses_only (known_types P) (cond b Text (Name w)) ≡ true
    go true e = refl
    go false e = e

pub type_known : (p : ProgramTable) (w : List ℕ) (id : TypeId) → is_defined (program_tree p) w ≡ true → IsTypeAt p.types (type_named w) id → IsKnownType p id
type_known p w id e at = record { belongs = at.belongs; names = subst (UsesDefined (program_tree p)) (sym at.same) (uses_itself (program_tree p) w e) }

-- it stays so while types are added
pub stays_known : (p q : ProgramTable) (id : TypeId) → AddsTypes p q → program_tree q ≡ program_tree p → IsKnownType p id → IsKnownType q id
stays_known p q id adds same k =
    let at = type_kept p.types q.types (tree p.types id) id adds.types (record { belongs = k.belongs; same = refl }) in
    record {
      belongs = at.belongs;
      names = subst (UsesDefined (program_tree q)) (sym at.same) (subst (λ P. UsesDefined P (tree p.types id)) (sym same) k.names);
    }

state_typed : (p : ProgramTable) (c : CellsView) (a : Automaton) (s : State) → IsKnownState p c a s → IsTypeState c s
state_typed p c a s k = let i = type_is p.types c s k.T k.continuation in (i.0, i.1)

state_names : (p : ProgramTable) (c : CellsView) (a : Automaton) (s : State) → IsKnownState p c a s → IsOfKnownNames (program_tree p) (continuation_of p.types c) s
state_names p c a s k U e = let f = k.continuation in let same : k.T ≡ U = cc in subst (UsesDefined (program_tree p)) same k.names

-- the row of a goal that is proved of two such states
module _ (p : ProgramTable) (c : CellsView) (a : Automaton) (one other : State) (left : IsKnownState p c a one) (right : IsKnownState p c a other)
    (t : TableView) (goal : ℕ) (proved : IsProved t one (other ∷ []) goal) where
  row_is : claim_of (row_at t.rows goal) ≡ claim_with one (other ∷ [])
  row_is = (claim_within t.rows goal (claim_with one (other ∷ [])) proved.claim).1

  left_is : (row_at t.rows goal).left ≡ one
  left_is = ap (λ x. x.left) row_is

  rights_are : (row_at t.rows goal).rights ≡ other ∷ []
  rights_are = ap (λ x. x.rights) row_is

  pub row_typed : IsOfTypes c (row_at t.rows goal)
  row_typed = record {
    left = subst (IsTypeState c) (sym left_is) (state_typed p c a one left);
    rights = subst (AllByRecursion (IsTypeState c)) (sym rights_are) (state_typed p c a other right, tt);
  }

  pub row_names : UsesKnownNames (program_tree p) (continuation_of p.types c) (row_at t.rows goal)
  row_names = record {
    left = subst (IsOfKnownNames (program_tree p) (continuation_of p.types c)) (sym left_is) (state_names p c a one left);
    rights = subst (AllByRecursion (IsOfKnownNames (program_tree p) (continuation_of p.types c))) (sym rights_are) (state_names p c a other right, tt);
  }
