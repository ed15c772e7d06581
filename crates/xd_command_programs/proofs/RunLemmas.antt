-- What a run answers, from the steps that it takes.
use Rattle.std.proofs.Common.{◌≡◌, ℕ, ◌≤◌, inl, inr, List, Option, Some, None, Result, refl, subst, ◌∙◌}
use Rattle.xd_base.specs.Outside.{HasRisen}
use Rattle.xd_auto.specs.Automaton.{Automaton}
use Rattle.xd_auto.specs.declared.auto.State.{State}
use Rattle.xd_doc.specs.Document.{Document}
use Rattle.xd_syntax.specs.Tree.{Tree, Definitions}
use Rattle.xd_syntax.specs.Program.{ProgramTree, names_of}
use Rattle.xd_syntax.specs.Kept.{ProgramTable, program_tree}
use Rattle.xd_syntax.specs.Types.{tree}
use Rattle.xd_syntax.specs.declared.types.TypeId.{TypeId}
use Rattle.xd_syntax.specs.SoundTables.{main_parameter}
use Rattle.xd_command_documents.specs.FitsByState.{IsAcceptor}
use Rattle.xd_command_steps.specs.Output.{Output}
use Rattle.xd_command_steps.specs.declared.output.Stop.{Stop}
use Rattle.xd_command_programs.specs.Run.{AnswersInput, AnswersMain, AnswersRun, input_type, no_main}
use Rattle.xd_command_steps.specs.DoneSteps.{DoesAll}
use Rattle.xd_command_programs.specs.Running.{AcceptsInput, IsInputTest}
use Rattle.xd_command_steps.specs.Documents.{EndsAtDocument, IsDocument}
use Rattle.xd_command_steps.specs.Texts.{Holding}
use Rattle.xd_command_programs.proofs.Inputs.{tree_of, input_is}
use Rattle.xd_command_documents.proofs.Steps.{document_later, document_same, does-map}

test_none : (E : Definitions) (i : Option Tree) → i ≡ None → AcceptsInput E i None
test_none E None e = tt
test_none E (Some T) e = absurd (cc)

pub no_test : (p : ProgramTable) → main_parameter p.functions ≡ None → IsInputTest (program_tree p) None
no_test p e = test_none (names_of (program_tree p)) (input_type (program_tree p)) (input_is p ∙ subst (λ o. tree_of p.types (main_parameter p.functions) ≡ tree_of p.types o) e refl)

test_some : (E : Definitions) (i : Option Tree) (T : Tree) (a : Automaton) (s : State) → i ≡ Some T → IsAcceptor E T a s → AcceptsInput E i (Some (a, s))
test_some E None T a s e h = absurd (cc)
test_some E (Some U) T a s e h = let q : T ≡ U = cc in subst (λ V. IsAcceptor E V a s) q h

pub some_test : (p : ProgramTable) (id : TypeId) (a : Automaton) (s : State) → main_parameter p.functions ≡ Some id → IsAcceptor (names_of (program_tree p)) (tree p.types id) a s → IsInputTest (program_tree p) (Some (a, s))
some_test p id a s e h =
    test_some (names_of (program_tree p)) (input_type (program_tree p)) (tree p.types id) a s (input_is p ∙ subst (λ o. tree_of p.types (main_parameter p.functions) ≡ tree_of p.types o) e refl) h

acceptor_of : (E : Definitions) (i : Option Tree) (T : Tree) (a : Automaton) (s : State) → AcceptsInput E i (Some (a, s)) → i ≡ Some T → IsAcceptor E T a s
acceptor_of E None T a s h e = absurd h
acceptor_of E (Some U) T a s h e = let q : U ≡ T = cc in subst (λ V. IsAcceptor E V a s) q h

-- the test is one of the input type
pub tests : (P : ProgramTree) (T : Tree) (a : Automaton) (s : State) → IsInputTest P (Some (a, s)) → input_type P ≡ Some T → IsAcceptor (names_of P) T a s
tests P T a s h e = acceptor_of (names_of P) (input_type P) T a s h e

some_type : (E : Definitions) (i : Option Tree) (a : Automaton) (s : State) → AcceptsInput E i (Some (a, s)) → (T : Tree) × (i ≡ Some T)
some_type E None a s h = absurd h
some_type E (Some T) a s h = (T, refl)

pub has_type : (P : ProgramTree) (a : Automaton) (s : State) → IsInputTest P (Some (a, s)) → (T : Tree) × (input_type P ≡ Some T)
has_type P a s h = some_type (names_of P) (input_type P) a s h

module _ (holds : Holding) (rose : Type 0) (document : List ℕ) (fuel : ℕ) (P : ProgramTree) where
  pub ends_at : (i : Option Tree) (o : Output) → (T : Tree) → i ≡ Some T → EndsAtDocument holds rose document o → AnswersMain holds rose document fuel P i o
  ends_at None o T e h = absurd (cc)
  ends_at (Some U) o T e h = inl h

  goes_on : (i : Option Tree) (o : Output) (T : Tree) → i ≡ Some T → (d : Document) → IsDocument holds document d → AnswersInput P T fuel d o → AnswersMain holds rose document fuel P i o
  goes_on None o T e d k h = absurd (cc)
  goes_on (Some U) o T e d k h = let q : T ≡ U = cc in inr (d, k, subst (λ V. AnswersInput P V fuel d o) q h)

  -- a run that answers so on a document of a file
  pub main_does : (a : Automaton) (s : State) (d : Document) (r : Result Output Stop) → IsInputTest P (Some (a, s)) → IsDocument holds document d →
      ((T : Tree) → input_type P ≡ Some T → DoesAll r (AnswersInput P T fuel d)) → DoesAll r (AnswersMain holds rose document fuel P (input_type P))
  main_does a s d r t k h =
      let e = has_type P a s t in
      let input = AnswersInput P e.0 fuel d in
      let main = AnswersMain holds rose document fuel P (input_type P) in
      let step : (o : Output) → input o → main o = λ o x. goes_on (input_type P) o e.0 e.1 d k x in
      does-map input main input main r step step (h e.0 e.1)

  no_type : (E : Definitions) (i : Option Tree) (o : Output) → AcceptsInput E i None → o ≡ no_main → AnswersMain holds rose document fuel P i o
  no_type E None o t e = e
  no_type E (Some T) o t e = absurd t

  pub without_test : (o : Output) → IsInputTest P None → o ≡ no_main → AnswersMain holds rose document fuel P (input_type P) o
  without_test o t e = no_type (names_of P) (input_type P) o t e

main_later : (a b c : ℕ) {old new : Holding} (document : List ℕ) (fuel : ℕ) (P : ProgramTree) (i : Option Tree) (o : Output) → a ≤ b → new ≡ old →
    AnswersMain new (HasRisen b c) document fuel P i o → AnswersMain old (HasRisen a c) document fuel P i o
main_later a b c {old} {new} document fuel P None o le e h = h
main_later a b c {old} {new} document fuel P (Some T) o le e (inl h) = inl (document_later a b c {old = old} {new = new} document o le e h)
main_later a b c {old} {new} document fuel P (Some T) o le e (inr h) = inr (h.0, document_same {old = old} {new = new} document h.0 e h.1, h.2)

pub run_later : (a b c : ℕ) {old new : Holding} (document : List ℕ) (fuel : ℕ) (P : ProgramTree) (o : Output) → a ≤ b → new ≡ old →
    AnswersRun new (HasRisen b c) document fuel P o → AnswersRun old (HasRisen a c) document fuel P o
run_later a b c {old} {new} document fuel P o le e (inl h) = inl h
run_later a b c {old} {new} document fuel P o le e (inr h) = inr (h.0, main_later a b c {old = old} {new = new} document fuel P (input_type P) o le e h.1)
