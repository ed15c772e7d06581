-- The steps of `check` and `run` on the telephone program, which has no fault, and on persons lead
-- to their telephones alone.
use Rattle.std.proofs.Common.{◌≡◌, ℕ, ◌+◌, ◌-◌, inl, inr, arith, List, Option, Some, None, sym, ap, subst, ◌∙◌}
use Rattle.xd_doc.specs.Document.{Document}
use Rattle.xd_syntax.specs.Tree.{Tree, Definitions}
use Rattle.xd_syntax.specs.Placed.{unplaced}
use Rattle.xd_syntax.specs.Program.{ProgramTree, names_of}
use Rattle.xd_syntax.specs.NameFaults.{name_faults}
use Rattle.xd_syntax.specs.RecursionFaults.{AreRecursionFaults}
use Rattle.xd_syntax.specs.CheckFaults.{AreLines, faults_among}
use Rattle.xd_meaning.specs.Meaning.{Outcome, Done, Spent}
use Rattle.xd_syntax.specs.declared.fault.Fault.{Fault}
use Rattle.xd_laws.specs.LineSamples.{persons_at}
use Rattle.xd_command_sample.specs.Telephones.{telephone_text, telephone_program}
use Rattle.xd_command_sample.specs.Laws.{TextIsRead, NothingIsReported, TelephonesAreListed}
use Rattle.xd_command_sample.specs.Persons.{sample_of, telephones_to}
use Rattle.xd_command_steps.specs.Output.{Output}
use Rattle.xd_command_steps.specs.Programs.{AreTextFaults, EndsAtFaults}
use Rattle.xd_command_programs.specs.Run.{EndsAtLines, EndsAtValue, IsValue, input_type}
use Rattle.xd_command_programs.specs.Running.{AcceptsInput, IsInputTest}

none_of : TextIsRead → (fs : List Fault) → AreTextFaults telephone_text fs → ⊥
none_of t fs (inl h) = t.no_fault h.0 h.1
none_of t fs (inr (P, s, inl h)) = h.1 (h.0 ∙ ap name_faults (t.only P s) ∙ t.sound.names)
none_of t fs (inr (P, s, inr h)) = h.2 (t.no_recursion_fault fs (subst (λ Q. AreRecursionFaults Q fs) (t.only P s) h.1))

pub no_fault : TextIsRead → (o : Output) → EndsAtFaults telephone_text o → ⊥
no_fault t o h = none_of t h.0 h.1

pub no_line : NothingIsReported → (P : ProgramTree) → P ≡ telephone_program → (o : Output) → EndsAtLines P o → ⊥
no_line r P e o h = h.some (ap faults_among (r.only h.lines (subst (λ Q. AreLines Q h.lines) e h.all)))

-- the input type
abbrev pub persons_tree : Tree
persons_tree = unplaced persons_at

pub has_input : (P : ProgramTree) → P ≡ telephone_program → input_type P ≡ Some persons_tree
has_input P e = ap input_type e

is_tested : (E : Definitions) (i : Option Tree) (T : Tree) → i ≡ Some T → AcceptsInput E i None → ⊥
is_tested E None T e h = cc
is_tested E (Some U) T e h = h

pub some_input : (P : ProgramTree) → P ≡ telephone_program → IsInputTest P None → ⊥
some_input P e h = is_tested (names_of P) (input_type P) persons_tree (has_input P e) h

done_spent : (d : Document) (n : ℕ) → ◌≡◌ {A = Outcome Document} (Done d n) Spent → ⊥
done_spent d n e = cc

same_value : (c d : Document) (m n : ℕ) → ◌≡◌ {A = Outcome Document} (Done c m) (Done d n) → (c ≡ d) × (m ≡ n)
same_value c d m n e = (cc, cc)

module _ (laws : TelephonesAreListed) (persons : ℕ) where
  ends_nowhere : (o : Output) → EndsAtValue telephone_program persons_tree (persons + 1) (sample_of persons) o → ⊥
  ends_nowhere o (inl h) = h.0 (laws.inputs persons)
  ends_nowhere o (inr h) = done_spent (telephones_to persons) 0 (sym (laws.values persons) ∙ h.1)

  -- A value is found.
  pub no_end : (P : ProgramTree) (d : Document) → P ≡ telephone_program → d ≡ sample_of persons → (o : Output) → EndsAtValue P persons_tree (persons + 1) d o → ⊥
  no_end P d e f o h = ends_nowhere o (subst (λ c. EndsAtValue telephone_program persons_tree (persons + 1) c o) f (subst (λ Q. EndsAtValue Q persons_tree (persons + 1) d o) e h))

  is_made : (made : Document × ℕ) → IsValue telephone_program persons_tree (persons + 1) (sample_of persons) made → (made.0 ≡ telephones_to persons) × (made.1 ≡ persons + 1)
  is_made made h =
      let s = same_value made.0 (telephones_to persons) (persons + 1 - made.1) 0 (sym h.value ∙ laws.values persons) in
      let k = h.calls in
      let l = s.1 in
      (s.0, omega arith)

  -- It is the telephones, and takes all the calls that are allowed.
  pub made_is : (P : ProgramTree) (d : Document) (made : Document × ℕ) → P ≡ telephone_program → d ≡ sample_of persons → IsValue P persons_tree (persons + 1) d made →
      (made.0 ≡ telephones_to persons) × (made.1 ≡ persons + 1)
  made_is P d made e f h = is_made made (subst (λ c. IsValue telephone_program persons_tree (persons + 1) c made) f (subst (λ Q. IsValue Q persons_tree (persons + 1) d made) e h))
