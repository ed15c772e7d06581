-- What a check of a program comes to, as what `check` and `run` answer.
use Rattle.std.proofs.Common.{◌≡◌, ◌≢◌, ℕ, List, [], ◌∷◌, ◌++◌, codes, refl, ap, sym, subst, ◌∙◌}
use Rattle.xd_doc.specs.Document.{Document}
use Rattle.xd_doc.specs.StoredSeq.{BelongsTo}
use Rattle.xd_doc.specs.declared.store.Seq.{Seq}
use Rattle.xd_syntax.specs.Program.{ProgramTree}
use Rattle.xd_syntax.specs.CheckFaults.{Line, LineKind, not_exhaustive, wrong_argument, wrong_result, dead_clause, line_precedes, AreLines, faults_among}
use Rattle.xd_syntax.specs.declared.fault.Fault.{Fault}
use Rattle.xd_syntax.specs.declared.fault.FaultKind.{FaultKind}
use Rattle.xd_syntax.specs.declared.fault.Warning.{Warning}
use Rattle.xd_syntax.proofs.OrderedLemmas.{IsUp}
use Rattle.xd_meaning.specs.KeptFaults.{AllPaired, AreFaultsOf, AreWarningsOf}
use Rattle.xd_meaning.specs.KeptLines.{kind_with, IsFaultOf}
use Rattle.xd_report.specs.Carries.{CarriesFrom}
use Rattle.xd_command_steps.specs.Output.{Output}
use Rattle.xd_command_programs.specs.Check.{AnswersCheck, with_verdict}
use Rattle.xd_command_programs.specs.Run.{EndsAtLines}
use Rattle.xd_command_steps.specs.Merging.{IsMerged}
use Rattle.xd_command_programs.proofs.LineOrder.{lines_up}
use Rattle.xd_command_programs.proofs.Merged.{merged_texts, fault_texts}
use Rattle.xd_command_steps.proofs.NextLineLemmas.{Carry}

-- a fault carries the document that its line names
carries : (ds : List Document) (k : LineKind) (s : Seq) (f : FaultKind) → BelongsTo ds s → kind_with k s f → CarriesFrom ds f
carries ds not_exhaustive s f b e = subst (CarriesFrom ds) (sym e) b
carries ds wrong_argument s f b e = subst (CarriesFrom ds) (sym e) b
carries ds wrong_result s f b e = subst (CarriesFrom ds) (sym e) b
carries ds dead_clause s f b e = absurd e

pub all_carry : (ds : List Document) (ls : List Line) (fs : List Fault) → AllPaired (IsFaultOf ds) ls fs → Carry ds fs
all_carry ds [] [] a = tt
all_carry ds [] (f ∷ fs) a = absurd a
all_carry ds (l ∷ ls) [] a = absurd a
all_carry ds (l ∷ ls) (f ∷ fs) a = let h = a.0 in (carries ds l.kind h.sequence f.kind h.belongs h.kind, all_carry ds ls fs a.1)

up : (P : ProgramTree) (ls : List Line) → AreLines P ls → IsUp line_precedes ls
up P ls a = subst (IsUp line_precedes) (sym a.ordered) (lines_up a.found)

module _ (P : ProgramTree) (ds : List Document) (ls : List Line) (all : AreLines P ls) (ws : List Warning) (warned : AreWarningsOf ls ws) (t : List ℕ) (o : Output) where
  pub answers_accepted : faults_among ls ≡ [] → IsMerged ds [] ws t → o ≡ record { status = 0; text = t ++ codes "accepted\n" } → AnswersCheck P o
  answers_accepted none m e = record {
    lines = ls;
    all = all;
    output =
        let written = merged_texts ds ls [] ws t (up P ls all) (subst (λ fs. AllPaired (IsFaultOf ds) fs []) (sym none) tt) warned m in
        e ∙ sym (ap (λ fs. with_verdict fs t) none) ∙ ap (with_verdict (faults_among ls)) written;
  }

  pub answers_refused : (fs : List Fault) → faults_among ls ≢ [] → AreFaultsOf ds ls fs → IsMerged ds fs ws t → o ≡ record { status = 1; text = t } → AnswersCheck P o
  answers_refused fs some are m e = record {
    lines = ls;
    all = all;
    output = e ∙ by (faults_among ls) some ∙ ap (with_verdict (faults_among ls)) (merged_texts ds ls fs ws t (up P ls all) are warned m);
  }
    where
      by : (gs : List Line) → gs ≢ [] → record { status = 1; text = t } ≡ with_verdict gs t
      by [] n = absurd (n refl)
      by (g ∷ gs) n = refl

pub ends_at_lines : (P : ProgramTree) (ds : List Document) (ls : List Line) (fs : List Fault) (t : List ℕ) (o : Output) → AreLines P ls → faults_among ls ≢ [] → AreFaultsOf ds ls fs →
    IsMerged ds fs [] t → o ≡ record { status = 1; text = t } → EndsAtLines P o
ends_at_lines P ds ls fs t o all some are m e = record {
  lines = ls;
  all = all;
  some = some;
  output = e ∙ ap (λ z. record { status = 1; text = z }) (fault_texts ds (faults_among ls) fs t are m);
}
