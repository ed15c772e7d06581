-- Turns of the loop that writes the lines of a report.
use Rattle.std.proofs.Common.{◌≡◌, ℕ, List, [], ◌∷◌, ◌++◌, sym, subst, append_assoc, append-nil}
use Rattle.std.specs.List.{AllByRecursion}
use Rattle.xd_doc.specs.Document.{Document}
use Rattle.xd_syntax.specs.declared.fault.Fault.{Fault}
use Rattle.xd_syntax.specs.declared.fault.Warning.{Warning}
use Rattle.xd_report.specs.Carries.{CarriesFrom}
use Rattle.xd_report.specs.Report.{fault_text}
use Rattle.xd_report.specs.WarningText.{warning_text}
use Rattle.xd_command_steps.specs.Merging.{IsMerged, no_more, a_fault, a_warning, FaultIsNext, WarningIsNext}

abbrev pub Carry : List Document → List Fault → Type 0
Carry ds fs = AllByRecursion (λ f. CarriesFrom ds f.kind) fs

-- what is still to come, after what is written
abbrev pub Leaves : List Document → List Fault → List Warning → List ℕ → List Fault → List Warning → Type 0
Leaves ds fs0 ws0 text fs ws = (t : List ℕ) → IsMerged ds fs ws t → IsMerged ds fs0 ws0 (text ++ t)

pub first_carries : (ds : List Document) (fs : List Fault) (f : Fault) (rest : List Fault) → fs ≡ f ∷ rest → Carry ds fs → CarriesFrom ds f.kind × Carry ds rest
first_carries ds fs f rest e c = subst (Carry ds) e c

module _ (ds : List Document) (fs0 : List Fault) (ws0 : List Warning) (text text2 : List ℕ) (fs : List Fault) (ws : List Warning) (leaves : Leaves ds fs0 ws0 text fs ws) where
  pub behind_fault : (f : Fault) (rest : List Fault) → fs ≡ f ∷ rest → FaultIsNext f ws → text2 ≡ text ++ fault_text ds f → Leaves ds fs0 ws0 text2 rest ws
  behind_fault f rest e n w t m =
      subst (λ u. IsMerged ds fs0 ws0 (u ++ t)) (sym w)
      (subst (IsMerged ds fs0 ws0) (sym (append_assoc text (fault_text ds f) t))
      (leaves (fault_text ds f ++ t) (subst (λ gs. IsMerged ds gs ws (fault_text ds f ++ t)) (sym e) (a_fault n m))))

  pub behind_warning : (v : Warning) (rest : List Warning) → ws ≡ v ∷ rest → WarningIsNext v fs → text2 ≡ text ++ warning_text v → Leaves ds fs0 ws0 text2 fs rest
  behind_warning v rest e n w t m =
      subst (λ u. IsMerged ds fs0 ws0 (u ++ t)) (sym w)
      (subst (IsMerged ds fs0 ws0) (sym (append_assoc text (warning_text v) t))
      (leaves (warning_text v ++ t) (subst (λ vs. IsMerged ds fs vs (warning_text v ++ t)) (sym e) (a_warning n m))))

  pub at_the_end : fs ≡ [] → ws ≡ [] → IsMerged ds fs0 ws0 text
  at_the_end e d =
      subst (IsMerged ds fs0 ws0) (append-nil text) (leaves [] (subst (λ gs. IsMerged ds gs ws []) (sym e) (subst (λ vs. IsMerged ds [] vs []) (sym d) no_more)))
