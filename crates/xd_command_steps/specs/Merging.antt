-- Faults and warnings, each in order, as one report.
use Rattle.std.specs.Prelude.{◌≡◌, ℕ, Bool, true, false, List, [], ◌∷◌, ◌++◌, Option, Some, None}
use Rattle.xd_base.specs.declared.Place.{Place}
use Rattle.xd_doc.specs.Document.{Document}
use Rattle.xd_syntax.specs.Order.{is_earlier}
use Rattle.xd_syntax.specs.declared.fault.Fault.{Fault}
use Rattle.xd_syntax.specs.declared.fault.Warning.{Warning}
use Rattle.xd_report.specs.Report.{fault_text}
use Rattle.xd_report.specs.WarningText.{warning_text}
use Rattle.xd_command_steps.specs.declared.report.NextLine.{NextLine}
use Rattle.xd_command_steps.specs.declared.report.NextLine.TheVariants as next

abbrev pub is_placed_behind : Place → Option Place → Bool
is_placed_behind p None = false
is_placed_behind p (Some q) = is_earlier p q

-- the fault stands at a later place than the warning
abbrev pub stands_behind : Fault → Warning → Bool
stands_behind f w = is_placed_behind w.place f.place

-- the fault stands after no first warning
abbrev pub FaultIsNext : Fault → List Warning → Type 0
FaultIsNext f ws = (w : Warning) (vs : List Warning) → ws ≡ w ∷ vs → stands_behind f w ≡ false

-- a first fault stands after the warning
abbrev pub WarningIsNext : Warning → List Fault → Type 0
WarningIsNext w fs = (f : Fault) (gs : List Fault) → fs ≡ f ∷ gs → stands_behind f w ≡ true

abbrev pub IsNextLine : List Fault → List Warning → Option NextLine → Type 0
IsNextLine fs ws None = (fs ≡ []) × (ws ≡ [])
IsNextLine fs ws (Some (next.Fault f rest)) = (fs ≡ f.now ∷ rest.now) × FaultIsNext f.now ws
IsNextLine fs ws (Some (next.Warning w rest)) = (ws ≡ w.now ∷ rest.now) × WarningIsNext w.now fs

-- the text of both, one line after the other as they come next
pub data IsMerged (ds : List Document) : List Fault → List Warning → List ℕ → Type 0 where
  no_more : IsMerged ds [] [] []
  a_fault : {f : Fault} {fs : List Fault} {ws : List Warning} {t : List ℕ} → FaultIsNext f ws → IsMerged ds fs ws t → IsMerged ds (f ∷ fs) ws (fault_text ds f ++ t)
  a_warning : {w : Warning} {fs : List Fault} {ws : List Warning} {t : List ℕ} → WarningIsNext w fs → IsMerged ds fs ws t → IsMerged ds fs (w ∷ ws) (warning_text w ++ t)
