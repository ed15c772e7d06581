-- The documents of faults whose lines stand in a text are no larger than it is long.
use Rattle.std.proofs.Common.{◌≡◌, ℕ, ◌<◌, ◌≤◌, List, [], ◌∷◌, ◌++◌, length, length-append, Some, sym, subst, ◌∙◌, arith}
use Rattle.std.specs.Prelude.{codes, decimal}
use Rattle.std.specs.List.{AllByRecursion}
use Rattle.xd_doc.specs.Document.{Document, canonical_text, size}
use Rattle.xd_doc.specs.LeastUpTo.{size_up_to}
use Rattle.xd_doc.specs.Stored.{document_at}
use Rattle.xd_doc.specs.declared.store.Seq.{Seq}
use Rattle.xd_doc.proofs.Numbers.{le_lt}
use Rattle.xd_least.proofs.SizeLemmas.{size_written}
use Rattle.xd_syntax.specs.Order.{number_of}
use Rattle.xd_syntax.specs.Program.{ProgramTree}
use Rattle.xd_syntax.specs.CheckFaults.{Line, LineKind, not_exhaustive, wrong_argument, wrong_result, dead_clause, AreLines, AreLinesBy, faults_among}
use Rattle.xd_syntax.specs.declared.fault.Fault.{Fault}
use Rattle.xd_syntax.specs.declared.fault.FaultKind.{FaultKind}
use Rattle.xd_syntax.specs.declared.fault.Warning.{Warning}
use Rattle.xd_meaning.specs.KeptFaults.{AllPaired, AreFaultsOf}
use Rattle.xd_meaning.specs.KeptLines.{kind_with, IsFaultOf}
use Rattle.xd_laws.specs.LeastLines.{IsSmall}
use Rattle.xd_laws.proofs.LeastLines.{small_lines_are_least}
use Rattle.xd_report.specs.Report.{fault_front, fault_text, kind_text}
use Rattle.xd_report.specs.WarningText.{warning_text}
use Rattle.xd_command_steps.specs.Merging.{IsMerged, no_more, a_fault, a_warning}

behind : (x y : List ℕ) → length y ≤ length (x ++ y)
behind x y = omega (arith, length-append x y)

before : (x y : List ℕ) → length x ≤ length (x ++ y)
before x y = omega (arith, length-append x y)

among : (a b c d x e : List ℕ) → length x ≤ length (a ++ b ++ c ++ d ++ x ++ e)
among a b c d x e = simp length-append (omega arith)

below : (k l m n o : ℕ) → k ≤ l → l ≤ m → m ≤ n → n < o → k < o
below k l m n o a b c d = omega arith

module _ (ds : List Document) where
  -- a fault's document is written in its line
  kind_written : (k : LineKind) (s : Seq) (f : FaultKind) → kind_with k s f → length (canonical_text (document_at ds s)) ≤ length (kind_text ds f)
  kind_written not_exhaustive s f e =
      subst (λ g. length (canonical_text (document_at ds s)) ≤ length (kind_text ds g)) (sym e) (behind (codes "match is not exhaustive: ") (canonical_text (document_at ds s)))
  kind_written wrong_argument s f e =
      subst (λ g. length (canonical_text (document_at ds s)) ≤ length (kind_text ds g)) (sym e) (behind (codes "argument does not fit: ") (canonical_text (document_at ds s)))
  kind_written wrong_result s f e =
      subst (λ g. length (canonical_text (document_at ds s)) ≤ length (kind_text ds g)) (sym e) (behind (codes "result does not fit: ") (canonical_text (document_at ds s)))
  kind_written dead_clause s f e = absurd e

  line_written : (f : Fault) → length (kind_text ds f.kind) ≤ length (fault_text ds f)
  line_written f = among (fault_front f.place) (codes "fault ") (decimal (number_of f.kind)) (codes ": ") (kind_text ds f.kind) (codes "\n")

  module _ (limit : ℕ) where
    small_fault : (l : Line) (f : Fault) → IsFaultOf ds l f → length (fault_text ds f) < limit → IsSmall limit l
    small_fault l f h lt d e =
        let c : Document = document_at ds h.sequence in
        let same : c ≡ d = inside c d (sym h.document ∙ e) in
        subst (λ x. size x < limit) same
        (below (size c) (length (canonical_text c)) (length (kind_text ds f.kind)) (length (fault_text ds f)) limit (size_written c) (kind_written l.kind h.sequence f.kind h.kind) (line_written f) lt)
      where
        inside : (c d : Document) → Some c ≡ Some d → c ≡ d
        inside c d e = cc

    pub small_faults : (ls : List Line) (fs : List Fault) (ws : List Warning) (t : List ℕ) → AllPaired (IsFaultOf ds) ls fs → IsMerged ds fs ws t → length t < limit → AllByRecursion (IsSmall limit) ls
    small_faults [] fs ws t a m lt = tt
    small_faults (l ∷ ls) [] ws t a m lt = absurd a
    small_faults (l ∷ ls) (f ∷ fs) ws t a (a_fault n m) lt = (
      small_fault l f a.0 (le_lt (length (fault_text ds f)) _ limit (before (fault_text ds f) _) lt),
      small_faults ls fs ws _ a.1 m (le_lt _ _ limit (behind (fault_text ds f) _) lt),
    )
    small_faults (l ∷ ls) (f ∷ fs) (w ∷ ws) t a (a_warning n m) lt = small_faults (l ∷ ls) (f ∷ fs) ws _ a m (le_lt _ _ limit (behind (warning_text w) _) lt)

  -- so lines whose documents are least up to a limit are the lines of the program, where the text
  -- has fewer bytes
  pub written_lines : (limit : ℕ) (P : ProgramTree) (ls : List Line) (fs : List Fault) (ws : List Warning) (t : List ℕ) → AreLinesBy (size_up_to limit) P ls → AreFaultsOf ds ls fs → IsMerged ds fs ws t →
      length t < limit → AreLines P ls
  written_lines limit P ls fs ws t all are m lt = small_lines_are_least limit P ls (small_faults limit (faults_among ls) fs ws t are m lt) all
