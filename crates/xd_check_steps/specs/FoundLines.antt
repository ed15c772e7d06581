-- Lines as they are found, with the document in a store.
use Rattle.std.specs.Prelude.{◌≡◌, ℕ, Bool, ◌&&◌, ◌||◌, nat_lt, List, ◌++◌, map, Option, Some, None}
use Rattle.std.specs.List.{AllByRecursion}
use Rattle.xd_doc.specs.Document.{Document}
use Rattle.xd_doc.specs.LeastUpTo.{size_up_to}
use Rattle.xd_doc.specs.Stored.{document_at}
use Rattle.xd_doc.specs.StoredSeq.{BelongsTo}
use Rattle.xd_least.specs.Least.{size_limit}
use Rattle.xd_syntax.specs.CheckFaults.{LineKind, not_exhaustive, wrong_argument, wrong_result, dead_clause, Line, rank}
use Rattle.xd_syntax.specs.Order.{is_earlier, is_same_place}
use Rattle.xd_syntax.specs.declared.fault.FaultKind.{FaultKind}
use Rattle.xd_syntax.specs.declared.fault.FaultKind.TheVariants as K
use Rattle.xd_check_steps.specs.declared.lines.Finding.{Finding}
use Rattle.xd_check_steps.specs.declared.lines.Finding.TheVariants.{NotExhaustive, Argument, Result, DeadClause}
use Rattle.xd_check_steps.specs.declared.lines.FoundLine.{FoundLine}

-- sizes of documents are told apart below this limit alone
abbrev pub told_size : Document → ℕ
told_size = size_up_to size_limit

abbrev pub kind_of : Finding → LineKind
kind_of (NotExhaustive seq) = not_exhaustive
kind_of (Argument seq) = wrong_argument
kind_of (Result seq) = wrong_result
kind_of DeadClause = dead_clause

-- the document that it carries
abbrev pub carried : List Document → Finding → Option Document
carried ds (NotExhaustive seq) = Some (document_at ds seq)
carried ds (Argument seq) = Some (document_at ds seq)
carried ds (Result seq) = Some (document_at ds seq)
carried ds DeadClause = None

abbrev pub line_of : List Document → FoundLine → Line
line_of ds l = record { place = l.place; kind = kind_of l.finding; document = carried ds l.finding }

abbrev pub lines_of : List Document → List FoundLine → List Line
lines_of ds ls = map (line_of ds) ls

-- its document belongs to the store
abbrev pub FindingBelongs : List Document → Finding → Type 0
FindingBelongs ds (NotExhaustive seq) = BelongsTo ds seq
FindingBelongs ds (Argument seq) = BelongsTo ds seq
FindingBelongs ds (Result seq) = BelongsTo ds seq
FindingBelongs ds DeadClause = Unit {0}

abbrev pub LinesBelong : List Document → List FoundLine → Type 0
LinesBelong ds ls = AllByRecursion (λ (l : FoundLine). FindingBelongs ds l.finding) ls

-- lines that meet the fact were added
pub record AddsLines (ds : List Document) (A : List Line → Type 0) (old new : List FoundLine) : Type 0 where
  pub more : List FoundLine
  pub grown : new ≡ old ++ more
  pub belong : LinesBelong ds more
  pub meet : A (lines_of ds more)

-- the earlier place comes first; of one place the smaller number, and a warning after the faults
abbrev pub found_precedes : FoundLine → FoundLine → Bool
found_precedes l m = is_earlier l.place m.place || (is_same_place l.place m.place && nat_lt (rank (kind_of l.finding)) (rank (kind_of m.finding)))

-- the fault that it is; none for a warning
abbrev pub fault_kind_of : Finding → Option FaultKind
fault_kind_of (NotExhaustive seq) = Some (K.NotExhaustive seq)
fault_kind_of (Argument seq) = Some (K.Argument seq)
fault_kind_of (Result seq) = Some (K.Result seq)
fault_kind_of DeadClause = None
