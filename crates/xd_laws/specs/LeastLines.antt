-- Lines with documents that are least where sizes are told apart below a limit alone.
use Rattle.std.specs.Prelude.{◌≡◌, ℕ, ◌<◌, List, Some}
use Rattle.std.specs.List.{AllByRecursion}
use Rattle.xd_doc.specs.Document.{Document, size}
use Rattle.xd_doc.specs.LeastUpTo.{size_up_to}
use Rattle.xd_syntax.specs.Program.{ProgramTree}
use Rattle.xd_syntax.specs.CheckFaults.{Line, AreLines, AreLinesBy, faults_among}

-- the size of the document that the line carries is below the limit
abbrev pub IsSmall : ℕ → Line → Type 0
IsSmall limit l = (d : Document) → l.document ≡ Some d → size d < limit

-- where the faults carry documents with sizes below the limit, these are least ones
abbrev pub SmallLinesAreLeast : Type 0
SmallLinesAreLeast = (limit : ℕ) (P : ProgramTree) (ls : List Line) → AllByRecursion (IsSmall limit) (faults_among ls) → AreLinesBy (size_up_to limit) P ls → AreLines P ls
