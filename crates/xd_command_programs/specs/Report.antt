-- The texts of faults of matches, arguments and results, and of warnings.
use Rattle.std.specs.Prelude.{ℕ, List, [], ◌++◌, Option, Some, None, codes, decimal, flat_map}
use Rattle.xd_doc.specs.Document.{Document, canonical_text}
use Rattle.xd_syntax.specs.CheckFaults.{LineKind, not_exhaustive, wrong_argument, wrong_result, dead_clause, Line}
use Rattle.xd_report.specs.Report.{argument_words, match_words, place_front, result_words, warning_words}

-- the document that a line carries
abbrev pub carried : Option Document → List ℕ
carried None = []
carried (Some d) = canonical_text d

-- a fault of this number, with its document
abbrev pub fault_with : ℕ → List ℕ → Option Document → List ℕ
fault_with n what d = codes "fault " ++ decimal n ++ codes ": " ++ (what ++ carried d) ++ codes "\n"

-- what a line says after its place
abbrev pub said : LineKind → Option Document → List ℕ
said not_exhaustive d = fault_with 12 match_words d
said wrong_argument d = fault_with 13 argument_words d
said wrong_result d = fault_with 14 result_words d
said dead_clause d = warning_words

-- a line, with its place
abbrev pub line_text : Line → List ℕ
line_text l = place_front l.place ++ said l.kind l.document

-- the lines, one after the other
abbrev pub lines_text : List Line → List ℕ
lines_text ls = flat_map line_text ls
