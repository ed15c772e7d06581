-- The line of a warning. It ends with a line feed.
use Rattle.std.specs.Prelude.{ℕ, List, ◌++◌}
use Rattle.xd_report.specs.Report.{place_front, warning_words}
use Rattle.xd_syntax.specs.declared.fault.Warning.{Warning}

-- the line of a warning; there is one kind
abbrev pub warning_text : Warning → List ℕ
warning_text w = place_front w.place ++ warning_words
