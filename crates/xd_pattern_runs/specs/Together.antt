-- The items of one variable stand directly one after another, in the document or in one content.
use Rattle.std.specs.Prelude.{ℕ, List}
use Rattle.xd_doc.specs.Document.{Document}
use Rattle.xd_doc.specs.Runs.{IsTogether}
use Rattle.xd_doc.specs.Members.{IsOneOf}
use Rattle.xd_syntax.specs.Tree.{Tree, Definitions}
use Rattle.xd_pattern_runs.specs.Runs.{MarkedRun, runs, start, trace}
use Rattle.xd_pattern_runs.specs.Linear.{BindNothing, IsLinear}

-- in each run of a linear pattern the items of one variable stand together
abbrev pub RunsKeepTogether : Type 0
RunsKeepTogether = (E : Definitions) → BindNothing E → (P : Tree) → IsLinear P → (d : Document) (r : MarkedRun) → IsOneOf r (runs E d (start P)) → (x : List ℕ) → IsTogether (trace x r)
