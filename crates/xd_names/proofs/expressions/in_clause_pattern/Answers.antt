-- The faults of a clause's pattern.
use Rattle.std.proofs.Common.{◌≡◌, ℕ, false, List, [], ◌++◌, refl, ap, sym, ◌∙◌, append_assoc}
use Rattle.std.proofs.lemmas.Result.{on_ok_weaker}
use Rattle.xd_syntax.specs.Placed.{PlacedTree}
use Rattle.xd_syntax.specs.PlacedTable.{placed_at}
use Rattle.xd_syntax.specs.NameFaults.{known_types, unknown_types}
use Rattle.xd_syntax.specs.NotLinear.{not_linear}
use Rattle.xd_syntax.proofs.NotLinear.{linearity_same}
use Rattle.xd_syntax.specs.declared.fault.Fault.{Fault}
use Rattle.xd_names.specs.Knows.{whole}
use Rattle.xd_names.proofs.NameLemmas.{unknown-same}
use Rattle.xd_names.proofs.expressions.in_clause_pattern.Goals as goal

pub returns-clause-faults : goal.returns-clause-faults
returns-clause-faults c =
    let T : PlacedTree = placed_at c.args.program.now.patterns c.args.pattern.at in
    let old : List Fault = c.args.faults.now.items in
    let known : List (List ℕ) = known_types (whole c.args.program.now) in
    let found : List Fault = unknown_types c.args.names.now.types (placed_at c.patterns-patterns.result.now c.args.pattern.at) in
    let same : found ≡ unknown_types known T =
    ap (λ ps. unknown_types c.args.names.now.types (placed_at ps c.args.pattern.at)) c.patterns-patterns.ensures.patterns
    ∙ unknown-same c.args.names.now.types known T c.requires.knows.types in
    let linear : not_linear false c.new-earlier.result c.new-partial.result false (placed_at c.patterns-patterns.result.now c.args.pattern.at) ≡ not_linear false [] [] false T =
    rw (c.new-earlier.ensures, c.new-partial.ensures, c.patterns-patterns.ensures.patterns) refl in
    on_ok_weaker c.push_all.result
    (λ e.
    c.in_ok-not_linear.ensures.faults
    ∙ ap (λ fs. c.in_tree.new.faults.items ++ fs) linear
    ∙ ap (λ fs. fs ++ not_linear false [] [] false T) c.in_ok-in_tree.ensures
    ∙ append_assoc old found (not_linear false [] [] false T)
    ∙ ap (λ fs. old ++ (fs ++ not_linear false [] [] false T)) same
    ∙ ap (λ fs. old ++ (unknown_types known T ++ fs)) (sym (linearity_same T)))
    c.push_all.ensures
