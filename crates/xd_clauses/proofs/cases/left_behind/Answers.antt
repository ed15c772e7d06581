use Rattle.std.proofs.Common.{◌↔◌, sym, take, ◌∙◌}
use Rattle.xd_doc.specs.Document.{Document}
use Rattle.xd_clauses.specs.Cases.{placed_patterns}
use Rattle.xd_clauses.specs.Clauses.{Accepted}
use Rattle.xd_clauses.proofs.NoneTakesLemmas.{left_of}
use Rattle.xd_clauses.proofs.cases.left_behind.Goals as goal

pub returns-clause-exact : goal.returns-clause-exact
returns-clause-exact c = λ E rows are.
    let A = Accepted c.args.auto.now c.args.state in
    let O = Accepted c.absorb.new.self c.in_ok-start.start in
    let same = c.in_ok-start.ensures.ok in
    let start : (d : Document) → O d ↔ A d = λ d. ((λ y. sym (same d) ∙ y), (λ y. same d ∙ y)) in
    left_of A O (Accepted c.take_first_away.new.auto c.in_ok-left.left) E (placed_patterns rows (take c.args.count c.args.patterns.now.ids.items)) start (c.in_ok-left.ensures.exact E rows are)
