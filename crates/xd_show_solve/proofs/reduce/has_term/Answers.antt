use Rattle.std.proofs.Common.{get_or, sym, ◌∙◌}
use Rattle.xd_doc.proofs.Lists.{same_at}
use Rattle.xd_show_solve.specs.declared.sums.Term.{Term}
use Rattle.xd_show_solve.proofs.ShortLaws.{among_at, same_term}
use Rattle.xd_show_solve.proofs.reduce.has_term.Goals as goal

pub returns-then-at : goal.returns-then-at
returns-then-at c =
    let ts = c.args.terms.now in
    let k = c.loop-other.other-index in
    let other : Term = get_or ts k (record { by = record { at = 0 }; to = 0 }) in
    let e = sym c.at.ensures ∙ c.if-at.true ∙ c.at-then-other-term.ensures in
    λ t. among_at ts k c.args.term c.loop-other-test.true (sym (same_term other c.args.term c.if-other-term.true e) ∙ same_at ts k _ c.args.term c.loop-other-test.true)
