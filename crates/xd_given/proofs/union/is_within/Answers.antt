use Rattle.std.proofs.Common.{◌≡◌, true, false, sym, ◌∙◌}
use Rattle.xd_given.proofs.UnionLemmas.{bare_within}
use Rattle.std.proofs.lemmas.Bool.{not-true}
use Rattle.xd_given.proofs.union.is_within.Goals as goal

pub returns-then-not-is_last : goal.returns-then-not-is_last
returns-then-not-is_last c e d h =
    bare_within c.args.auto.now c.args.state c.args.other (c.is_bare.ensures c.if-is_bare.true)
    (λ last. absurd (let both : true ≡ false = sym last ∙ sym c.is_last.ensures ∙ not-true c.is_last.result e in cc)) d h

pub returns-else-not-is_last : goal.returns-else-not-is_last
returns-else-not-is_last c e d h =
    bare_within c.args.auto.now c.args.state c.args.other (c.is_bare.ensures c.if-is_bare.true) (λ last. sym c.is_last-else-not-is_last.ensures ∙ e) d h
