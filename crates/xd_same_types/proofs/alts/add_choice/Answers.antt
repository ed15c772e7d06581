use Rattle.std.proofs.Common.{subst}
use Rattle.xd_same_types.specs.Same.{AddsFits, trees}
use Rattle.xd_same_types.proofs.AltLaws.{choice_both}
use Rattle.xd_same_types.proofs.alts.add_choice.Goals as goal

pub returns-clause-fits : goal.returns-clause-fits
returns-clause-fits c = λ T b h.
    let rows = c.args.pool.now.types in
    let adds = subst (λ xs. AddsFits (trees rows c.args.some.now.parts.items) (trees rows xs) (trees c.add_alternatives.new.pool.types c.add_alternatives.new.some.parts.items)) c.deref.ensures.value c.in_ok-add_alternatives.ensures.fits in
    choice_both _ _ _ _ _ _ _ h c.in_ok-choice.ensures.fits adds
