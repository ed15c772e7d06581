use Rattle.std.proofs.Common.{subst}
use Rattle.xd_same_types.specs.Same.{AddsFits, trees}
use Rattle.xd_same_types.proofs.Ids.{on_map}
use Rattle.xd_same_types.proofs.StarLaws.{adds_stripped}
use Rattle.xd_same_types.proofs.Tables.{some_trees}
use Rattle.xd_same_types.proofs.stars.add_stripped.Goals as goal

pub returns-clause-strips : goal.returns-clause-strips
returns-clause-strips c =
    let rows = c.args.pool.now.types in
    let pieces = c.in_ok-pieces.pieces.items in
    on_map c.add_alternatives.result _ _
    (λ a. adds_stripped _ (trees rows pieces) _ _ _ c.stripped-bare.ensures.same c.in_ok-pieces.ensures.tree (some_trees rows pieces c.in_ok-pieces.ensures.some)
    (subst (λ xs. AddsFits (trees rows c.args.made.now.parts.items) (trees rows xs) (trees c.add_alternatives.new.pool.types c.add_alternatives.new.some.parts.items)) c.deref.ensures.value a))
    c.add_alternatives.ensures.fits
