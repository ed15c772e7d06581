use Rattle.std.proofs.Common.{◌∷◌, [], subst}
use Rattle.xd_syntax.specs.TreeForms.{alt_of}
use Rattle.xd_syntax.specs.Types.{tree}
use Rattle.xd_same_types.specs.Same.{AddsFits, trees}
use Rattle.xd_same_types.proofs.AltLaws.{choice_again}
use Rattle.xd_same_types.proofs.Ids.{ok_map}
use Rattle.xd_same_types.proofs.alts.alt_of_all.Goals as goal

pub returns-clause-same : goal.returns-clause-same
returns-clause-same c =
    let old = c.args.pool.now.types in
    let mid = c.choice_of_all.new.pool.types in
    let joined = subst (λ xs. AddsFits [] (trees mid xs) (trees c.join_ends.new.pool.types c.in_ok-parts.parts.items)) c.deref.ensures.value c.in_ok-parts.ensures.fits in
    let whole = choice_again (alt_of (tree old c.args.first ∷ trees old c.args.more.now)) _ _ _ c.in_ok-choice.ensures.fits joined in
    ok_map c.choice_type.result _ _ (λ id s. s _ whole) c.choice_type.ensures.same
