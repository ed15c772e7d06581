use Rattle.std.proofs.Common.{ℕ, subst, sym}
use Rattle.xd_goals.specs.Kept.{view_of}
use Rattle.xd_goals.specs.Trees.{IsSplitAt}
use Rattle.xd_goals.proofs.GrowsByLemmas.{Grows-same}
use Rattle.xd_goals.proofs.grow.split_again.Goals as goal

pub returns-then-two-rest-clause-grows : goal.returns-then-two-rest-clause-grows
returns-then-two-rest-clause-grows c = Grows-same (view_of c.args.goals.now)

pub returns-then-two-rest-clause-split : goal.returns-then-two-rest-clause-split
returns-then-two-rest-clause-split c =
    subst (λ (x : ℕ). IsSplitAt c.args.goals.now.nodes.items c.args.right x c.args.mended.1 c.args.root) (sym c.if-one-content.true)
    (subst (λ (y : ℕ). IsSplitAt c.args.goals.now.nodes.items c.args.right c.args.parts.0 y c.args.root) (sym c.if-two-rest.true) c.requires.there)
