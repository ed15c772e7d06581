use Rattle.std.proofs.Common.{arith, subst, sym}
use Rattle.xd_goals.specs.Kept.{AreThese, Grows, view_of}
use Rattle.xd_state_heads.specs.Moves.{IsInOrder, claim_with}
use Rattle.xd_goals.proofs.GrowsByLemmas.{Grows-then, Grows-weaken, claim_at-grows}
use Rattle.xd_goals.proofs.grow.leaf.Goals as goal
use Rattle.xd_goals.proofs.grow.leaf.Goals.{After-find_or_add}

-- the goal's rights are in order
found_grows : (c : After-find_or_add) → Grows (view_of c.args.goals.now) (view_of c.find_or_add.new.goals)
found_grows c = Grows-weaken (AreThese c.args.rights.now) IsInOrder (view_of c.args.goals.now) (view_of c.find_or_add.new.goals) (λ rs e. subst IsInOrder (sym e) c.requires.order) c.find_or_add.ensures.grows

pub returns-in_err-goal-clause-grows : goal.returns-in_err-goal-clause-grows
returns-in_err-goal-clause-grows c = found_grows (goal.at.returns-in_err-goal-clause-grows c).After-find_or_add

pub returns-in_err-depend-clause-grows : goal.returns-in_err-depend-clause-grows
returns-in_err-depend-clause-grows c =
    Grows-then (view_of c.args.goals.now) (view_of c.find_or_add.new.goals) (view_of c.depend.new.goals) (found_grows (goal.at.returns-in_err-depend-clause-grows c).After-find_or_add) c.depend.ensures.grows

pub returns-clause-grows : goal.returns-clause-grows
returns-clause-grows c =
    Grows-then (view_of c.args.goals.now) (view_of c.find_or_add.new.goals) (view_of c.depend.new.goals) (found_grows (goal.at.returns-clause-grows c).After-find_or_add) c.depend.ensures.grows

pub returns-clause-ok : goal.returns-clause-ok
returns-clause-ok c = record {
  claim = claim_at-grows (view_of c.find_or_add.new.goals) (view_of c.depend.new.goals) c.in_ok-depend.ensures.grows c.in_ok-goal.goal.number (claim_with c.args.left c.args.rights.now) c.in_ok-goal.ensures.found;
  listed = c.in_ok-depend.ensures.listed;
}

pub returns-clause-consistent : goal.returns-clause-consistent
returns-clause-consistent c = c.depend.ensures.consistent

pub returns-in_err-depend-clause-consistent : goal.returns-in_err-depend-clause-consistent
returns-in_err-depend-clause-consistent c = c.depend.ensures.consistent

pub depend-requires-clause-consistent : goal.depend-requires-clause-consistent
depend-requires-clause-consistent c = c.find_or_add.ensures.consistent

pub depend-requires-clause-on : goal.depend-requires-clause-on
depend-requires-clause-on c = c.in_ok-goal.ensures.there

pub depend-requires-clause-owner : goal.depend-requires-clause-owner
depend-requires-clause-owner c = omega (arith, c.find_or_add.ensures.grows.longer, c.requires.owner)
