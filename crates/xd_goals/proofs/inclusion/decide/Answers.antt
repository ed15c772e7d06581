use Rattle.std.proofs.Common.{subst, sym}
use Rattle.xd_goals.specs.Rows.{TableView}
use Rattle.xd_goals.specs.Kept.{view_of}
use Rattle.xd_goals.specs.Standing.{StandsOn}
use Rattle.xd_goals.proofs.Itself.{lists_kept, stands_apart, stands_together}
use Rattle.xd_goals.proofs.inclusion.decide.Goals as goal

-- src/inclusion.rt:68:5
pub decide_in-requires-clause-stands : goal.decide_in-requires-clause-stands
decide_in-requires-clause-stands c =
    stands_together c.args.auto.now c.args.store.now (view_of c.table.inside.goals) c.table.invariant.lists (subst (λ (t : TableView). StandsOn c.args.auto.now c.args.store.now t) (sym c.table.view_is) c.requires.stands)

-- src/inclusion.rt:51:1
pub invariant_of-table : goal.invariant_of-table
invariant_of-table c = record { whole = c.decide_in.ensures.whole; lists = lists_kept c.args.auto.now (view_of c.decide_in.new.goals) c.decide_in.ensures.stands.facts }

-- src/inclusion.rt:51:1
pub returns-clause-stands : goal.returns-clause-stands
returns-clause-stands c = stands_apart c.args.auto.now c.decide_in.new.store (view_of c.decide_in.new.goals) c.decide_in.ensures.stands
