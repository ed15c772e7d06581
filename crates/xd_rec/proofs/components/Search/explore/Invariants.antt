use Rattle.std.proofs.Common.{◌≡◌}
use Rattle.xd_rec.specs.Components.{IsSearched, StaySeen, standing_of, work_left}
use Rattle.xd_rec.specs.declared.components.Standing.TheVariants.{Unseen}
use Rattle.xd_rec.proofs.components.Search.explore.Given as goal

abbrev pub invariant-loop-self : goal.invariant-loop-self
invariant-loop-self l = record {
  searched : IsSearched l.graph l.self.standing.items l.self.path.items l.self.todo.items l.self.segments.items l.self.finished;
  stay : StaySeen l.fn.self.standing.items l.self.standing.items;
  seen : standing_of l.self.standing.items l.root ≡ Unseen → ⊥;
}

abbrev pub decreases-loop-self : goal.decreases-loop-self
decreases-loop-self l = work_left l.self.standing.items l.self.todo.items l.self.segments.items
