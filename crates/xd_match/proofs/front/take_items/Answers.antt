use Rattle.std.proofs.Common.{[], ◌∷◌, ◌++◌}
use Rattle.xd_doc.proofs.Lists.{all_but_last}
use Rattle.xd_patterns.specs.Held.{marking_of, variables_in}
use Rattle.xd_match.specs.Taking.{AreTaken, IsReady}
use Rattle.xd_match.proofs.front.take_items.Goals as goal

pub take_task-requires-clause-ready : goal.take_task-requires-clause-ready
take_task-requires-clause-ready c =
    let taken : AreTaken c.args.compiled.now.auto (marking_of c.args.compiled.now.marked) (variables_in c.args.compiled.now.marked) c.args.store.now c.args.start c.loop-task.items.items (c.pop.new.self.items ++ c.in-Some.task ∷ []) =
    rw c.in-Some.ensures.items at c.loop-task.invariant.taken in
    (all_but_last (IsReady c.args.compiled.now.auto c.args.store.now) c.pop.new.self.items c.in-Some.task taken.ready).1

pub loop-task-preserved : goal.loop-task-preserved
loop-task-preserved c =
    let taken : AreTaken c.args.compiled.now.auto (marking_of c.args.compiled.now.marked) (variables_in c.args.compiled.now.marked) c.args.store.now c.args.start c.loop-task.items.items (c.pop.new.self.items ++ c.in-Some.task ∷ []) =
    rw c.in-Some.ensures.items at c.loop-task.invariant.taken in
    record { right = c.in_ok-take_task.ensures.right; taken = c.in_ok-take_task.ensures.taken c.args.start taken }

pub loop-task-smaller : goal.loop-task-smaller
loop-task-smaller c = rw c.in-Some.ensures.items c.in_ok-take_task.ensures.less
