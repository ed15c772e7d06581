use Rattle.std.proofs.Common.{List, map, ap, sym, subst, ◌∙◌}
use Rattle.std.specs.List.{AllByRecursion}
use Rattle.xd_doc.proofs.Lists.{all_push}
use Rattle.xd_eval.specs.Values.{Stands, World, value_at, world}
use Rattle.xd_eval.specs.Waiting.{joined_all}
use Rattle.xd_eval.specs.declared.joins.Value.{Value}
use Rattle.xd_eval.proofs.Resumed.{next_in_sequence, ends_sequence}
use Rattle.xd_eval.proofs.resuming.next_of_sequence.Goals as goal

pub returns-in-Some-clause-step : goal.returns-in-Some-clause-step
returns-in-Some-clause-step c =
    next_in_sequence c.args.sound.now (world c.args.store.now c.args.machine.now.joins.items) c.args.parts c.take_value.new.parts c.args.value c.in_ok-next.ensures.more c.args.machine.now.frames.items c.push.new.self.items c.requires.awaited.frames c.requires.awaited.frame.1
    c.requires.awaited.value c.args.machine.now.left c.in-Some.next c.in-Some.scope (rw c.in-Some.is at c.in_ok-next.ensures.next) c.in_ok-push.ensures.items c.requires.awaited.frame.0

-- each part's value stands for a document
pub all_joined-requires-clause-values : goal.all_joined-requires-clause-values
all_joined-requires-clause-values c =
    let w : World = world c.args.store.now c.args.machine.now.joins.items in
    subst (AllByRecursion (Stands w)) (sym (c.deref.ensures.value ∙ c.in_ok-next.ensures.more.values))
    (all_push (Stands w) c.args.parts.values.items c.args.value c.requires.awaited.frame.1.values_there c.requires.awaited.value)

pub returns-clause-step : goal.returns-clause-step
returns-clause-step c =
    let old : World = world c.args.store.now c.args.machine.now.joins.items in
    let e = c.in_ok-made.ensures in
    ends_sequence c.args.sound.now old c.args.parts c.take_value.new.parts c.args.value c.in_ok-next.ensures.more c.args.machine.now.frames.items c.requires.awaited.frames (world c.all_joined.new.store c.all_joined.new.joins.items) e.same
    c.in_ok-made.made e.stands (e.value ∙ ap (λ (vs : List Value). joined_all (map (value_at old) vs)) c.deref.ensures.value) (rw c.in_default.is at c.in_ok-next.ensures.next) c.args.machine.now.left
