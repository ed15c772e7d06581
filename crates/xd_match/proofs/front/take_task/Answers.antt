use Rattle.std.proofs.Common.{◌≡◌, false, ◌∙◌, ◌∷◌, [], arith, sym, append_assoc}
use Rattle.xd_patterns.specs.Held.{marking_of, variables_in}
use Rattle.xd_match.specs.declared.front.Task.{Task}
use Rattle.xd_match.specs.Tails.{is_mixed, tail_marks}
use Rattle.xd_match.proofs.Taken.{empty_from, taken_empty, taken_more, taken_whole, work_append}
use Rattle.xd_match.proofs.Variables.{marked_by}
use Rattle.xd_match.proofs.front.take_task.Goals as goal

pub returns-then-not-is_mixed-clause-taken : goal.returns-then-not-is_mixed-clause-taken
returns-then-not-is_mixed-clause-taken c start taken =
    let a = c.args.compiled.now.auto in
    let k = marking_of c.args.compiled.now.marked in
    let vs = variables_in c.args.compiled.now.marked in
    let t = c.args.task in
    let even : is_mixed c.args.compiled.now.mixed.items t.state ≡ false = sym c.is_mixed.ensures ∙ c.if-not-is_mixed.true in
    taken_whole a k vs c.args.store.now start c.args.compiled.now.mixed.items c.requires.compiled.tails c.args.items.now.items c.note.new.items.items c.args.tasks.now.items t c.tail_of-marks.result.now taken even
    (marked_by vs c.requires.compiled.distinct c.tail_of-marks.result.now (tail_marks a k t.state) c.tail_of-marks.ensures) c.in_ok-note.ensures.ok

pub returns-then-not-is_mixed-clause-less : goal.returns-then-not-is_mixed-clause-less
returns-then-not-is_mixed-clause-less c = omega (arith, work_append c.args.store.now c.args.tasks.now.items (c.args.task ∷ []))

pub returns-in-None-clause-taken : goal.returns-in-None-clause-taken
returns-in-None-clause-taken c start taken =
    taken_empty c.args.compiled.now.auto (marking_of c.args.compiled.now.marked) (variables_in c.args.compiled.now.marked) c.args.store.now start c.args.items.now.items c.args.tasks.now.items c.args.task taken (empty_from _ (sym c.in-None.ensures))

pub returns-in-None-clause-less : goal.returns-in-None-clause-less
returns-in-None-clause-less c = omega (arith, work_append c.args.store.now c.args.tasks.now.items (c.args.task ∷ []))

pub returns-in_ok-push-in-Some-Text-clause-taken : goal.returns-in_ok-push-in-Some-Text-clause-taken
returns-in_ok-push-in-Some-Text-clause-taken c start taken =
    rw c.in_ok-push-in-Some-Text.ensures.items
    (taken_more c.args.compiled.now.auto (marking_of c.args.compiled.now.marked) (variables_in c.args.compiled.now.marked) c.args.store.now start c.args.items.now.items c.take_text.new.items.items c.args.tasks.now.items c.args.task
    (c.in_ok-next-in-Some-Text.next ∷ []) taken c.in_ok-next-in-Some-Text.ensures.taken)

pub returns-in_ok-push-in-Some-Text-clause-less : goal.returns-in_ok-push-in-Some-Text-clause-less
returns-in_ok-push-in-Some-Text-clause-less c =
    let next : Task = c.in_ok-next-in-Some-Text.next in
    rw c.in_ok-push-in-Some-Text.ensures.items
    (omega (arith, work_append c.args.store.now c.args.tasks.now.items (c.args.task ∷ []), work_append c.args.store.now c.args.tasks.now.items (next ∷ []), c.in_ok-next-in-Some-Text.ensures.taken.less))

pub returns-in_ok-push-in-Some-Elem-2-clause-taken : goal.returns-in_ok-push-in-Some-Elem-2-clause-taken
returns-in_ok-push-in-Some-Elem-2-clause-taken c start taken =
    rw (c.in_ok-push-in-Some-Elem-2.ensures.items, c.in_ok-push-in-Some-Elem.ensures.items, append_assoc)
    (taken_more c.args.compiled.now.auto (marking_of c.args.compiled.now.marked) (variables_in c.args.compiled.now.marked) c.args.store.now start c.args.items.now.items c.take_element.new.items.items c.args.tasks.now.items c.args.task
    (c.in_ok-next-in-Some-Elem.next.0 ∷ (c.in_ok-next-in-Some-Elem.next.1 ∷ [])) taken c.in_ok-next-in-Some-Elem.ensures.taken)

pub returns-in_ok-push-in-Some-Elem-2-clause-less : goal.returns-in_ok-push-in-Some-Elem-2-clause-less
returns-in_ok-push-in-Some-Elem-2-clause-less c =
    let behind : Task = c.in_ok-next-in-Some-Elem.next.0 in
    let inside : Task = c.in_ok-next-in-Some-Elem.next.1 in
    rw (c.in_ok-push-in-Some-Elem-2.ensures.items, c.in_ok-push-in-Some-Elem.ensures.items, append_assoc)
    (omega (arith, work_append c.args.store.now c.args.tasks.now.items (c.args.task ∷ []), work_append c.args.store.now c.args.tasks.now.items (behind ∷ (inside ∷ [])), c.in_ok-next-in-Some-Elem.ensures.taken.less))
