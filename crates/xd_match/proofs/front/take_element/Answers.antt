use Rattle.std.proofs.Common.{◌≡◌, true, [], get_or, sym, subst, ap}
use Rattle.xd_doc.specs.Stored.{document_at}
use Rattle.xd_auto.specs.declared.auto.LabelMove.{LabelMove}
use Rattle.xd_auto.specs.Automaton.{IsState, moves_at, takes_element}
use Rattle.xd_patterns.specs.Held.{marking_of, variables_in}
use Rattle.xd_match.specs.Taking.{IsFirst}
use Rattle.xd_match.proofs.Firsts.{content_accepted, rest_accepted}
use Rattle.xd_match.proofs.Taken.{takes_label}
use Rattle.xd_match.proofs.Variables.{marked_by}
use Rattle.xd_match.proofs.front.take_element.Goals as goal

pub returns-clause-taken : goal.returns-clause-taken
returns-clause-taken c =
    let a = c.args.compiled.now.auto in
    let ds = c.args.store.now in
    let s = c.args.task.state in
    let k = marking_of c.args.compiled.now.marked in
    let vs = variables_in c.args.compiled.now.marked in
    let l = c.args.label.now in
    let n = c.in_ok-number.number in
    let inner = document_at ds c.content-content.result in
    let rest = document_at ds c.next-rest.result in
    let step : LabelMove = c.index-moves-number.result in
    let is : step ≡ get_or (moves_at a s).labels n step = rw c.label_moves-moves.ensures.value at c.index-moves-number.is in
    let found : IsFirst (takes_element a l inner rest) (moves_at a s).labels n = c.in_ok-number.ensures.first in
    let passes : takes_element a l inner rest step ≡ true = subst (λ (q : LabelMove). takes_element a l inner rest q ≡ true) (sym is) (found.passes step) in
    let states : IsState a step.content × IsState a step.rest =
    subst (λ (q : LabelMove). IsState a q.content × IsState a q.rest) (sym is) (c.label_moves-moves.ensures.closed.labels n step found.within) in
    takes_label a k vs ds c.args.task c.args.items.now.items c.note.new.items.items c.marks-marks.result.now n l _ _ step c.requires.element c.requires.ready.seq
    (rw (c.content-content.ensures.inner, c.next-rest.ensures.rest) at found)
    (marked_by vs c.requires.compiled.distinct c.marks-marks.result.now (get_or (k s).labels n []) c.marks-marks.ensures)
    c.in_ok-note.ensures.ok
    c.next-rest.ensures.rest
    (ap (λ (q : LabelMove). q.rest) is)
    (record { state = states.1; seq = c.next-rest.ensures.belongs; accepted = rest_accepted a k l inner rest step passes })
    c.content-content.ensures.inner
    (ap (λ (q : LabelMove). q.content) is)
    (record { state = states.0; seq = c.content-content.ensures.belongs; accepted = content_accepted a k l inner rest step passes })
