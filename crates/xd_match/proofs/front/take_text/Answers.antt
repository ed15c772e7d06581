use Rattle.std.proofs.Common.{◌≡◌, true, [], get_or, sym, subst, ap}
use Rattle.xd_doc.specs.Stored.{document_at}
use Rattle.xd_auto.specs.declared.auto.TextMove.{TextMove}
use Rattle.xd_auto.specs.Automaton.{IsState, moves_at, takes_word}
use Rattle.xd_patterns.specs.Held.{marking_of, variables_in}
use Rattle.xd_match.specs.Taking.{IsFirst}
use Rattle.xd_match.proofs.Firsts.{word_accepted}
use Rattle.xd_match.proofs.Taken.{takes_text}
use Rattle.xd_match.proofs.Variables.{marked_by}
use Rattle.xd_match.proofs.front.take_text.Goals as goal

pub returns-clause-taken : goal.returns-clause-taken
returns-clause-taken c =
    let a = c.args.compiled.now.auto in
    let ds = c.args.store.now in
    let s = c.args.task.state in
    let vs = variables_in c.args.compiled.now.marked in
    let n = c.in_ok-number.number in
    let step : TextMove = c.index-moves-number.result in
    let is : step ≡ get_or (moves_at a s).texts n step = rw c.text_moves-moves.ensures.value at c.index-moves-number.is in
    let found : IsFirst (takes_word a c.args.text.now (document_at ds c.next-rest.result)) (moves_at a s).texts n = c.in_ok-number.ensures.first in
    let passes : takes_word a c.args.text.now (document_at ds c.next-rest.result) step ≡ true =
    subst (λ (q : TextMove). takes_word a c.args.text.now (document_at ds c.next-rest.result) q ≡ true) (sym is) (found.passes step) in
    let state : IsState a step.rest = subst (λ (q : TextMove). IsState a q.rest) (sym is) (c.text_moves-moves.ensures.closed.texts n step found.within) in
    takes_text a (marking_of c.args.compiled.now.marked) vs ds c.args.task c.args.items.now.items c.note.new.items.items c.marks-marks.result.now n c.args.text.now _ step c.requires.text c.requires.ready.seq
    (rw c.next-rest.ensures.rest at found)
    (marked_by vs c.requires.compiled.distinct c.marks-marks.result.now (get_or (marking_of c.args.compiled.now.marked s).texts n []) c.marks-marks.ensures)
    c.in_ok-note.ensures.ok
    c.next-rest.ensures.rest
    (ap (λ (q : TextMove). q.rest) is)
    (record { state = state; seq = c.next-rest.ensures.belongs; accepted = word_accepted a (marking_of c.args.compiled.now.marked) c.args.text.now (document_at ds c.next-rest.result) step passes })
