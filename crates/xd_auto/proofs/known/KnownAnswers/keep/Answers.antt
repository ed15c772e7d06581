use Rattle.std.proofs.Common.{◌≤◌, ◌∙◌, arith, get_or, vec_capacity}
use Rattle.std.proofs.lemmas.List.{get_or_read}
use Rattle.xd_doc.proofs.Results.{on_err}
use Rattle.xd_auto.specs.Kept.{HasRoom, words_of}
use Rattle.xd_auto.proofs.KeepsAnswerLemmas.{answer_from_same, keep_row, room_set, same_rows}
use Rattle.xd_auto.proofs.known.KnownAnswers.keep.Goals as goal

pub returns-clause-ok : goal.returns-clause-ok
returns-clause-ok c =
    answer_from_same c.args.node c.args.state c.args.answer _ (words_of c.reach.new.self.rows.items) _ c.in_ok-reach.ensures.same
    (keep_row c.reach.new.self.rows.items c.args.state c.args.node c.args.answer c.put_in.new.row c.index_mut.result.now c.in_ok-reach.ensures.row c.index_mut.ensures.value c.in_ok-put_in.ensures.ok)

pub returns-clause-room : goal.returns-clause-room
returns-clause-room c states words h =
    room_set c.reach.new.self.rows.items c.args.state c.put_in.new.row states words c.in_ok-reach.ensures.row
    (rw (← get_or_read c.reach.new.self.rows.items c.args.state c.index_mut.result.now c.in_ok-reach.ensures.row c.index_mut.ensures.value c.put_in.new.row) c.put_in.ensures.capacity)
    (c.in_ok-reach.ensures.room states words h)

pub returns-in_err-put_in-clause-err : goal.returns-in_err-put_in-clause-err
returns-in_err-put_in-clause-err c =
    on_err c.from_residual-in_err-put_in.result
    (λ node s.
    same_rows c.reach.new.self.rows.items c.args.state c.put_in.new.row c.index_mut.result.now c.in_ok-reach.ensures.row c.index_mut.ensures.value c.in_err-put_in.ensures.err node s
    ∙ c.in_ok-reach.ensures.same node s)

pub returns-in_err-put_in-clause-room : goal.returns-in_err-put_in-clause-room
returns-in_err-put_in-clause-room c states words h =
    room_set c.reach.new.self.rows.items c.args.state c.put_in.new.row states words c.in_ok-reach.ensures.row
    (rw (← get_or_read c.reach.new.self.rows.items c.args.state c.index_mut.result.now c.in_ok-reach.ensures.row c.index_mut.ensures.value c.put_in.new.row) c.put_in.ensures.capacity)
    (c.in_ok-reach.ensures.room states words h)

pub returns-in_err-put_in-clause-full : goal.returns-in_err-put_in-clause-full
returns-in_err-put_in-clause-full c =
    on_err c.from_residual-in_err-put_in.result
    (λ states words h below small.
    let room : HasRoom states words c.reach.new.self.rows.items = c.in_ok-reach.ensures.room states words h in
    let wide : words ≤ vec_capacity (get_or c.reach.new.self.rows.items c.args.state c.index_mut.result.now) = room.wide c.args.state c.index_mut.result.now below in
    let here : words ≤ vec_capacity c.index_mut.result.now = rw (← c.index_mut.ensures.value) at wide in
    omega (arith, c.in_err-put_in.ensures.full))
