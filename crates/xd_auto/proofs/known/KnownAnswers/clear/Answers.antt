use Rattle.std.proofs.Common.{◌≡◌, ◌<◌, arith, length, ◌∙◌, get_or}
use Rattle.std.proofs.lemmas.List.{length-set, get_or_read}
use Rattle.xd_auto.proofs.KeepsAnswerLemmas.{bare_set, none_kept, room_set}
use Rattle.xd_auto.proofs.known.KnownAnswers.clear.Goals as goal

pub loop-state-preserved : goal.loop-state-preserved
loop-state-preserved c =
    let lt : c.loop-state.state < length c.loop-state.self.rows.items = omega (arith, c.loop-state.invariant.same_len, c.loop-state.invariant.end_is) in
    record {
      same_len = length-set c.loop-state.self.rows.items c.loop-state.state c.clear.new.self ∙ c.loop-state.invariant.same_len;
      end_is = c.loop-state.invariant.end_is;
      bare = bare_set c.loop-state.self.rows.items c.loop-state.state c.clear.new.self lt c.clear.ensures.items c.loop-state.invariant.bare;
      room = λ states words h.
          room_set c.loop-state.self.rows.items c.loop-state.state c.clear.new.self states words lt
          (let read : c.index_mut.result.now ≡ get_or c.loop-state.self.rows.items c.loop-state.state c.clear.new.self =
          get_or_read c.loop-state.self.rows.items c.loop-state.state c.index_mut.result.now lt c.index_mut.ensures.value c.clear.new.self in
          rw (← read) (omega (arith, c.clear.ensures.capacity))) (c.loop-state.invariant.room states words h);
    }

pub returns-clause-none : goal.returns-clause-none
returns-clause-none c = none_kept c.loop-state.self.rows.items (λ s row lt. c.loop-state.invariant.bare s row (omega (arith, c.loop-state.invariant.same_len, c.loop-state.invariant.end_is)))
