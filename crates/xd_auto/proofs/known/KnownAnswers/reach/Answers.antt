use Rattle.std.proofs.Common.{◌∙◌, rules}
use Rattle.xd_auto.proofs.KeepsAnswerLemmas.{same_more, room_more}
use Rattle.xd_auto.proofs.known.KnownAnswers.reach.Goals as goal

pub loop-self-preserved : goal.loop-self-preserved
loop-self-preserved c = record {
  same = λ node s. rw c.in_ok-push.ensures.items (same_more c.loop-self.self.rows.items c.new.result c.new.ensures.items node s ∙ c.loop-self.invariant.same node s);
  room = λ states words h. rw c.in_ok-push.ensures.items (room_more c.loop-self.self.rows.items c.new.result states words (c.loop-self.invariant.room states words h));
  longer = search rules;
}

pub returns-in_err-push-clause-room : goal.returns-in_err-push-clause-room
returns-in_err-push-clause-room c states words h = rw c.in_err-push.ensures.items (c.loop-self.invariant.room states words h)
