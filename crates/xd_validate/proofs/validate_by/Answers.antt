use Rattle.std.proofs.Common.{inl, inr}
use Rattle.xd_base.specs.Outside.{HasRisen}
use Rattle.xd_validate.proofs.Runs.{ends-by-type}
use Rattle.xd_validate.proofs.validate_by.Goals as goal

pub returns-in-Ok : goal.returns-in-Ok
returns-in-Ok g c =
    let h = c.in-Ok.ensures in
    inr (inr (h.0, (h.1, h.2.0), ends-by-type h.0 c.args.name.now c.in-Ok.auto c.in-Ok.state _ _ _ (HasRisen (g.S.Sink.faults c.args.sink.now) (g.S.Sink.faults c.run_asked.new.sink)) _ _ _ _ h.2.1 c.run_asked.ensures))

pub returns-in-Err-Refused : goal.returns-in-Err-Refused
returns-in-Err-Refused g c =
    let ended = rw c.in-Err-Refused.field-0-is at c.in-Err-Refused.ensures in
    let sent = rw c.in-Err-Refused.field-0-is at c.send.ensures in
    inr (inl (c.in-Err-Refused.output, ended, sent))
