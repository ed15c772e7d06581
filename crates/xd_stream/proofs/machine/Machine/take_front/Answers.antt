use Rattle.std.proofs.Common.{get_or, rules}
use Rattle.std.specs.Prelude.{IfErr}
use Rattle.xd_stream.specs.Pending.{RefusesByte}
use Rattle.xd_stream.proofs.Outcomes.{if_err}
use Rattle.xd_stream.proofs.Rows.{front_byte, refuses_front}
use Rattle.xd_stream.proofs.machine.Machine.take_front.Goals as goal

pub returns-in_err-take_byte-clause-err : goal.returns-in_err-take_byte-clause-err
returns-in_err-take_byte-clause-err c =
    let r : IfErr c.from_residual-in_err-take_byte.result (RefusesByte c.args.self.now (get_or c.args.bytes.now 0 0)) = search rules in
    if_err c.from_residual-in_err-take_byte.result (λ e q. refuses_front c.args.self.now c.args.bytes.now e c.requires.some q) r

pub returns-clause-ok : goal.returns-clause-ok
returns-clause-ok c = front_byte c.args.self.now c.take_byte.new.self c.args.bytes.now c.requires.some c.in_ok-take_byte.ensures.ok
