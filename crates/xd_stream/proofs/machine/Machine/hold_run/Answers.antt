use Rattle.std.proofs.Common.{refl}
use Rattle.xd_stream.proofs.Rows.{run_takes}
use Rattle.xd_stream.proofs.machine.Machine.hold_run.Goals as goal

pub returns-clause-ok : goal.returns-clause-ok
returns-clause-ok c = run_takes c.args.self.now _ c.args.run.now c.requires.run refl refl refl refl c.in_ok-extend_from_slice.ensures.items c.further-self.ensures
