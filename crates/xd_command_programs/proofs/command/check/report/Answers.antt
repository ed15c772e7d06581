use Rattle.xd_command_programs.proofs.command.check.report.Goals as goal

pub verdict-requires : goal.verdict-requires
verdict-requires c = (c.args.sound, c.in_ok-outcome.ensures.outcome)

pub returns : goal.returns
returns c = c.verdict.ensures c.args.sound c.in_ok-outcome.ensures.outcome
