use Rattle.xd_check_steps.specs.Clauses.{patterns_among}
use Rattle.xd_check_steps.proofs.Numbered.{compiled_as}
use Rattle.xd_variables.proofs.reader.Reader.read_clauses.Goals as goal

pub read_compiled-requires-clause-compiled : goal.read_compiled-requires-clause-compiled
read_compiled-requires-clause-compiled c =
    let r = c.args.self.now in
    let a = c.args.auto.now in
    let own = c.in_ok-own.own in
    compiled_as r.sound a c.args.clauses.now (patterns_among r.patterns own.own) c.among.result.now own.numbers.items c.numbers.result.now c.among.ensures c.numbers.ensures (c.in_ok-own.ensures a c.requires.ready.points)
