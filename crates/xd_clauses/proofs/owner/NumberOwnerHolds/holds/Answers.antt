use Rattle.std.proofs.Common.{◌<◌, ◌∙◌, length, ap, arith}
use Rattle.xd_patterns.specs.CompiledProgram.{words_of_program}
use Rattle.xd_clauses.proofs.ListedLemmas.{number_owned}
use Rattle.xd_clauses.proofs.owner.NumberOwnerHolds.holds.Goals as goal

pub returns : goal.returns
returns c =
    let m = c.args.self.now.compiled.now in
    let there : c.args.variable < length (words_of_program m) = omega (arith, ap length c.words.ensures.value) in
    c.contains.ensures.value ∙ number_owned m c.words.ensures.distinct c.args.state c.args.kind c.args.number c.marks.result.now c.marks.ensures c.args.variable there
