use Rattle.std.proofs.Common.{◌≡◌, rules, arith}
use Rattle.std.proofs.lemmas.Grind.{common_steps}
use Rattle.xd_syntax.specs.Tree.{environment}
use Rattle.xd_plain.specs.PlainTrees.{definitions_of}
use Rattle.xd_plain.proofs.PlainMeaningLemmas.{any_first}
use Rattle.xd_plain.proofs.program.PlainProgram.new.Goals as goal

pub returns-clause-any_first : goal.returns-clause-any_first
returns-clause-any_first c =
    let h : definitions_of c.append.new.self.items ≡ environment (definitions_of c.args.definitions.items)
    = first_of (grind (arith, common_steps), search rules) in
    any_first (record { definitions = c.append.new.self; functions = c.args.functions }) (definitions_of c.args.definitions.items) h
