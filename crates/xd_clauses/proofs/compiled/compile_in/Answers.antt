use Rattle.xd_auto.proofs.ExtendsLemmas.{keeps}
use Rattle.xd_syntax.specs.Kept.{program_tree}
use Rattle.xd_syntax.specs.Program.{names_of}
use Rattle.xd_patterns.specs.CompiledProgram.{AcceptsType, IsPatternState, marking_of_program, pattern_states, type_states}
use Rattle.xd_patterns.proofs.Pairing.{paired_same}
use Rattle.xd_clauses.proofs.NumberedLemmas.{pattern_stays, type_stays}
use Rattle.xd_clauses.proofs.compiled.compile_in.Goals as goal

pub returns-clause-types : goal.returns-clause-types
returns-clause-types c =
    let E = names_of (program_tree c.args.sound.now) in
    let rows = c.args.sound.now.types in
    let a = c.compile_all.new.auto in
    let b = c.add_universal.new.auto in
    let grows = c.in_ok-all.ensures.extends in
    paired_same (AcceptsType E rows a) (AcceptsType E rows b) (type_stays E rows a b grows (keeps a b c.len-states.ensures.closed grows)) c.args.types.now (type_states c.in_ok-compiled.compiled) c.in_ok-compiled.ensures.types

pub returns-clause-patterns : goal.returns-clause-patterns
returns-clause-patterns c =
    let E = names_of (program_tree c.args.sound.now) in
    let rows = c.args.sound.now.patterns in
    let a = c.compile_all.new.auto in
    let b = c.add_universal.new.auto in
    let m = c.in_ok-compiled.compiled in
    let k = marking_of_program m in
    paired_same (IsPatternState E rows a k) (IsPatternState E rows b k) (pattern_stays c.compiled_states_stay.ensures E rows a b k c.len-states.ensures.closed c.in_ok-all.ensures.extends) c.args.ids.now (pattern_states m) c.in_ok-compiled.ensures.patterns
