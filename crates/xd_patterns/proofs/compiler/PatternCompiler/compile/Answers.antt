use Rattle.std.proofs.Common.{subst}
use Rattle.xd_syntax.specs.Patterns.{pattern_tree}
use Rattle.xd_patterns.specs.Held.{marking_of}
use Rattle.xd_patterns.specs.Marked.{IsCompiled}
use Rattle.xd_patterns.specs.Sources.{names_in}
use Rattle.xd_patterns.proofs.compiler.PatternCompiler.compile.Goals as goal

pub returns-clause-compiled : goal.returns-clause-compiled
returns-clause-compiled c =
    let s = c.sources_of-sources.ensures in
    let m = c.in_ok-marked.marked in
    let a = c.compile_marked.new.auto in
    subst (λ E. IsCompiled E (pattern_tree c.args.sound.now.patterns c.args.pattern) a (marking_of m) m.start) s.names
    (subst (λ rows. IsCompiled (names_in c.sources_of-sources.result) (pattern_tree rows c.args.pattern) a (marking_of m) m.start) s.patterns c.in_ok-marked.ensures.compiled)
