use Rattle.std.proofs.Common.{List, sym, subst}
use Rattle.std.specs.List.{AllByRecursion}
use Rattle.xd_syntax.specs.Table.{Row}
use Rattle.xd_syntax.specs.Tree.{Definitions}
use Rattle.xd_patterns.specs.CompiledProgram.{IsLinearPattern}
use Rattle.xd_clauses.specs.Compiled.{ArePatterns}
use Rattle.xd_clauses.proofs.NoneTakesLemmas.{to_old}
use Rattle.xd_clauses.proofs.cases.compiled_of.Goals as goal

pub alone-requires-clause-patterns : goal.alone-requires-clause-patterns
alone-requires-clause-patterns c = subst (λ (rows : List Row). AllByRecursion (IsLinearPattern rows) c.args.ids.items) (sym c.in_ok-compiler.ensures.adds.patterns) c.requires

pub returns-clause-patterns : goal.returns-clause-patterns
returns-clause-patterns c = to_old c.args.sound.now c.new.new.sound c.in_ok-compiler.ensures.adds c.in_ok-compiler.ensures.same (λ (D : Definitions) (rows : List Row). ArePatterns D rows c.in_ok-made.made) c.in_ok-made.ensures.patterns
