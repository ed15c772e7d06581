use Rattle.std.proofs.Common.{ap, sym, subst, ◌∙◌}
use Rattle.std.specs.List.{AllByRecursion}
use Rattle.xd_meaning.specs.KeptFaults.{AllPaired}
use Rattle.xd_syntax.specs.Kept.{program_tree}
use Rattle.xd_syntax.specs.Program.{names_of}
use Rattle.xd_syntax.specs.Types.{BelongsTo}
use Rattle.xd_patterns.specs.CompiledProgram.{IsLinearPattern, IsPatternState, IsTypeState, marking_of_program, pattern_states, type_states, variables_of_patterns}
use Rattle.xd_patterns.specs.Sources.{names_in}
use Rattle.xd_patterns.specs.Named.{StandsForType}
use Rattle.xd_patterns.proofs.NamedLemmas.{all_named_accept}
use Rattle.xd_patterns.proofs.Together.{types_accept}
use Rattle.xd_patterns.proofs.compiler.PatternCompiler.compile_all.Goals as goal

pub named_types-requires-clause-belong : goal.named_types-requires-clause-belong
named_types-requires-clause-belong c = subst (λ rows. AllByRecursion (BelongsTo rows) c.args.types.now) (sym c.sources_of-sources.ensures.types) c.requires.types

pub compile_together-requires-clause-types : goal.compile_together-requires-clause-types
compile_together-requires-clause-types c = rw c.deref.ensures.value c.in_ok-named.ensures.belong

pub compile_together-requires-clause-patterns : goal.compile_together-requires-clause-patterns
compile_together-requires-clause-patterns c = subst (λ rows. AllByRecursion (IsLinearPattern rows) c.args.patterns.now) (sym c.sources_of-sources.ensures.patterns) c.requires.patterns

pub returns-clause-types : goal.returns-clause-types
returns-clause-types c =
    let p = c.args.sound.now in
    let s = c.sources_of-sources.ensures in
    let m = c.in_ok-compiled.compiled in
    let a = c.compile_together.new.auto in
    let E = names_of (program_tree p) in
    let named = c.in_ok-named.named.items in
    let belong = subst (λ rows. AllByRecursion (BelongsTo rows) named) s.types c.in_ok-named.ensures.belong in
    let stand =
    subst (λ F. AllPaired (StandsForType F p.types) c.args.types.now named) s.names
    (subst (λ rows. AllPaired (StandsForType (names_in c.sources_of-sources.result) rows) c.args.types.now named) s.types c.in_ok-named.ensures.stand) in
    all_named_accept E p.types a c.args.types.now named (type_states m) stand
    (types_accept p s.sound s.table a (marking_of_program m) named (type_states m) belong
    (rw c.deref.ensures.value at
    (subst (λ F. AllPaired (IsTypeState F p.types a (marking_of_program m)) c.deref.result.now (type_states m)) s.names
    (subst (λ rows. AllPaired (IsTypeState (names_in c.sources_of-sources.result) rows a (marking_of_program m)) c.deref.result.now (type_states m)) s.types c.in_ok-compiled.ensures.compiled.types))))

pub returns-clause-patterns : goal.returns-clause-patterns
returns-clause-patterns c =
    let s = c.sources_of-sources.ensures in
    let m = c.in_ok-compiled.compiled in
    let a = c.compile_together.new.auto in
    subst (λ E. AllPaired (IsPatternState E c.args.sound.now.patterns a (marking_of_program m)) c.args.patterns.now (pattern_states m)) s.names
    (subst (λ rows. AllPaired (IsPatternState (names_in c.sources_of-sources.result) rows a (marking_of_program m)) c.args.patterns.now (pattern_states m)) s.patterns c.in_ok-compiled.ensures.compiled.patterns)

pub returns-clause-variables : goal.returns-clause-variables
returns-clause-variables c = c.in_ok-compiled.ensures.compiled.variables ∙ ap (λ rows. variables_of_patterns rows c.args.patterns.now) c.sources_of-sources.ensures.patterns

pub returns-clause-words : goal.returns-clause-words
returns-clause-words c = c.in_ok-compiled.ensures.compiled.words
