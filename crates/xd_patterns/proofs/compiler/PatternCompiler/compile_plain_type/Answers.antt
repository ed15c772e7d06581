use Rattle.std.proofs.Common.{◌≡◌, true, ◌↔◌, sym, subst}
use Rattle.xd_auto.specs.Automaton.{accepts}
use Rattle.xd_syntax.specs.Table.{tree_at}
use Rattle.xd_syntax.specs.Fits.{Fits}
use Rattle.xd_syntax.specs.Kept.{program_tree}
use Rattle.xd_syntax.specs.Program.{names_of}
use Rattle.xd_syntax.specs.Ways.{Takes}
use Rattle.xd_laws.proofs.TheLaws.{patterns_are_types}
use Rattle.xd_patterns.specs.Sources.{names_in}
use Rattle.xd_patterns.proofs.PlainTypes.{type_bare}
use Rattle.xd_patterns.proofs.compiler.PatternCompiler.compile_plain_type.Goals as goal

pub returns-clause-accepts : goal.returns-clause-accepts
returns-clause-accepts c d =
    let p = c.args.sound.now in
    let i = c.args.id.at in
    let s = c.sources_of-sources.ensures in
    let a = c.compile_plain.new.auto in
    let state = c.in_ok-state.state in
    let taken =
    subst (λ E. (accepts a d state ≡ true) ↔ Takes E (tree_at p.types i) d) s.names
    (subst (λ rows. (accepts a d state ≡ true) ↔ Takes (names_in c.sources_of-sources.result) (tree_at rows i) d) s.types (c.in_ok-state.ensures.accepts d)) in
    let law = patterns_are_types (program_tree p) s.sound (tree_at p.types i) d in
    let bare = type_bare p.types s.table i c.requires.belongs in (
      λ y. subst (λ T. Fits (names_of (program_tree p)) T d) bare (law.0 (taken.0 y)),
      λ y. taken.1 (law.1 (subst (λ T. Fits (names_of (program_tree p)) T d) (sym bare) y)),
    )
