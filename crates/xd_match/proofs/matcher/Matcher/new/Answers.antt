use Rattle.std.proofs.Common.{◌≡◌, List, ap, sym, subst, ◌∙◌}
use Rattle.std.specs.List.{IsDistinct}
use Rattle.std.specs.Str.{bytes_eq}
use Rattle.xd_laws.specs.Guarded.{Guarded}
use Rattle.xd_laws.proofs.SoundGuarded.{guarded}
use Rattle.xd_syntax.specs.Kept.{ProgramTable, program_tree}
use Rattle.xd_syntax.specs.Patterns.{pattern_tree}
use Rattle.xd_syntax.specs.Program.{names_of}
use Rattle.xd_syntax.specs.Tree.{occurrences}
use Rattle.xd_meaning.specs.Bindings.{variables_of}
use Rattle.xd_syntax.specs.Table.{Row}
use Rattle.xd_syntax.specs.declared.types.TypeDef.{TypeDef}
use Rattle.xd_sound.specs.TypeNames.{meanings}
use Rattle.xd_pattern_runs.specs.Linear.{BindNothing}
use Rattle.xd_pattern_runs.proofs.NamesBindNothing.{names_bind_nothing}
use Rattle.xd_patterns.specs.Held.{marking_of}
use Rattle.xd_match.proofs.Variables.{once_distinct}
use Rattle.xd_match.proofs.PatternLaws.{compiled_matches}
use Rattle.xd_match.proofs.matcher.Matcher.new.Goals as goal

pub compile_pattern-requires-clause-guarded : goal.compile_pattern-requires-clause-guarded
compile_pattern-requires-clause-guarded c =
    let p = c.args.sound.now in
    let defs = c.type_defs.ensures.type_defs ∙ ap (λ (q : ProgramTable). q.type_defs) c.program-program.ensures.program in
    subst (λ (ds : List TypeDef). Guarded (meanings c.args.meanings.now.types ds)) (sym defs) (subst Guarded (sym c.requires.meanings.names) (guarded (program_tree p) c.program-program.ensures.sound))

pub compile_pattern-requires-clause-none : goal.compile_pattern-requires-clause-none
compile_pattern-requires-clause-none c =
    let p = c.args.sound.now in
    let defs = c.type_defs.ensures.type_defs ∙ ap (λ (q : ProgramTable). q.type_defs) c.program-program.ensures.program in
    subst (λ (ds : List TypeDef). BindNothing (meanings c.args.meanings.now.types ds)) (sym defs)
    (subst BindNothing (sym c.requires.meanings.names) (names_bind_nothing (program_tree p) c.program-program.ensures.proper))

pub returns-clause-stands : goal.returns-clause-stands
returns-clause-stands c ds = record {
  compiled = record {
    start = c.in_ok-marked.ensures.start;
    distinct = subst (IsDistinct bytes_eq) (sym c.in_ok-marked.ensures.variables) (once_distinct (occurrences (pattern_tree c.patterns.result.now c.args.pattern)));
    tails = c.in_ok-mixed.ensures;
  };
  right = c.new.ensures.right _ ds;
}

pub returns-clause-pattern : goal.returns-clause-pattern
returns-clause-pattern c =
    let p = c.args.sound.now in
    let defs = c.type_defs.ensures.type_defs ∙ ap (λ (q : ProgramTable). q.type_defs) c.program-program.ensures.program in
    let names : meanings c.args.meanings.now.types c.type_defs.result.now ≡ names_of (program_tree p) = ap (meanings c.args.meanings.now.types) defs ∙ c.requires.meanings.names in
    let tree : pattern_tree c.patterns.result.now c.args.pattern ≡ pattern_tree p.patterns c.args.pattern =
    ap (λ (rs : List Row). pattern_tree rs c.args.pattern) (c.patterns.ensures.patterns ∙ ap (λ (q : ProgramTable). q.patterns) c.program-program.ensures.program) in
    record {
      variables = c.in_ok-marked.ensures.variables ∙ ap variables_of tree;
      first_match = compiled_matches _ _ _ _ c.compile_pattern.new.auto (marking_of c.in_ok-marked.marked) c.in_ok-marked.marked.start names tree c.in_ok-marked.ensures.compiled;
    }
