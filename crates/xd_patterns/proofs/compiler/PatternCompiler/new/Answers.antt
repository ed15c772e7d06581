use Rattle.std.proofs.Common.{◌<◌, length, ap, sym, subst, ◌∙◌}
use Rattle.xd_syntax.specs.Table.{tree_at}
use Rattle.xd_sound.specs.TypeNames.{AreNumbered}
use Rattle.xd_patterns.proofs.compiler.PatternCompiler.new.Goals as goal

pub returns-clause-serves : goal.returns-clause-serves
returns-clause-serves c =
    let p = c.meaning_of_any.new.sound in
    let found = c.in_ok-any.ensures.found in
    record {
      any_there = subst (λ i. i < length p.types) (sym c.at.ensures) found.belongs;
      any_is = ap (tree_at p.types) c.at.ensures ∙ found.same;
      names = subst (AreNumbered c.in_ok-names.names) (c.type_defs.ensures.type_defs ∙ ap (λ q. q.type_defs) c.program.ensures.program) c.in_ok-names.ensures;
    }
