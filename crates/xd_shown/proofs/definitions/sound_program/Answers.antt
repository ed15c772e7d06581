use Rattle.std.proofs.Common.{length, sym, ap, subst, ◌∙◌}
use Rattle.std.specs.List.{AllByRecursion}
use Rattle.xd_syntax.specs.ExpressionTable.{PatternsBelong}
use Rattle.xd_syntax.specs.Kept.{ProgramTable, TypeDefStands, FunctionStands, program_tree}
use Rattle.xd_syntax.specs.RecursionFaults.{IsSound}
use Rattle.xd_shown.proofs.DefiningLemmas.{definitions_stand, program_is}
use Rattle.xd_shown.proofs.Soundness.{sound}
use Rattle.xd_shown.proofs.definitions.sound_program.Goals as goal

pub new-program-requires : goal.new-program-requires
new-program-requires c = record {
  clauses = subst (PatternsBelong (length c.new.result)) (sym c.new-2.ensures) tt;
  type_defs = subst (AllByRecursion (TypeDefStands c.args.types)) (sym c.in_ok-defs.ensures) (definitions_stand c.args.types c.args.words.now c.args.bodies.now c.requires.names.proper c.requires.bodies.belong);
  functions = subst (AllByRecursion (FunctionStands c.args.types c.new-2.result)) (sym c.new-3.ensures.items) tt;
}

pub new-requires-4 : goal.new-requires-4
new-requires-4 c =
    let p : ProgramTable = record { types = c.args.types; patterns = c.new.result; exprs = c.new-2.result; type_defs = c.in_ok-defs.defs.items; functions = c.new-3.result.items } in
    subst IsSound (sym (ap program_tree c.new-program.ensures ∙ program_is p c.args.words.now c.args.bodies.now c.in_ok-defs.ensures c.new-3.ensures.items))
    (sound c.args.types c.args.words.now c.args.bodies.now c.see_table.ensures c.requires.names c.requires.bodies)
