use Rattle.std.proofs.Common.{◌≡◌, List, [], get_or, length, ap, sym, subst, ◌∙◌, ◌<◌}
use Rattle.xd_doc.proofs.Lists.{all_get}
use Rattle.xd_doc.specs.Members.{IsOneOf}
use Rattle.xd_syntax.specs.FunctionRow.{FunctionRow}
use Rattle.xd_syntax.specs.Kept.{FunctionStands, ProgramStands, ProgramTable, function_definition, program_tree}
use Rattle.xd_syntax.specs.Program.{ProgramTree}
use Rattle.xd_syntax.specs.NameFaults.{name_faults}
use Rattle.xd_sound.proofs.Lists.{among_at}
use Rattle.xd_syntax.proofs.Members.{map_mem}
use Rattle.xd_check_steps.proofs.Walkable.{walk_body}
use Rattle.xd_check_steps.proofs.collect.patterns_of.Goals as goal

pub collect-requires : goal.collect-requires
collect-requires c =
    let p : ProgramTable = c.args.sound.now in
    let P : ProgramTree = program_tree p in
    let n = c.loop-function.function-index in
    let f : FunctionRow = c.function-item.result in
    let same : c.functions-function-items.result.now ≡ p.functions = c.functions-function-items.ensures.functions ∙ ap (λ (q : ProgramTable). q.functions) c.program.ensures.program in
    let at : f ≡ get_or p.functions n f = c.function-item.is ∙ ap (λ fs. get_or fs n f) same in
    let within : n < length p.functions = subst (λ (fs : List FunctionRow). n < length fs) same c.loop-function-test.true in
    let stands : ProgramStands p = subst ProgramStands c.program.ensures.program c.functions-function-items.ensures.stands in
    let there : FunctionStands p.types p.exprs f = subst (FunctionStands p.types p.exprs) (sym at) (all_get (FunctionStands p.types p.exprs) p.functions n f stands.functions within) in
    let mine : IsOneOf (function_definition p f) P.functions = map_mem (function_definition p) f p.functions (subst (λ x. IsOneOf x p.functions) (sym at) (among_at f p.functions n within)) in
    let faults : name_faults P ≡ [] = c.program.ensures.sound.names in
    record {
      expression = rw c.body.ensures (walk_body p f.body.at there.body (λ A m. c.programs_are_linear.ensures.clauses P faults (function_definition p f) mine A m));
      ids = c.loop-function.invariant;
    }
