use Rattle.std.proofs.Common.{ℕ, ◌+◌, List, ◌++◌, flat_map, drop, ap, ◌∙◌}
use Rattle.xd_doc.proofs.Lists.{all_step}
use Rattle.xd_syntax.specs.FunctionRow.{FunctionRow}
use Rattle.xd_syntax.specs.Kept.{FunctionStands, function_definition}
use Rattle.xd_syntax.specs.NameFaults.{function_faults}
use Rattle.xd_syntax.specs.declared.fault.Fault.{Fault}
use Rattle.xd_names.specs.Knows.{whole}
use Rattle.xd_names.proofs.TreeLemmas.{item_step}
use Rattle.xd_names.proofs.program.in_bodies.Goals as goal

pub loop-function-preserved : goal.loop-function-preserved
loop-function-preserved c =
    let F : FunctionRow → List Fault = λ f. function_faults (whole c.args.program.now) (function_definition c.args.program.now f) in
    let xs = c.functions-functions.result.now in
    let i : ℕ = c.loop-function.function-index in
    let x : FunctionRow = c.function-item.result in
    record {
      faults = ap (λ fs. fs ++ flat_map F (drop (i + 1) xs)) c.in_ok-in_function.ensures
          ∙ item_step F xs i x c.loop-function.faults.items _ c.loop-function-test.true c.function-item.is c.loop-function.invariant.faults;
      stand = (all_step (FunctionStands c.args.program.now.types c.args.program.now.exprs) xs i x c.loop-function-test.true c.function-item.is c.loop-function.invariant.stand).1;
    }
