use Rattle.std.proofs.Common.{ℕ, ◌+◌, List, ◌++◌, flat_map, drop, ap, ◌∙◌}
use Rattle.xd_doc.proofs.Lists.{all_step}
use Rattle.xd_syntax.specs.Types.{BelongsTo}
use Rattle.xd_syntax.specs.PlacedTable.{placed_at}
use Rattle.xd_syntax.specs.NameFaults.{unknown_types}
use Rattle.xd_syntax.specs.declared.program.Param.{Param}
use Rattle.xd_syntax.specs.declared.fault.Fault.{Fault}
use Rattle.xd_names.proofs.TreeLemmas.{item_step}
use Rattle.xd_names.proofs.program.in_declared.Goals as goal

pub loop-param-preserved : goal.loop-param-preserved
loop-param-preserved c =
    let F : Param → List Fault = λ x. unknown_types c.args.known.now (placed_at c.args.types.now x.body.at) in
    let xs = c.args.params.now in
    let i : ℕ = c.loop-param.param-index in
    let x : Param = c.param-item.result in
    record {
      faults = ap (λ fs. fs ++ flat_map F (drop (i + 1) xs)) c.in_ok-in_tree.ensures
          ∙ item_step F xs i x c.loop-param.faults.items _ c.loop-param-test.true c.param-item.is c.loop-param.invariant.faults;
      belong = (all_step (λ (q : Param). BelongsTo c.args.types.now q.body) xs i x c.loop-param-test.true c.param-item.is c.loop-param.invariant.belong).1;
    }
