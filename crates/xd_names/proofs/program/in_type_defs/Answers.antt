use Rattle.std.proofs.Common.{ℕ, ◌+◌, List, ◌++◌, flat_map, drop, ap, ◌∙◌}
use Rattle.xd_doc.proofs.Lists.{all_step}
use Rattle.xd_syntax.specs.Kept.{TypeDefStands}
use Rattle.xd_syntax.specs.PlacedTable.{placed_at}
use Rattle.xd_syntax.specs.NameFaults.{unknown_types}
use Rattle.xd_syntax.specs.declared.types.TypeDef.{TypeDef}
use Rattle.xd_syntax.specs.declared.fault.Fault.{Fault}
use Rattle.xd_names.proofs.TreeLemmas.{item_step}
use Rattle.xd_names.proofs.program.in_type_defs.Goals as goal

pub loop-def-preserved : goal.loop-def-preserved
loop-def-preserved c =
    let F : TypeDef → List Fault = λ x. unknown_types c.args.known.now (placed_at c.args.types.now x.body.at) in
    let xs = c.args.type_defs.now in
    let i : ℕ = c.loop-def.def-index in
    let x : TypeDef = c.def-item.result in
    record {
      faults = ap (λ fs. fs ++ flat_map F (drop (i + 1) xs)) c.in_ok-in_tree.ensures
          ∙ item_step F xs i x c.loop-def.faults.items _ c.loop-def-test.true c.def-item.is c.loop-def.invariant.faults;
      stand = (all_step (TypeDefStands c.args.types.now) xs i x c.loop-def-test.true c.def-item.is c.loop-def.invariant.stand).1;
    }
