use Rattle.std.proofs.Common.{◌+◌, ◌++◌, map, drop, ap, sym, ◌∙◌}
use Rattle.xd_syntax.specs.NameFaults.{duplicates}
use Rattle.xd_names.specs.Spots.{type_spot}
use Rattle.xd_names.proofs.WordLemmas.{drop_item}
use Rattle.xd_names.proofs.NameLemmas.{duplicates_more}
use Rattle.xd_names.proofs.duplicates.in_types.Goals as goal

pub loop-def-preserved : goal.loop-def-preserved
loop-def-preserved c =
    let x = c.def-item.result in
    let n = c.loop-def.def-index in
    let rest = map type_spot (drop (n + 1) c.args.type_defs.now) in
    ap (λ fs. fs ++ duplicates c.see.new.seen rest) c.in_ok-see.ensures.faults
    ∙ duplicates_more c.loop-def.faults.items c.loop-def.seen c.see.new.seen (type_spot x) rest c.in_ok-see.ensures.seen
    ∙ ap (λ xs. c.loop-def.faults.items ++ duplicates c.loop-def.seen (map type_spot xs)) (sym (drop_item c.args.type_defs.now n x c.loop-def-test.true c.def-item.is))
    ∙ c.loop-def.invariant
