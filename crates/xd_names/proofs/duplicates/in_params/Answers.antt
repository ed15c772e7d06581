use Rattle.std.proofs.Common.{◌+◌, ◌++◌, map, drop, ap, sym, ◌∙◌}
use Rattle.xd_syntax.specs.NameFaults.{duplicates}
use Rattle.xd_names.specs.Spots.{param_spot}
use Rattle.xd_names.proofs.WordLemmas.{drop_item}
use Rattle.xd_names.proofs.NameLemmas.{duplicates_more}
use Rattle.xd_names.proofs.duplicates.in_params.Goals as goal

pub loop-param-preserved : goal.loop-param-preserved
loop-param-preserved c =
    let x = c.param-item.result in
    let n = c.loop-param.param-index in
    let rest = map param_spot (drop (n + 1) c.args.params.now) in
    ap (λ fs. fs ++ duplicates c.see.new.seen rest) c.in_ok-see.ensures.faults
    ∙ duplicates_more c.loop-param.faults.items c.loop-param.seen c.see.new.seen (param_spot x) rest c.in_ok-see.ensures.seen
    ∙ ap (λ xs. c.loop-param.faults.items ++ duplicates c.loop-param.seen (map param_spot xs)) (sym (drop_item c.args.params.now n x c.loop-param-test.true c.param-item.is))
    ∙ c.loop-param.invariant
