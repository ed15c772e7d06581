use Rattle.std.proofs.Common.{◌++◌, ap, ◌∙◌}
use Rattle.xd_syntax.specs.Order.{in_order}
use Rattle.xd_names.specs.Knows.{whole, unordered}
use Rattle.xd_names.proofs.program.resolve.Goals as goal

pub returns : goal.returns
unfolding whole
returns c =
    c.in_ok-sort_faults.ensures
    ∙ ap in_order (c.in_ok-in_program.ensures ∙ ap (λ fs. fs ++ unordered (whole c.args.program.now)) c.new-faults.ensures.items)
