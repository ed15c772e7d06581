use Rattle.std.proofs.Common.{subst}
use Rattle.xd_syntax.specs.Kept.{program_tree}
use Rattle.xd_shown.specs.Bodies.{ShowsMeanings}
use Rattle.xd_same_types.proofs.Ids.{ok_map}
use Rattle.xd_named_parts.proofs.parts.program_of.Goals as goal

pub returns-clause-shown : goal.returns-clause-shown
returns-clause-shown c =
    let given = c.args.given in
    ok_map c.new.result _ _
    (λ shown h.
    subst (λ rows. ShowsMeanings rows given.names.items given.bodies.items (program_tree shown.sound) shown.start) c.into_types.ensures
    (subst (λ ws. ShowsMeanings c.into_types.result ws given.bodies.items (program_tree shown.sound) shown.start) c.deref.ensures.value
    (subst (λ bs. ShowsMeanings c.into_types.result c.deref.result.now bs (program_tree shown.sound) shown.start) c.deref-2.ensures.value h)))
    c.new.ensures.shown
