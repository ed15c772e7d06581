use Rattle.std.proofs.Common.{get_or, sym, subst}
use Rattle.std.specs.Option.{IfSome}
use Rattle.xd_doc.proofs.Lists.{all_push}
use Rattle.xd_syntax.specs.Types.{tree}
use Rattle.xd_same_types.specs.Joints.{IsJoint}
use Rattle.xd_same_types.specs.Same.{AddsFit, AreAltParts, trees}
use Rattle.xd_same_types.proofs.AltSteps.{push_alternative, put_alternative, put_parts}
use Rattle.xd_same_types.proofs.Ids.{got}
use Rattle.xd_same_types.proofs.Tables.{keeps_refl, kept_alt_part, kept_alt_parts}
use Rattle.xd_same_types.proofs.ends.add_by_end.Goals as goal

pub returns-in-Some-clause-fits : goal.returns-in-Some-clause-fits
returns-in-Some-clause-fits c =
    let parts = c.args.some.now.parts.items in
    let rows = c.args.pool.now.types in
    let new = c.joined_by_end.new.pool.types in
    let j = c.in-Some.joint in
    let joint = subst (λ o. IfSome o (IsJoint rows parts c.args.next new)) c.in-Some.is c.in_ok-joint.ensures.joint in
    let old = get_or parts j.place c.args.next in
    let e = got parts j.place c.args.next joint.within in
    put_alternative rows rows new (keeps_refl rows) c.joined_by_end.ensures.keeps parts j.place old c.args.next j.one c.requires.parts c.requires.next.0 joint.within e (joint.same old e)

pub returns-in-Some-clause-parts : goal.returns-in-Some-clause-parts
returns-in-Some-clause-parts c =
    let parts = c.args.some.now.parts.items in
    let rows = c.args.pool.now.types in
    let new = c.joined_by_end.new.pool.types in
    let joint = subst (λ o. IfSome o (IsJoint rows parts c.args.next new)) c.in-Some.is c.in_ok-joint.ensures.joint in
    put_parts rows new c.joined_by_end.ensures.keeps parts c.in-Some.joint.place c.in-Some.joint.one c.requires.parts joint.part

pub returns-in_ok-push-in-None-clause-fits : goal.returns-in_ok-push-in-None-clause-fits
returns-in_ok-push-in-None-clause-fits c =
    let parts = c.args.some.now.parts.items in
    let rows = c.args.pool.now.types in
    let new = c.joined_by_end.new.pool.types in
    subst (λ xs. AddsFit (trees rows parts) (tree rows c.args.next) (trees new xs)) (sym c.in_ok-push-in-None.ensures.items)
    (push_alternative rows new c.joined_by_end.ensures.keeps parts c.args.next c.requires.parts c.requires.next.0)

pub returns-in_ok-push-in-None-clause-parts : goal.returns-in_ok-push-in-None-clause-parts
returns-in_ok-push-in-None-clause-parts c =
    let parts = c.args.some.now.parts.items in
    let rows = c.args.pool.now.types in
    let new = c.joined_by_end.new.pool.types in
    subst (AreAltParts new) (sym c.in_ok-push-in-None.ensures.items)
    (all_push _ parts c.args.next (kept_alt_parts rows new c.joined_by_end.ensures.keeps parts c.requires.parts) (kept_alt_part rows new c.joined_by_end.ensures.keeps c.args.next c.requires.next))
