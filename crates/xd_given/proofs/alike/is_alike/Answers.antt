use Rattle.std.proofs.Common.{◌≡◌, true, Option, sym, subst}
use Rattle.xd_auto.specs.declared.auto.State.{State}
use Rattle.xd_empty.specs.Parts.{is_marked}
use Rattle.xd_bind.specs.Owning.{is_owned}
use Rattle.xd_given.specs.Alike.{begins_inside}
use Rattle.xd_given.proofs.AlikeLaw.{nothing, told}
use Rattle.xd_given.proofs.alike.is_alike.Goals as goal

pub returns-in-Some-clause-all : goal.returns-in-Some-clause-all
returns-in-Some-clause-all g c some alike =
    let set = is_marked c.args.marks.now in
    c.belong_alike-in-Some.ensures.all
    (λ x lt.
    let b = g.H.Holds.owned c.args.owner.now x in
    let inside = (told b set c.args.state (is_owned b c.args.kind c.args.state c.args.number) c.args.ends (alike x lt)).inside in
    sym (nothing b set c.in-Some.inside (subst (λ (o : Option State). begins_inside b set o ≡ true) c.in-Some.is inside)))
