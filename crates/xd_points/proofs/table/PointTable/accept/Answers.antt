use Rattle.std.proofs.Common.{Option, IfSome, ap, sym, subst, ◌∙◌, arith}
use Rattle.xd_auto.specs.declared.auto.State.{State}
use Rattle.xd_auto.specs.Automaton.{IsState}
use Rattle.xd_points.specs.Placing.{accepts_at}
use Rattle.xd_points.proofs.table.PointTable.accept.Goals as goal

pub returns-clause-belongs : goal.returns-clause-belongs
returns-clause-belongs c =
    subst (λ (o : Option State). IfSome o (IsState c.find.new.auto)) (sym c.place.ensures) (c.in_ok-point.ensures.table.belong c.in_ok-point.point.number)

pub returns-clause-exact : goal.returns-clause-exact
returns-clause-exact c = λ d.
    let t = c.in_ok-point.ensures.table in
    ap (accepts_at c.find.new.auto d) c.place.ensures
    ∙ t.stands d c.in_ok-point.point.number (omega (arith, c.in_ok-point.ensures.belongs, t.expanded.whole.count))
    ∙ c.in_ok-point.ensures.means d
