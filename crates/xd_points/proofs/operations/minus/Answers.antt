use Rattle.std.proofs.Common.{◌≡◌, Bool, true, false, not, ◌&&◌, ◌||◌, ap, ◌∙◌}
use Rattle.std.proofs.lemmas.Result.{IfOk-weaker}
use Rattle.xd_auto.specs.Automaton.{accepts}
use Rattle.xd_points.proofs.operations.minus.Goals as goal

all_but : (x y z : Bool) → y ≡ true → (x && (y && not (z || false))) ≡ (x && not z)
all_but x y true e = ap (λ w. x && (w && false)) e
all_but x y false e = ap (λ w. x && (w && true)) e

pub returns-clause-exact : goal.returns-clause-exact
returns-clause-exact c =
    IfOk-weaker c.accepting_part.result _ _
    (λ made exact d.
    let p = c.in_ok-patterns in
    exact d ∙ all_but (accepts c.in_ok-left.left d c.in_ok-left.first) (accepts p.patterns.auto d p.all) (accepts p.patterns.auto d p.second) (p.ensures.universal d)
    ∙ ap (λ w. w && not (accepts p.patterns.auto d p.second)) (c.in_ok-left.ensures.same d)
    ∙ ap (λ w. accepts c.args.one.now d c.args.first && not w) (p.ensures.same d))
    c.accepting_part.ensures.exact
