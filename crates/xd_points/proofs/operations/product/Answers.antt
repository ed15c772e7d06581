use Rattle.std.proofs.Common.{◌≡◌, Bool, true, false, not, ◌&&◌, refl, ap, ◌∙◌}
use Rattle.std.proofs.lemmas.Result.{IfOk-weaker}
use Rattle.xd_auto.specs.Automaton.{accepts}
use Rattle.xd_points.proofs.operations.product.Goals as goal

none_refuse : (x y : Bool) → (x && (y && not false)) ≡ (x && y)
none_refuse x true = refl
none_refuse x false = refl

pub returns-clause-exact : goal.returns-clause-exact
returns-clause-exact c =
    IfOk-weaker c.accepting_part.result _ _
    (λ made exact d.
    exact d ∙ none_refuse (accepts c.in_ok-left.left d c.in_ok-left.first) (accepts c.in_ok-patterns.patterns.auto d c.in_ok-right.second)
    ∙ ap (λ w. w && accepts c.in_ok-patterns.patterns.auto d c.in_ok-right.second) (c.in_ok-left.ensures.same d)
    ∙ ap (λ a. accepts c.args.one.now d c.args.first && accepts a d c.in_ok-right.second) c.in_ok-patterns.ensures.auto
    ∙ ap (λ w. accepts c.args.one.now d c.args.first && w) (c.in_ok-right.ensures.exact d))
    c.accepting_part.ensures.exact
