use Rattle.std.proofs.Common.{◌≡◌, Some, ◌∙◌, sym, ap, arith}
use Rattle.xd_boole.specs.Meaning.{less}
use Rattle.xd_auto.specs.Keys.{found_at}
use Rattle.xd_boole.specs.Points.{point_key}
use Rattle.xd_apart.proofs.StepLemmas.{found_stands}
use Rattle.xd_apart.proofs.over_approximation.OverApproximation.find_or_add.Goals as goal

pub state-requires : goal.state-requires
state-requires c =
    let l = c.args.self.now in
    let at : found_at l.numbers (point_key (less c.args.left c.args.rights.now)) ≡ Some c.in-Some.number.now = ap (found_at l.numbers) (sym c.in_ok-key.ensures) ∙ sym c.in-Some.ensures.value in
    let o = c.requires.approximation.only (point_key (less c.args.left c.args.rights.now)) c.in-Some.number.now at in
    omega (arith, o.0, c.requires.approximation.approximates.count)

pub returns-in-Some-clause-state : goal.returns-in-Some-clause-state
returns-in-Some-clause-state c =
    let l = c.args.self.now in
    let at : found_at l.numbers (point_key (less c.args.left c.args.rights.now)) ≡ Some c.in-Some.number.now = ap (found_at l.numbers) (sym c.in_ok-key.ensures) ∙ sym c.in-Some.ensures.value in
    found_stands c.args.auto.now l (less c.args.left c.args.rights.now) c.state.result c.requires.approximation (at ∙ ap Some (sym c.state.ensures.number))
