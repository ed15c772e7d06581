use Rattle.std.proofs.Common.{◌≡◌, Some, ◌∙◌, sym, ap, arith}
use Rattle.xd_points.specs.Meaning.{point}
use Rattle.xd_auto.specs.Keys.{found_at}
use Rattle.xd_points.specs.Points.{point_key}
use Rattle.xd_points.proofs.ArePointsLemmas.{found_state}
use Rattle.xd_points.proofs.points.find_or_add.Goals as goal

pub state-requires : goal.state-requires
state-requires c =
    let at : found_at c.args.points.now.found (point_key (point c.args.left c.args.pattern c.args.rights.now)) ≡ Some c.in-Some.number.now = ap (found_at c.args.points.now.found) (sym c.in_ok-key.ensures) ∙ sym c.in-Some.ensures.value in
    let o = c.requires.whole.only (point_key (point c.args.left c.args.pattern c.args.rights.now)) c.in-Some.number.now at in
    omega (arith, o.0, c.requires.whole.count)

pub returns-in-Some-clause-state : goal.returns-in-Some-clause-state
returns-in-Some-clause-state c =
    let at : found_at c.args.points.now.found (point_key (point c.args.left c.args.pattern c.args.rights.now)) ≡ Some c.in-Some.number.now = ap (found_at c.args.points.now.found) (sym c.in_ok-key.ensures) ∙ sym c.in-Some.ensures.value in
    found_state c.args.automata.lefts.now c.args.automata.patterns.now c.args.points.now c.args.left c.args.pattern c.args.rights.now c.state.result c.requires.whole (at ∙ ap Some (sym c.state.ensures.number))
