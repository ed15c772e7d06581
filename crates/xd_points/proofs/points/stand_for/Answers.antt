use Rattle.std.proofs.Common.{ap, sym, ◌∙◌, subst}
use Rattle.xd_auto.specs.Automaton.{IsState}
use Rattle.xd_auto.specs.declared.auto.State.{State}
use Rattle.xd_points.specs.Meaning.{PointView, means, point}
use Rattle.xd_points.specs.Narrowing.{narrowed_left}
use Rattle.xd_points.specs.Points.{IsStateFor}
use Rattle.xd_points.proofs.NarrowLemmas.{narrowed_means, narrowed_state}
use Rattle.xd_points.proofs.points.stand_for.Goals as goal

pub find_or_add-requires-clause-states : goal.find_or_add-requires-clause-states
find_or_add-requires-clause-states c =
    let of = point c.args.left c.args.pattern c.args.rights.now in
    record {
      left = subst (IsState c.args.automata.lefts.now) (sym c.narrowed_left-left.ensures) (narrowed_state c.args.automata.lefts.now c.args.automata.patterns.now c.args.automata.serve of c.requires.states.left);
      pattern = c.requires.states.pattern;
      rights = c.requires.states.rights;
    }

pub returns-clause-state : goal.returns-clause-state
returns-clause-state c =
    let a = c.args.automata.lefts.now in
    let b = c.args.automata.patterns.now in
    let of = point c.args.left c.args.pattern c.args.rights.now in
    let new = c.find_or_add.new.points in
    let s = c.in_ok-state.state in
    let is : IsStateFor new (narrowed_left b of) c.args.pattern c.args.rights.now s = subst (λ (l : State). IsStateFor new l c.args.pattern c.args.rights.now s) c.narrowed_left-left.ensures c.in_ok-state.ensures.state in
    record {
      leads = record { within = is.within; pattern_is = ap (λ (w : PointView). w.pattern) is.is };
      means = λ d. ap (λ w. means a b w d) is.is ∙ narrowed_means a b c.args.automata.serve of d;
    }
