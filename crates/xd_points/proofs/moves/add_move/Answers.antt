use Rattle.std.proofs.Common.{◌≡◌, ◌++◌, ◌∷◌, [], List, ap, sym, ◌∙◌, subst}
use Rattle.std.specs.List.{AllByRecursion}
use Rattle.xd_doc.proofs.Bools.{and_left, and_right}
use Rattle.xd_auto.specs.Automaton.{IsState, accepts}
use Rattle.xd_boole.specs.Meaning.{any_accepts, is_state}
use Rattle.xd_boole.proofs.AnyAcceptsLemmas.{state_is, states_are}
use Rattle.xd_doc.specs.Classes.{LabelClass, class_has}
use Rattle.xd_auto.specs.declared.auto.LabelMove.{LabelMove}
use Rattle.xd_auto.specs.declared.auto.State.{State}
use Rattle.xd_points.specs.Meaning.{point}
use Rattle.xd_points.specs.Narrowing.{leaves_nothing}
use Rattle.xd_points.specs.Points.{StandsFor}
use Rattle.xd_points.proofs.MeetLemmas.{move_added, nothing_meant, part_none}
use Rattle.xd_points.proofs.GrowsLemmas.{adds_none}
use Rattle.xd_points.proofs.moves.add_move.Goals as goal

pub returns : goal.returns
returns c =
    let content = c.in_ok-content.content in
    let rest = c.in_ok-rest.rest in
    let parts = c.args.parts in
    let items : c.push.new.self.items ≡ c.args.labels.now.items ++ record { class = c.args.class.now; content = content; rest = rest } ∷ [] =
    c.in_ok-push.ensures.items ∙ ap (λ (k : LabelClass). let m : LabelMove = record { class = k; content = content; rest = rest } in c.args.labels.now.items ++ m ∷ []) c.in_ok-share.ensures.same in
    move_added c.args.automata.lefts.now c.args.automata.patterns.now c.args.points.now c.stand_for.new.points c.stand_for-2.new.points c.args.labels.now.items c.push.new.self.items parts c.args.choice.now c.args.class.now content rest
    items c.requires.leads c.in_ok-content.ensures.grows c.in_ok-rest.ensures.grows c.in_ok-rest.ensures.whole
    (subst (λ (rs : List State). StandsFor c.args.automata.lefts.now c.args.automata.patterns.now c.stand_for.new.points (point parts.left.content parts.pattern.content rs) content) c.deref.ensures.value c.in_ok-content.ensures.state)
    (subst (λ (rs : List State). StandsFor c.args.automata.lefts.now c.args.automata.patterns.now c.stand_for-2.new.points (point parts.left.rest parts.pattern.rest rs) rest) c.deref-2.ensures.value c.in_ok-rest.ensures.state)

pub stand_for-requires-clause-states : goal.stand_for-requires-clause-states
stand_for-requires-clause-states c =
    let a = c.args.automata.lefts.now in
    let b = c.args.automata.patterns.now in
    let parts = c.args.parts in
    record {
      left = state_is a parts.left.content (and_left (is_state a parts.left.content) (is_state a parts.left.rest) c.requires.parts.left);
      pattern = state_is b.auto parts.pattern.content (and_left (is_state b.auto parts.pattern.content) (is_state b.auto parts.pattern.rest) c.requires.parts.pattern);
      rights = subst (AllByRecursion (IsState b.taken.auto)) (sym c.deref.ensures.value) (states_are b.taken.auto c.args.choice.now.contents.items c.requires.choice.0);
    }

pub stand_for-requires-2-clause-states : goal.stand_for-requires-2-clause-states
stand_for-requires-2-clause-states c =
    let a = c.args.automata.lefts.now in
    let b = c.args.automata.patterns.now in
    let parts = c.args.parts in
    record {
      left = state_is a parts.left.rest (and_right (is_state a parts.left.content) (is_state a parts.left.rest) c.requires.parts.left);
      pattern = state_is b.auto parts.pattern.rest (and_right (is_state b.auto parts.pattern.content) (is_state b.auto parts.pattern.rest) c.requires.parts.pattern);
      rights = subst (AllByRecursion (IsState b.taken.auto)) (sym c.deref-2.ensures.value) (states_are b.taken.auto c.args.choice.now.rests.items c.requires.choice.1);
    }

pub returns-then-leads_nowhere : goal.returns-then-leads_nowhere
returns-then-leads_nowhere c =
    let a = c.args.automata.lefts.now in
    let b = c.args.automata.patterns.now in
    let parts = c.args.parts in
    let choice = c.args.choice.now in
    let inside = point parts.left.content parts.pattern.content choice.contents.items in
    let behind = point parts.left.rest parts.pattern.rest choice.rests.items in
    adds_none c.requires.whole c.requires.leads
    (λ q.
    part_none (class_has c.args.class.now q.label) (accepts a q.content parts.left.content) (accepts a q.rest parts.left.rest) (accepts b.auto q.content parts.pattern.content) (accepts b.auto q.rest parts.pattern.rest)
    (any_accepts b.taken.auto choice.contents.items q.content) (any_accepts b.taken.auto choice.rests.items q.rest) (leaves_nothing b inside) (leaves_nothing b behind)
    (nothing_meant a b c.args.automata.serve inside q.content) (nothing_meant a b c.args.automata.serve behind q.rest)
    (sym c.leads_nowhere.ensures ∙ c.if-leads_nowhere.true))
