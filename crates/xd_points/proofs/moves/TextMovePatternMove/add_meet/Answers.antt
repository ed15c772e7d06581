use Rattle.std.proofs.Common.{◌≡◌, ◌&&◌, ◌||◌, not, true, take, List, Option, Some, ap, arith, subst, sym, ◌∙◌}
use Rattle.std.specs.List.{list_any}
use Rattle.xd_doc.specs.ClassForms.{IsPart}
use Rattle.xd_doc.specs.Classes.{TextClass, class_has}
use Rattle.xd_doc.proofs.Lists.{all_step}
use Rattle.xd_auto.specs.declared.auto.State.{State}
use Rattle.xd_auto.specs.Automaton.{IsState, accepts, moves_at}
use Rattle.xd_boole.specs.Meaning.{any_accepts, is_state, text_of, text_takes}
use Rattle.xd_boole.specs.declared.groups.Group.{Group}
use Rattle.xd_boole.specs.Groups.{AllPass, any_group, group_refuses}
use Rattle.xd_boole.proofs.DifferenceLemmas.{right_more}
use Rattle.xd_boole.proofs.Lists.{any_walked}
use Rattle.xd_points.specs.declared.moves.Rests.{Rests}
use Rattle.xd_points.specs.Meaning.{PointView}
use Rattle.xd_points.specs.Points.{rests_accept}
use Rattle.xd_points.proofs.MeetLemmas.{met}
use Rattle.xd_points.proofs.GrowsLemmas.{adds_like, adds_then}
use Rattle.xd_points.proofs.PatternMoveLemmas.{text_before_same}
use Rattle.xd_points.proofs.moves.TextMovePatternMove.add_meet.Goals as goal

pub loop-group-preserved : goal.loop-group-preserved
loop-group-preserved c =
    let a = c.args.automata.lefts.now in
    let b = c.args.automata.patterns.now in
    let two : State = c.args.two.now.rest in
    let rests : Rests = record { left = c.args.one.now.rest; pattern = two } in
    let items = c.deref-group-items.result.now in
    let i = c.loop-group.group-index in
    let x = c.group-item.result in
    let next = all_step (λ (g : Group TextClass State). AllPass (is_state b.taken.auto) g.sides.items) items i x c.loop-group-test.true c.group-item.is c.loop-group.invariant.left in
    record {
      adds = adds_then c.loop-group.invariant.adds c.in_ok-add_text_group.ensures
          (λ q. right_more (group_refuses class_has (λ (s : State). accepts b.taken.auto q.rest s) q.characters) items i x (rests_accept a b q.rest rests) c.loop-group-test.true c.group-item.is);
      left = next.1;
    }

pub returns : goal.returns
returns c =
    let a = c.args.automata.lefts.now in
    let b = c.args.automata.patterns.now in
    let one : State = c.args.one.now.rest in
    let two : State = c.args.two.now.rest in
    let parts : Rests = record { left = one; pattern = two } in
    let items = c.deref-group-items.result.now in
    let rights : List State = c.args.refusing.of.now.rights in
    let pattern : State = c.args.refusing.of.now.pattern in
    let rights_are : c.deref.result.now ≡ rights = c.deref.ensures.value ∙ ap (λ (p : PointView). p.rights) c.of.view_is in
    let pattern_is : c.of.inside.pattern ≡ pattern = ap (λ (p : PointView). p.pattern) c.of.view_is in
    let class : TextClass = c.in-Some.words in
    let part : IsPart true c.args.one.now.words c.args.two.now.words (Some class) = subst (λ (o : Option TextClass). IsPart true c.args.one.now.words c.args.two.now.words o) c.in-Some.is c.in_ok-words.ensures.part in
    adds_like c.loop-group.invariant.adds
    (λ q.
    ap (λ w. rests_accept a b q.rest parts && w)
    (any_walked (group_refuses class_has (λ (s : State). accepts b.taken.auto q.rest s) q.characters) items c.loop-group.group-index c.loop-group-test.false ∙ ap (any_group class_has (λ (s : State). accepts b.taken.auto q.rest s) q.characters) c.deref-group-items.ensures.value
    ∙ c.in_ok-groups.ensures.taken q
    ∙ ap (λ (rs : List State). class_has class q.characters && not (any_accepts b.taken.auto rs (text_of q) || list_any (text_takes b.taken.auto q) (take c.args.refusing.place (moves_at b.taken.auto c.of.inside.pattern).texts))) rights_are
    ∙ ap (λ (s : State). class_has class q.characters && not (any_accepts b.taken.auto rights (text_of q) || list_any (text_takes b.taken.auto q) (take c.args.refusing.place (moves_at b.taken.auto s).texts))) pattern_is
    ∙ ap (λ w. class_has class q.characters && not (any_accepts b.taken.auto rights (text_of q) || w)) (text_before_same a b c.args.automata.serve pattern c.args.refusing.place q)
    ∙ ap (λ w. w && not (any_accepts b.taken.auto rights (text_of q) || list_any (text_takes b.auto q) (take c.args.refusing.place (moves_at b.auto pattern).texts))) (part q.characters))
    ∙ met (class_has c.args.one.now.words q.characters) (class_has c.args.two.now.words q.characters) (accepts a q.rest one) (accepts b.auto q.rest two) (not (any_accepts b.taken.auto rights (text_of q) || list_any (text_takes b.auto q) (take c.args.refusing.place (moves_at b.auto pattern).texts))))

pub text_groups_before-requires-clause-own : goal.text_groups_before-requires-clause-own
text_groups_before-requires-clause-own c =
    let b = c.args.automata.patterns.now in
    let here : IsState b.auto c.of.inside.pattern = subst (λ (p : PointView). IsState b.auto p.pattern) (sym c.of.view_is) c.requires.of.pattern in
    omega (arith, here, c.args.automata.serve.count)
