use Rattle.std.proofs.Common.{◌≡◌, Bool, ◌&&◌, not, true, List, Option, Some, ap, subst, ◌∙◌}
use Rattle.std.specs.List.{list_any}
use Rattle.xd_doc.specs.ClassForms.{IsPart}
use Rattle.xd_doc.specs.Classes.{LabelClass, class_has}
use Rattle.xd_doc.proofs.Lists.{all_step}
use Rattle.xd_auto.specs.declared.auto.LabelMove.{LabelMove}
use Rattle.xd_auto.specs.Automaton.{moves_at}
use Rattle.xd_boole.specs.Meaning.{ElementFirst, element_of, move_takes}
use Rattle.xd_boole.specs.declared.groups.MoveSide.{MoveSide}
use Rattle.xd_boole.specs.declared.refusals.LabelRefusal.{LabelRefusal}
use Rattle.xd_boole.specs.Groups.{label_side, side_accepts}
use Rattle.xd_boole.specs.Choices.{AllChoices}
use Rattle.xd_boole.specs.Refusals.{label_refused}
use Rattle.xd_boole.proofs.Bools.{and_where}
use Rattle.xd_boole.proofs.DifferenceLemmas.{right_more}
use Rattle.xd_boole.proofs.Lists.{any_walked}
use Rattle.xd_points.specs.declared.moves.Parts.{Parts}
use Rattle.xd_points.specs.Points.{AddsLabels, AreRefusing, parts_accept, taken_before}
use Rattle.xd_points.proofs.MeetLemmas.{met}
use Rattle.xd_points.proofs.GrowsLemmas.{adds_like, adds_then}
use Rattle.xd_points.proofs.moves.LabelMovePatternMove.add_meet.Goals as goal

pub loop-group-preserved : goal.loop-group-preserved
loop-group-preserved c =
    let a = c.args.automata.lefts.now in
    let b = c.args.automata.patterns.now in
    let one = label_side c.args.one.now in
    let two = label_side c.args.two.now in
    let parts : Parts = record { left = one; pattern = two } in
    let made : Parts = record { left = c.side_of.result; pattern = c.side_of-2.result } in
    let same : made ≡ parts = ap (λ (l : MoveSide). let k : Parts = record { left = l; pattern = c.side_of-2.result } in k) c.side_of.ensures ∙ ap (λ (r : MoveSide). let k : Parts = record { left = one; pattern = r } in k) c.side_of-2.ensures in
    let items = c.deref-group-items.result.now in
    let i = c.loop-group.group-index in
    let x = c.group-item.result in
    let next = all_step (λ (g : LabelRefusal). AllChoices b.taken.auto g.choices.items) items i x c.loop-group-test.true c.group-item.is c.loop-group.invariant.left in
    record {
      adds = adds_then c.loop-group.invariant.adds
          (subst (λ (k : Parts). AddsLabels k.pattern a b c.loop-group.points c.add_group.new.points c.loop-group.labels.items c.add_group.new.labels.items
          (λ q. parts_accept a b q.content q.rest k && label_refused b.taken.auto q x)) same c.in_ok-add_group.ensures)
          (λ q. right_more (label_refused b.taken.auto q) items i x (parts_accept a b q.content q.rest parts) c.loop-group-test.true c.group-item.is);
      left = next.1;
    }

pub returns : goal.returns
returns c =
    let a = c.args.automata.lefts.now in
    let b = c.args.automata.patterns.now in
    let one = label_side c.args.one.now in
    let two = label_side c.args.two.now in
    let parts : Parts = record { left = one; pattern = two } in
    let items = c.deref-group-items.result.now in
    let made : Parts = record { left = c.side_of.result; pattern = c.side_of-2.result } in
    let same : made ≡ parts = ap (λ (l : MoveSide). let k : Parts = record { left = l; pattern = c.side_of-2.result } in k) c.side_of.ensures ∙ ap (λ (r : MoveSide). let k : Parts = record { left = one; pattern = r } in k) c.side_of-2.ensures in
    let class : LabelClass = c.in-Some.class in
    let moves : List LabelMove = c.in_ok-moves.moves.items in
    let refused : ElementFirst → Bool = λ q. taken_before (move_takes b.auto q) (moves_at b.auto c.args.refusing.of.now.pattern).labels b c.args.refusing.of.now c.args.refusing.place (element_of q) in
    let refusing = subst (λ (k : Parts). AreRefusing a b c.args.refusing.of.now class k c.args.refusing.place moves) same c.in_ok-moves.ensures in
    let part : IsPart true c.args.one.now.class c.args.two.now.class (Some class) = subst (λ (o : Option LabelClass). IsPart true c.args.one.now.class c.args.two.now.class o) c.in-Some.is c.in_ok-class.ensures in
    adds_like c.loop-group.invariant.adds
    (λ q.
    ap (λ w. parts_accept a b q.content q.rest parts && w)
    (any_walked (label_refused b.taken.auto q) items c.loop-group.group-index c.loop-group-test.false ∙ ap (list_any (label_refused b.taken.auto q)) c.deref-group-items.ensures.value
    ∙ c.in_ok-groups.ensures.taken q
    ∙ ap (λ (ms : List LabelMove). class_has class q.label && not (list_any (move_takes b.taken.auto q) ms)) c.deref.ensures.value)
    ∙ and_where (parts_accept a b q.content q.rest parts) (class_has class q.label && not (list_any (move_takes b.taken.auto q) moves)) (class_has class q.label && not (refused q))
    (λ e. and_where (class_has class q.label) (not (list_any (move_takes b.taken.auto q) moves)) (not (refused q)) (λ has. ap not (refusing.taken q has e)))
    ∙ ap (λ w. parts_accept a b q.content q.rest parts && (w && not (refused q))) (part q.label)
    ∙ met (class_has c.args.one.now.class q.label) (class_has c.args.two.now.class q.label) (side_accepts a q.content q.rest one) (side_accepts b.auto q.content q.rest two) (not (refused q)))
