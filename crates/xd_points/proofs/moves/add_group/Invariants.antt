use Rattle.std.proofs.Common.{◌&&◌, take, drop}
use Rattle.std.specs.List.{AllByRecursion}
use Rattle.xd_doc.specs.Classes.{class_has}
use Rattle.xd_boole.specs.Choices.{IsChoiceOf, any_choice}
use Rattle.xd_points.specs.Points.{AddsLabels, parts_accept}
use Rattle.xd_points.proofs.moves.add_group.Given as goal

abbrev pub invariant-loop-choice : goal.invariant-loop-choice
invariant-loop-choice l = record {
  adds : AddsLabels l.fn.parts.pattern l.automata.lefts.now l.automata.patterns.now l.initial.points l.points l.initial.labels.items l.labels.items
      (λ q. class_has l.group.class q.label && (parts_accept l.automata.lefts.now l.automata.patterns.now q.content q.rest l.fn.parts && any_choice l.automata.patterns.now.taken.auto q.content q.rest (take l.choice-index l.choice-items)));
  left : AllByRecursion (IsChoiceOf l.automata.patterns.now.taken.auto) (drop l.choice-index l.choice-items);
}
