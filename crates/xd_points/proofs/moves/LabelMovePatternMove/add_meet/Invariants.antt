use Rattle.std.proofs.Common.{◌&&◌, take, drop}
use Rattle.std.specs.List.{AllByRecursion, list_any}
use Rattle.xd_boole.specs.declared.refusals.LabelRefusal.{LabelRefusal}
use Rattle.xd_boole.specs.Groups.{label_side}
use Rattle.xd_boole.specs.Choices.{AllChoices}
use Rattle.xd_boole.specs.Refusals.{label_refused}
use Rattle.xd_points.specs.Points.{AddsLabels, parts_accept}
use Rattle.xd_points.proofs.moves.LabelMovePatternMove.add_meet.Given as goal

abbrev pub invariant-loop-group : goal.invariant-loop-group
invariant-loop-group l = record {
  adds : AddsLabels (label_side l.two) l.automata.lefts.now l.automata.patterns.now l.initial.points l.points l.initial.labels.items l.labels.items
      (λ q. parts_accept l.automata.lefts.now l.automata.patterns.now q.content q.rest (record { left = label_side l.one; pattern = label_side l.two }) && list_any (label_refused l.automata.patterns.now.taken.auto q) (take l.group-index l.group-items));
  left : AllByRecursion (λ (g : LabelRefusal). AllChoices l.automata.patterns.now.taken.auto g.choices.items) (drop l.group-index l.group-items);
}
