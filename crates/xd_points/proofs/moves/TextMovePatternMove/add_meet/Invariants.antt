use Rattle.std.proofs.Common.{◌&&◌, take, drop}
use Rattle.xd_doc.specs.Classes.{class_has}
use Rattle.xd_auto.specs.Automaton.{accepts}
use Rattle.xd_boole.specs.Meaning.{is_state}
use Rattle.xd_boole.specs.Groups.{AllSides, any_group}
use Rattle.xd_points.specs.Points.{AddsTexts, rests_accept}
use Rattle.xd_points.proofs.moves.TextMovePatternMove.add_meet.Given as goal

abbrev pub invariant-loop-group : goal.invariant-loop-group
invariant-loop-group l = record {
  adds : AddsTexts l.two.rest l.automata.lefts.now l.automata.patterns.now l.initial.points l.points l.initial.texts.items l.texts.items
      (λ q. rests_accept l.automata.lefts.now l.automata.patterns.now q.rest (record { left = l.one.rest; pattern = l.two.rest }) && any_group class_has (λ s. accepts l.automata.patterns.now.taken.auto q.rest s) q.characters (take l.group-index l.group-items));
  left : AllSides (is_state l.automata.patterns.now.taken.auto) (drop l.group-index l.group-items);
}
