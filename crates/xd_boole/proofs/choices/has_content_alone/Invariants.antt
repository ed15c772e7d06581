use Rattle.std.proofs.Common.{◌≡◌, false, take}
use Rattle.std.specs.List.{list_any}
use Rattle.xd_boole.specs.Choices.{is_refused_alone}
use Rattle.xd_boole.proofs.choices.has_content_alone.Given as goal

abbrev pub invariant-loop-choice : goal.invariant-loop-choice
invariant-loop-choice l = list_any (is_refused_alone l.content) (take l.choice-index l.choices) ≡ false
