use Rattle.std.proofs.Common.{vec_len}
use Rattle.xd_boole.proofs.ChoiceLemmas.{ExtendsFirst}
use Rattle.xd_boole.proofs.choices.extend_all.Given as goal

abbrev pub invariant-loop-choice : goal.invariant-loop-choice
invariant-loop-choice l = ExtendsFirst l.universal l.side l.initial.choices.items l.extended.items l.choices.items

abbrev pub decreases-loop-choice : goal.decreases-loop-choice
decreases-loop-choice l = vec_len l.choices
