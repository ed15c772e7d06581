use Rattle.xd_boole.proofs.ChoiceLemmas.{CopiesFirst}
use Rattle.xd_boole.proofs.choices.copy_choices.Given as goal

abbrev pub invariant-loop-choice : goal.invariant-loop-choice
invariant-loop-choice l = CopiesFirst l.choices l.choice-index l.copies.items
