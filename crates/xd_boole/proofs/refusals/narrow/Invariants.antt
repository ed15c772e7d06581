use Rattle.xd_boole.proofs.RefusalLemmas.{NarrowsFirst}
use Rattle.xd_boole.proofs.refusals.narrow.Given as goal

abbrev pub invariant-loop-step : goal.invariant-loop-step
invariant-loop-step l = NarrowsFirst l.universal l.class l.fn.choices.items l.moves l.step-index l.narrowed
