use Rattle.xd_rec.proofs.DoneLemmas.{IsFinishing}
use Rattle.xd_rec.proofs.components.finish.Given as goal

abbrev pub invariant-loop-place : goal.invariant-loop-place
invariant-loop-place l = IsFinishing l.initial.standing.items l.standing.items l.from l.place l.number
