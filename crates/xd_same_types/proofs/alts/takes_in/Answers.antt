use Rattle.xd_same_types.proofs.AltLaws.{in_star, in_plus, plus_in_star}
use Rattle.xd_same_types.proofs.alts.takes_in.Goals as goal

pub returns-then-is_star : goal.returns-then-is_star
returns-then-is_star c = λ _. in_star _ _ (c.is_star.ensures c.if-is_star.true)

pub returns-then-is_plus : goal.returns-then-is_plus
returns-then-is_plus c = λ _. in_plus _ _ (c.is_plus.ensures c.if-is_plus.true)

pub returns-in-Some : goal.returns-in-Some
returns-in-Some c = λ e. plus_in_star _ _ _ c.in-Some.ensures.star (c.is_plus-in-Some.ensures e)
