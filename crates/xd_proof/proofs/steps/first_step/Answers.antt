use Rattle.xd_proof.proofs.StepLemmas.{none_left, one_left, no_number, last_step}
use Rattle.xd_proof.proofs.steps.first_step.Goals as goal

pub returns-in_default : goal.returns-in_default
returns-in_default c = none_left c.args.words.now c.in_default.ensures.cases

pub returns-in_default-split_first : goal.returns-in_default-split_first
returns-in_default-split_first c = let h = c.in-Some.ensures in one_left _ _ _ (h.cases).0 c.in_default-split_first.ensures.cases

pub returns-in_default-read_number : goal.returns-in_default-read_number
returns-in_default-read_number c = let h = c.in-Some.ensures in let k = c.in-Some-split_first.ensures in no_number _ _ _ _ _ (h.cases).0 (k.cases).0 c.in_default-read_number.ensures

pub returns : goal.returns
returns c = let h = c.in-Some.ensures in let k = c.in-Some-split_first.ensures in last_step _ _ _ _ _ _ _ (h.cases).0 (k.cases).0 c.in-Some-read_number.ensures c.step_of.ensures
