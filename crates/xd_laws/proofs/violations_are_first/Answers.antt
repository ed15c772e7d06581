use Rattle.xd_laws.proofs.ViolationLaw.{violations_are_found, rules_are_tested, violation_is_one}
use Rattle.xd_laws.proofs.violations_are_first.Goals as goal

pub returns : goal.returns
returns c = record { found = violations_are_found; tested = rules_are_tested; one = violation_is_one }
