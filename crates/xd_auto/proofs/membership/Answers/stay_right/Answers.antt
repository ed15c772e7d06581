use Rattle.xd_auto.proofs.KeepsAnswerLemmas.{stay_right_for_store, stay_right_for_automaton}
use Rattle.xd_auto.proofs.membership.Answers.stay_right.Goals as goal

pub returns : goal.returns
returns c = record { store = stay_right_for_store c.args.self.now; automaton = stay_right_for_automaton c.args.self.now }
