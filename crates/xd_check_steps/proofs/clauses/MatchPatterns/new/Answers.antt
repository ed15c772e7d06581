use Rattle.std.proofs.lemmas.Result.{IfOk-weaker}
use Rattle.xd_auto.specs.Automaton.{Automaton}
use Rattle.xd_check_steps.specs.Clauses.{AreMatchPatterns, ServesOn}
use Rattle.xd_check_steps.proofs.clauses.MatchPatterns.new.Goals as goal

pub returns-in-None : goal.returns-in-None
returns-in-None c =
    let m = c.args.patterns.now in
    IfOk-weaker c.own_patterns.result _ (λ made. (a : Automaton) → ServesOn a m → AreMatchPatterns c.args.sound.now a c.args.clauses.now m made) (λ made h a s. h a m) c.own_patterns.ensures
