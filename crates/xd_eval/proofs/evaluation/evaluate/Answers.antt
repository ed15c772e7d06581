use Rattle.std.proofs.Common.{subst}
use Rattle.xd_syntax.specs.Kept.{ProgramTable}
use Rattle.xd_match.specs.Serving.{Serves}
use Rattle.xd_eval.proofs.evaluation.evaluate.Goals as goal

pub evaluate_with-requires-clause-serves : goal.evaluate_with-requires-clause-serves
evaluate_with-requires-clause-serves c =
    subst (λ (p : ProgramTable). Serves p c.args.store.now c.in_ok-matchers.matchers) c.sound.ensures.sound (c.in_ok-matchers.ensures c.args.store.now)
