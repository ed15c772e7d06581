use Rattle.std.proofs.Common.{subst}
use Rattle.xd_doc.specs.Stored.{document_at}
use Rattle.xd_eval.specs.Evaluation.{IsEvaluated}
use Rattle.xd_uses.proofs.values.evaluated.Goals as goal

pub returns : goal.returns
returns c = subst (IsEvaluated c.args.checked.now (document_at c.args.store.now c.args.input) c.args.fuel c.evaluate.new.store) c.in-Value.is c.in_ok-value.ensures.evaluated
