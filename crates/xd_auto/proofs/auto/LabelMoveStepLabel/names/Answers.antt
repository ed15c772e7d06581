use Rattle.xd_auto.proofs.IsIndexLemmas.{class_names}
use Rattle.xd_auto.proofs.auto.LabelMoveStepLabel.names.Goals as goal

pub returns : goal.returns
returns c = λ plain x takes. rw c.names.ensures.names (class_names c.args.self.now.class x plain takes)
