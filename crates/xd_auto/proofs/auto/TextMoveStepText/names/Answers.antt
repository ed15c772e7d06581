use Rattle.xd_auto.proofs.IsIndexLemmas.{class_names}
use Rattle.xd_auto.proofs.auto.TextMoveStepText.names.Goals as goal

pub returns : goal.returns
returns c = λ plain x takes. rw c.texts.ensures.names (class_names c.args.self.now.words x plain takes)
