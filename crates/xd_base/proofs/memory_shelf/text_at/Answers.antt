use Rattle.xd_base.proofs.Held.{missing, found}
use Rattle.xd_base.proofs.memory_shelf.text_at.Goals as goal

pub returns-in-None : goal.returns-in-None
returns-in-None c = missing c.args.texts.now _ c.in-None.ensures.value

pub returns-in-Some : goal.returns-in-Some
returns-in-Some c = found c.args.texts.now _ _ _ c.in-Some.ensures.value c.as_slice.ensures.value
