use Rattle.xd_proof.proofs.AtomLemmas.{no_space_behind}
use Rattle.xd_proof.proofs.atoms.quoted_atom.Goals as goal

pub returns-in-None : goal.returns-in-None
returns-in-None c = λ s r i e. let h = rw c.in-Ok-Some.field-0-is at c.in-Ok-Some.ensures in no_space_behind c.args.inside.now c.in-Ok-Some.text c.in-Ok-Some.behind.now s r h.1 c.in-None.ensures e
