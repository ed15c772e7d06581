use Rattle.xd_proof.proofs.AtomLemmas.{no_space_there, no_plain_there}
use Rattle.xd_proof.proofs.atoms.read_atom.Goals as goal

pub returns-in_default-before_mark : goal.returns-in_default-before_mark
returns-in_default-before_mark c = no_space_there _ c.in_default-before_mark.ensures

pub returns-in-Ok-None : goal.returns-in-Ok-None
returns-in-Ok-None c =
    let h = c.in-Some-before_mark.ensures in
    no_plain_there _ _ _ c.in_default.ensures h.0 h.1 (rw c.in-Ok-None.field-0-is at c.in-Ok-None.ensures)
