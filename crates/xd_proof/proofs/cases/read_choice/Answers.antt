use Rattle.xd_proof.proofs.CaseLemmas.{no_atom, choice_not, choice_is, result_made}
use Rattle.xd_proof.proofs.cases.read_choice.Goals as goal

pub returns-in-Ok-None : goal.returns-in-Ok-None
returns-in-Ok-None c = no_atom _ (rw c.in-Ok-None.field-0-is at c.in-Ok-None.ensures)

pub returns-in-Ok-Some : goal.returns-in-Ok-Some
returns-in-Ok-Some c =
    let h = rw c.in-Ok-Some.field-0-is at c.in-Ok-Some.ensures in
    result_made c.read_tree.result (λ never. choice_not _ _ _ h.0 h.1 never) (λ m q. choice_is _ _ _ _ m h.0 h.1 q) c.read_tree.ensures
