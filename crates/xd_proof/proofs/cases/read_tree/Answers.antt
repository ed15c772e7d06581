use Rattle.std.proofs.Common.{refl, sym, subst}
use Rattle.xd_proof.specs.LineWords.{AreWords}
use Rattle.xd_proof.proofs.StepLemmas.{texts}
use Rattle.xd_proof.proofs.CaseLemmas.{tree_not, tree_is}
use Rattle.xd_proof.proofs.cases.read_tree.Goals as goal

pub returns-in-None : goal.returns-in-None
returns-in-None c =
    let a = subst (λ l. AreWords c.args.bytes.now (texts l)) (sym c.deref.ensures.value) c.in_ok-words.ensures in
    tree_not c.args.bytes.now (texts c.deref.result.now) a (rw c.in-None.is at c.in_ok-read_steps.ensures)

pub returns-in-Some : goal.returns-in-Some
returns-in-Some c =
    let a = subst (λ l. AreWords c.args.bytes.now (texts l)) (sym c.deref.ensures.value) c.in_ok-words.ensures in
    tree_is c.args.bytes.now (texts c.deref.result.now) _ _ (record { head = c.args.head; atom = c.args.atom; steps = c.in-Some.steps }) a (rw c.in-Some.is at c.in_ok-read_steps.ensures) refl refl
