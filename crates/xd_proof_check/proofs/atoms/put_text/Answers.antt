use Rattle.std.proofs.Common.{[], ◌∷◌, ℕ, List, subst}
use Rattle.xd_proof_check.specs.Names.{AddsNames}
use Rattle.xd_proof_check.proofs.NameLemmas.{adds_one}
use Rattle.xd_proof_check.proofs.atoms.put_text.Goals as goal

pub returns : goal.returns
returns c =
    subst (λ (w : List ℕ). AddsNames c.args.texts.now.keys (w ∷ []) c.insert.new.self.keys) c.in_ok-text.ensures
    (adds_one c.in_ok-text.text c.args.texts.now.keys c.insert.new.self.keys (c.in_ok-insert.ensures.updates).0)
