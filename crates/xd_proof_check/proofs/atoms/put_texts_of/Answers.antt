use Rattle.std.proofs.Common.{sym, subst}
use Rattle.xd_rules.specs.Heads.{texts_of}
use Rattle.xd_heads.specs.HeadList.{kind_at}
use Rattle.xd_heads.specs.declared.listing.HeadKind.{HeadKind}
use Rattle.xd_proof_check.specs.Names.{AddsNames}
use Rattle.xd_proof_check.proofs.NameLemmas.{adds_none}
use Rattle.xd_proof_check.proofs.atoms.put_texts_of.Goals as goal

pub returns-in-Label : goal.returns-in-Label
returns-in-Label c =
    let names = c.args.texts.now.keys in
    subst (λ (k : HeadKind). AddsNames names (texts_of (kind_at k)) names) (sym c.in-Label.is) (adds_none names)
