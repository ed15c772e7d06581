use Rattle.std.proofs.Common.{sym, subst}
use Rattle.xd_rules.specs.Heads.{labels_of}
use Rattle.xd_heads.specs.HeadList.{kind_at}
use Rattle.xd_heads.specs.declared.listing.HeadKind.{HeadKind}
use Rattle.xd_proof_check.specs.Names.{AddsNames}
use Rattle.xd_proof_check.proofs.NameLemmas.{adds_none}
use Rattle.xd_proof_check.proofs.atoms.put_labels_of.Goals as goal

pub returns-in-Text : goal.returns-in-Text
returns-in-Text c =
    let names = c.args.labels.now.keys in
    subst (λ (k : HeadKind). AddsNames names (labels_of (kind_at k)) names) (sym c.in-Text.is) (adds_none names)
