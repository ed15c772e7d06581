-- What heads name.
use Rattle.std.specs.Prelude.{◌≡◌, List, map, flat_map}
use Rattle.xd_doc.specs.ByteOrder.{in_byte_order}
use Rattle.xd_rules.specs.Heads.{HeadKind, labels_of, texts_of}
use Rattle.xd_heads.specs.HeadList.{kind_at}
use Rattle.xd_heads.specs.declared.lister.NumberedHead.{NumberedHead}
use Rattle.xd_rules.specs.Listed.{AreAmong}
use Rattle.xd_proof_check.specs.declared.atoms.Named.{Named}

abbrev pub kinds_of : List NumberedHead → List HeadKind
kinds_of hs = map (λ (h : NumberedHead). kind_at h.kind) hs

-- all that is named in these classes, in byte order
pub record AreNamed (kinds : List HeadKind) (n : Named) : Type 0 where
  pub labels : n.labels.names ≡ in_byte_order (flat_map labels_of kinds)
  pub texts : n.texts.names ≡ in_byte_order (flat_map texts_of kinds)

-- what the class names is named
pub record AreNamedFor (kind : HeadKind) (n : Named) : Type 0 where
  pub labels : AreAmong (labels_of kind) n.labels.names
  pub texts : AreAmong (texts_of kind) n.texts.names
