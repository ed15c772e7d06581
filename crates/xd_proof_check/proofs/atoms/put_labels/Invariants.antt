use Rattle.std.proofs.Common.{flat_map, take}
use Rattle.xd_rules.specs.Heads.{labels_of}
use Rattle.xd_proof_check.specs.Atoms.{kinds_of}
use Rattle.xd_proof_check.specs.Names.{AddsNames}
use Rattle.xd_proof_check.proofs.atoms.put_labels.Given as goal

abbrev pub invariant-loop-head : goal.invariant-loop-head
invariant-loop-head l = AddsNames l.initial.labels.keys (flat_map labels_of (kinds_of (take l.head-index l.heads))) l.labels.keys
