use Rattle.std.proofs.Common.{take}
use Rattle.xd_proof_check.specs.Names.{AddsNames}
use Rattle.xd_proof_check.proofs.atoms.share_labels.Given as goal

abbrev pub invariant-loop-label : goal.invariant-loop-label
invariant-loop-label l = AddsNames l.initial.labels.keys (take l.label-index l.more) l.labels.keys
