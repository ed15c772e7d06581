use Rattle.std.proofs.Common.{take}
use Rattle.xd_proof_check.specs.Names.{AddsNames}
use Rattle.xd_proof_check.proofs.atoms.share_texts.Given as goal

abbrev pub invariant-loop-text : goal.invariant-loop-text
invariant-loop-text l = AddsNames l.initial.texts.keys (take l.text-index l.more) l.texts.keys
