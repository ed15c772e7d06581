use Rattle.std.proofs.Common.{flat_map, take}
use Rattle.xd_rules.specs.Heads.{texts_of}
use Rattle.xd_proof_check.specs.Atoms.{kinds_of}
use Rattle.xd_proof_check.specs.Names.{AddsNames}
use Rattle.xd_proof_check.proofs.atoms.put_texts.Given as goal

abbrev pub invariant-loop-head : goal.invariant-loop-head
invariant-loop-head l = AddsNames l.initial.texts.keys (flat_map texts_of (kinds_of (take l.head-index l.heads))) l.texts.keys
