use Rattle.std.proofs.Common.{◌≡◌, drop}
use Rattle.xd_meaning.specs.Meaning.{looked_up}
use Rattle.xd_plain.specs.PlainWays.{bindings_of}
use Rattle.xd_plain.proofs.evaluate.document_bound.Given as goal

abbrev pub invariant-loop-binding : goal.invariant-loop-binding
invariant-loop-binding l = looked_up (bindings_of l.variables) l.name ≡ looked_up (bindings_of (drop l.binding-index l.variables)) l.name
