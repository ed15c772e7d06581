use Rattle.std.proofs.Common.{◌≡◌, ◌++◌, drop}
use Rattle.xd_plain.specs.PlainWays.{bindings_of}
use Rattle.xd_plain.proofs.ways.push_bindings.Given as goal

abbrev pub invariant-loop-binding : goal.invariant-loop-binding
invariant-loop-binding l = bindings_of l.made.items ++ bindings_of (drop l.binding-index l.bindings) ≡ bindings_of l.initial.made.items ++ bindings_of l.bindings
