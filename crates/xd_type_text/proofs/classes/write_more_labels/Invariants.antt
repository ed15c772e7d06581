use Rattle.std.proofs.Common.{◌≡◌, ◌++◌, take}
use Rattle.xd_type_text.specs.Waiting.{each_behind_bar}
use Rattle.xd_type_text.proofs.classes.write_more_labels.Given as goal

abbrev pub invariant-loop-label : goal.invariant-loop-label
invariant-loop-label l = l.out.items ≡ l.fn.out.items ++ each_behind_bar (take l.label-index l.labels)
