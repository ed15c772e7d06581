use Rattle.std.proofs.Common.{◌≡◌, ◌++◌, take}
use Rattle.xd_moves.specs.Codes.{code_names}
use Rattle.xd_moves.proofs.codes.push_texts.Given as goal

abbrev pub invariant-loop-text : goal.invariant-loop-text
invariant-loop-text l = l.code.items ≡ l.initial.code.items ++ code_names (take l.text-index l.texts)
