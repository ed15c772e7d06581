use Rattle.std.proofs.Common.{◌≡◌, ◌++◌, take, map}
use Rattle.xd_syntax.specs.TypeText.{quoted_text}
use Rattle.xd_type_text.specs.Waiting.{each_behind_bar}
use Rattle.xd_type_text.proofs.classes.write_more_texts.Given as goal

abbrev pub invariant-loop-text : goal.invariant-loop-text
invariant-loop-text l = l.out.items ≡ l.fn.out.items ++ each_behind_bar (map quoted_text (take l.text-index l.texts))
