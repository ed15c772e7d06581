use Rattle.std.proofs.Common.{◌≡◌, ◌++◌}
use Rattle.std.specs.List.{AllByRecursion}
use Rattle.xd_syntax.specs.Types.{tree}
use Rattle.xd_syntax.specs.TypeText.{type_text}
use Rattle.xd_type_text.specs.Waiting.{waiting_text, PieceBelongs, work}
use Rattle.xd_type_text.proofs.write.text_of.Given as goal

-- what is written and what waits are the text
abbrev pub invariant-loop-piece : goal.invariant-loop-piece
invariant-loop-piece l = record {
  written : l.made.items ++ waiting_text l.types l.stack.items ≡ type_text (tree l.types l.fn.id);
  belong : AllByRecursion (PieceBelongs l.types) l.stack.items;
}

abbrev pub decreases-loop-piece : goal.decreases-loop-piece
decreases-loop-piece l = work l.types l.stack.items
