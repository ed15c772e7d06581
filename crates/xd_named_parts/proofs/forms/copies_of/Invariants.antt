use Rattle.std.proofs.Common.{take}
use Rattle.xd_named_parts.specs.Copies.{AllCopied}
use Rattle.xd_named_parts.proofs.forms.copies_of.Given as goal

abbrev pub invariant-loop-part : goal.invariant-loop-part
invariant-loop-part l = AllCopied l.table (take l.part-index l.parts) l.made.items
