use Rattle.std.proofs.Common.{◌≤◌, ◌-◌, vec_len}
use Rattle.std.specs.Io.KnownBytes.{Consumes}
use Rattle.xd_files.proofs.file_shelf.front.Given as goal

abbrev pub invariant-pieces : goal.invariant-pieces
invariant-pieces g l = record { within : vec_len l.text ≤ l.most; given : Consumes (g.R.Read.remaining l.fn.reader) (g.R.Read.remaining l.reader) l.text.items }

abbrev pub decreases-pieces : goal.decreases-pieces
decreases-pieces g l = l.most - vec_len l.text
