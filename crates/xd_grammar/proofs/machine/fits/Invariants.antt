use Rattle.std.proofs.Common.{◌≡◌, drop}
use Rattle.xd_grammar.specs.Fits.{fits}
use Rattle.xd_grammar.proofs.machine.fits.Given as goal

abbrev pub invariant-loop-symbol : goal.invariant-loop-symbol
invariant-loop-symbol l = fits (drop l.symbol-index l.row) l.kind ≡ fits l.row l.kind
