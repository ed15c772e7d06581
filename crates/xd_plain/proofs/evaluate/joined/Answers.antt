use Rattle.std.proofs.Common.{ap, sym}
use Rattle.xd_meaning.specs.Meaning as on_fuel
use Rattle.xd_plain.proofs.evaluate.joined.Goals as goal

pub returns : goal.returns
returns c = ap (λ d. on_fuel.Done d c.args.back.now.left) (sym c.in_ok-document.ensures)
