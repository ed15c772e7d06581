use Rattle.xd_base.specs.Outside.{HasRisen}
use Rattle.xd_validate.proofs.Tellings.{risen-later, told-by, told-for}
use Rattle.xd_stream.specs.StopByState.{IsAccepted}
use Rattle.xd_validate.proofs.line.tell.Goals as goal

pub returns-clause-told : goal.returns-clause-told
returns-clause-told g c =
    let holds = g.D.Source.holds c.args.source.now in
    let from = g.D.Source.faults c.args.source.now in
    let mid = g.D.Source.faults c.open.new.self in
    let till = g.D.Source.faults c.validate_open.new.source in
    let name = c.args.name.now in
    let line = c.in_ok-line-2.line in
    told-for (IsAccepted c.args.auto c.args.state) holds (HasRisen mid till) (HasRisen from till) name line (λ r. risen-later from mid till c.open.ensures.never_falls r)
    (told-by c.args.auto c.args.state holds (HasRisen mid till) name (g.D.Source.remaining c.open.new.self) c.in_ok-ended.ended line c.in_default.ensures.opened c.in_ok-ended.ensures.ended c.in_ok-line-2.ensures)
