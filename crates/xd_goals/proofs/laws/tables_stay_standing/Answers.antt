use Rattle.xd_goals.proofs.Facts.{stands-keeps}
use Rattle.xd_goals.proofs.StandsOnLemmas.{longer, stands-extends}
use Rattle.xd_goals.proofs.Itself.{stands_apart, stands_together}
use Rattle.xd_goals.proofs.laws.tables_stay_standing.Goals as goal

pub returns : goal.returns
returns c old documents stands more keep kept =
    stands_apart c.args.auto.now c.args.store.now c.args.table.now
    (stands-keeps c.args.auto.now documents c.args.store.now c.args.table.now kept
    (stands-extends old c.args.auto.now more keep (longer old c.args.auto.now more) documents c.args.table.now (stands_together old documents c.args.table.now c.see_lists.ensures stands)))
