use Rattle.std.proofs.Common.{subst, sym}
use Rattle.xd_goals.specs.Rows.{TableView}
use Rattle.xd_goals.specs.Standing.{StandsOn}
use Rattle.xd_check_steps.proofs.known.Known.new.Goals as goal

pub returns : goal.returns
returns c = record {
  inhabitants = c.new.ensures c.args.auto.now c.args.store.now;
  table = subst (λ (t : TableView). StandsOn c.args.auto.now c.args.store.now t) (sym c.new-table.ensures) c.new_tables_stand.ensures;
}
