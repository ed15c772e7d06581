use Rattle.std.proofs.Common.{◌≡◌, true, subst, inr}
use Rattle.xd_patterns.specs.Expanding.{Enters}
use Rattle.xd_patterns.proofs.expand.visit.Goals as goal

pub returns : goal.returns
returns c =
    let yes : c.in_ok-is_new.is_new ≡ true = c.if-not-is_new.false in
    inr (record {
      entered = subst (Enters c.args.seen.now.keys c.args.task c.is_first.new.seen.keys) yes c.in_ok-is_new.ensures;
      expanded = c.in_ok-step.ensures;
    })
