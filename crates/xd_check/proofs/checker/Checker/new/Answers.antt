use Rattle.xd_check.proofs.checker.Checker.new.Goals as goal

pub returns : goal.returns
returns c =
    let made = c.in_ok-patterns.ensures in
    record {
      ready = record { serves = c.in_ok-compiler.ensures.serves; patterns = made.patterns; points = made.points; signatures = made.signatures };
      adds = c.in_ok-compiler.ensures.adds;
      same = c.in_ok-compiler.ensures.same;
    }
