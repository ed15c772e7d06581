use Rattle.xd_check.proofs.outcome.told_by.Goals as goal

pub returns : goal.returns
returns c =
    record {
      told = c.tell_all.ensures.told;
      keeps = c.tell_all.ensures.keeps;
    }

pub tell_all-requires : goal.tell_all-requires
tell_all-requires c =
    record {
      ready = c.requires;
      known = c.new-findings.ensures.known;
      lines = c.new-findings.ensures.lines;
    }
