use Rattle.xd_given.proofs.projecting.pattern_of.Goals as goal

pub returns-clause-serve : goal.returns-clause-serve
returns-clause-serve c a = c.leaving_out.ensures.serve a (c.in_ok-pattern.ensures.serve a)
