use Rattle.std.proofs.Common.{subst, sym}
use Rattle.xd_least.specs.Least.{Knows}
use Rattle.xd_apart.proofs.SearchLemmas.{knows_after, knows_over}
use Rattle.xd_apart.proofs.search.candidate.Goals as goal

pub learn-requires : goal.learn-requires
learn-requires c =
    subst (Knows c.args.approximation.now.over c.args.store.now) (sym c.forget_after.ensures) (knows_over c.args.approximation.now c.args.store.now c.args.known.now c.requires.within c.requires.known)

pub returns-clause-known : goal.returns-clause-known
returns-clause-known c =
    knows_after c.args.approximation.now c.args.store.now c.learn.new.store c.args.known.now c.forget_after.new.self c.learn.new.self
    c.requires.within c.requires.known c.forget_after.ensures c.in_ok-learn.ensures.keeps c.in_ok-learn.ensures.all c.in_ok-learn.ensures.remembers
