use Rattle.std.proofs.Common.{subst}
use Rattle.xd_continuations.specs.Chains.{AreLinks}
use Rattle.xd_continuations.proofs.LinkTests.{inserted, inserted_list}
use Rattle.xd_continuations.proofs.links.Interned.put.Goals as goal

pub returns-clause-links : goal.returns-clause-links
returns-clause-links g c =
    (inserted g.T.PartialEq.eq g.met.T.Internable.exact g.met.T.Eq.laws.refl c.self.inside.links.keys c.args.self.now c.insert_full.new.self.keys (record { item = c.args.item; behind = c.args.behind })
    c.self.view_is c.in_ok-at.ensures.keys).0

pub invariant_of-self-2 : goal.invariant_of-self-2
invariant_of-self-2 g c =
    (inserted g.T.PartialEq.eq g.met.T.Internable.exact g.met.T.Eq.laws.refl c.self.inside.links.keys c.args.self.now c.insert_full.new.self.keys (record { item = c.args.item; behind = c.args.behind })
    c.self.view_is c.in_ok-at.ensures.keys).1 (subst AreLinks c.self.view_is c.self.invariant) c.requires

pub returns-clause-list : goal.returns-clause-list
returns-clause-list g c =
    let s = c.in_ok-at.ensures.stored in
    inserted_list g.T.PartialEq.eq g.met.T.Internable.exact g.met.T.Eq.laws.refl c.self.inside.links.keys c.args.self.now c.insert_full.new.self.keys (record { item = c.args.item; behind = c.args.behind })
    c.in_ok-at.at c.self.view_is c.in_ok-at.ensures.keys (subst AreLinks c.self.view_is c.self.invariant) c.requires s.0 s.1 s.2
