use Rattle.xd_empty.specs.Parts.{is_marked}
use Rattle.xd_given.proofs.AlikeLaw.{gives_alike}
use Rattle.xd_given.proofs.alike.alike_states.Goals as goal

pub loop-preserved : goal.loop-preserved
loop-preserved g c = record {
  sized = c.unmark.ensures.sized;
  kept = λ family states is within. c.unmark.ensures.kept family is (c.loop.invariant.kept family states is) within;
}

pub returns-clause-gives : goal.returns-clause-gives
returns-clause-gives g c x lt s h =
    gives_alike c.args.auto.now (g.H.Holds.owned c.args.owner.now x) (is_marked c.unmark.new.marks.items) (λ q here. c.unmark.ensures.alike c.loop-test.false q here x lt) s h

pub returns-clause-largest : goal.returns-clause-largest
returns-clause-largest g c family states is s h = c.unmark.ensures.kept family is (c.loop.invariant.kept family states is) s h
