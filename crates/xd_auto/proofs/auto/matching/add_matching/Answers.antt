use Rattle.xd_auto.proofs.AreMatchingLemmas.{adds_all, adds_first, adds_next}
use Rattle.xd_auto.proofs.auto.matching.add_matching.Goals as goal

pub loop-number-init : goal.loop-number-init
loop-number-init g c = adds_first g.M.Step.takes_name c.args.moves.now c.args.name.now c.next-number.result c.args.numbers.now.items c.next-number.ensures

pub loop-number-preserved : goal.loop-number-preserved
loop-number-preserved g c =
    adds_next g.M.Step.takes_name c.args.moves.now c.args.name.now c.loop-number.number c.next-number-in-loop-number.result c.args.numbers.now.items c.loop-number.numbers.items c.push.new.self.items
    c.loop-number.invariant c.loop-number-test.true c.in_ok-push.ensures.items c.next-number-in-loop-number.ensures

pub returns : goal.returns
returns g c = adds_all g.M.Step.takes_name c.args.moves.now c.args.name.now c.loop-number.number c.args.numbers.now.items c.loop-number.numbers.items c.loop-number.invariant c.loop-number-test.false
