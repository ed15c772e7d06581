use Rattle.xd_doc.specs.Classes.{class_has}
use Rattle.xd_boole.proofs.DividesLemmas.{divided_more}
use Rattle.xd_boole.proofs.groups.divide_all.Goals as goal

pub loop-group-preserved : goal.loop-group-preserved
loop-group-preserved c =
    divided_more class_has c.args.step.now.words c.args.step.now.rest c.in-Some.group c.loop-group.divided.items c.divide.new.groups.items c.loop-group.groups.items c.args.groups.items c.pop.new.self.items
    c.in_ok-divide.ensures c.in-Some.ensures.items c.loop-group.invariant
