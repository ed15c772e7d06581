use Rattle.xd_heads.proofs.GrowsTypesLemmas.{grows_along}
use Rattle.xd_heads.proofs.lister.HeadLister.new.Goals as goal

pub returns-in_err-names-clause-adds : goal.returns-in_err-names-clause-adds
returns-in_err-names-clause-adds c = (grows_along c.args.sound.now c.meaning_of_any.new.sound c.take_known.new.self c.meaning_of_any.ensures.adds c.meaning_of_any.ensures.same c.meaning_of_any.ensures.shallow c.take_known.ensures.same).adds

pub returns-in_err-names-clause-same : goal.returns-in_err-names-clause-same
returns-in_err-names-clause-same c = (grows_along c.args.sound.now c.meaning_of_any.new.sound c.take_known.new.self c.meaning_of_any.ensures.adds c.meaning_of_any.ensures.same c.meaning_of_any.ensures.shallow c.take_known.ensures.same).same

pub returns-in_err-names-clause-shallow : goal.returns-in_err-names-clause-shallow
returns-in_err-names-clause-shallow c = (grows_along c.args.sound.now c.meaning_of_any.new.sound c.take_known.new.self c.meaning_of_any.ensures.adds c.meaning_of_any.ensures.same c.meaning_of_any.ensures.shallow c.take_known.ensures.same).shallow

pub returns-clause-adds : goal.returns-clause-adds
returns-clause-adds c = (grows_along c.args.sound.now c.meaning_of_any.new.sound c.take_known.new.self c.meaning_of_any.ensures.adds c.meaning_of_any.ensures.same c.meaning_of_any.ensures.shallow c.take_known.ensures.same).adds

pub returns-clause-same : goal.returns-clause-same
returns-clause-same c = (grows_along c.args.sound.now c.meaning_of_any.new.sound c.take_known.new.self c.meaning_of_any.ensures.adds c.meaning_of_any.ensures.same c.meaning_of_any.ensures.shallow c.take_known.ensures.same).same

pub returns-clause-shallow : goal.returns-clause-shallow
returns-clause-shallow c = (grows_along c.args.sound.now c.meaning_of_any.new.sound c.take_known.new.self c.meaning_of_any.ensures.adds c.meaning_of_any.ensures.same c.meaning_of_any.ensures.shallow c.take_known.ensures.same).shallow
