use Rattle.std.proofs.Common.{Some, refl}
use Rattle.xd_show_solve.proofs.SummandLaws.{first_adds, first_stands, more_adds, more_stands}
use Rattle.xd_show_solve.proofs.summands.push_constant.Goals as goal

pub returns-in-None-clause-adds : goal.returns-in-None-clause-adds
returns-in-None-clause-adds c = λ types. first_adds types c.args.some.now (record c.args.some.now { first = Some c.args.id; more = c.new.result }) c.args.id c.in-None.is refl refl c.new.ensures.items

pub returns-in-None-clause-stand : goal.returns-in-None-clause-stand
returns-in-None-clause-stand c = λ types h b. first_stands types c.args.some.now (record c.args.some.now { first = Some c.args.id; more = c.new.result }) c.args.id h b refl refl c.new.ensures.items

pub returns-in_ok-push-in-Some-clause-adds : goal.returns-in_ok-push-in-Some-clause-adds
returns-in_ok-push-in-Some-clause-adds c = λ types. more_adds types c.args.some.now (record c.args.some.now { more = c.push.new.self }) _ c.args.id c.in-Some.is refl refl c.in_ok-push-in-Some.ensures.items

pub returns-in_ok-push-in-Some-clause-stand : goal.returns-in_ok-push-in-Some-clause-stand
returns-in_ok-push-in-Some-clause-stand c = λ types h b. more_stands types c.args.some.now (record c.args.some.now { more = c.push.new.self }) c.args.id h b refl refl c.in_ok-push-in-Some.ensures.items
