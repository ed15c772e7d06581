use Rattle.std.proofs.Common.{refl}
use Rattle.xd_show_solve.proofs.SummandLaws.{term_adds, term_stands}
use Rattle.xd_show_solve.proofs.summands.push_term.Goals as goal

pub returns-clause-adds : goal.returns-clause-adds
returns-clause-adds c = λ types. term_adds types c.args.some.now (record c.args.some.now { terms = c.push.new.self }) c.args.term c.in_ok-push.ensures.items refl refl

pub returns-clause-stand : goal.returns-clause-stand
returns-clause-stand c = λ types h b. term_stands types c.args.some.now (record c.args.some.now { terms = c.push.new.self }) c.args.term h b c.in_ok-push.ensures.items refl refl
