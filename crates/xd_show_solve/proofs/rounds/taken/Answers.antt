use Rattle.xd_same_types.proofs.Ids.{ok_map}
use Rattle.xd_show_solve.specs.Equations.{side_in}
use Rattle.xd_show_solve.specs.Summands.{summands_in}
use Rattle.xd_show_solve.proofs.RoundLaws.{taken_same}
use Rattle.xd_show_solve.proofs.rounds.taken.Goals as goal

pub returns-clause-taken : goal.returns-clause-taken
returns-clause-taken c = ok_map c.put_together.result _ _ (λ made s. taken_same c.args.pool.now.types c.args.owns.now _ _ _ c.in_ok-some.ensures.taken s) c.put_together.ensures.same
