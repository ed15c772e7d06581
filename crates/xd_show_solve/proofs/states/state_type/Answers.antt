use Rattle.std.proofs.Common.{sym, subst}
use Rattle.xd_show_solve.specs.Systems.{Reduces}
use Rattle.xd_same_types.proofs.Ids.{ok_map}
use Rattle.xd_show_solve.proofs.StateTypes.{state_type_law}
use Rattle.xd_show_solve.proofs.states.state_type.Goals as goal

pub returns-clause-exact : goal.returns-clause-exact
returns-clause-exact c =
    let mid = c.level_sums.new.pool.types in
    let low = c.reduced.new.pool.types in
    ok_map c.solution.result _ _ (λ o s. state_type_law c.args.auto.now c.args.pool.now.types mid low c.solution.new.pool.types c.args.written.now c.args.level.now.places.items c.args.level.now.states.items c.args.start c.in_ok-sums.sums.items c.in_ok-few.few.items o
    c.requires.whole.level c.in_ok-sums.ensures.count (sym c.requires.first) c.in_ok-sums.ensures.sums (subst (λ ss. Reduces mid low ss c.in_ok-few.few.items) c.deref.ensures.value c.in_ok-few.ensures.reduces) s) c.solution.ensures.exact
