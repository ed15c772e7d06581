use Rattle.std.proofs.Common.{[], ◌∷◌, sym, subst}
use Rattle.xd_goals.specs.Standing.{StandsOn}
use Rattle.xd_goals.specs.Verdicts.{IsVerdict}
use Rattle.xd_calls_proofs.proofs.KnownLemmas.{row_names, row_typed}
use Rattle.xd_calls_proofs.proofs.made.prove_states.Goals as goal

pub decide-requires-clause-stands : goal.decide-requires-clause-stands
decide-requires-clause-stands c = subst (StandsOn c.args.auto.now c.new-store.result) (sym c.new-table.ensures) c.new_tables_stand.ensures

pub show_goal-requires-clause-stands : goal.show_goal-requires-clause-stands
show_goal-requires-clause-stands c = c.decide.ensures.stands.facts

pub show_goal-requires-clause-settled : goal.show_goal-requires-clause-settled
show_goal-requires-clause-settled c =
    let v = subst (IsVerdict c.args.auto.now c.decide.new.store c.decide.new.table c.args.left (c.args.right ∷ [])) c.in-Included.is c.in_ok-goal.ensures.verdict in
    v.1.settled

pub show_goal-requires-clause-types : goal.show_goal-requires-clause-types
show_goal-requires-clause-types c =
    let v = subst (IsVerdict c.args.auto.now c.decide.new.store c.decide.new.table c.args.left (c.args.right ∷ [])) c.in-Included.is c.in_ok-goal.ensures.verdict in
    row_typed c.args.sound.now c.args.cells.now c.args.auto.now c.args.left c.args.right c.requires.left c.requires.right c.decide.new.table c.in-Included.goal.number v.1

pub show_goal-requires-clause-names : goal.show_goal-requires-clause-names
show_goal-requires-clause-names c =
    let v = subst (IsVerdict c.args.auto.now c.decide.new.store c.decide.new.table c.args.left (c.args.right ∷ [])) c.in-Included.is c.in_ok-goal.ensures.verdict in
    row_names c.args.sound.now c.args.cells.now c.args.auto.now c.args.left c.args.right c.requires.left c.requires.right c.decide.new.table c.in-Included.goal.number v.1
