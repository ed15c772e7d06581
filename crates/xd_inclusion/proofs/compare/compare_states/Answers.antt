use Rattle.std.proofs.Common.{◌≡◌, [], ◌∷◌, inl, inr, refl, sym, subst}
use Rattle.xd_doc.specs.Stored.{document_at}
use Rattle.xd_goals.specs.Standing.{StandsOn}
use Rattle.xd_goals.specs.Verdicts.{IsVerdict}
use Rattle.xd_inclusion.proofs.Inclusions.{included, inclusion_proved, least_alone, row_known, row_typed}
use Rattle.xd_inclusion.proofs.compare.compare_states.Goals as goal

pub decide-requires-clause-stands : goal.decide-requires-clause-stands
decide-requires-clause-stands c = subst (StandsOn c.args.auto.now c.args.store.now) (sym c.new-table.ensures) c.new_tables_stand.ensures

pub prove_goal-requires-clause-stands : goal.prove_goal-requires-clause-stands
prove_goal-requires-clause-stands c = c.decide.ensures.stands.facts

pub prove_goal-requires-clause-settled : goal.prove_goal-requires-clause-settled
prove_goal-requires-clause-settled c =
    let v = subst (IsVerdict c.args.auto.now c.decide.new.store c.decide.new.table c.args.left (c.args.right ∷ [])) c.in-Included.is c.in_ok-goal.ensures.verdict in
    v.1.settled

pub prove_goal-requires-clause-types : goal.prove_goal-requires-clause-types
prove_goal-requires-clause-types c =
    let one = c.requires.left in
    let other = c.requires.right in
    let v = subst (IsVerdict c.args.auto.now c.decide.new.store c.decide.new.table c.args.left (c.args.right ∷ [])) c.in-Included.is c.in_ok-goal.ensures.verdict in
    row_typed c.args.sound.now c.args.cells.now c.args.auto.now one.T other.T c.args.left c.args.right one.stands other.stands c.decide.new.table c.in-Included.goal.number v.1

pub prove_goal-requires-clause-names : goal.prove_goal-requires-clause-names
prove_goal-requires-clause-names c =
    let one = c.requires.left in
    let other = c.requires.right in
    let v = subst (IsVerdict c.args.auto.now c.decide.new.store c.decide.new.table c.args.left (c.args.right ∷ [])) c.in-Included.is c.in_ok-goal.ensures.verdict in
    row_known c.args.sound.now c.args.cells.now c.args.auto.now one.T other.T c.args.left c.args.right one.stands other.stands c.decide.new.table c.in-Included.goal.number v.1 one.names other.names

pub returns-in-Included-clause-inclusion : goal.returns-in-Included-clause-inclusion
returns-in-Included-clause-inclusion c = λ L R one other.
    let v = subst (IsVerdict c.args.auto.now c.decide.new.store c.decide.new.table c.args.left (c.args.right ∷ [])) c.in-Included.is c.in_ok-goal.ensures.verdict in (
      included c.args.sound.now c.args.cells.now c.args.auto.now L R c.args.left c.args.right one other v.0,
      inclusion_proved c.args.sound.now c.args.cells.now c.args.auto.now L R c.args.left c.args.right one other c.decide.new.table c.in-Included.goal.number v.1
          c.in_ok-prove_goal-in-Included.field-0.items c.in_ok-prove_goal-in-Included.ensures.text,
    )
