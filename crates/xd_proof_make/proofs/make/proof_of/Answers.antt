use Rattle.std.proofs.Common.{ℕ, ◌<◌, List, Option, length, sym, subst, ◌∙◌}
use Rattle.std.specs.List.{AllByRecursion}
use Rattle.xd_goals.specs.Rows.{row_at}
use Rattle.xd_goals.proofs.Itself.{facts_together, trees_kept}
use Rattle.xd_heads.proofs.Mirrored.{mirrors_stay}
use Rattle.xd_proof_make.specs.Few.{AreFew}
use Rattle.xd_proof_make.specs.Made.{CanWrite, HasTypes, IsGoalMade, IsProofOf, IsTypedRow}
use Rattle.xd_syntax.specs.declared.types.TypeId.{TypeId}
use Rattle.xd_proof_make.proofs.ProofLemmas.{all_can, all_fit, all_fit_lines, all_made, all_there, all_trees, all_typed_rows, holds_there, made_proof, some_made}
use Rattle.xd_proof_make.proofs.make.proof_of.Goals as goal

pub reach-requires-clause-there : goal.reach-requires-clause-there
reach-requires-clause-there c = holds_there c.args.table.now c.args.goal.number (c.requires.settled.holds c.args.goal.number c.requires.settled.start)

pub reach-requires-clause-trees : goal.reach-requires-clause-trees
reach-requires-clause-trees c = trees_kept c.args.table.now c.see_lists.ensures

pub learn_goals-requires-clause-there : goal.learn_goals-requires-clause-there
learn_goals-requires-clause-there c =
    subst (AllByRecursion (λ g. g < length c.args.table.now.rows)) (sym c.deref.ensures.value) (all_there c.args.auto.now c.args.table.now c.args.cells.now c.in_ok-reached.reached.order.items
    (all_fit c.args.sound.now c.args.cells.now c.args.auto.now c.args.table.now c.args.goal.number c.in_ok-reached.reached.order.items c.in_ok-reached.reached.numbers.items c.requires.mirrors (facts_together c.args.auto.now c.args.table.now c.see_lists.ensures c.requires.stands)
    c.requires.settled c.requires.types c.in_ok-reached.ensures))

pub learn_goals-requires-clause-types : goal.learn_goals-requires-clause-types
learn_goals-requires-clause-types c =
    subst (AllByRecursion (λ g. IsTypedRow c.args.cells.now (length c.in_ok-states.states.items) (row_at c.args.table.now.rows g))) (sym c.deref.ensures.value)
    (all_typed_rows c.args.auto.now c.args.table.now c.args.cells.now c.in_ok-reached.reached.order.items (length c.in_ok-states.states.items) (c.in_ok-states.ensures.sized ∙ c.len.ensures.value)
    (all_fit c.args.sound.now c.args.cells.now c.args.auto.now c.args.table.now c.args.goal.number c.in_ok-reached.reached.order.items c.in_ok-reached.reached.numbers.items c.requires.mirrors (facts_together c.args.auto.now c.args.table.now c.see_lists.ensures c.requires.stands)
    c.requires.settled c.requires.types c.in_ok-reached.ensures))

pub write_goals-requires-clause-there : goal.write_goals-requires-clause-there
write_goals-requires-clause-there c =
    subst (AllByRecursion (λ g. g < length c.args.table.now.rows)) (sym c.deref-4.ensures.value) (all_there c.args.auto.now c.args.table.now c.args.cells.now c.in_ok-reached.reached.order.items
    (all_fit c.args.sound.now c.args.cells.now c.args.auto.now c.args.table.now c.args.goal.number c.in_ok-reached.reached.order.items c.in_ok-reached.reached.numbers.items c.requires.mirrors (facts_together c.args.auto.now c.args.table.now c.see_lists.ensures c.requires.stands)
    c.requires.settled c.requires.types c.in_ok-reached.ensures))

pub write_goals-requires-clause-can : goal.write_goals-requires-clause-can
write_goals-requires-clause-can c =
    subst (λ (states : List (Option TypeId)). AllByRecursion (CanWrite c.args.cells.now c.args.auto.now c.args.table.now states c.deref-3.result.now) c.deref-4.result.now) (sym c.deref-2.ensures.value)
    (subst (λ (ns : List ℕ). AllByRecursion (CanWrite c.args.cells.now c.args.auto.now c.args.table.now c.learn_goals.new.states.items ns) c.deref-4.result.now) (sym c.deref-3.ensures.value)
    (subst (AllByRecursion (CanWrite c.args.cells.now c.args.auto.now c.args.table.now c.learn_goals.new.states.items c.in_ok-reached.reached.numbers.items)) (sym c.deref-4.ensures.value)
    (all_can c.learn_goals.new.sound c.args.cells.now c.args.auto.now c.args.table.now c.learn_goals.new.states.items c.in_ok-reached.reached.numbers.items c.in_ok-reached.reached.order.items (facts_together c.args.auto.now c.args.table.now c.see_lists.ensures c.requires.stands)
    c.in_ok-reached.ensures.sized
    (mirrors_stay c.args.sound.now c.learn_goals.new.sound c.args.cells.now c.args.auto.now c.requires.mirrors c.learn_goals.ensures.grows.adds c.learn_goals.ensures.grows.same)
    (c.learn_goals.ensures.known (c.in_ok-states.ensures.known c.args.sound.now c.args.cells.now))
    (all_fit c.args.sound.now c.args.cells.now c.args.auto.now c.args.table.now c.args.goal.number c.in_ok-reached.reached.order.items c.in_ok-reached.reached.numbers.items c.requires.mirrors (facts_together c.args.auto.now c.args.table.now c.see_lists.ensures c.requires.stands)
    c.requires.settled c.requires.types c.in_ok-reached.ensures)
    (subst (AllByRecursion (λ g. HasTypes c.learn_goals.new.states.items (row_at c.args.table.now.rows g))) c.deref.ensures.value c.in_ok-learn_goals.ensures.has))))

pub new-requires-clause-some : goal.new-requires-clause-some
new-requires-clause-some c =
    some_made (λ g x. IsGoalMade c.learn_goals.new.sound c.args.cells.now c.args.auto.now c.args.table.now.nodes c.in_ok-reached.reached.numbers.items (row_at c.args.table.now.rows g) x) c.in_ok-reached.reached.order.items c.in_ok-goals.goals.items c.args.goal.number
    (all_made c.learn_goals.new.sound c.args.cells.now c.args.auto.now c.args.table.now c.learn_goals.new.states.items c.deref-2.result.now c.in_ok-reached.reached.numbers.items c.deref-3.result.now
    c.in_ok-reached.reached.order.items c.deref-4.result.now c.in_ok-goals.goals.items c.in_ok-goals.ensures.made c.deref-2.ensures.value c.deref-3.ensures.value c.deref-4.ensures.value
    (mirrors_stay c.args.sound.now c.learn_goals.new.sound c.args.cells.now c.args.auto.now c.requires.mirrors c.learn_goals.ensures.grows.adds c.learn_goals.ensures.grows.same)
    (c.learn_goals.ensures.known (c.in_ok-states.ensures.known c.args.sound.now c.args.cells.now)))
    c.in_ok-reached.ensures.first

pub new-requires-clause-lines : goal.new-requires-clause-lines
new-requires-clause-lines c =
    all_fit_lines c.learn_goals.new.sound c.args.cells.now c.args.auto.now c.args.table.now.nodes c.in_ok-reached.reached.numbers.items c.args.table.now.rows c.in_ok-reached.reached.order.items c.in_ok-goals.goals.items
    (all_made c.learn_goals.new.sound c.args.cells.now c.args.auto.now c.args.table.now c.learn_goals.new.states.items c.deref-2.result.now c.in_ok-reached.reached.numbers.items c.deref-3.result.now
    c.in_ok-reached.reached.order.items c.deref-4.result.now c.in_ok-goals.goals.items c.in_ok-goals.ensures.made c.deref-2.ensures.value c.deref-3.ensures.value c.deref-4.ensures.value
    (mirrors_stay c.args.sound.now c.learn_goals.new.sound c.args.cells.now c.args.auto.now c.requires.mirrors c.learn_goals.ensures.grows.adds c.learn_goals.ensures.grows.same)
    (c.learn_goals.ensures.known (c.in_ok-states.ensures.known c.args.sound.now c.args.cells.now)))

pub new-requires-clause-trees : goal.new-requires-clause-trees
new-requires-clause-trees c =
    all_trees c.learn_goals.new.sound c.args.cells.now c.args.auto.now c.args.table.now.nodes c.in_ok-reached.reached.numbers.items c.args.table.now.rows c.in_ok-reached.reached.order.items c.in_ok-goals.goals.items
    (all_made c.learn_goals.new.sound c.args.cells.now c.args.auto.now c.args.table.now c.learn_goals.new.states.items c.deref-2.result.now c.in_ok-reached.reached.numbers.items c.deref-3.result.now
    c.in_ok-reached.reached.order.items c.deref-4.result.now c.in_ok-goals.goals.items c.in_ok-goals.ensures.made c.deref-2.ensures.value c.deref-3.ensures.value c.deref-4.ensures.value
    (mirrors_stay c.args.sound.now c.learn_goals.new.sound c.args.cells.now c.args.auto.now c.requires.mirrors c.learn_goals.ensures.grows.adds c.learn_goals.ensures.grows.same)
    (c.learn_goals.ensures.known (c.in_ok-states.ensures.known c.args.sound.now c.args.cells.now)))

pub returns-clause-proof : goal.returns-clause-proof
returns-clause-proof c =
    subst (IsProofOf c.learn_goals.new.sound c.args.cells.now c.args.table.now c.args.goal.number) (sym c.new.ensures)
    (made_proof c.learn_goals.new.sound c.args.cells.now c.args.auto.now c.args.table.now (facts_together c.args.auto.now c.args.table.now c.see_lists.ensures c.requires.stands) c.args.goal.number c.in_ok-reached.reached.order.items c.in_ok-reached.reached.numbers.items c.in_ok-reached.ensures
    c.in_ok-goals.goals.items
    (all_made c.learn_goals.new.sound c.args.cells.now c.args.auto.now c.args.table.now c.learn_goals.new.states.items c.deref-2.result.now c.in_ok-reached.reached.numbers.items c.deref-3.result.now
    c.in_ok-reached.reached.order.items c.deref-4.result.now c.in_ok-goals.goals.items c.in_ok-goals.ensures.made c.deref-2.ensures.value c.deref-3.ensures.value c.deref-4.ensures.value
    (mirrors_stay c.args.sound.now c.learn_goals.new.sound c.args.cells.now c.args.auto.now c.requires.mirrors c.learn_goals.ensures.grows.adds c.learn_goals.ensures.grows.same)
    (c.learn_goals.ensures.known (c.in_ok-states.ensures.known c.args.sound.now c.args.cells.now)))
    (mirrors_stay c.args.sound.now c.learn_goals.new.sound c.args.cells.now c.args.auto.now c.requires.mirrors c.learn_goals.ensures.grows.adds c.learn_goals.ensures.grows.same)
    c.program-program.ensures.sound
    c.in_ok-goals.ensures.few_goals c.learn_goals.new.states.items (subst (λ (ss : List (Option TypeId)). AreFew ss) c.deref-2.ensures.value c.write_goals.ensures.few_states) (c.learn_goals.ensures.keeps.sized ∙ (c.in_ok-states.ensures.sized ∙ c.len.ensures.value))
    (all_fit c.args.sound.now c.args.cells.now c.args.auto.now c.args.table.now c.args.goal.number c.in_ok-reached.reached.order.items c.in_ok-reached.reached.numbers.items c.requires.mirrors (facts_together c.args.auto.now c.args.table.now c.see_lists.ensures c.requires.stands)
    c.requires.settled c.requires.types c.in_ok-reached.ensures))
