use Rattle.std.proofs.Common.{◌<◌, ◌^◌, ℕ, List, Bool, refl, ap, subst, map, length, sym, ◌∙◌}
use Rattle.std.specs.List.{AllByRecursion, AllZip}
use Rattle.xd_auto.specs.Automaton.{moves_at}
use Rattle.xd_auto.specs.declared.auto.State.{State}
use Rattle.xd_auto.specs.declared.auto.LabelMove.{LabelMove}
use Rattle.xd_goals.specs.Rows.{row_at}
use Rattle.xd_goals.specs.declared.table.Choice.{Choice}
use Rattle.xd_heads.specs.Mirrors.{IsTypeState, sorts_at}
use Rattle.xd_proof_make.specs.Few.{AreFew, AreFewMoves}
use Rattle.xd_proof_make.specs.Known.{IsIdOf}
use Rattle.xd_proof_make.specs.Made.{IsEmptyRight}
use Rattle.xd_proof_make.specs.Ordered.{AreWrittenCases}
use Rattle.xd_proof_make.specs.Places.{all_places, new_numbers}
use Rattle.xd_proof_make.proofs.AreHeadMovesLemmas.{new_numbers-length}
use Rattle.xd_proof_make.proofs.ProofGoalLemmas.{can_writable, few_kept, goal_made, places_kept}
use Rattle.xd_proof_make.proofs.goals.write_goal.Goals as goal

pub all_sorts-requires-clause-mirrors : goal.all_sorts-requires-clause-mirrors
all_sorts-requires-clause-mirrors c = (c.requires.can.program, c.args.auto.now, c.requires.can.mirrors)

pub all_sorts-requires-clause-states : goal.all_sorts-requires-clause-states
all_sorts-requires-clause-states c = subst (AllByRecursion (IsTypeState c.args.cells.now)) (sym c.rights-rights.ensures) c.requires.can.of_types.rights

pub sorts-requires-clause-mirrors : goal.sorts-requires-clause-mirrors
sorts-requires-clause-mirrors c = (c.requires.can.program, c.args.auto.now, c.requires.can.mirrors)

pub sorts-requires-clause-state : goal.sorts-requires-clause-state
sorts-requires-clause-state c = subst (IsTypeState c.args.cells.now) (sym c.left-left.ensures) c.requires.can.of_types.left

pub write_cases-requires-clause-writable : goal.write_cases-requires-clause-writable
write_cases-requires-clause-writable c =
    can_writable c.args.cells.now c.args.auto.now c.args.table.now c.args.states.now c.args.numbers.now c.args.goal.number c.rights-rights.result.now c.in_ok-places.places.items c.deref-2.result.now c.choices.result.now c.requires.can
    c.rights-rights.ensures (places_kept c.args.cells.now c.rights-rights.result.now c.in_ok-sorts.sorts.items c.deref.result.now c.deref.ensures.value c.in_ok-sorts.ensures (new_numbers c.in_ok-places.places.items) c.in_ok-places.ensures.places)
    c.deref-2.ensures.value c.choices.ensures.choices

pub returns : goal.returns
returns c =
    let row = row_at c.args.table.now.rows c.args.goal.number in
    let a = c.args.auto.now in
    let cells = c.args.cells.now in
    let nodes = c.args.table.now.nodes in
    let elements = length c.label_moves-labels.result.now in
    let places : List ℕ = new_numbers c.deref-2.result.now in
    let kept = places_kept cells c.rights-rights.result.now c.in_ok-sorts.sorts.items c.deref.result.now c.deref.ensures.value c.in_ok-sorts.ensures (new_numbers c.in_ok-places.places.items) c.in_ok-places.ensures.places in
    let few_rights = few_kept cells c.rights-rights.result.now c.in_ok-sorts.sorts.items c.deref.result.now c.deref.ensures.value c.in_ok-sorts.ensures row.rights c.rights-rights.ensures c.right_places.ensures.few in
    let few_left = subst (λ (ls : List LabelMove). AreFewMoves ls (moves_at a row.left).texts) (c.label_moves-labels.ensures.value ∙ ap (λ (s : State). (moves_at a s).labels) c.left-left.ensures)
    (subst (AreFewMoves c.label_moves-labels.result.now) (c.text_moves.ensures.value ∙ ap (λ (s : State). (moves_at a s).texts) c.left-left.ensures) c.see_few_moves.ensures) in
    let few_places : AreFew places = subst (λ (n : ℕ). n < 10 ^ 18) (sym (new_numbers-length c.deref-2.result.now)) c.write_cases.ensures.few_heads in
    λ p m h.
    goal_made p cells a nodes c.args.states.now c.args.numbers.now places row _ c.type_of.result elements m h
    (subst (IsIdOf c.args.states.now c.type_of.result) c.left-left.ensures c.type_of.ensures) c.requires.can.types.rights c.requires.can.begun
    (ap new_numbers c.deref-2.ensures.value ∙ (kept ∙ ap (λ (ss : List State). all_places 1 (map (sorts_at cells) ss)) c.rights-rights.ensures))
    (ap length c.label_moves-labels.ensures.value ∙ ap (λ (s : State). length (moves_at a s).labels) c.left-left.ensures)
    (subst (λ (ks : List Choice). AreWrittenCases nodes places c.args.numbers.now (sorts_at cells row.left) elements ks c.in_ok-cases.cases.items) c.choices.ensures.choices
    (subst (λ (ss : List Bool). AreWrittenCases nodes places c.args.numbers.now ss elements c.choices.result.now c.in_ok-cases.cases.items) (c.sorts.ensures ∙ ap (sorts_at cells) c.left-left.ensures) c.in_ok-cases.ensures.cases))
    refl
    (subst (AllZip (IsIdOf c.args.states.now) c.in_ok-type_ids.field-0.items) c.rights-rights.ensures c.in_ok-type_ids.ensures)
    (subst (λ (ss : List State). IsEmptyRight a row.left ss c.empty_right.result) c.rights-rights.ensures
    (subst (λ (s : State). IsEmptyRight a s c.rights-rights.result.now c.empty_right.result) c.left-left.ensures c.empty_right.ensures))
    refl few_rights few_left few_places c.in_ok-cases.ensures.few_cases
