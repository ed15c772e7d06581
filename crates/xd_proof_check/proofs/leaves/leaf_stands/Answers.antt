use Rattle.std.proofs.Common.{◌<◌, ◌∙◌, length, ap, sym, subst, arith, rules}
use Rattle.std.proofs.lemmas.Bool.{eq-eqb}
use Rattle.std.specs.List.{AllByRecursion, list_all}
use Rattle.xd_syntax.specs.declared.types.TypeId.{TypeId}
use Rattle.xd_rules.specs.Rules.{numbered}
use Rattle.xd_proof_check.specs.Leaves.{is_among}
use Rattle.xd_moves.specs.Codes.{number_at}
use Rattle.xd_proof_check.proofs.LeafLemmas.{goal_there, leaf_left}
use Rattle.xd_proof_check.proofs.leaves.leaf_stands.Goals as goal

pub offset_bounds-numbers-at : goal.offset_bounds-numbers-at
offset_bounds-numbers-at c =
    let b = goal_there (length c.args.numbers.now) c.args.goals.now c.args.number c.in-Some.goal.now c.requires.belong c.in-Some.ensures in
    let l : c.at.result < length c.args.numbers.now = let h = b.left in omega (arith, c.at.ensures) in
    search rules

pub bounds-numbers-at : goal.bounds-numbers-at
bounds-numbers-at c =
    let b = goal_there (length c.args.numbers.now) c.args.goals.now c.args.number c.in-Some.goal.now c.requires.belong c.in-Some.ensures in
    let h = b.left in omega (arith, c.at.ensures)

pub rights_stand-requires-clause-belong : goal.rights_stand-requires-clause-belong
rights_stand-requires-clause-belong c =
    let b = goal_there (length c.args.numbers.now) c.args.goals.now c.args.number c.in-Some.goal.now c.requires.belong c.in-Some.ensures in
    subst (λ ids. AllByRecursion (λ (id : TypeId). id.at < length c.args.numbers.now) ids) (sym c.deref.ensures.value) b.rights

pub returns-then-numbers-at : goal.returns-then-numbers-at
returns-then-numbers-at c =
    let numbers = c.args.numbers.now in
    let g = c.in-Some.goal.now in
    λ ns a.
    leaf_left numbers c.args.left ns (numbered c.args.goals.now c.args.number) g c.rights_stand.result c.in-Some.ensures
    (eq-eqb (number_at numbers g.left.at) c.args.left (ap (number_at numbers) (sym c.at.ensures) ∙ c.if-numbers-at.true))
    (c.rights_stand.ensures ns a ∙ ap (list_all (λ (id : TypeId). is_among ns (number_at numbers id.at))) c.deref.ensures.value)

pub rights_stand-requires-clause-room : goal.rights_stand-requires-clause-room
rights_stand-requires-clause-room c = c.requires.room
