use Rattle.std.proofs.Common.{◌≡◌, ◌<◌, ◌≤◌, ℕ, true, List, length, sym, ap, subst, ◌∙◌, rules}
use Rattle.std.specs.List.{AllByRecursion}
use Rattle.xd_goals.specs.Rows.{row_at}
use Rattle.xd_goals.specs.declared.table.Choice.{Choice}
use Rattle.xd_proof_make.specs.Met.{IsMet, LeadsTo}
use Rattle.xd_proof_make.proofs.IsMetLemmas.{way_first, way_there, way_next, way_ends}
use Rattle.xd_proof_make.proofs.reach.reach.Goals as goal

pub loop-next-init : goal.loop-next-init
loop-next-init c =
    way_first c.args.table.now c.args.start.number c.in_ok-met.met.order.items c.in_ok-met.met.numbers.items c.meet.new.met.order.items c.meet.new.met.numbers.items
    (c.in_ok-met.ensures.sized ∙ c.rows.ensures) c.in_ok-met.ensures.none c.in_ok-met.ensures.empty c.in_ok-meet.ensures.more
    (subst (IsMet c.meet.new.met.numbers.items) c.number.ensures c.in_ok-meet.ensures.ok)
    (λ p h a. c.meet.ensures.only p (subst (λ (g : ℕ). p g ≡ true) (sym c.number.ensures) h) a)

pub goal-goal-requires : goal.goal-goal-requires
goal-goal-requires c =
    let lt : c.loop-next.next < length c.loop-next.met.order.items = search rules in
    way_there c.args.table.now c.args.start.number c.loop-next.met.order.items c.loop-next.met.numbers.items c.loop-next.next c.index.result.now c.loop-next.invariant lt c.index.ensures

pub choices-requires : goal.choices-requires
choices-requires c =
    let lt : c.loop-next.next < length c.loop-next.met.order.items = search rules in
    subst (λ (n : ℕ). n < length c.args.table.now.rows) (sym c.goal-goal.ensures)
    (way_there c.args.table.now c.args.start.number c.loop-next.met.order.items c.loop-next.met.numbers.items c.loop-next.next c.index.result.now c.loop-next.invariant lt c.index.ensures)

pub loop-next-preserved : goal.loop-next-preserved
loop-next-preserved c =
    let lt : c.loop-next.next < length c.loop-next.met.order.items = search rules in
    let e : c.choices.result.now ≡ (row_at c.args.table.now.rows c.index.result.now).choices = c.choices.ensures.choices ∙ ap (λ (n : ℕ). (row_at c.args.table.now.rows n).choices) c.goal-goal.ensures in
    way_next c.args.table.now c.args.start.number c.loop-next.met.order.items c.loop-next.met.numbers.items c.loop-next.next c.index.result.now c.meet_choices.new.met.order.items c.meet_choices.new.met.numbers.items c.loop-next.invariant lt c.index.ensures
    c.meet_choices.ensures.more
    (subst (λ (ks : List Choice). AllByRecursion (LeadsTo c.args.table.now.nodes (IsMet c.meet_choices.new.met.numbers.items)) ks) e c.in_ok-meet_choices.ensures.ok)
    (λ p h a. c.meet_choices.ensures.only p (subst (λ (ks : List Choice). AllByRecursion (LeadsTo c.args.table.now.nodes (λ g. p g ≡ true)) ks) (sym e) h) a)

pub returns : goal.returns
returns c =
    let le : length c.loop-next.met.order.items ≤ c.loop-next.next = search rules in
    way_ends c.args.table.now c.args.start.number c.loop-next.met.order.items c.loop-next.met.numbers.items c.loop-next.next c.loop-next.invariant le
