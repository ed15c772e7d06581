use Rattle.std.proofs.Common.{◌≡◌, ◌<◌, ◌≤◌, ◌∙◌, ℕ, List, [], ◌∷◌, ◌++◌, length, get_or, sym, ap, subst, rules, arith}
use Rattle.std.specs.List.{AllByRecursion}
use Rattle.xd_goals.specs.declared.table.Choice.{Choice}
use Rattle.xd_goals.specs.declared.table.Standing.TheVariants.{Refuted}
use Rattle.xd_goals.specs.Rows.{GoalRow, row_at}
use Rattle.xd_goals.specs.Kept.{view_of}
use Rattle.xd_goals.specs.Reached.{HasTreeAt, IsLeafOf, Reaches}
use Rattle.xd_goals.proofs.AreLinkedLemmas.{row_read}
use Rattle.xd_goals.proofs.IsWalkedLemmas.{trees_at, walk_found, walk_number, walk_on, walk_open, walk_over, walk_short, walk_start, walk_waits}
use Rattle.xd_goals.proofs.settled.walk.Goals as goal
use Rattle.xd_goals.proofs.settled.walk.Goals.{then-not-is_settled+in-Holds+in_ok-reach_choices-in-Holds, then-not-is_settled+in-Waiting+in_ok-push-in-Waiting, else-not-is_settled}

pub loop-next-init : goal.loop-next-init
loop-next-init c =
    rw c.new-waiting.ensures.items
    (walk_start (view_of c.args.goals.now) c.args.start.number c.new-found.result.keys c.reach.new.found.keys c.new-found.ensures.empty c.in_ok-reach.ensures c.requires.start c.requires.open_start)

pub index-row-requires : goal.index-row-requires
index-row-requires c =
    let lt : c.loop-next.next < length c.loop-next.found.keys = search rules in
    let n = walk_number (view_of c.args.goals.now) c.args.start.number c.loop-next.waiting.items c.loop-next.found.keys c.loop-next.next c.loop-next.invariant lt in
    rw c.as_slice.ensures.keys (search rules)

pub is_settled-requires : goal.is_settled-requires
is_settled-requires c =
    let lt : c.loop-next.next < length c.loop-next.found.keys = search rules in
    rw (c.as_slice.ensures.keys, c.deref.ensures.value) (walk_number (view_of c.args.goals.now) c.args.start.number c.loop-next.waiting.items c.loop-next.found.keys c.loop-next.next c.loop-next.invariant lt)

pub reach_choices-requires : goal.reach_choices-requires
reach_choices-requires c =
    let lt : c.loop-next.next < length c.loop-next.found.keys = search rules in
    let n = walk_number (view_of c.args.goals.now) c.args.start.number c.loop-next.waiting.items c.loop-next.found.keys c.loop-next.next c.loop-next.invariant lt in
    rw (c.deref-in-Holds.ensures.value, c.deref-in-Holds-2.ensures.value)
    (subst (λ (r : GoalRow). AllByRecursion (λ (k : Choice). HasTreeAt c.args.goals.now.nodes.items k.root) r.choices)
    (sym (c.row.view_is ∙ row_read c.args.goals.now.rows.items (get_or c.loop-next.found.keys c.loop-next.next 0) c.index-row.result.now n (c.index-row.ensures ∙ ap (λ (xs : List ℕ). get_or c.args.goals.now.rows.items (get_or xs c.loop-next.next 0) c.index-row.result.now) c.as_slice.ensures.keys)))
    (trees_at c.args.goals.now.nodes.items (length c.args.goals.now.rows.items) (row_at c.args.goals.now.rows.items (get_or c.loop-next.found.keys c.loop-next.next 0)).choices (c.requires.trees (get_or c.loop-next.found.keys c.loop-next.next 0))))

pub unreachable-requires : goal.unreachable-requires
unreachable-requires c =
    let lt : c.loop-next.next < length c.loop-next.found.keys = search rules in
    let n = walk_number (view_of c.args.goals.now) c.args.start.number c.loop-next.waiting.items c.loop-next.found.keys c.loop-next.next c.loop-next.invariant lt in
    let e : (row_at c.args.goals.now.rows.items (get_or c.loop-next.found.keys c.loop-next.next 0)).standing ≡ Refuted c.in-Refuted.field-0 =
    ap (λ (r : GoalRow). r.standing) (sym (c.row.view_is ∙ row_read c.args.goals.now.rows.items (get_or c.loop-next.found.keys c.loop-next.next 0) c.index-row.result.now n (c.index-row.ensures ∙ ap (λ (xs : List ℕ). get_or c.args.goals.now.rows.items (get_or xs c.loop-next.next 0) c.index-row.result.now) c.as_slice.ensures.keys))) ∙ c.in-Refuted.is in
    walk_open (view_of c.args.goals.now) c.args.start.number c.loop-next.waiting.items c.loop-next.found.keys c.loop-next.next c.loop-next.invariant lt (c.in-Refuted.field-0, e)

pub loop-next-smaller : goal.loop-next-smaller
loop-next-smaller c =
    let lt : c.loop-next.next < length c.loop-next.found.keys = search rules in
    let short = walk_short (view_of c.args.goals.now) c.args.start.number c.loop-next.waiting.items c.loop-next.found.keys c.loop-next.next c.loop-next.invariant c.len.ensures.unique in
    omega (arith, lt, short)

pub returns : goal.returns
returns c =
    let le : length c.loop-next.found.keys ≤ c.loop-next.next = search rules in
    walk_found (view_of c.args.goals.now) c.args.start.number c.loop-next.waiting.items c.loop-next.found.keys c.loop-next.next c.loop-next.invariant le

pub loop-next-preserved : goal.loop-next-preserved
loop-next-preserved c =
    let lt : c.loop-next.next < length c.loop-next.found.keys = search rules in
    let n = walk_number (view_of c.args.goals.now) c.args.start.number c.loop-next.waiting.items c.loop-next.found.keys c.loop-next.next c.loop-next.invariant lt in
    let there = c.row.view_is ∙ row_read c.args.goals.now.rows.items (get_or c.loop-next.found.keys c.loop-next.next 0) c.index-row.result.now n (c.index-row.ensures ∙ ap (λ (xs : List ℕ). get_or c.args.goals.now.rows.items (get_or xs c.loop-next.next 0) c.index-row.result.now) c.as_slice.ensures.keys) in
    elim c.if-not-is_settled.branch [
      | then-not-is_settled+in-Holds+in_ok-reach_choices-in-Holds w ↦
          rw (w.found-is, w.waiting-is)
          (walk_on (view_of c.args.goals.now) c.args.start.number c.loop-next.waiting.items c.loop-next.found.keys c.loop-next.next c.loop-next.invariant lt w.reach_choices.new.found.keys
          (ap (λ (r : GoalRow). r.standing) (sym there) ∙ w.in-Holds.is)
          (subst (λ (r : GoalRow). Reaches (IsLeafOf c.args.goals.now.nodes.items r.choices) c.loop-next.found.keys w.reach_choices.new.found.keys) there
          (rw (w.deref-in-Holds.ensures.value, w.deref-in-Holds-2.ensures.value) at w.in_ok-reach_choices-in-Holds.ensures))
          (c.requires.trees (get_or c.loop-next.found.keys c.loop-next.next 0))
          (c.requires.opens (get_or c.loop-next.found.keys c.loop-next.next 0) (ap (λ (r : GoalRow). r.standing) (sym there) ∙ w.in-Holds.is)))
      | then-not-is_settled+in-Waiting+in_ok-push-in-Waiting w ↦
          rw (w.found-is, w.waiting-is)
          (walk_waits (view_of c.args.goals.now) c.args.start.number c.loop-next.waiting.items c.loop-next.found.keys c.loop-next.next c.loop-next.invariant lt w.push.new.self.items (record { number = (get_or c.loop-next.found.keys c.loop-next.next 0) })
          (record { there = n; waits = ap (λ (r : GoalRow). r.standing) (sym there) ∙ w.in-Waiting.is })
          (w.in_ok-push-in-Waiting.ensures.items ∙ ap (λ (xs : List ℕ). c.loop-next.waiting.items ++ record { number = get_or xs c.loop-next.next 0 } ∷ []) c.as_slice.ensures.keys))
      | else-not-is_settled w ↦
          rw (w.found-is, w.waiting-is)
          (walk_over (view_of c.args.goals.now) c.args.start.number c.loop-next.waiting.items c.loop-next.found.keys c.loop-next.next c.loop-next.invariant lt (rw (c.deref.ensures.value, c.as_slice.ensures.keys) at (sym c.is_settled.ensures ∙ w.if-not-is_settled.false)))
    ]
