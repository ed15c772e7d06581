use Rattle.std.proofs.Common.{◌≡◌, length, vec_len, sym, subst, rules, List, ℕ}
use Rattle.std.proofs.lemmas.Bool.{eqb-true}
use Rattle.std.proofs.lemmas.List.{nil_from_length}
use Rattle.xd_goals.specs.Kept.{view_of}
use Rattle.xd_goals.specs.Reached.{MarksThese}
use Rattle.xd_goals.proofs.IsWalkedLemmas.{closed_stay, settled_is, start_settled}
use Rattle.xd_goals.proofs.settled.unsettled.Goals as goal

pub returns-then-is_settled-clause-none : goal.returns-then-is_settled-clause-none
returns-then-is_settled-clause-none c z = settled_is (view_of c.args.goals.now) c.args.start.number c.requires.settled (sym (rw c.deref.ensures.value at c.if-is_settled.ensures))

pub mark_settled-requires : goal.mark_settled-requires
mark_settled-requires c = rw c.as_slice.ensures.keys c.in_ok-walked.ensures.there

pub returns-then-is_empty-clause-settled : goal.returns-then-is_empty-clause-settled
returns-then-is_empty-clause-settled c =
    let none : vec_len c.in_ok-walked.walked.waiting ≡ 0 = eqb-true (vec_len c.in_ok-walked.walked.waiting) 0 (sym c.if-is_empty.ensures) in
    let empty : length c.in_ok-walked.walked.waiting.items ≡ 0 = search rules in
    closed_stay c.args.goals.now.nodes.items c.args.goals.now.links.items c.args.goals.now.rows.items c.mark_settled.new.rows.items c.args.start.number c.in_ok-walked.walked.order.keys
    (c.in_ok-walked.ensures.closed (nil_from_length c.in_ok-walked.walked.waiting.items empty))
    (subst (λ (order : List ℕ). MarksThese order c.args.goals.now.rows.items c.mark_settled.new.rows.items) c.as_slice.ensures.keys c.mark_settled.ensures) c.requires.settled

pub returns-then-is_empty-clause-none : goal.returns-then-is_empty-clause-none
returns-then-is_empty-clause-none c z =
    let none : vec_len c.in_ok-walked.walked.waiting ≡ 0 = eqb-true (vec_len c.in_ok-walked.walked.waiting) 0 (sym c.if-is_empty.ensures) in
    let empty : length c.in_ok-walked.walked.waiting.items ≡ 0 = search rules in
    start_settled c.args.goals.now.nodes.items c.args.goals.now.links.items c.args.goals.now.rows.items c.mark_settled.new.rows.items c.args.start.number c.in_ok-walked.walked.order.keys
    (c.in_ok-walked.ensures.closed (nil_from_length c.in_ok-walked.walked.waiting.items empty))
    (subst (λ (order : List ℕ). MarksThese order c.args.goals.now.rows.items c.mark_settled.new.rows.items) c.as_slice.ensures.keys c.mark_settled.ensures) c.requires.settled
