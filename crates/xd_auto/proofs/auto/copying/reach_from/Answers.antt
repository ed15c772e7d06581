use Rattle.std.proofs.Common.{rules, ◌≤◌, ◌≡◌, ◌+◌, ◌∙◌, ap, length, sym, arith}
use Rattle.std.proofs.lemmas.List.{get_or_read}
use Rattle.xd_auto.specs.Copying.{copies_in, uncopied}
use Rattle.xd_auto.proofs.AreCopiedLemmas.{following_starts, following_step, following_ends}
use Rattle.xd_auto.proofs.FindsMoreLemmas.{placed_none}
use Rattle.xd_auto.proofs.auto.copying.reach_from.Goals as goal

pub visit-requires-clause-placed : goal.visit-requires-clause-placed
visit-requires-clause-placed c = rw c.new.ensures.items (placed_none c.args.base (copies_in c.without_copies.result) c.without_copies.ensures)

pub loop-done-init : goal.loop-done-init
loop-done-init c =
    let start : length c.new.result.items + uncopied (copies_in c.without_copies.result) (length c.args.auto.now) ≡ uncopied (copies_in c.without_copies.result) (length c.args.auto.now) = omega (arith, ap length c.new.ensures.items) in
    following_starts c.args.auto.now c.args.contents c.args.start c.args.base (copies_in c.without_copies.result) c.visit.new.self.order.items (copies_in c.visit.new.self.copies)
    c.without_copies.ensures c.requires.start (rw c.new.ensures.items at c.in_ok-visit.ensures.ok) c.in_ok-visit.ensures.copied
    (c.in_ok-visit.ensures.steps (length c.args.auto.now) c.requires.start ∙ start)

pub loop-done-preserved : goal.loop-done-preserved
loop-done-preserved c =
    following_step c.args.auto.now c.args.contents c.args.start c.args.base c.loop-done.done c.index-state.result.now c.loop-done.reach.order.items (copies_in c.loop-done.reach.copies)
    c.visit_labels.new.self.order.items (copies_in c.visit_labels.new.self.copies) c.visit_texts.new.self.order.items (copies_in c.visit_texts.new.self.copies)
    c.loop-done.invariant (search rules)
    (λ e. sym (get_or_read c.loop-done.reach.order.items c.loop-done.done c.index-state.result.now (search rules) c.index-state.ensures e))
    (rw c.label_moves.ensures.value at c.in_ok-visit_labels.ensures.ok) (rw c.text_moves.ensures.value at c.in_ok-visit_texts.ensures.ok)
    c.label_moves.ensures.closed
    (c.in_ok-visit_labels.ensures.steps (length c.args.auto.now) (rw c.label_moves.ensures.value c.label_moves.ensures.closed.labels))
    (c.in_ok-visit_texts.ensures.steps (length c.args.auto.now) (rw c.text_moves.ensures.value c.text_moves.ensures.closed.texts))
    (rw c.label_moves.ensures.value at c.in_ok-visit_labels.ensures.contents) (rw c.label_moves.ensures.value at c.in_ok-visit_labels.ensures.rests)
    (rw c.text_moves.ensures.value at c.in_ok-visit_texts.ensures.copied)

pub returns : goal.returns
returns c =
    let all : length c.loop-done.reach.order.items ≤ c.loop-done.done = search rules in
    following_ends c.args.auto.now c.args.contents c.args.start c.args.base c.loop-done.done c.loop-done.reach.order.items (copies_in c.loop-done.reach.copies) c.loop-done.invariant all
