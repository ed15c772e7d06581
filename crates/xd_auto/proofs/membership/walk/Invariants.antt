use Rattle.std.proofs.Common.{ℕ, ◌≤◌, vec_capacity}
use Rattle.xd_auto.specs.Kept.{HasRoom, KeepsAnswers, words_of}
use Rattle.xd_auto.specs.Membership.{Walk, steps_left}
use Rattle.xd_auto.proofs.membership.walk.Given as goal

abbrev pub invariant-loop-frame : goal.invariant-loop-frame
invariant-loop-frame l = record {
  walk : Walk l.auto' l.store l.node l.state (words_of l.known.rows.items) l.stack.items;
  keeps : KeepsAnswers (words_of l.fn.known.rows.items) (words_of l.known.rows.items);
  capacity : vec_capacity l.fn.stack ≤ vec_capacity l.stack;
  room : (states words : ℕ) → HasRoom states words l.fn.known.rows.items → HasRoom states words l.known.rows.items;
}

abbrev pub decreases-loop-frame : goal.decreases-loop-frame
decreases-loop-frame l = steps_left l.auto' l.node (words_of l.known.rows.items) l.stack.items
