use Rattle.std.proofs.Common.{nat_cmp}
use Rattle.std.specs.Cmp.Lexicographic.{slice_cmp}
use Rattle.xd_auto.specs.Automaton.{has_label}
use Rattle.xd_auto.specs.Index.{numbers_at}
use Rattle.xd_auto.proofs.IsIndexLemmas.{IsIndex-push}
use Rattle.xd_auto.proofs.auto.Moves.push_label.Goals as goal

pub invariant_of-self-2 : goal.invariant_of-self-2
invariant_of-self-2 c = (
  rw c.in_ok-push.ensures.items
      (IsIndex-push has_label c.self.inside.labels.items c.extend.new.self.count (numbers_at (slice_cmp nat_cmp) c.extend.new.self.named) c.extend.new.self.others.items c.args.step (rw c.deref.ensures.value at c.in_ok-extend.ensures.index)),
  c.self.invariant.1,
)

pub invariant_of-self-in_err-push : goal.invariant_of-self-in_err-push
invariant_of-self-in_err-push c = (rw (c.in_err-push.ensures.items, ← c.deref.ensures.value) c.in_ok-extend.ensures.index, c.self.invariant.1)

pub invariant_of-self : goal.invariant_of-self
invariant_of-self c = (rw c.deref.ensures.value at c.in_err-extend.ensures.index, c.self.invariant.1)
