use Rattle.std.proofs.Common.{nat_cmp}
use Rattle.std.specs.Cmp.Lexicographic.{slice_cmp}
use Rattle.xd_auto.specs.Automaton.{has_label, has_text}
use Rattle.xd_auto.specs.Index.{numbers_at}
use Rattle.xd_auto.proofs.IsIndexLemmas.{IsIndex-none}
use Rattle.xd_auto.proofs.auto.Moves.set_moves.Goals as goal

pub invariant_of-self : goal.invariant_of-self
invariant_of-self c = (
  rw c.new.ensures.count (IsIndex-none has_label c.args.labels.items (numbers_at (slice_cmp nat_cmp) c.new.result.named) c.new.result.others.items c.new.ensures.named c.new.ensures.others),
  rw c.new-2.ensures.count (IsIndex-none has_text c.args.texts.items (numbers_at (slice_cmp nat_cmp) c.new-2.result.named) c.new-2.result.others.items c.new-2.ensures.named c.new-2.ensures.others),
)
