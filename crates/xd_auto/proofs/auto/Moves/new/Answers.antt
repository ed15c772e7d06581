use Rattle.std.proofs.Common.{[], nat_cmp}
use Rattle.std.specs.Cmp.Lexicographic.{slice_cmp}
use Rattle.xd_auto.specs.Automaton.{has_label, has_text}
use Rattle.xd_auto.specs.Index.{numbers_at}
use Rattle.xd_auto.proofs.IsIndexLemmas.{IsIndex-none}
use Rattle.xd_auto.proofs.auto.Moves.new.Goals as goal

pub invariant_of-result : goal.invariant_of-result
invariant_of-result c = (
  rw (c.new.ensures.items, c.new-3.ensures.count) (IsIndex-none has_label [] (numbers_at (slice_cmp nat_cmp) c.new-3.result.named) c.new-3.result.others.items c.new-3.ensures.named c.new-3.ensures.others),
  rw (c.new-2.ensures.items, c.new-4.ensures.count) (IsIndex-none has_text [] (numbers_at (slice_cmp nat_cmp) c.new-4.result.named) c.new-4.result.others.items c.new-4.ensures.named c.new-4.ensures.others),
)
