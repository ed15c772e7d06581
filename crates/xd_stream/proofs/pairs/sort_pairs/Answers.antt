use Rattle.std.proofs.Common.{ap, sym, ◌∙◌}
use Rattle.std.specs.List.{list_any}
use Rattle.std.proofs.lemmas.List.Filters.{dedup_is}
use Rattle.std.proofs.lemmas.List.Sorted.{list_any-IsPermutation}
use Rattle.xd_stream.proofs.PairOrderLemmas.{any_once}
use Rattle.xd_stream.proofs.pairs.sort_pairs.Goals as goal

pub returns-then-len-gt1 : goal.returns-then-len-gt1
returns-then-len-gt1 c = λ f.
    ap (list_any f) (dedup_is _ _ _ c.dedup.ensures.filtered)
    ∙ any_once f c.sort_unstable.new.self.items
    ∙ sym (list_any-IsPermutation f _ _ c.sort_unstable.ensures.permutation)
