use Rattle.std.proofs.Common.{◌+◌, ◌∙◌, ap}
use Rattle.std.proofs.lemmas.List.{get_or_default}
use Rattle.xd_proof_check.proofs.PathLemmas.{counts_more}
use Rattle.xd_proof_check.proofs.path.count.Goals as goal

pub returns-clause-counts : goal.returns-clause-counts
returns-clause-counts c =
    let items = c.args.counts.now.items in
    let n = c.args.number in
    let k = c.index_mut.result.now in
    λ ns a. counts_more items ns n (k + 1) c.requires.within a (ap (λ j. j + 1) (c.index_mut.ensures.value ∙ get_or_default items n k 0 c.requires.within))
