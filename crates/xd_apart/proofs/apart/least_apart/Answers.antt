use Rattle.xd_doc.specs.Stored.{document_at}
use Rattle.xd_apart.proofs.apart.least_apart.Goals as goal

pub search-requires-clause-some : goal.search-requires-clause-some
search-requires-clause-some c = (document_at c.args.store.now c.args.known, c.requires.apart)

pub least_of_difference-requires-clause-some : goal.least_of_difference-requires-clause-some
least_of_difference-requires-clause-some c = (document_at c.args.store.now c.args.known, c.requires.apart)
