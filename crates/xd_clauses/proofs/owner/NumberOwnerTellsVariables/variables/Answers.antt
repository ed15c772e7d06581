use Rattle.xd_clauses.proofs.ListedLemmas.{number_listed}
use Rattle.xd_clauses.proofs.owner.NumberOwnerTellsVariables.variables.Goals as goal

pub returns : goal.returns
returns c = number_listed c.args.self.now.compiled.now c.words-words.ensures.distinct c.args.state c.args.kind c.args.number c.marks.result.now c.marks.ensures
