use Rattle.std.proofs.Common.{ap, nat_eq, ◌∙◌}
use Rattle.std.specs.List.{position}
use Rattle.xd_heads.proofs.StateLemmas.{number_found, number_nowhere}
use Rattle.xd_heads.proofs.states.States.find.Goals as goal

pub returns-clause-found : goal.returns-clause-found
returns-clause-found c =
    number_found c.args.self.now c.args.number c.get_index_of.result (c.get_index_of.ensures.index ∙ ap (position (nat_eq c.args.number)) c.self.view_is)

pub returns-clause-none : goal.returns-clause-none
returns-clause-none c =
    number_nowhere c.args.self.now c.args.number c.get_index_of.result (c.get_index_of.ensures.index ∙ ap (position (nat_eq c.args.number)) c.self.view_is)
