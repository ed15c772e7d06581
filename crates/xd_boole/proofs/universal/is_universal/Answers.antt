use Rattle.std.proofs.Common.{List, [], ◌∷◌}
use Rattle.xd_auto.specs.declared.auto.State.{State}
use Rattle.xd_boole.proofs.UniversalLemmas.{has_itself, take_all}
use Rattle.xd_boole.proofs.universal.is_universal.Goals as goal

pub returns : goal.returns
returns c = λ e d.
    let others : List State = c.index-labels-label.result.content ∷ c.index-labels-label.result.rest ∷ c.index-texts-text.result.rest ∷ [] in
    take_all c.args.auto.now (c.args.state ∷ others) (c.all_take_all.ensures e) d c.args.state (has_itself c.args.state others)
