use Rattle.std.proofs.Common.{refl}
use Rattle.xd_boole.proofs.ChoiceLemmas.{content_added}
use Rattle.xd_boole.proofs.choices.add_with_content.Goals as goal

pub returns : goal.returns
returns c universal =
    content_added universal c.args.side c.args.choice (record { contents = c.put_state.new.states; rests = c.args.choice.rests }) c.args.choices.items c.in_ok-choices.choices.items
    c.in_ok-choices.ensures c.in_ok-put_state.ensures refl
