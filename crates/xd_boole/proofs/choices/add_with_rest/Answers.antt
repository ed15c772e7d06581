use Rattle.std.proofs.Common.{◌∙◌, sym, refl}
use Rattle.xd_boole.proofs.ChoiceLemmas.{rest_added, rest_marked}
use Rattle.xd_boole.proofs.choices.add_with_rest.Goals as goal

pub returns-then-is_marked : goal.returns-then-is_marked
returns-then-is_marked c = rest_marked c.args.universal.now c.args.side c.args.choice c.args.choices.items (sym c.is_marked.ensures ∙ c.if-is_marked.true)

pub returns : goal.returns
returns c =
    rest_added c.args.universal.now c.args.side c.args.choice (record { contents = c.args.choice.contents; rests = c.put_state.new.states }) c.args.choices.items c.in_ok-choices.choices.items
    c.in_ok-choices.ensures refl c.in_ok-put_state.ensures
