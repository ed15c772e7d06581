use Rattle.std.proofs.Common.{◌∙◌}
use Rattle.xd_auto.specs.Automaton.{moves_at}
use Rattle.xd_apart.proofs.DivideLemmas.{copied_at_end}
use Rattle.xd_apart.proofs.over_approximation.add_copy.Goals as goal

pub returns-clause-added : goal.returns-clause-added
returns-clause-added c =
    copied_at_end c.args.over.now c.add_state.new.self c.set_moves.new.self c.in_ok-state.state c.args.last c.in_ok-labels.labels.items c.in_ok-texts.texts.items (moves_at c.args.over.now c.args.left)
    c.in_ok-state.ensures.ok.0 c.in_ok-state.ensures.ok.1 (c.in_ok-labels.ensures ∙ c.label_moves.ensures.value) (c.in_ok-texts.ensures ∙ c.text_moves.ensures.value) c.set_moves.ensures.value
