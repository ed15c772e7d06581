use Rattle.xd_heads.proofs.AddingMoves.{label_added}
use Rattle.xd_heads.proofs.compile.add_label.Goals as goal

pub returns-clause-moves : goal.returns-clause-moves
returns-clause-moves c =
    label_added c.args.sources.now.types.now c.args.sources.now.defs.now c.args.made.now.cells c.content.new.cells c.args.made.now.states c.state_of.new.states c.state_of-2.new.states
    c.args.auto.now c.state_of.new.auto c.state_of-2.new.auto c.add_label_move.new.self c.args.from c.in_ok-content.content c.in_ok-after.after c.args.class.now c.in_ok-copy.copy
    c.args.part.at c.in_ok-inside.inside c.args.rest c.requires.part c.requires.rest c.requires.from c.in_ok-inside.ensures.content c.in_ok-content.ensures.got c.in_ok-after.ensures.got
    c.in_ok-after.ensures.aligned c.in_ok-copy.ensures.same c.in_ok-add_label_move.ensures.ok
