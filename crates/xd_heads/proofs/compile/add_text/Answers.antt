use Rattle.xd_heads.proofs.AddingMoves.{text_added}
use Rattle.xd_heads.proofs.compile.add_text.Goals as goal

pub returns-clause-moves : goal.returns-clause-moves
returns-clause-moves c =
    text_added c.args.sources.now.types.now c.args.sources.now.defs.now c.args.cells.now c.args.states.now c.state_of.new.states c.args.auto.now c.state_of.new.auto c.add_text_move.new.self
    c.args.from c.in_ok-after.after c.args.words c.args.rest c.requires.rest c.requires.from c.in_ok-after.ensures.got c.in_ok-after.ensures.aligned c.in_ok-add_text_move.ensures.ok
