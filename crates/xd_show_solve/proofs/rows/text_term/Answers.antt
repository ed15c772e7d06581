use Rattle.xd_syntax.specs.Types.{tree}
use Rattle.xd_show_solve.proofs.TextMoves.{text_product}
use Rattle.xd_show_solve.proofs.rows.text_term.Goals as goal

pub returns-clause-product : goal.returns-clause-product
returns-clause-product c = λ a.
    text_product a c.args.places.now c.args.step.now (tree c.words_type.new.pool.types c.in_ok-by.by) c.place_at-to.result c.in_ok-by.ensures.texts c.place_at-to.ensures
