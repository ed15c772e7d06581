use Rattle.std.proofs.Common.{◌≡◌, sym, ap, ◌∙◌}
use Rattle.xd_parse_trees.specs.Lookahead.{lexemes_left}
use Rattle.xd_parse_trees.specs.Reading.{behind}
use Rattle.xd_grammar.specs.Machine.{course}
use Rattle.xd_parse_trees.proofs.Ahead.{readings_begin, readings_go, both_shorter, main_alone, listed_alone}
use Rattle.xd_parse_trees.proofs.cursor.Cursor.opens_class.Goals as goal

pub tokens-init : goal.tokens-init
tokens-init c =
    let same : lexemes_left c.self.inside.next c.fork.result ≡ c.args.self.now = ap (lexemes_left c.self.inside.next) c.fork.ensures ∙ c.self.view_is in
    rw (c.step.ensures.left ∙ ap behind same) (readings_begin c.args.sort c.args.self.now c.requires)

pub tokens-preserved : goal.tokens-preserved
tokens-preserved c =
    rw c.step-in-Both.ensures.left (readings_go c.args.sort c.tokens.reading c.in-Both.next c.args.self.now c.tokens.ahead c.tokens.invariant
    (sym (c.course_at.ensures ∙ ap (course c.tokens.reading) c.peek.ensures) ∙ c.in-Both.is))

pub tokens-smaller : goal.tokens-smaller
tokens-smaller c =
    rw c.step-in-Both.ensures.left (both_shorter c.args.sort c.tokens.reading c.in-Both.next c.args.self.now c.tokens.ahead c.tokens.invariant
    (sym (c.course_at.ensures ∙ ap (course c.tokens.reading) c.peek.ensures) ∙ c.in-Both.is))

pub returns-in-Main-clause-grouped : goal.returns-in-Main-clause-grouped
returns-in-Main-clause-grouped c = λ e. main_alone c.args.sort c.tokens.reading c.args.self.now c.tokens.ahead c.tokens.invariant (sym (c.course_at.ensures ∙ ap (course c.tokens.reading) c.peek.ensures) ∙ c.in-Main.is)

pub returns-in-Listed-clause-listed : goal.returns-in-Listed-clause-listed
returns-in-Listed-clause-listed c = λ e. listed_alone c.args.sort c.tokens.reading c.args.self.now c.tokens.ahead c.tokens.invariant (sym (c.course_at.ensures ∙ ap (course c.tokens.reading) c.peek.ensures) ∙ c.in-Listed.is)
