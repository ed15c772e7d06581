use Rattle.std.proofs.Common.{List, subst}
use Rattle.std.proofs.lemmas.Result.{IfOk-weaker}
use Rattle.xd_lex.specs.Tokens.{Lexeme}
use Rattle.xd_read.specs.Reading.{terminals_of}
use Rattle.xd_stream.specs.Expecting.{IsExpected}
use Rattle.xd_stream.proofs.Latest.{whole_tokens}
use Rattle.xd_stream.proofs.machine.Machine.expected.Goals as goal

pub returns : goal.returns
returns c =
    let m = c.args.self.now in
    IfOk-weaker c.expected.result _ _
    (λ e k. λ bytes h tokens w. subst (λ (ts : List Lexeme). IsExpected m.validator.automaton m.validator.start (terminals_of ts) e) (whole_tokens m bytes h tokens w) (k (terminals_of h.tokens) h.gone.stands))
    c.expected.ensures
