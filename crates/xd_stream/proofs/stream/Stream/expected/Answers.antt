use Rattle.std.proofs.Common.{List, ℕ, subst}
use Rattle.xd_lex.specs.Tokens.{Lexeme}
use Rattle.xd_read.specs.Reading.{terminals_of}
use Rattle.xd_stream.specs.Fed.{AreWhole}
use Rattle.xd_stream.specs.Expecting.{IsExpected}
use Rattle.xd_stream.specs.Streams.{Held, StandsFor, automaton_of, start_of}
use Rattle.xd_stream.proofs.StandsForLemmas.{stands_open}
use Rattle.xd_stream.proofs.stream.Stream.expected.Goals as goal

pub returns-clause-ok : goal.returns-clause-ok
returns-clause-ok c =
    subst (λ (s : Held). (bytes : List ℕ) → StandsFor s bytes → (tokens : List Lexeme) → AreWhole bytes tokens → IsExpected (automaton_of s) (start_of s) (terminals_of tokens) c.in_ok-expected.field-0) c.self.view_is
    (λ bytes h tokens w. c.in_ok-expected.ensures bytes (stands_open (record { machine = c.self.inside.machine; refusal = c.self.inside.refusal }) c.in_default.is bytes h) tokens w)
