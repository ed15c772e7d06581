use Rattle.std.proofs.Common.{[], ◌∷◌, ◌++◌, ◌∙◌}
use Rattle.xd_read.specs.Reading.{terminals_of}
use Rattle.xd_stream.specs.Streams.{automaton_of, start_of}
use Rattle.xd_validate.proofs.Tellings.{expected-for}
use Rattle.xd_validate.proofs.stand.expected_now.Goals as goal

pub returns-in-Ok-expected-clause-expected : goal.returns-in-Ok-expected-clause-expected
returns-in-Ok-expected-clause-expected c = λ tokens whole.
    let stands = c.in-Ok-feed.ensures.ok c.args.front.now (c.in-Ok.ensures.ok [] c.requires) in
    expected-for (automaton_of c.feed-2.new.self) (automaton_of c.args.stream.now) (start_of c.feed-2.new.self) (start_of c.args.stream.now) (terminals_of tokens) c.in-Ok-expected.expected
    (c.in-Ok-feed.ensures.automaton ∙ c.in-Ok.ensures.automaton) (c.in-Ok-feed.ensures.start ∙ c.in-Ok.ensures.start)
    (c.in-Ok-expected.ensures.ok (c.args.front.now ++ 32 ∷ []) stands tokens whole)
