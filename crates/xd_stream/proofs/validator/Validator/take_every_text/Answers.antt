use Rattle.std.proofs.Common.{[], sym}
use Rattle.std.proofs.lemmas.Str.{IsUtf8-nil, is_utf8-from_IsUtf8}
use Rattle.xd_stream.proofs.StandsAfterLemmas.{refuses_none, test_passes_all, test_refuses_all}
use Rattle.xd_stream.proofs.Grammar.{text_none}
use Rattle.xd_read.specs.Grammar.{QuotedText}
use Rattle.xd_stream.proofs.validator.Validator.take_every_text.Goals as goal

pub returns-then-not-takes_item-clause-err : goal.returns-then-not-takes_item-clause-err
returns-then-not-takes_item-clause-err c = λ t u. refuses_none c.args.self.now (QuotedText t) (λ front fs. text_none front fs c.args.self.now.position t (sym c.if-not-takes_item.ensures))

pub test-requires : goal.test-requires
test-requires c = (_, (c.in_ok-go_over_every_text.ensures.goes [] (is_utf8-from_IsUtf8 [] IsUtf8-nil)).stands c.requires.ready.0 c.requires.ready.1)

pub returns-clause-ok : goal.returns-clause-ok
returns-clause-ok c = test_passes_all c.args.self.now c.go_over_every_text.new.self c.test.result c.in_ok-go_over_every_text.ensures.goes c.test.ensures.ok

pub returns-clause-err : goal.returns-clause-err
returns-clause-err c = test_refuses_all c.args.self.now c.go_over_every_text.new.self c.test.result c.in_ok-go_over_every_text.ensures.goes c.test.ensures.err c.test.ensures.outside
