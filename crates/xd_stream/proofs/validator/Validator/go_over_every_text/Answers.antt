use Rattle.std.proofs.Common.{refl, ◌∙◌}
use Rattle.xd_stream.proofs.StandsAfterLemmas.{goes_text, fresh}
use Rattle.xd_stream.proofs.WaitingPairLemmas.{every_alike}
use Rattle.xd_stream.proofs.validator.Validator.go_over_every_text.Goals as goal

pub returns-clause-goes : goal.returns-clause-goes
returns-clause-goes c = λ t proper.
    goes_text c.args.self.now _ (record { automaton = refl; start = refl; marks = refl; items = refl }) t c.requires.takes proper refl refl refl
    (λ f. rw c.swap.ensures.x_after (fresh f c.clear.new.self.items c.every_text_pairs.new.into.items _ c.clear.ensures.items (rw (c.deref.ensures.value, c.deref-2.ensures.value) at c.in_ok-every_text_pairs.ensures f))
    ∙ every_alike c.args.self.now.automaton c.args.self.now.marks.items t f c.args.self.now.pairs.items c.requires.every)
