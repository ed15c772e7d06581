use Rattle.std.proofs.Common.{List, ℕ, ◌++◌, ap, sym, subst, ◌∙◌}
use Rattle.xd_stream.specs.Fed.{GoesSettled}
use Rattle.xd_stream.specs.Streams.{Held, StandsFor, automaton_of, start_of}
use Rattle.xd_stream.proofs.StandsForLemmas.{goes_settled, holds_open, holds_refused, stands_open, still_refused}
use Rattle.xd_stream.proofs.stream.Stream.feed.Goals as goal

pub returns-in-Some-clause-err : goal.returns-in-Some-clause-err
returns-in-Some-clause-err c = still_refused c.args.self.now c.in-Some.error c.args.piece.now (sym (ap (λ (s : Held). s.refusal) c.self.view_is) ∙ c.in-Some.is)

pub invariant_of-self-in-Err : goal.invariant_of-self-in-Err
invariant_of-self-in-Err c =
    holds_refused (record { machine = c.self.inside.machine; refusal = c.self.inside.refusal }) c.take_bytes.new.self c.args.piece.now c.in-Err.error c.in_default.is c.take_bytes.ensures.same c.in-Err.ensures.err c.self.invariant

pub invariant_of-self : goal.invariant_of-self
invariant_of-self c =
    holds_open (record { machine = c.self.inside.machine; refusal = c.self.inside.refusal }) c.take_bytes.new.self c.args.piece.now c.in_default.is c.in-Ok.ensures.ok c.self.invariant

pub returns-in-Ok-clause-latest : goal.returns-in-Ok-clause-latest
returns-in-Ok-clause-latest c =
    subst (λ (s : Held). (bytes : List ℕ) → StandsFor s bytes → GoesSettled (automaton_of s) (start_of s) (bytes ++ c.args.piece.now)) c.self.view_is
    (λ bytes h. goes_settled c.self.inside.machine c.take_bytes.new.self c.args.piece.now c.take_bytes.ensures.same c.in-Ok.ensures.ok bytes
    (stands_open (record { machine = c.self.inside.machine; refusal = c.self.inside.refusal }) c.in_default.is bytes h))
