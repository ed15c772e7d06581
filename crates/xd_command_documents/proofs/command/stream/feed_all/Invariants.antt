use Rattle.std.proofs.Common.{◌≡◌, ℕ, List, ◌++◌}
use Rattle.std.specs.Slice.Iter.{chunks_rest}
use Rattle.xd_stream.specs.Streams.{StandsFor, automaton_of, start_of}
use Rattle.xd_command_documents.proofs.command.stream.feed_all.Given as goal

abbrev pub invariant-loop-next : goal.invariant-loop-next
invariant-loop-next l = record {
  fed : List ℕ;
  stands : StandsFor l.stream fed;
  rest : l.fn.bytes ≡ fed ++ chunks_rest l.next-iterator;
  automaton : automaton_of l.stream ≡ l.fn.auto;
  start : start_of l.stream ≡ l.fn.state;
}
