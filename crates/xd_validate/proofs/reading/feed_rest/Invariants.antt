use Rattle.std.proofs.Common.{◌≡◌, ◌≤◌, ℕ, List, length}
use Rattle.std.specs.Io.KnownBytes.{Consumes}
use Rattle.xd_stream.specs.Streams.{StandsFor, automaton_of, start_of}
use Rattle.xd_validate.proofs.reading.feed_rest.Given as goal

abbrev pub invariant-pieces : goal.invariant-pieces
invariant-pieces g l = record {
  within : l.at ≤ length l.buffer;
  fed : List ℕ;
  stands : StandsFor l.stream fed;
  read : Consumes (g.D.Source.remaining l.fn.source) (g.D.Source.remaining l.source) fed;
  automaton : automaton_of l.stream ≡ automaton_of l.fn.stream;
  start : start_of l.stream ≡ start_of l.fn.stream;
  same : g.D.Source.holds l.source ≡ g.D.Source.holds l.fn.source;
  faults : g.D.Source.faults l.fn.source ≤ g.D.Source.faults l.source;
}
