use Rattle.std.proofs.Common.{◌≡◌, ◌≤◌, ◌++◌, ℕ, List, drop, map}
use Rattle.std.specs.String.{string_bytes}
use Rattle.xd_base.specs.Outside.{HasGrown}
use Rattle.xd_stream.specs.StopByState.{IsAccepted}
use Rattle.xd_command_steps.specs.Output.{Output}
use Rattle.xd_validate.specs.Answers.{AreTold, status_from, text_of}
use Rattle.xd_validate.proofs.run.run.Given as goal

-- what is told of the documents so far, what of it is written, and what is held back
abbrev pub invariant-documents : goal.invariant-documents
invariant-documents g l = record {
  done : List (List ℕ);
  lines : List Output;
  sent : List ℕ;
  split : map string_bytes l.names ≡ done ++ map string_bytes (drop l.name-index l.names);
  told : AreTold (IsAccepted l.fn.auto l.state) (g.D.Source.holds l.fn.source) (g.D.Source.faults l.fn.source) (g.D.Source.faults l.source) done lines;
  text : text_of lines ≡ sent ++ l.held.items;
  grown : HasGrown (g.S.Sink.written l.fn.sink) (g.S.Sink.written l.sink) sent;
  status : l.status.code ≡ status_from 0 lines;
  automaton : l.automaton ≡ l.fn.auto;
  same : g.D.Source.holds l.source ≡ g.D.Source.holds l.fn.source;
  faults : g.S.Sink.faults l.fn.sink ≤ g.S.Sink.faults l.sink;
}
