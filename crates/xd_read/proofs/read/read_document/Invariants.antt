use Rattle.std.proofs.Common.{length, IsUtf8}
use Rattle.xd_read.proofs.Runs.{StandsAtRest}
use Rattle.xd_read.proofs.read.read_document.Given as goal

abbrev pub invariant-tokens : goal.invariant-tokens
invariant-tokens l = record {
  stands : StandsAtRest l.fn.bytes l.rest l.fn.store l.store l.reader;
  utf8 : IsUtf8 l.rest;
}

abbrev pub decreases-tokens : goal.decreases-tokens
decreases-tokens l = length l.rest
