use Rattle.std.proofs.Common.{ℕ, List, [], ◌++◌, take, refl, ◌∙◌, arith}
use Rattle.std.proofs.lemmas.Grind.{common_steps}
use Rattle.xd_stream.specs.Streams.{automaton_of, start_of}
use Rattle.xd_validate.proofs.Readings.{all-left, all-stops, consumes-nothing, consumes-then, stops-for}
use Rattle.xd_validate.proofs.reading.feed_rest.Goals as goal

pub pieces-init : goal.pieces-init
pieces-init g c = record {
  within = omega arith;
  fed = [];
  stands = c.requires.fresh;
  read = consumes-nothing (g.D.Source.remaining c.args.source.now);
  automaton = refl;
  start = refl;
  same = refl;
  faults = omega arith;
}

pub pieces-preserved : goal.pieces-preserved
pieces-preserved g c =
    let i = c.pieces.invariant in
    let piece : List ℕ = take c.in-Ok.n c.read.new.buffer in
    record {
      within = grind (arith, common_steps);
      fed = i.fed ++ piece;
      stands = c.in_default-feed.ensures.ok i.fed i.stands;
      read = consumes-then (g.D.Source.remaining c.args.source.now) (g.D.Source.remaining c.pieces.source) (g.D.Source.remaining c.read.new.self) i.fed piece i.read c.in-Ok.ensures.given.consumes;
      automaton = c.in_default-feed.ensures.automaton ∙ i.automaton;
      start = c.in_default-feed.ensures.start ∙ i.start;
      same = c.in-Ok.ensures.same ∙ i.same;
      faults = omega (arith, i.faults, c.in-Ok.ensures.never_falls);
    }

pub returns-in-Err-clause-broken : goal.returns-in-Err-clause-broken
returns-in-Err-clause-broken g c =
    let i = c.pieces.invariant in
    let piece : List ℕ = take c.in-Ok.n c.read.new.buffer in
    let before = g.D.Source.remaining c.args.source.now in
    let after = g.D.Source.remaining c.read.new.self in
    let read = consumes-then before (g.D.Source.remaining c.pieces.source) after i.fed piece i.read c.in-Ok.ensures.given.consumes in
    stops-for (automaton_of c.pieces.stream) (automaton_of c.args.stream.now) (start_of c.pieces.stream) (start_of c.args.stream.now) before c.in-Err.error i.automaton i.start
    (all-stops (automaton_of c.pieces.stream) (start_of c.pieces.stream) before after (i.fed ++ piece) c.in-Err.error read (c.in-Err.ensures.err i.fed i.stands).1)

pub returns-clause-broken : goal.returns-clause-broken
returns-clause-broken g c =
    let all = all-left (g.D.Source.remaining c.args.source.now) in
    (all.0, all.1, tt)
