use Rattle.std.proofs.Common.{ℕ, get_or}
use Rattle.std.proofs.lemmas.List.{drop_all, get_or_default}
use Rattle.xd_check_steps.specs.declared.findings.MetMatch.{MetMatch}
use Rattle.xd_variables.specs.Bound.{reading_of}
use Rattle.xd_variables.proofs.MatchLoop.{match_here, matches_begin, matches_end, matches_more}
use Rattle.xd_variables.proofs.ReadingLemmas.{reader_kept}
use Rattle.xd_variables.proofs.reader.Reader.read_matches.Goals as goal

pub loop-met-init : goal.loop-met-init
loop-met-init c = record {
  read = matches_begin (reading_of c.args.self.now.ways) c.args.self.now.sound c.args.auto.now c.args.found.now.variables.items c.args.matches.now c.requires.matches;
  known = c.requires.known;
}

pub read_match-requires-clause-ready : goal.read_match-requires-clause-ready
read_match-requires-clause-ready c = reader_kept c.args.self.now c.args.auto.now c.loop-met.auto' c.loop-met.invariant.read.grows c.requires.ready

pub read_match-requires-clause-met : goal.read_match-requires-clause-met
read_match-requires-clause-met c =
    let n : ℕ = c.loop-met.met-index in
    let none : MetMatch = record { expr = record { at = 0 }; place = record { line = 0; column = 0 }; state = record { number = 0 } } in
    let x : MetMatch = get_or c.args.matches.now n none in
    match_here (reading_of c.args.self.now.ways) c.args.self.now.sound c.args.auto.now c.loop-met.auto' c.args.found.now.variables.items c.loop-met.found.variables.items c.args.matches.now n x c.loop-met.invariant.read c.loop-met-test.true
    (get_or_default c.args.matches.now n none x c.loop-met-test.true)

pub loop-met-preserved : goal.loop-met-preserved
loop-met-preserved c =
    let n : ℕ = c.loop-met.met-index in
    let none : MetMatch = record { expr = record { at = 0 }; place = record { line = 0; column = 0 }; state = record { number = 0 } } in
    let x : MetMatch = get_or c.args.matches.now n none in
    let e = c.in_ok-read_match.ensures in
    record {
      read = matches_more (reading_of c.args.self.now.ways) c.args.self.now.sound c.args.auto.now c.loop-met.auto' c.read_match.new.auto c.args.found.now.variables.items c.loop-met.found.variables.items c.read_match.new.found.variables.items
          c.args.matches.now n x c.loop-met.invariant.read c.loop-met-test.true (get_or_default c.args.matches.now n none x c.loop-met-test.true) e.grows e.variables;
      known = e.known;
    }

pub returns : goal.returns
returns c =
    matches_end (reading_of c.args.self.now.ways) c.args.self.now.sound c.args.auto.now c.loop-met.auto' c.args.found.now.variables.items c.loop-met.found.variables.items c.args.matches.now c.loop-met.met-index
    (drop_all c.loop-met.met-index c.args.matches.now c.loop-met-test.false) c.loop-met.invariant.read
