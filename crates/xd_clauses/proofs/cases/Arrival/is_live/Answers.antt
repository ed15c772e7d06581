use Rattle.std.proofs.Common.{◌≡◌, true, false, Ok, [], ap, sym, subst, ◌∙◌}
use Rattle.xd_doc.proofs.Options.{none_if}
use Rattle.xd_points.specs.Meaning.{ServePoints}
use Rattle.xd_syntax.specs.Tree.{Definitions}
use Rattle.xd_syntax.specs.May.{IsLive}
use Rattle.xd_syntax.specs.Placed.{PlacedTree, unplaced}
use Rattle.xd_clauses.specs.Clauses.{Accepted}
use Rattle.xd_clauses.specs.Compiled.{IsNumbered}
use Rattle.xd_clauses.specs.declared.compiled.CompiledPatterns.{CompiledPatterns}
use Rattle.xd_clauses.proofs.Givens.{some_holds}
use Rattle.xd_clauses.proofs.NoneTakesLemmas.{live_back, live_on}
use Rattle.xd_clauses.proofs.NumberedLemmas.{numbered_as}
use Rattle.xd_clauses.proofs.cases.Arrival.is_live.Goals as goal

pub bindings-requires-clause-pattern : goal.bindings-requires-clause-pattern
bindings-requires-clause-pattern c =
    let p = c.requires.pattern in
    let x = c.pattern-pattern.result in
    let is = c.pattern-pattern.ensures in
    record { names = p.names; tree = p.tree; numbered = numbered_as p.names p.tree c.args.self.now.patterns x.patterns.now c.args.self.now.number x.number is.patterns is.number p.numbered }

pub bindings-requires-clause-serve : goal.bindings-requires-clause-serve
bindings-requires-clause-serve c = subst (λ (m : CompiledPatterns). ServePoints c.args.self.now.auto m.states) (sym c.pattern-pattern.ensures.patterns) c.requires.serve

pub bindings-requires-clause-known : goal.bindings-requires-clause-known
bindings-requires-clause-known c = c.new-known.ensures c.args.self.now.auto c.new-store.result

pub returns-clause-live : goal.returns-clause-live
returns-clause-live c E b s Ps P is left e =
    let B = Accepted c.args.self.now.auto c.args.self.now.state in
    let x = c.pattern-pattern.result in
    let same = c.pattern-pattern.ensures in
    let own = numbered_as E (unplaced P) c.args.self.now.patterns x.patterns.now c.args.self.now.number x.number same.patterns same.number is in
    let yes : c.is_some.result ≡ true = cc in
    let here : IsLive E B [] P = some_holds ((D : Definitions) (R : PlacedTree) → IsNumbered D (unplaced R) x.patterns.now x.number → IsLive D B [] R) c.in_ok-found.found c.in_ok-found.ensures.live (sym c.is_some.ensures ∙ yes) E P own in
    live_on E (Accepted b s) B Ps P left here

pub returns-clause-dead : goal.returns-clause-dead
returns-clause-dead c E b s Ps P is left e l =
    let B = Accepted c.args.self.now.auto c.args.self.now.state in
    let x = c.pattern-pattern.result in
    let same = c.pattern-pattern.ensures in
    let own = numbered_as E (unplaced P) c.args.self.now.patterns x.patterns.now c.args.self.now.number x.number same.patterns same.number is in
    let no : c.is_some.result ≡ false = cc in
    let none = none_if c.in_ok-found.found (sym c.is_some.ensures ∙ no) in
    c.in_ok-found.ensures.dead (ap (λ o. Ok o) none) E P own (live_back E (Accepted b s) B Ps P left l)
